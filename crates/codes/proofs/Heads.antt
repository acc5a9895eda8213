-- The head of a line: what its characters say, and the parts that it has.
use Rattle.std.proofs.Common.{◌≡◌, ℕ, ◌+◌, ◌-◌, ◌<◌, ◌≤◌, true, false, not, ◌&&◌, ◌||◌, eqb, leb, List, map, length, get_or, take, drop, sym, refl, ap, ◌∙◌, ap₂, ⊎_elim, arith, length-drop}
use Rattle.std.proofs.lemmas.List.{drop-drop, get_or-map, length-map, length-take-le, take_rest}
use Rattle.std.proofs.lemmas.Bool.{and_parts, cond-false, cond-true, eq-eqb, eqb-true, leb-true, ne_eqb, not_from_false, not_from_true, or_cases, or_from, or_left, or_right}
use Rattle.fields.specs.Field.{Operations, FieldLaws}
use Rattle.codes.specs.Checking.{Excerpt, Parts, Typed, excerpt, headed, is_threshold, lone, share, typed}
use Rattle.kinds.specs.Code.{Code, Lawful}
use Rattle.codes.specs.Reading.{Answer, answered, refused, then, unless}
use Rattle.codes.specs.Texts.{all, character, known, symbol}
use Rattle.kinds.specs.Characters.{capital, place}
use Rattle.codes.proofs.Characters.{symbol_character_lem, symbol_number_lem}
use Rattle.codes.proofs.Readings.{unless_fails, unless_passes}
use Rattle.codes.proofs.Scans.{all_at}

module _ {E C : Type 0} (F : Operations E) (laws : FieldLaws F) {G : Operations C} (K : Code E C) (lawful : Lawful F G K) (u : List ℕ) (long : 6 + K.checks ≤ length u) (all_known : all (known K) u ≡ true) where
  d : List E
  d = map (symbol F K) u

  parts : ℕ → Parts E
  parts c = record {
    threshold = c - 48;
    identifier = take 4 (drop 1 d);
    index = get_or d 5 F.zero;
    payload = take (length d - (6 + K.checks)) (drop 6 d);
  }

  -- the head by the character of the threshold and the number of the index
  headed_at : ℕ → ℕ → Answer (Parts E)
  headed_at c n =
      unless (is_threshold c) 31 (unless (not (eqb c 48) || eqb n (F.number K.secret)) 32 (answered (parts c)))

  symbol_at : (i : ℕ) → i < 6 → get_or d i F.zero ≡ symbol F K (get_or u i 0)
  unfolding d
  symbol_at i h = get_or-map (symbol F K) u i 0 F.zero (omega arith)

  known_at : (i : ℕ) → i < 6 → known K (get_or u i 0) ≡ true
  known_at i h = all_at (known K) u i (omega arith) all_known

  by_characters : headed F K (map (symbol F K) u) ≡ headed_at (capital (get_or u 0 0)) (place K.alphabet (capital (get_or u 5 0)))
  unfolding d parts headed_at
  by_characters =
      ap₂ headed_at (ap (character F K) (symbol_at 0 (omega arith)) ∙ symbol_character_lem F laws K lawful (get_or u 0 0) (known_at 0 (omega arith)))
      (ap F.number (symbol_at 5 (omega arith)) ∙ symbol_number_lem F laws K lawful (get_or u 5 0) (known_at 5 (omega arith)))

  -- the answers, for a text t whose data is u

  module _ (t : List ℕ) (split : drop 3 t ≡ u) where
    abbrev answer : Answer Typed
    answer = then (headed F K (map (symbol F K) u)) (λ p. answered (typed t p))

    n : ℕ
    n = length u - (6 + K.checks)

    from : (i : ℕ) → drop i u ≡ drop (3 + i) t
    from i = ap (drop i) (sym split) ∙ drop-drop i 3 t

    payload_length : (c : ℕ) → length (parts c).payload ≡ n
    unfolding d parts n
    payload_length c =
        length-take-le _ _ (simp (length-map, length-drop) (omega arith)) ∙ ap (λ k. k - (6 + K.checks)) (length-map u (symbol F K))

    -- the rest behind the head, without the check symbols
    payload_text : take (length (take (length u - 6) (drop 6 u)) - K.checks - 0) (take (length u - 6) (drop 6 u)) ≡ take n (drop 9 t)
    unfolding n
    payload_text =
        let size : length (take (length u - 6) (drop 6 u)) ≡ length u - 6 = ap length (take_rest u 6) ∙ length-drop 6 u in
        let count : length (take (length u - 6) (drop 6 u)) - K.checks - 0 ≡ length u - (6 + K.checks) = omega (arith, size) in
        ap₂ take count (take_rest u 6 ∙ from 6)

    -- the parts as the code cuts them
    abbrev rest : List ℕ
    rest = take (length u - 6) (drop 6 u)

    abbrev identifier : Excerpt
    identifier = record { place = 4; text = take 4 (drop 1 u) }

    abbrev payload : ℕ → Excerpt
    payload m = record { place = 9; text = take (length rest - m - 0) rest }

    abbrev index : Excerpt
    index = record { place = 8; text = take 1 (drop 5 u) }

    module _ (k p m : ℕ) (is_m : m ≡ K.checks) (is_k : k ≡ capital (get_or u 0 0)) (is_p : p ≡ place K.alphabet (capital (get_or u 5 0))) where
      answer_at : answer ≡ then (headed_at k p) (λ q. answered (typed t q))
      answer_at = ap (λ a. then a (λ q. answered (typed t q))) (by_characters ∙ ap₂ headed_at (sym is_k) (sym is_p))

      pub is_31 : is_threshold k ≡ false → refused 31 ≡ answer
      unfolding headed_at
      is_31 none = sym (answer_at ∙ ap (λ a. then a (λ q. answered (typed t q))) (unless_fails _ _ _ none))

      pub is_32 : is_threshold k ≡ true → k ≡ 48 → eqb p (F.number K.secret) ≡ false → refused 32 ≡ answer
      unfolding headed_at
      is_32 some zero other =
          let here : eqb k 48 ≡ true = eq-eqb _ _ zero in
          sym (answer_at ∙ ap (λ a. then a (λ q. answered (typed t q))) (unless_passes _ _ _ _ some (unless_fails _ _ _ (or_from _ _ (not_from_true _ here) other))))

      passes : is_threshold k ≡ true → (not (eqb k 48) || eqb p (F.number K.secret)) ≡ true → answer ≡ answered (typed t (parts k))
      unfolding headed_at
      passes first second = answer_at ∙ ap (λ a. then a (λ q. answered (typed t q))) (unless_passes _ _ _ _ first (unless_passes _ _ _ _ second refl))

      same_identifier : identifier ≡ excerpt t 4 4
      same_identifier = ap (λ w. record { place = 4; text = take 4 w }) (from 1)

      same_payload : payload m ≡ excerpt t 9 (length (parts k).payload)
      same_payload = ap payload is_m ∙ ap (λ w. record { place = 9; text = w }) (payload_text ∙ ap (λ m. take m (drop 9 t)) (sym (payload_length k)))

      same_index : index ≡ excerpt t 8 1
      same_index = ap (λ w. record { place = 8; text = take 1 w }) (from 5)

      pub is_lone : is_threshold k ≡ true → k ≡ 48 → eqb p (F.number K.secret) ≡ true → answered (lone identifier (payload m)) ≡ answer
      unfolding parts
      is_lone some zero secret =
          ap₂ (λ i q. answered (lone i q)) same_identifier same_payload
          ∙ sym (passes some (or_right _ _ secret) ∙ ap answered (cond-true _ _ _ (eq-eqb (k - 48) 0 (omega arith))))

      -- a threshold is at least 0's character
      at_least : is_threshold k ≡ true → 48 ≤ k
      at_least some = ⊎_elim (λ e. let same : k ≡ 48 = eqb-true k 48 e in omega arith) (λ e. let low : 50 ≤ k = leb-true 50 k (and_parts (leb 50 k) (leb k 57) e).0 in omega arith) (or_cases (eqb k 48) (leb 50 k && leb k 57) some)

      pub is_share : is_threshold k ≡ true → (k ≡ 48 → ⊥) → answered (share (k - 48) identifier index (payload m)) ≡ answer
      unfolding parts
      is_share some nonzero =
          ap₂ (λ i q. answered (share (k - 48) i index q)) same_identifier same_payload
          ∙ ap (λ x. answered (share (k - 48) (excerpt t 4 4) x (excerpt t 9 (length (parts k).payload)))) same_index
          ∙ sym (passes some (or_left _ _ (not_from_false _ (ne_eqb k 48 nonzero))) ∙ ap answered (cond-false _ _ _ (ne_eqb (k - 48) 0 (λ e. let low = at_least some in nonzero (omega arith)))))
