-- Lines as texts: a line that is written is read back and accepted, with its parts.
use Rattle.std.proofs.Common.{◌≡◌, ℕ, zero, suc, ◌+◌, ◌-◌, ◌<◌, ◌≤◌, Bool, true, false, not, ◌||◌, eqb, List, [], ◌∷◌, ◌++◌, map, length, get_or, take, drop, replicate, sym, refl, ap, ◌∙◌, subst, ap₂, suc-le-suc, arith, length-append}
use Rattle.std.proofs.lemmas.List.{drop_at, ext_get_or, get_or-map, length-map, take_at, take_rest}
use Rattle.std.proofs.lemmas.Bool.{and_from, and_left, cond-false, cond-true, eq-eqb, le-leb, lt-leb, lt-ltb, ne_eqb, not_from_false, or_from, or_left, or_right}
use Rattle.fields.specs.Field.{Operations, FieldLaws}
use Rattle.fields.specs.Ring.{element_number}
use Rattle.kinds.specs.Characters.{capital, place, small_letter}
use Rattle.kinds.specs.Code.{Code, Lawful, Plain}
use Rattle.kinds.specs.Words.{numbers}
use Rattle.codes.specs.Checking.{Parts, checked, headed, is_codeword, is_threshold}
use Rattle.codes.specs.Division.{lessened, remainder}
use Rattle.codes.specs.Reading.{answered, read, then, unless}
use Rattle.codes.specs.Texts.{all, any, character, known, symbol}
use Rattle.codes.specs.Writing.{completed, line, line_of}
use Rattle.codes.proofs.Characters.{symbol_character_lem}
use Rattle.codes.proofs.Completion.{completed_codeword}
use Rattle.codes.proofs.Quotients.{length_lessened}
use Rattle.codes.proofs.Readings.{is_read, unless_passes}
use Rattle.std.proofs.lemmas.List.Folds.{list_any-append}
use Rattle.std.proofs.lemmas.Slice.Eq.{bytes_eq-Decides}

-- a plain character is no small letter, and its own capital
plain_small : (c : ℕ) → Plain c → small_letter c ≡ false
plain_small c p = and_left _ _ (lt-leb 97 c (omega arith))

plain_capital : (c : ℕ) → Plain c → capital c ≡ c
plain_capital c p = cond-false _ _ _ (plain_small c p)

-- a character of an alphabet whose characters differ is found where it stands
place_of : (us : List ℕ) (m : ℕ) → m < length us → ((a b : ℕ) → a < length us → b < length us → get_or us a 0 ≡ get_or us b 0 → a ≡ b) → place us (get_or us m 0) ≡ m
place_of [] m below apart = absurd (omega arith)
place_of (u ∷ us) zero below apart = cond-true (eqb u u) 0 _ (eq-eqb u u refl)
place_of (u ∷ us) (suc m) below apart =
    let c = get_or us m 0 in
    let other : u ≡ c → ⊥ = λ e. let z : 0 ≡ suc m = apart 0 (suc m) (omega arith) below e in omega arith in
    cond-false _ _ _ (ne_eqb _ _ other)
    ∙ ap suc (place_of us m (omega arith) (λ a b ha hb e. let z : suc a ≡ suc b = apart (suc a) (suc b) (omega arith) (omega arith) e in omega arith))

-- what no character passes, none does
any_none : (f : ℕ → Bool) (us : List ℕ) → ((i : ℕ) → i < length us → f (get_or us i 0) ≡ false) → any f us ≡ false
any_none f [] h = refl
any_none f (u ∷ us) h = or_from _ _ (h 0 (omega arith)) (any_none f us (λ i below. h (suc i) (suc-le-suc below)))

-- a list of four
pub four : {E : Type 0} (us : List E) → length us ≡ 4 → (a b c d : E) × (us ≡ a ∷ b ∷ c ∷ d ∷ [])
four [] e = absurd (omega arith)
four (a ∷ []) e = absurd (omega arith)
four (a ∷ b ∷ []) e = absurd (omega arith)
four (a ∷ b ∷ c ∷ []) e = absurd (omega arith)
four (a ∷ b ∷ c ∷ d ∷ []) e = (a, b, c, d, refl)
four (a ∷ b ∷ c ∷ d ∷ x ∷ us) e = absurd (omega arith)

-- parts that a line can have
pub record Proper {E C : Type 0} (K : Code E C) (p : Parts E) : Type 0 where
  pub high : p.threshold ≤ 9
  pub not_one : p.threshold ≡ 1 → ⊥
  pub alone : p.threshold ≡ 0 → p.index ≡ K.secret
  pub named : length p.identifier ≡ 4
  pub allowed : K.allows (length p.payload) ≡ true

module _ {E C : Type 0} (F : Operations E) (laws : FieldLaws F) {G : Operations C} (K : Code E C) (lawful : Lawful F G K) where
  -- the character of a symbol is plain, known, and stands for it
  character_plain : (s : E) → Plain (character F K s)
  character_plain s = lawful.alphabet_plain (F.number s) (laws.below s)

  character_place : (s : E) → place K.alphabet (capital (character F K s)) ≡ F.number s
  character_place s =
      ap (place K.alphabet) (plain_capital (character F K s) (character_plain s))
      ∙ place_of K.alphabet (F.number s) (omega (arith, laws.below s, lawful.alphabet_length)) (λ a b ha hb. lawful.alphabet_apart a b (omega (arith, lawful.alphabet_length)) (omega (arith, lawful.alphabet_length)))

  pub character_symbol : (s : E) → symbol F K (character F K s) ≡ s
  character_symbol s = ap F.element (character_place s) ∙ element_number F laws s

  character_known : (s : E) → known K (character F K s) ≡ true
  character_known s = lt-ltb _ _ (omega (arith, character_place s, laws.below s, lawful.alphabet_length))

  -- so of all the characters of data
  symbols_back : (d : List E) → map (symbol F K) (map (character F K) d) ≡ d
  symbols_back [] = refl
  symbols_back (s ∷ d) = ap₂ ◌∷◌ (character_symbol s) (symbols_back d)

  all_are_known : (d : List E) → all (known K) (map (character F K) d) ≡ true
  all_are_known [] = refl
  all_are_known (s ∷ d) = and_from _ _ (character_known s) (all_are_known d)

  none_small : (d : List E) → any small_letter (map (character F K) d) ≡ false
  none_small [] = refl
  none_small (s ∷ d) = or_from _ _ (plain_small _ (character_plain s)) (none_small d)

  -- the digit of a threshold is known
  pub threshold_known : (k : ℕ) → k ≤ 9 → (k ≡ 1 → ⊥) → known K (48 + k) ≡ true
  threshold_known k high other =
      let (i, below, is) = lawful.thresholds k high other in
      ap (known K) (sym (ap (λ n. get_or K.alphabet n 0) (laws.numbered i below) ∙ is)) ∙ character_known (F.element i)

  pub threshold_character : (k : ℕ) → k ≤ 9 → (k ≡ 1 → ⊥) → character F K (symbol F K (48 + k)) ≡ 48 + k
  threshold_character k high other =
      symbol_character_lem F laws K lawful (48 + k) (threshold_known k high other) ∙ cond-false _ _ _ (and_left _ _ (lt-leb 97 (48 + k) (omega arith)))

  -- Lengths

  front : Parts E → List E
  front p = symbol F K (48 + p.threshold) ∷ (p.identifier ++ (p.index ∷ p.payload))

  abbrev tail : List E → List E
  tail h = lessened F K.target (remainder F K.generator (K.start ++ (h ++ replicate K.checks F.zero)))

  length_tail : (h : List E) → length (tail h) ≡ K.checks
  length_tail h = length_lessened F laws K.target _ ∙ lawful.target_length

  length_data : (p : Parts E) → length p.identifier ≡ 4 → length (completed F K (front p)) ≡ 6 + length p.payload + K.checks
  unfolding front
  length_data p named =
      let long : length (front p) ≡ 6 + length p.payload = simp length-append (omega arith) in
      length-append (front p) (tail (front p)) ∙ ap₂ ◌+◌ long (length_tail (front p))

  length_line : (d : List E) → length (line F K d) ≡ 3 + length d
  length_line d = length-append K.prefix (map (character F K) d) ∙ ap₂ ◌+◌ lawful.prefix_length (length-map d (character F K))

  pub length_line_of : (p : Parts E) → length p.identifier ≡ 4 → length (line_of F K p) ≡ 9 + length p.payload + K.checks
  unfolding front line_of
  length_line_of p named = length_line (completed F K (front p)) ∙ omega (arith, length_data p named)

  -- Reading

  prefix_capital : map capital K.prefix ≡ K.prefix
  prefix_capital =
      ext_get_or 0 (map capital K.prefix) K.prefix (length-map K.prefix capital)
      (λ i h. let below : i < 3 = omega (arith, h, length-map K.prefix capital, lawful.prefix_length) in get_or-map capital K.prefix i 0 0 (omega (arith, lawful.prefix_length)) ∙ plain_capital _ (lawful.prefix_plain i below))

  prefix_large : any small_letter K.prefix ≡ false
  prefix_large = any_none small_letter K.prefix (λ i h. plain_small _ (lawful.prefix_plain i (omega (arith, lawful.prefix_length))))

  -- a line is read back
  pub read_line : (n : ℕ) (d : List E) → length d ≡ 6 + n + K.checks → K.allows n ≡ true → read F K (line F K d) ≡ answered d
  read_line n d long allowed =
      is_read F K t (and_from _ _ (le-leb _ _ (omega (arith, size))) (ap K.allows (omega (arith, size)) ∙ allowed))
      ((bytes_eq-Decides (map capital (take 3 t)) K.prefix).1 (ap (map capital) (take_at K.prefix cs 3 lawful.prefix_length) ∙ prefix_capital))
      (ap (all (known K)) (take_rest_of_line ∙ behind) ∙ all_are_known d) (and_left _ _ (list_any-append small_letter K.prefix cs ∙ or_from _ _ prefix_large (none_small d)))
      ∙ ap (λ u. answered (map (symbol F K) u)) behind ∙ ap answered (symbols_back d)
    where
      cs : List ℕ
      cs = map (character F K) d

      t : List ℕ
      t = line F K d

      size : length t ≡ 9 + n + K.checks
      size = length_line d ∙ omega arith

      behind : drop 3 t ≡ cs
      behind = drop_at K.prefix cs 3 lawful.prefix_length

      take_rest_of_line : take (length t - 3) (drop 3 t) ≡ drop 3 t
      take_rest_of_line = take_rest t 3

  -- Checking

  abbrev parts : ℕ → List E → E → List E → Parts E
  parts k name x row = record { threshold = k; identifier = name; index = x; payload = row }

  -- a threshold's character passes both tests of the head
  first_test : (k c : ℕ) → c ≡ 48 + k → k ≤ 9 → (k ≡ 1 → ⊥) → is_threshold c ≡ true
  first_test zero c is high other = or_left _ _ (eq-eqb c 48 (omega arith))
  first_test (suc zero) c is high other = absurd (other refl)
  first_test (suc (suc k)) c is high other = or_right (eqb c 48) _ (and_from _ _ (le-leb 50 c (omega arith)) (le-leb c 57 (omega arith)))

  second_test : (k c : ℕ) (x : E) → c ≡ 48 + k → (k ≡ 0 → x ≡ K.secret) → (not (eqb c 48) || eqb (F.number x) (F.number K.secret)) ≡ true
  second_test zero c x is alone = or_right (not (eqb c 48)) _ (eq-eqb _ _ (ap F.number (alone refl)))
  second_test (suc k) c x is alone = or_left _ _ (not_from_false _ (ne_eqb c 48 (λ e. omega arith)))

  -- the head of data with proper parts is accepted, with the parts
  headed_data : (p : Parts E) → Proper K p → headed F K (completed F K (front p)) ≡ answered p
  unfolding front
  headed_data p proper =
      let (i₁, i₂, i₃, i₄, e) = four p.identifier proper.named in
      subst (λ us. headed F K (completed F K (front (with_name us))) ≡ answered (with_name us)) (sym e) (at i₁ i₂ i₃ i₄)
    where
      with_name : List E → Parts E
      with_name us = parts p.threshold us p.index p.payload

      at : (i₁ i₂ i₃ i₄ : E) → let q = with_name (i₁ ∷ i₂ ∷ i₃ ∷ i₄ ∷ []) in headed F K (completed F K (front q)) ≡ answered q
      at i₁ i₂ i₃ i₄ =
          let q = with_name (i₁ ∷ i₂ ∷ i₃ ∷ i₄ ∷ []) in
          let c = character F K (symbol F K (48 + p.threshold)) in
          let is : c ≡ 48 + p.threshold = threshold_character p.threshold proper.high proper.not_one in
          let long : length (completed F K (front q)) ≡ 6 + length p.payload + K.checks = length_data q refl in
          unless_passes _ 31 _ _ (first_test p.threshold c is proper.high proper.not_one)
          (unless_passes _ 32 _ _ (second_test p.threshold c p.index is proper.alone)
          (ap₂ (λ k row. answered (parts k q.identifier q.index row)) (omega (arith, is)) (take_at p.payload (tail (front q)) (length (completed F K (front q)) - (6 + K.checks)) (omega (arith, long)))))

  -- a line is accepted, with its parts
  pub checked_line : (p : Parts E) → Proper K p → checked F K (line_of F K p) ≡ answered p
  unfolding checked front line_of
  checked_line p proper =
      let d = completed F K (front p) in
      ap (λ a. then a (λ w. unless (is_codeword F K w) 21 (headed F K w))) (read_line (length p.payload) d (length_data p proper.named) proper.allowed)
      ∙ unless_passes _ 21 _ _ ((bytes_eq-Decides _ _).1 (ap (numbers F) (completed_codeword F laws K lawful (front p)))) (headed_data p proper)
