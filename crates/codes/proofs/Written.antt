-- The line that is written from numbers of symbols is the line with their parts.
use Rattle.std.proofs.Common.{◌≡◌, ℕ, ◌+◌, ◌<◌, ◌≤◌, true, ltb, List, [], ◌∷◌, ◌++◌, map, length, get_or, sym, refl, ap, ◌∙◌, subst, ap₂, append_assoc, arith}
use Rattle.std.proofs.lemmas.List.{map-append}
use Rattle.std.proofs.lemmas.Bool.{and_parts, cond-true, lt-ltb, ltb-true}
use Rattle.fields.specs.Field.{Operations, FieldLaws}
use Rattle.fields.specs.Numbered.{numbered}
use Rattle.kinds.specs.Code.{Code, Lawful}
use Rattle.codes.specs.Division.{divided, remainder}
use Rattle.codes.specs.Texts.{character, symbol}
use Rattle.codes.specs.Writing.{all_numbers, head_numbers, line}
use Rattle.codes.proofs.Lines.{four, threshold_known}
use Rattle.codes.proofs.Registers.{divided_append, numbered_number}

-- a list of four, entry by entry
pub four_entries : (us : List ℕ) → length us ≡ 4 → (get_or us 0 0 ∷ get_or us 1 0 ∷ get_or us 2 0 ∷ get_or us 3 0 ∷ []) ≡ us
four_entries us long =
    let (a, b, c, d, e) = four us long in
    subst (λ vs. (get_or vs 0 0 ∷ get_or vs 1 0 ∷ get_or vs 2 0 ∷ get_or vs 3 0 ∷ []) ≡ vs) (sym e) refl

module _ {E C : Type 0} (F : Operations E) (laws : FieldLaws F) {G : Operations C} (K : Code E C) (lawful : Lawful F G K) where
  -- the element with a number that is small enough
  numbered_below : (n : ℕ) → n < F.order → numbered F n ≡ F.element n
  numbered_below n h = cond-true _ _ _ (lt-ltb _ _ h)

  elements : (ns : List ℕ) → all_numbers F K ns ≡ true → map (numbered F) ns ≡ map F.element ns
  elements [] h = refl
  elements (n ∷ ns) h = let (first, rest) = and_parts (ltb n F.order) (all_numbers F K ns) h in ap₂ ◌∷◌ (numbered_below n (ltb-true _ _ first)) (elements ns rest)

  -- the remainder behind a head and a payload, and the zeros of the check symbols
  pub rest_is : (h p z : List E) → divided F K.generator (divided F K.generator (divided F K.generator (remainder F K.generator K.start) h) p) z ≡ remainder F K.generator (K.start ++ ((h ++ p) ++ z))
  rest_is h p z =
      sym (ap (remainder F K.generator) (ap (λ w. K.start ++ w) (append_assoc h p z))
      ∙ divided_append F laws K.generator _ K.start (h ++ (p ++ z)) ∙ divided_append F laws K.generator _ h (p ++ z) ∙ divided_append F laws K.generator _ p z)

  -- the pieces of a line, one behind the other
  pub pieces : (h p t : List E) (rest : List ℕ) → K.prefix ++ (map (character F K) h ++ (map (character F K) p ++ (map (character F K) t ++ rest))) ≡ line F K ((h ++ p) ++ t) ++ rest
  pieces h p t rest = simp (map-append, append_assoc)

  -- the head and the payload by their numbers are what the parts have
  pub front_is : (k : ℕ) → k ≤ 9 → (k ≡ 1 → ⊥) → (id pl : List ℕ) (x : ℕ) (X : E) → x ≡ F.number X → all_numbers F K id ≡ true → all_numbers F K pl ≡ true
      → map (numbered F) (head_numbers K k id x ++ pl) ≡ symbol F K (48 + k) ∷ (map F.element id ++ (X ∷ map F.element pl))
  front_is k high other id pl x X is_x id_below pl_below =
      ap₂ ◌∷◌ (numbered_below _ (omega (arith, ltb-true _ _ (threshold_known F laws K lawful k high other), lawful.alphabet_length)))
      (map-append (numbered F) (id ++ (x ∷ [])) pl ∙ ap (λ l. l ++ map (numbered F) pl) (map-append (numbered F) id (x ∷ [])) ∙ append_assoc (map (numbered F) id) (numbered F x ∷ []) (map (numbered F) pl)
      ∙ ap₂ ◌++◌ (elements id id_below) (ap₂ ◌∷◌ (ap (numbered F) is_x ∙ numbered_number F laws X) (elements pl pl_below)))
