-- Characters and the symbols that they stand for.
use Rattle.std.proofs.Common.{◌≡◌, ℕ, suc, ◌<◌, ◌≤◌, Bool, true, false, cond, eqb, List, [], ◌∷◌, length, get_or, Some, None, Option, refl, ap, ◌∙◌, subst, le_of_suc-le-suc, not-suc-le-zero, arith}
use Rattle.std.proofs.lemmas.List.FromFn.{get_or-map-range_with_len}
use Rattle.std.proofs.lemmas.Bool.{eqb-true, lt-ltb, le-ltb, ltb-true}
use Rattle.fields.specs.Field.{Operations, FieldLaws}
use Rattle.kinds.specs.Code.{Code, Lawful}
use Rattle.codes.specs.Texts.{character, known, symbol, SymbolOf}
use Rattle.kinds.specs.Characters.{capital, place, places}

-- the table at a byte
pub table_at : (alphabet : List ℕ) (c : ℕ) → c < 256 → get_or (places alphabet) c 0 ≡ place alphabet (capital c)
table_at alphabet c h = get_or-map-range_with_len (λ b. place alphabet (capital b)) 0 256 c c 0 (omega arith) (omega arith)

module _ {E C : Type 0} (F : Operations E) {G : Operations C} (K : Code E C) (lawful : Lawful F G K) where
  -- what the element with its number says of a character
  pub looked_up : (c n : ℕ) → n ≡ place K.alphabet (capital c) → (r : Option E)
      → elim r as (λ _. Type 0) [ Some x ↦ (n < F.order) × (x ≡ F.element n) | None ↦ F.order ≤ n ] → SymbolOf F K c r
  looked_up c n at (Some x) (below, is) = (lt-ltb _ _ (omega (arith, at, below, lawful.alphabet_length)), is ∙ ap F.element at)
  looked_up c n at None above = le-ltb _ _ (omega (arith, at, above, lawful.alphabet_length))

-- a character that is found stands at its place
place_at : (alphabet : List ℕ) (c : ℕ) → place alphabet c < length alphabet → get_or alphabet (place alphabet c) 0 ≡ c
place_at [] c h = absurd (not-suc-le-zero h)
place_at (a ∷ rest) c h = found (eqb a c) refl (place_at rest c) h
  where
    found : (b : Bool) → eqb a c ≡ b → (place rest c < length rest → get_or rest (place rest c) 0 ≡ c) → cond b 0 (suc (place rest c)) < suc (length rest)
        → get_or (a ∷ rest) (cond b 0 (suc (place rest c))) 0 ≡ c
    found true e further h = eqb-true a c e
    found false e further h = further (le_of_suc-le-suc h)

module _ {E C : Type 0} (F : Operations E) (laws : FieldLaws F) {G : Operations C} (K : Code E C) (lawful : Lawful F G K) where
  -- the number of the symbol of a character
  pub symbol_number_lem : (c : ℕ) → known K c ≡ true → F.number (symbol F K c) ≡ place K.alphabet (capital c)
  symbol_number_lem c is_known = laws.numbered _ (subst (λ n. place K.alphabet (capital c) < n) lawful.alphabet_length (ltb-true _ _ is_known))

  -- the character of the symbol of a character is its capital
  pub symbol_character_lem : (c : ℕ) → known K c ≡ true → character F K (symbol F K c) ≡ capital c
  symbol_character_lem c is_known = ap (λ i. get_or K.alphabet i 0) (symbol_number_lem c is_known) ∙ place_at K.alphabet (capital c) (ltb-true _ _ is_known)
