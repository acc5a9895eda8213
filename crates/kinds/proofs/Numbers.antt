-- Words by the numbers of their symbols.
use Rattle.std.proofs.Common.{◌≡◌, List, [], ◌∷◌, map, sym, refl, ap, ap₂, ◌∙◌}
use Rattle.fields.specs.Field.{Operations, FieldLaws}
use Rattle.fields.specs.Ring.{element_number}

module _ {E : Type 0} (F : Operations E) (laws : FieldLaws F) where
  -- a word is read back from the numbers of its symbols
  read_back : (w : List E) → map F.element (map F.number w) ≡ w
  read_back [] = refl
  read_back (x ∷ w) = ap₂ ◌∷◌ (element_number F laws x) (read_back w)

  -- words with the same numbers are the same
  pub same_words : (v w : List E) → map F.number v ≡ map F.number w → v ≡ w
  same_words v w e = sym (read_back v) ∙ ap (map F.element) e ∙ read_back w
