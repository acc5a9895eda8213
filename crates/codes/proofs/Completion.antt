-- The check symbols: what completes data to a codeword is one tail, found by one division.
use Rattle.std.proofs.Common.{◌≡◌, List, ◌++◌, length, sym, ap, ◌∙◌, ap₂, append_assoc}
use Rattle.fields.specs.Field.{Operations, FieldLaws}
use Rattle.kinds.specs.Code.{Code, Lawful}
use Rattle.codes.specs.Checking.{Codeword}
use Rattle.codes.specs.Division.{lessened, remainder}
use Rattle.codes.specs.Writing.{Completion, completed}
use Rattle.codes.proofs.Quotients.{zeros, length_lessened, lessened_cancel, length_remainder, remainder_tail}

module _ {E C : Type 0} (F : Operations E) (laws : FieldLaws F) {G : Operations C} (K : Code E C) (lawful : Lawful F G K) where
  -- the remainder of data with a tail
  abbrev with_tail : List E → List E → List E
  with_tail h t = remainder F K.generator (K.start ++ (h ++ t))

  -- it has as many symbols as there are checks
  length_with_tail : (h t : List E) → length (with_tail h t) ≡ K.checks
  length_with_tail h t = length_remainder F laws K.generator (K.start ++ (h ++ t)) ∙ lawful.generator_length

  -- the tail shows in the remainder, beside what the data gives with zeros
  tail_shows : (h t : List E) → length t ≡ K.checks → lessened F (with_tail h t) (with_tail h (zeros F K.checks)) ≡ t
  tail_shows h t long =
      ap₂ (λ w z. lessened F (remainder F K.generator w) z) (sym (append_assoc K.start h t)) same_zeros
      ∙ remainder_tail F laws K.generator (K.start ++ h) t (long ∙ sym lawful.generator_length)
    where
      same_zeros : with_tail h (zeros F K.checks) ≡ remainder F K.generator ((K.start ++ h) ++ zeros F (length K.generator))
      same_zeros = ap (remainder F K.generator) (sym (append_assoc K.start h (zeros F K.checks)) ∙ ap (λ k. (K.start ++ h) ++ zeros F k) (sym lawful.generator_length))

  -- completed data is a codeword
  pub completed_codeword : (h : List E) → Codeword F K (completed F K h)
  completed_codeword h =
      lessened_cancel F laws (with_tail h t) K.target r (length_with_tail h t ∙ sym (length_with_tail h (zeros F K.checks))) (lawful.target_length ∙ sym (length_with_tail h (zeros F K.checks)))
      (tail_shows h t (length_lessened F laws K.target r ∙ lawful.target_length))
    where
      r : List E
      r = with_tail h (zeros F K.checks)

      t : List E
      t = lessened F K.target r

  -- no other tail makes one
  completed_only : (h t : List E) → length t ≡ K.checks → Codeword F K (h ++ t) → h ++ t ≡ completed F K h
  completed_only h t long codeword = ap (λ u. h ++ u) (sym (tail_shows h t long) ∙ ap (λ u. lessened F u (with_tail h (zeros F K.checks))) codeword)

  -- both
  pub completion : Completion F K
  completion = record { codeword = completed_codeword; only = completed_only }
