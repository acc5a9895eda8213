-- Checking from its steps: reading, the checksum and the head.
use Rattle.std.proofs.Common.{◌≡◌, ℕ, Bool, true, false, List, ◌++◌, map, sym, ap, ◌∙◌}
use Rattle.fields.specs.Field.{Operations, FieldLaws}
use Rattle.codes.specs.Checking.{Checksum, Typed, check_answer, checked, headed, is_codeword, typed}
use Rattle.kinds.specs.Code.{Code}
use Rattle.codes.specs.Reading.{Answer, answered, refused, then, unless, read}
use Rattle.codes.specs.Texts.{same_numbers, symbol}
use Rattle.kinds.specs.Words.{numbers}
use Rattle.codes.specs.Division.{remainder}
use Rattle.kinds.proofs.Numbers.{same_words}
use Rattle.std.proofs.lemmas.Slice.Eq.{bytes_eq-Decides}
use Rattle.codes.proofs.Quotients.{remainders}

-- the test for a codeword is what it says, since words with the same numbers are the same
pub checksum : {E C : Type 0} (F : Operations E) (laws : FieldLaws F) (K : Code E C) → Checksum F K
checksum F laws K = record {
  division = remainders F laws;
  test = λ d. let (to, back) = bytes_eq-Decides (numbers F (remainder F K.generator (K.start ++ d))) (numbers F K.target) in (λ e. same_words F laws _ _ (to e), λ e. back (ap (numbers F) e));
}

module _ {E C : Type 0} (F : Operations E) (K : Code E C) (t : List ℕ) where
  -- what is refused when it is read is refused
  pub unread : (n : ℕ) → read F K t ≡ refused n → check_answer F K t ≡ refused n
  unfolding checked
  unread n e = ap (λ a. then (then a (λ d. unless (is_codeword F K d) 21 (headed F K d))) (λ p. answered (typed t p))) e

  -- what is read, with its remainder, and whether that is the target
  module _ (u : List ℕ) (register : List E) (reaches : Bool) (is_read : read F K t ≡ answered (map (symbol F K) u)) (holds : register ≡ remainder F K.generator (K.start ++ map (symbol F K) u))
      (is_reached : reaches ≡ same_numbers (numbers F register) (numbers F K.target)) where
    abbrev after : Bool → Answer Typed
    after b = then (unless b 21 (headed F K (map (symbol F K) u))) (λ p. answered (typed t p))

    after_reading : check_answer F K t ≡ after reaches
    unfolding checked
    after_reading =
        ap (λ a. then (then a (λ d. unless (is_codeword F K d) 21 (headed F K d))) (λ p. answered (typed t p))) is_read
        ∙ ap after (sym (is_reached ∙ ap (λ r. same_numbers (numbers F r) (numbers F K.target)) holds))

    pub wrong : reaches ≡ false → refused 21 ≡ check_answer F K t
    wrong e = sym (after_reading ∙ ap after e)

    pub right : reaches ≡ true → then (headed F K (map (symbol F K) u)) (λ p. answered (typed t p)) ≡ check_answer F K t
    right e = sym (after_reading ∙ ap after e)
