use Rattle.std.proofs.Common.{◌≡◌, ◌+◌, ◌-◌, List, ℕ, [], ◌∷◌, length, drop, take, Bor, Some, None, Option, MatchOption, true, false, ap, sym, ◌∙◌, refl, unwrap_or, nat_eq}
use Rattle.std.specs.Cmp.Lexicographic.{pointwise, same_text, other_text}
use Rattle.movkrig.specs.Words.{without_return}
use Rattle.movkrig.proofs.Splitting.{returned, not_returned}
use Rattle.movkrig.proofs.words.without_return.Goals as goal

module _ (line : Bor (List ℕ)) where
  abbrev last : ℕ
  last = length line.now - 1

  stripped : (o : Option (Bor (List ℕ)))
      → MatchOption o (pointwise nat_eq (drop last line.now) (13 ∷ []) ≡ false)
      (λ x. (pointwise nat_eq (drop last line.now) (13 ∷ []) ≡ true) × (x.now ≡ take last line.now) × (length x.now + 1 ≡ length line.now))
      → (unwrap_or o line).now ≡ without_return line.now
  stripped (Some x) cases = cases.1 ∙ returned line.now last (same_text _ _ (sym cases.0))
  stripped None none = not_returned line.now last refl (other_text _ _ (sym none))

pub returns : goal.returns
returns c = ap (λ l. l.now) c.unwrap_or.ensures ∙ stripped c.args.line c.strip_suffix.result c.strip_suffix.ensures.cases
