use Rattle.std.proofs.Common.{ℕ, List, rules, ap, ◌∙◌, arith, subst, vec_items}
use Rattle.std.proofs.lemmas.Result.{err_from_is_err_and}
use Rattle.std.specs.Vec.{with_items}
use Rattle.codes.specs.Reading.{answered}
use Rattle.codes.specs.Shown.{shown_count}
use Rattle.codes.specs.Writing.{Wrote}
use Rattle.movkrig.specs.Answers.{of_writing}
use Rattle.movkrig.proofs.Fronts.{answered_front, refused_front, wrote_lent}
use Rattle.movkrig.proofs.tasks.buffered.Goals as goal

pub returns-in_err-count : goal.returns-in_err-count
returns-in_err-count g c = λ show a meets.
    let before = c.as_mut_slice.result.now in
    let wrote = meets before c.call.new.arg2 c.call.result (c.as_mut_slice.ensures.len ∙ c.in_ok-out.ensures.len) (search rules) in
    let exit = err_from_is_err_and c.from_residual-in_err-count.result c.from_residual-in_err-count.ensures.1 in
    rw (exit.1, exit.2) (ap (of_writing show) (refused_front a before _ _ (subst (λ k. Wrote a before (shown_count k) c.call.new.arg2) c.in_err-count.was wrote)))

pub returns : goal.returns
returns g c = λ show a meets.
    let before = c.as_mut_slice.result.now in
    let wrote = meets before c.call.new.arg2 c.call.result (c.as_mut_slice.ensures.len ∙ c.in_ok-out.ensures.len) (search rules) in
    let lent = wrote_lent c.in_ok-out.out c.call.new.arg2 (omega arith) wrote in
    ap (of_writing show)
    (ap {A = List ℕ} answered c.truncate.ensures.items
    ∙ answered_front a before _ _ (subst (λ k. Wrote a before (shown_count k) (vec_items (with_items c.in_ok-out.out c.call.new.arg2))) c.in_ok-count.was lent))
