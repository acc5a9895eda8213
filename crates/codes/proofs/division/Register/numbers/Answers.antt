use Rattle.std.proofs.Common.{take, sym, ap, ◌∙◌}
use Rattle.kinds.specs.Words.{numbers}
use Rattle.codes.proofs.Registers.{numbers_back}
use Rattle.codes.proofs.division.Register.numbers.Goals as goal

pub returns : goal.returns
returns g c =
    let F = g.K.Symbol.Field.ops in
    let K = g.K.Kind.code in
    let row = c.self.inside.entries in
    ap (λ n. take n row) c.check_symbols.ensures ∙ sym (numbers_back F g.met.K.Symbol.Field.lawful K (take K.checks row) c.self.invariant) ∙ ap (numbers F) c.self.view_is
