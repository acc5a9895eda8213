use Rattle.std.proofs.Common.{map, take, replicate, ap, ◌∙◌}
use Rattle.fields.specs.Numbered.{numbered}
use Rattle.codes.specs.Division.{divided}
use Rattle.codes.proofs.Registers.{check_zeros}
use Rattle.codes.proofs.division.Register.shift_zeros.Goals as goal

pub returns : goal.returns
returns g c =
    let F = g.K.Symbol.Field.ops in
    let K = g.K.Kind.code in
    c.shift_all.ensures
    ∙ ap (divided F K.generator c.args.self.now) (ap (λ n. map (numbered F) (take n (replicate 16 0))) c.check_symbols.ensures ∙ check_zeros F g.met.K.Symbol.Field.lawful K g.met.K.Kind.lawful)
