use Rattle.std.proofs.Common.{map, replicate, sym, ap, ◌∙◌, ap₂, arith}
use Rattle.std.proofs.lemmas.List.{get_or-replicate}
use Rattle.fields.specs.Numbered.{numbered}
use Rattle.codes.specs.Division.{divided}
use Rattle.codes.proofs.Registers.{front_numbers, numbered_word, zero_register}
use Rattle.codes.proofs.division.Register.started.Goals as goal

pub invariant_of-register : goal.invariant_of-register
invariant_of-register g c =
    let laws = g.met.K.Symbol.Field.lawful in
    front_numbers g.K.Symbol.Field.ops laws g.K.Kind.code (replicate 16 0) g.K.Kind.code.checks (omega (arith, g.met.K.Kind.lawful.few_checks)) (λ k h. (g.K.Symbol.Field.ops.zero, get_or-replicate 16 k 0 0 (omega (arith, g.met.K.Kind.lawful.few_checks)) ∙ sym laws.number_zero))

pub returns : goal.returns
returns g c =
    let F = g.K.Symbol.Field.ops in
    let laws = g.met.K.Symbol.Field.lawful in
    let K = g.K.Kind.code in
    c.shift_all.ensures
    ∙ ap₂ (divided F K.generator) (zero_register F laws K g.met.K.Kind.lawful) (ap (map (numbered F)) c.start.ensures ∙ numbered_word F laws K.start)
