use Rattle.std.proofs.Common.{ap, ◌∙◌, arith, rules}
use Rattle.codes.specs.Division.{lessened}
use Rattle.codes.proofs.Registers.{front_numbers, lessened_register, target_size, worked_out_more}
use Rattle.codes.proofs.division.Register.complete.Goals as goal

pub invariant_of-self : goal.invariant_of-self
invariant_of-self g c =
    let F = g.K.Symbol.Field.ops in
    let laws = g.met.K.Symbol.Field.lawful in
    let K = g.K.Kind.code in
    front_numbers F laws K c.loop-j.self-inside.entries K.checks (omega (arith, c.loop-j.invariant.0, g.met.K.Kind.lawful.few_checks))
    (λ k h. (_, c.loop-j.invariant.1 k (omega (arith, target_size F laws K g.met.K.Kind.lawful c.target-t-items.result.now c.target-t-items.ensures))))

pub loop-j-preserved : goal.loop-j-preserved
loop-j-preserved g c =
    let F = g.K.Symbol.Field.ops in
    let K = g.K.Kind.code in
    let j = c.loop-j.j in
    let here = c.loop-j.invariant.2 j (omega arith) in
    worked_out_more _ _ c.loop-j.self-inside.entries j c.number.result c.loop-j.invariant (omega (arith, target_size F g.met.K.Symbol.Field.lawful K g.met.K.Kind.lawful c.target-t-items.result.now c.target-t-items.ensures, g.met.K.Kind.lawful.few_checks)) cc

pub returns : goal.returns
returns g c =
    let F = g.K.Symbol.Field.ops in
    let K = g.K.Kind.code in
    lessened_register F g.met.K.Symbol.Field.lawful K g.met.K.Kind.lawful c.target-t-items.result.now c.self.inside.entries c.loop-j.self-inside.entries c.target-t-items.ensures (search rules) c.loop-j.invariant.0
    (λ k h. c.loop-j.invariant.1 k (search rules))
    ∙ ap (lessened F K.target) c.self.view_is
