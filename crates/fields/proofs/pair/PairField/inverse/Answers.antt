use Rattle.std.proofs.Common.{◌≡◌, ap, ◌∙◌}
use Rattle.fields.specs.Pairs.{norm}
use Rattle.fields.specs.PairsLemmas.{norm_of_zero, zero_of_norm}
use Rattle.fields.proofs.pair.PairField.inverse.Goals as goal

-- only the pair of zeros has the norm zero
pub returns-in_err-scale : goal.returns-in_err-scale
returns-in_err-scale g c =
    let norm-is-zero = c.in_err-scale.ensures in
    rw c.from_residual.ensures
    (zero_of_norm g.F.Field.ops g.met.F.Field.lawful g.F.Quadratic.u g.F.Quadratic.v g.met.F.Quadratic.irreducible c.args.self.lo c.args.self.hi (cc))

pub returns : goal.returns
returns g c =
    let F = g.F.Field.ops in
    let u = g.F.Quadratic.u in
    let v = g.F.Quadratic.v in
    let is-norm : c.add-norm.result ≡ norm F u v c.args.self.lo c.args.self.hi = cc in
    let inverse = c.in_ok-scale.ensures in
    (λ e. inverse.0 (is-norm ∙ ap (λ p. norm F u v p.lo p.hi) e ∙ norm_of_zero F g.met.F.Field.lawful u v), cc inverse.1)
