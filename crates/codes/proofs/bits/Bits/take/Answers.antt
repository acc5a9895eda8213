use Rattle.std.proofs.Common.{ℕ, ◌-◌, ◌/◌, ◌%◌, ◌^◌, ◌<◌, ◌≤◌, subst, ap, ◌∙◌, pow_mono, arith}
use Rattle.std.proofs.lemmas.Nat.{one_shl, shr_below}
use Rattle.codes.specs.Bytes.{bit}
use Rattle.codes.proofs.Groups.{gathered_front, gathered_back}
use Rattle.codes.proofs.bits.Bits.take.Goals as goal

-- a group of eight bits or fewer is a byte
byte : (held count group : ℕ) → held < 2 ^ count → group ≤ count → group ≤ 8 → held / 2 ^ (count - group) < 2 ^ 8
byte held count group fits within few =
    let below = shr_below held group (count - group) (subst (λ n. held < 2 ^ n) (omega arith) fits) in
    let most : 2 ^ group ≤ 2 ^ 8 = pow_mono few in
    omega (arith, below)

pub overflow_cast-result : goal.overflow_cast-result
overflow_cast-result g c = omega (arith, byte c.loop-self.self.held c.loop-self.self.count c.args.group c.loop-self.self.fits c.loop-self-test.false c.requires)

pub returns-clause-value : goal.returns-clause-value
returns-clause-value g c = λ xs p at.
    let s = c.loop-self.self in
    ap (λ h. h / 2 ^ (s.count - c.args.group)) (c.loop-self.invariant xs p at).held ∙ gathered_front g.row.WIDTH xs p s.count c.args.group c.loop-self-test.false

pub returns-clause-place : goal.returns-clause-place
returns-clause-place g c = λ xs p at.
    let s = c.loop-self.self in
    let here = c.loop-self.invariant xs p at in
    record {
      held =
          ap (λ m. s.held % m) (one_shl (s.count - c.args.group) 32 (omega (arith, s.few)))
          ∙ ap (λ h. h % 2 ^ (s.count - c.args.group)) here.held
          ∙ gathered_back g.row.WIDTH xs p s.count c.args.group c.loop-self-test.false;
      rest = λ j. here.rest j ∙ ap (bit g.row.WIDTH xs) (omega (arith, c.loop-self-test.false));
    }
