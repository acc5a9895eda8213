use Rattle.std.proofs.Common.{ℕ, ◌-◌, List}
use Rattle.codes.specs.Bits.{At}
use Rattle.codes.proofs.bits.Bits.take.Given as goal

-- the reader stands where it stood
abbrev pub invariant-loop-self : goal.invariant-loop-self
invariant-loop-self g l = (xs : List ℕ) (p : ℕ) → At g.row.WIDTH l.initial.self xs p → At g.row.WIDTH l.self xs p

abbrev pub decreases-loop-self : goal.decreases-loop-self
decreases-loop-self g l = l.group - l.self.count
