use Rattle.std.proofs.Common.{◌≡◌, ℕ, ◌*◌, List, ◌++◌, drop}
use Rattle.codes.specs.Bits.{At}
use Rattle.codes.specs.Bytes.{regrouped}
use Rattle.codes.proofs.bits.Bits.fill.Given as goal

-- so many groups stand in front, and the reader stands behind them
abbrev pub invariant-loop-place : goal.invariant-loop-place
invariant-loop-place g l = (xs : List ℕ) → At g.row.WIDTH l.initial.self xs 0
    → (l.place-items ≡ regrouped g.row.WIDTH l.group xs l.place-index ++ drop l.place-index l.fn.out) × At g.row.WIDTH l.self xs (l.group * l.place-index)
