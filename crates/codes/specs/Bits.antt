-- Where a reader stands in a row of bits.
use Rattle.std.specs.Prelude.{◌≡◌, ℕ, ◌+◌, List}
use Rattle.std.specs.Slice.Iter.{iter_rest}
use Rattle.codes.specs.Bytes.{bit, gathered}
use Rattle.codes.specs.declared.bits.Bits.{Bits}

-- the reader stands at the p-th bit of the numbers xs, of w bits each
pub record At (w : ℕ) (b : Bits w) (xs : List ℕ) (p : ℕ) : Type 0 where
  -- what it holds are the bits from there
  pub held : b.held ≡ gathered w xs p b.count
  -- and the numbers that it has still to take in have the bits behind those
  pub rest : (j : ℕ) → bit w (iter_rest b.rest) j ≡ bit w xs (p + b.count + j)
