-- Payloads that hold whole bytes: kinds over 32 symbols, five bits to a symbol.
use Rattle.std.specs.Prelude.{◌≡◌, ℕ, ◌+◌, ◌*◌, ◌/◌, ◌≤◌, Bool, true}
use Rattle.fields.specs.Field.{Operations}
use Rattle.kinds.specs.Code.{Code}

-- how many symbols hold the bits of m bytes
abbrev pub symbols_for : ℕ → ℕ
symbols_for m = (8 * m + 4) / 5

-- what the counts of bytes that a kind takes keep
pub record Bytes {E C : Type 0} (F : Operations E) (K : Code E C) (takes : ℕ → Bool) : Type 0 where
  pub five_bits : F.order ≡ 32
  pub few_bytes : (m : ℕ) → takes m ≡ true → m ≤ 64
  pub fitting : (m : ℕ) → takes m ≡ true → K.allows (symbols_for m) ≡ true
