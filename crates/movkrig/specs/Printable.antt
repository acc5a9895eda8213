-- Bytes that may be shown.
use Rattle.std.specs.Prelude.{ℕ, cond, ◌&&◌, nat_le}

-- a byte from ! to ~ as it is, and a question mark for any other
abbrev pub printable : ℕ → ℕ
printable b = cond (nat_le 33 b && nat_le b 126) b 63
