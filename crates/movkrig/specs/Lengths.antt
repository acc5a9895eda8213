-- Lengths of buffers, in decimal.
use Rattle.std.specs.Prelude.{ℕ, ◌+◌, ◌-◌, ◌*◌, Bool, cond, ◌&&◌, List, [], ◌∷◌, Some, None, Option, nat_le}

-- a character from 0 to 9
abbrev pub is_decimal : ℕ → Bool
is_decimal c = nat_le 48 c && nat_le c 57

-- a number and one digit more
abbrev pub decimal_next : ℕ → ℕ → ℕ
decimal_next n c = 10 * n + (c - 48)

-- the same, if it is one and the number is at most 1024
abbrev pub with_digit : ℕ → ℕ → Option ℕ
with_digit n c = cond (is_decimal c && nat_le (decimal_next n c) 1024) (Some (decimal_next n c)) None

-- the number with these digits behind those of n; none where another character stands or it passes 1024
abbrev pub length_from : ℕ → List ℕ → Option ℕ
length_from n [] = Some n
length_from n (c ∷ cs) = cond (is_decimal c && nat_le (decimal_next n c) 1024) (length_from (decimal_next n c) cs) None

abbrev pub length_of : List ℕ → Option ℕ
length_of = length_from 0
