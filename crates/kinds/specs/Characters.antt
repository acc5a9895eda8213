-- Characters: small letters and capitals, and their places in an alphabet.
use Rattle.std.specs.Prelude.{ℕ, suc, ◌-◌, Bool, cond, ◌&&◌, List, [], ◌∷◌, map, ◌==◌, nat_le}
use Rattle.std.specs.List.{range_with_len}

-- a to z
abbrev pub small_letter : ℕ → Bool
small_letter c = nat_le 97 c && nat_le c 122

-- A to Z
abbrev pub capital_letter : ℕ → Bool
capital_letter c = nat_le 65 c && nat_le c 90

-- a small letter's capital; any other byte as it is
abbrev pub capital : ℕ → ℕ
capital c = cond (small_letter c) (c - 32) c

-- the place of a character in an alphabet; the alphabet's length if it is not there
abbrev pub place : List ℕ → ℕ → ℕ
place [] c = 0
place (a ∷ rest) c = cond (a == c) 0 (suc (place rest c))

-- the place of each byte's capital
abbrev pub places : List ℕ → List ℕ
places alphabet = map (λ c. place alphabet (capital c)) (range_with_len 0 256)
