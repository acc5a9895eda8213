-- Bytes in hexadecimal.
use Rattle.std.specs.Prelude.{ℕ, ◌+◌, ◌-◌, ◌*◌, ◌/◌, ◌%◌, Bool, cond, ◌&&◌, List, map, length, is_some, Some, None, Option, ◌==◌, nat_le, slice_index}
use Rattle.std.specs.List.{list_all, range_with_len}
use Rattle.std.specs.Option.{unwrap_or}

-- the number of a digit: 0 to 9, a to f, A to F
abbrev pub hex_digit : ℕ → Option ℕ
hex_digit c =
    cond (nat_le 48 c && nat_le c 57) (Some (c - 48))
    (cond (nat_le 97 c && nat_le c 102) (Some (c - 97 + 10))
    (cond (nat_le 65 c && nat_le c 70) (Some (c - 65 + 10)) None))

abbrev pub hex_value : ℕ → ℕ
hex_value c = unwrap_or (hex_digit c) 0

-- pairs of digits
abbrev pub is_hexadecimal : List ℕ → Bool
is_hexadecimal w = length w % 2 == 0 && list_all (λ c. is_some (hex_digit c)) w

-- the i-th byte
abbrev pub hex_byte : List ℕ → ℕ → ℕ
hex_byte w i = 16 * hex_value (slice_index w (2 * i)) + hex_value (slice_index w (2 * i + 1))

abbrev pub hex_bytes : List ℕ → List ℕ
hex_bytes w = map (hex_byte w) (range_with_len 0 (length w / 2))
