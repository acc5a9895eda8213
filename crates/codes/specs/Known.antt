-- Values that are known from elsewhere, by the numbers of the elements.
use Rattle.std.specs.Prelude.{◌≡◌, ℕ, map, drop, codes, slice_index}
use Rattle.fields.specs.Extensions.{gf121, gf1024}
use Rattle.fields.specs.Field.{Operations, minus, power}
use Rattle.fields.specs.Gf11.{gf11}
use Rattle.fields.specs.Gf32.{gf32}
use Rattle.codes.specs.Checking.{Codeword}
use Rattle.kinds.specs.Digits.{digits}
use Rattle.kinds.specs.Letters.{short_letters}
use Rattle.codes.specs.Texts.{symbol}
use Rattle.kinds.specs.Words.{numbers}

-- the elements numbered m and n differ by the one numbered r
abbrev pub Difference : {E : Type 0} → Operations E → ℕ → ℕ → ℕ → Type 0
Difference {E} F m n r = (x y : E) → F.number x ≡ m → F.number y ≡ n → F.number (minus F x y) ≡ r

-- they have it as their product
abbrev pub Product : {E : Type 0} → Operations E → ℕ → ℕ → ℕ → Type 0
Product {E} F m n r = (x y : E) → F.number x ≡ m → F.number y ≡ n → F.number (F.times x y) ≡ r

-- the element numbered m has the one numbered r as inverse
abbrev pub Inverse : {E : Type 0} → Operations E → ℕ → ℕ → Type 0
Inverse {E} F m r = (x : E) → F.number x ≡ m → F.number (F.inv x) ≡ r

-- it has it as its n-th power
abbrev pub Power : {E : Type 0} → Operations E → ℕ → ℕ → ℕ → Type 0
Power {E} F m n r = (x : E) → F.number x ≡ m → F.number (power F x n) ≡ r

pub record Known : Type 0 where
  pub gf32_2_times_16 : Product gf32 2 16 9
  pub gf32_inverse_of_5 : Inverse gf32 5 8
  pub gf11_7_times_8 : Product gf11 7 8 1
  pub gf11_3_minus_5 : Difference gf11 3 5 9
  pub gf1024_32_squared : Power gf1024 32 2 33
  pub gf1024_256_squared : Power gf1024 256 2 594
  pub gf1024_256_to_31 : Power gf1024 256 31 32
  pub gf121_23_squared : Power gf121 23 2 52
  pub gf121_23_to_6 : Power gf121 23 6 7
  pub gf121_23_to_30 : Power gf121 23 30 10
  -- the symbol before X^13, and the last
  pub digit_generator_first : slice_index (numbers gf11 digits.generator) 0 ≡ 3
  pub digit_generator_last : slice_index (numbers gf11 digits.generator) 13 ≡ 8
  -- the first share of the second test vector of BIP-93
  pub bip93_share : Codeword gf32 short_letters (map (symbol gf32 short_letters) (drop 3 (codes "MS12NAMEA320ZYXWVUTSRQPNMLKJHGFEDCAXRPP870HKKQRM")))
