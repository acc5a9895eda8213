-- The field of 32 elements: the five bits of a number are a polynomial in a, with a^5 = a^3 + 1, so a is 2 and a^5 is 9.
-- The sum is the exclusive or.
use Rattle.std.specs.Prelude.{ℕ, ◌*◌, ◌/◌, ◌%◌, List, [], ◌∷◌, bit_xor, slice_index}
use Rattle.std.proofs.Common.{lit<}
use Rattle.fields.specs.Field.{Operations}
use Rattle.fields.specs.Below.{Rules, below}
use Rattle.fields.specs.declared.below.Below.{Below}

abbrev pub Gf32 : Type 0
Gf32 = Below 32

-- x × a: the bits move up by one, and a^5 comes back as 9
unfoldable pub times_a : ℕ → ℕ
times_a x = bit_xor (x * 2 % 32) (x / 16 * 9)

-- x times each bit of y, added up
unfoldable pub product : ℕ → ℕ → ℕ
product x y =
    let x₁ = times_a x in
    let x₂ = times_a x₁ in
    let x₃ = times_a x₂ in
    let x₄ = times_a x₃ in
    bit_xor (bit_xor (bit_xor (bit_xor (x * (y % 2)) (x₁ * (y / 2 % 2))) (x₂ * (y / 4 % 2))) (x₃ * (y / 8 % 2))) (x₄ * (y / 16))

-- the inverse of each number but 0
abbrev pub inverses : List ℕ
inverses = 0 ∷ 1 ∷ 20 ∷ 24 ∷ 10 ∷ 8 ∷ 12 ∷ 29 ∷ 5 ∷ 11 ∷ 4 ∷ 9 ∷ 6 ∷ 28 ∷ 26 ∷ 31 ∷ 22 ∷ 18 ∷ 17 ∷ 23 ∷ 2 ∷ 25 ∷ 16 ∷ 19 ∷ 3 ∷ 21 ∷ 14 ∷ 30 ∷ 13 ∷ 7 ∷ 27 ∷ 15 ∷ []

abbrev pub gf32_rules : Rules 32
gf32_rules = record {
  positive = lit< tt;
  sum = λ x y. bit_xor x.n y.n;
  opposite = λ x. x.n;
  product = λ x y. product x.n y.n;
  reciprocal = λ x. slice_index inverses x.n;
}

abbrev pub gf32 : Operations Gf32
gf32 = below gf32_rules

-- the pairs over it have t × t = u × t + v, which is t × t = t + 1
abbrev pub gf32_u : Gf32
gf32_u = gf32.element 1

abbrev pub gf32_v : Gf32
gf32_v = gf32.element 1
