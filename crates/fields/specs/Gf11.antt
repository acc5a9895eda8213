-- The field of eleven elements: the whole numbers modulo 11.
use Rattle.std.specs.Prelude.{ℕ, ◌+◌, ◌-◌, ◌*◌, List, [], ◌∷◌, slice_index}
use Rattle.std.proofs.Common.{lit<}
use Rattle.fields.specs.Field.{Operations}
use Rattle.fields.specs.Below.{Rules, below}
use Rattle.fields.specs.declared.below.Below.{Below}

abbrev pub Gf11 : Type 0
Gf11 = Below 11

-- the inverse of each number but 0: twice 6 is 12, three times 4 is 12, five times 9 is 45, and so on
abbrev pub inverses : List ℕ
inverses = 0 ∷ 1 ∷ 6 ∷ 4 ∷ 3 ∷ 9 ∷ 2 ∷ 8 ∷ 7 ∷ 5 ∷ 10 ∷ []

abbrev pub gf11_rules : Rules 11
gf11_rules = record {
  positive = lit< tt;
  sum = λ x y. x.n + y.n;
  opposite = λ x. 11 - x.n;
  product = λ x y. x.n * y.n;
  reciprocal = λ x. slice_index inverses x.n;
}

abbrev pub gf11 : Operations Gf11
gf11 = below gf11_rules

-- the pairs over it have t × t = u × t + v, which is t × t = -1
abbrev pub gf11_u : Gf11
gf11_u = gf11.element 0

abbrev pub gf11_v : Gf11
gf11_v = gf11.element 10
