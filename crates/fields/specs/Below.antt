-- Fields whose elements are the numbers below q: what they share.
use Rattle.std.specs.Prelude.{ℕ, ◌%◌, ◌<◌}
use Rattle.std.proofs.Common.{mod-lt}
use Rattle.fields.specs.Field.{Operations}
use Rattle.fields.specs.declared.below.Below.{Below}

-- What differs, as numbers: the elements are their remainders. The reciprocal of zero may be any number.
pub record Rules (q : ℕ) : Type 0 where
  pub positive : 0 < q
  pub sum : Below q → Below q → ℕ
  pub opposite : Below q → ℕ
  pub product : Below q → Below q → ℕ
  pub reciprocal : Below q → ℕ

-- the remainder of n
abbrev pub residue : {q : ℕ} → 0 < q → ℕ → Below q
residue {q} positive n = record { n = n % q; bound = mod-lt n positive }

abbrev pub below : {q : ℕ} → Rules q → Operations (Below q)
below {q} rules = record {
  order = q;
  number = λ x. x.n;
  element = residue rules.positive;
  zero = residue rules.positive 0;
  one = residue rules.positive 1;
  plus = λ x y. residue rules.positive (rules.sum x y);
  neg = λ x. residue rules.positive (rules.opposite x);
  times = λ x y. residue rules.positive (rules.product x y);
  inv = λ x. residue rules.positive (rules.reciprocal x);
}
