-- Elements by their numbers.
use Rattle.std.specs.Prelude.{ℕ, cond, nat_lt}
use Rattle.fields.specs.Field.{Operations}

-- the element with a number; zero where there is none
abbrev pub numbered : {E : Type 0} → Operations E → ℕ → E
numbered F n = cond (nat_lt n F.order) (F.element n) F.zero
