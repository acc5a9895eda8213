-- Words of symbols, written highest power first.
use Rattle.std.specs.Prelude.{ℕ, List, [], ◌∷◌, map}
use Rattle.fields.specs.Field.{Operations}

module _ {E : Type 0} (F : Operations E) where
  -- the numbers of its symbols
  abbrev pub numbers : List E → List ℕ
  numbers = map F.number

  -- the value at x, by Horner's rule, from what the powers above came to
  abbrev pub horner_from : E → List E → E → E
  horner_from acc [] x = acc
  horner_from acc (c ∷ cs) x = horner_from (F.plus (F.times acc x) c) cs x

  abbrev pub horner : List E → E → E
  horner word x = horner_from F.zero word x
