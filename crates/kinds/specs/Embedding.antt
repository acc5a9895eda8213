-- A symbol as an element of the pairs over its field.
use Rattle.fields.specs.Field.{Operations}
use Rattle.fields.specs.Pairs.{pair}
use Rattle.fields.specs.declared.pair.Pair.{Pair}

abbrev pub embedded : {E : Type 0} → Operations E → E → Pair E
embedded F s = pair s F.zero
