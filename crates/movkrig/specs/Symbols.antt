-- Characters as they are typed and shown, and the numbers of their symbols.
use Rattle.std.specs.Prelude.{ℕ, List, map}
use Rattle.std.specs.Option.{unwrap_or}
use Rattle.kinds.specs.Code.{Code}
use Rattle.codes.specs.Texts.{character_in, number_in}

module _ {E C : Type 0} (K : Code E C) where
  -- a character's symbol; 255 for a character that is not in the alphabet
  abbrev pub number_of : ℕ → ℕ
  number_of c = unwrap_or (number_in K c) 255

  abbrev pub numbers_of : List ℕ → List ℕ
  numbers_of = map number_of

  -- a symbol's character; a question mark for what is no symbol
  abbrev pub character_of : ℕ → ℕ
  character_of n = unwrap_or (character_in K n) 63

  abbrev pub characters_of : List ℕ → List ℕ
  characters_of = map character_of
