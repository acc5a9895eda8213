-- Texts are lists of bytes: tests of their characters, and the symbols that these stand for.
use Rattle.std.specs.Prelude.{◌≡◌, ℕ, Bool, true, false, cond, ◌&&◌, List, length, Some, None, Option, nat_lt, slice_index}
use Rattle.std.specs.List.{list_all, list_any}
use Rattle.std.specs.Str.{bytes_eq}
use Rattle.fields.specs.Field.{Operations}
use Rattle.kinds.specs.Characters.{capital, capital_letter, place, small_letter}
use Rattle.kinds.specs.Code.{Code}

-- whether some character passes, and whether each does
abbrev pub any : (ℕ → Bool) → List ℕ → Bool
any = list_any

abbrev pub all : (ℕ → Bool) → List ℕ → Bool
all = list_all

-- whether a text mixes small letters and capitals
abbrev pub both_cases : List ℕ → Bool
both_cases t = any small_letter t && any capital_letter t

-- whether two lists are equal
abbrev pub same_numbers : List ℕ → List ℕ → Bool
same_numbers = bytes_eq

-- whether a character, in either case, is in the alphabet
abbrev pub known : {E C : Type 0} → Code E C → ℕ → Bool
known K c = nat_lt (place K.alphabet (capital c)) (length K.alphabet)

-- the number of a character's symbol, if it has one
abbrev pub number_in : {E C : Type 0} → Code E C → ℕ → Option ℕ
number_in K c = cond (known K c) (Some (place K.alphabet (capital c))) None

-- the character of the symbol with a number, if there is one
abbrev pub character_in : {E C : Type 0} → Code E C → ℕ → Option ℕ
character_in K n = cond (nat_lt n (length K.alphabet)) (Some (slice_index K.alphabet n)) None

module _ {E C : Type 0} (F : Operations E) (K : Code E C) where
  -- the symbol of a character that is
  abbrev pub symbol : ℕ → E
  symbol c = F.element (place K.alphabet (capital c))

  -- the character of a symbol
  abbrev pub character : E → ℕ
  character s = slice_index K.alphabet (F.number s)

  -- a character's symbol, if it has one
  abbrev pub SymbolOf : ℕ → Option E → Type 0
  SymbolOf c (Some s) = (known K c ≡ true) × (s ≡ symbol c)
  SymbolOf c None = known K c ≡ false
