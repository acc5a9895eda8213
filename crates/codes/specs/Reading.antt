-- Reading a text: its data, or the first of the refusals 11 to 14.
use Rattle.std.specs.Prelude.{ℕ, ◌+◌, ◌-◌, Bool, true, false, not, ◌&&◌, List, map, length, take, drop, nat_le}
use Rattle.fields.specs.Field.{Operations}
use Rattle.kinds.specs.Code.{Code}
use Rattle.codes.specs.Texts.{all, both_cases, known, same_numbers, symbol}
use Rattle.kinds.specs.Characters.{capital}

-- what a call answers: a value, or the number of its refusal
pub data Answer (A : Type 0) : Type 0 where
  answered : A → Answer A
  refused : ℕ → Answer A

-- the next call, if this one is answered
abbrev pub then : {A B : Type 0} → Answer A → (A → Answer B) → Answer B
then (answered a) f = f a
then (refused n) f = refused n

-- refused with this number unless the test passes
abbrev pub unless : {A : Type 0} → Bool → ℕ → Answer A → Answer A
unless true n a = a
unless false n a = refused n

-- what is left of a line beside the payload: prefix, threshold, identifier, index and check symbols
abbrev pub frame : {E C : Type 0} → Code E C → ℕ
frame K = 9 + K.checks

-- whether a line of this kind can have n characters
abbrev pub fits : {E C : Type 0} → Code E C → ℕ → Bool
fits K n = nat_le (frame K) n && K.allows (n - frame K)

-- reading a text
unfoldable pub read : {E C : Type 0} → Operations E → Code E C → List ℕ → Answer (List E)
read F K t =
    unless (fits K (length t)) 11
    (unless (same_numbers (map capital (take 3 t)) K.prefix) 12
    (unless (all (known K) (drop 3 t)) 13
    (unless (not (both_cases t)) 14
    (answered (map (symbol F K) (drop 3 t))))))
