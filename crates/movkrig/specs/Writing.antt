-- What the commands that write answer under the code of a kind.
use Rattle.std.specs.Prelude.{◌≡◌, ℕ, Bool, List, length, Result}
use Rattle.fields.specs.Field.{Operations}
use Rattle.fields.specs.Gf11.{gf11}
use Rattle.fields.specs.Gf32.{gf32}
use Rattle.kinds.specs.Code.{Code}
use Rattle.kinds.specs.Digits.{digits}
use Rattle.kinds.specs.Letters.{short_letters, long_letters, short_bytes, long_bytes}
use Rattle.codes.specs.Bytes.{decode_answer, encode_answer}
use Rattle.codes.specs.Reading.{Answer, answered, then}
use Rattle.codes.specs.Shown.{shown_count}
use Rattle.codes.specs.Writing.{Wrote, lone_answer}
use Rattle.codes.specs.declared.refusals.Refusal.{Refusal}
use Rattle.movkrig.specs.declared.names.ByteKindName.{ByteKindName}
use Rattle.movkrig.specs.declared.names.ByteKindName.TheVariants as with_bytes
use Rattle.movkrig.specs.declared.names.KindName.{KindName}
use Rattle.movkrig.specs.declared.names.KindName.TheVariants.{Short, Long, Digits}
use Rattle.movkrig.specs.Hexadecimal.{hex_bytes}
use Rattle.movkrig.specs.Symbols.{characters_of, numbers_of}

-- on every buffer of this length a call writes this answer; the call is given by what it says of a buffer, of what it
-- returns and of the buffer that it leaves
abbrev pub AlwaysWrites : (List ℕ → Result ℕ Refusal → List ℕ → Type 0) → ℕ → Answer (List ℕ) → Type 0
AlwaysWrites call size a = (before after : List ℕ) (count : Result ℕ Refusal) → length before ≡ size → call before count after → Wrote a before (shown_count count) after

-- what is said of any code, at the code of a kind
abbrev pub under : {A : Type 0} → KindName → ((E C : Type 0) → Operations E → Code E C → A) → A
under Short f = f _ _ gf32 short_letters
under Long f = f _ _ gf32 long_letters
under Digits f = f _ _ gf11 digits

-- the same where payloads hold bytes: the code takes some counts of them
abbrev pub under_bytes : {A : Type 0} → ByteKindName → ((E C : Type 0) → Operations E → Code E C → (ℕ → Bool) → A) → A
under_bytes with_bytes.Short f = f _ _ gf32 short_letters short_bytes
under_bytes with_bytes.Long f = f _ _ gf32 long_letters long_bytes

-- identifier and payload as they are typed
abbrev pub lone_under : KindName → List ℕ → List ℕ → ℕ → Answer (List ℕ)
lone_under kind identifier payload size = under kind (λ _ _ F K. lone_answer F K (numbers_of K identifier) (numbers_of K payload) size)

-- the characters for the numbers of symbols
abbrev pub respelt : {E C : Type 0} → Code E C → Answer (List ℕ) → Answer (List ℕ)
respelt K a = then a (λ symbols. answered (characters_of K symbols))

-- bytes in hexadecimal
abbrev pub encode_under : ByteKindName → List ℕ → ℕ → Answer (List ℕ)
encode_under kind bytes size = under_bytes kind (λ _ _ F K takes. respelt K (encode_answer takes (hex_bytes bytes) size))

-- a payload as it is typed
abbrev pub decode_under : ByteKindName → List ℕ → ℕ → Answer (List ℕ)
decode_under kind payload size = under_bytes kind (λ _ _ F K takes. decode_answer F K (numbers_of K payload) size)
