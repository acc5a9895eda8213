-- Bytes as payload symbols: bits in their order, the highest of each number first, gathered again in groups of another size.
use Rattle.std.specs.Prelude.{◌≡◌, ℕ, zero, suc, ◌+◌, ◌-◌, ◌*◌, ◌/◌, ◌%◌, ◌^◌, ◌≤◌, Bool, true, List, map, length, nat_lt, slice_index}
use Rattle.std.specs.List.{range_with_len}
use Rattle.fields.specs.Field.{Operations}
use Rattle.kinds.specs.Bytes.{symbols_for}
use Rattle.kinds.specs.Code.{Code}
use Rattle.codes.specs.Reading.{Answer, unless}
use Rattle.codes.specs.Texts.{all}
use Rattle.codes.specs.Writing.{all_numbers, within}

-- the j-th bit of a list of numbers of w bits each; 0 beyond the end
abbrev pub bit : ℕ → List ℕ → ℕ → ℕ
bit w xs j = slice_index xs (j / w) / 2 ^ (w - 1 - j % w) % 2

-- the number whose bits are the v bits from the j-th on, the highest first
abbrev pub gathered : ℕ → List ℕ → ℕ → ℕ → ℕ
gathered w xs j zero = 0
gathered w xs j (suc v) = 2 * gathered w xs j v + bit w xs (j + v)

-- the first n groups of v bits
abbrev pub regrouped : ℕ → ℕ → List ℕ → ℕ → List ℕ
regrouped w v xs n = map (λ i. gathered w xs (v * i) v) (range_with_len 0 n)

-- bytes as symbols: the bits left in the last symbol are zero
abbrev pub encoded : List ℕ → List ℕ
encoded bytes = regrouped 8 5 bytes (symbols_for (length bytes))

-- how many whole bytes n symbols hold
abbrev pub bytes_in : ℕ → ℕ
bytes_in n = 5 * n / 8

-- symbols as bytes: the bits left in the last symbol are dropped
abbrev pub decoded : List ℕ → List ℕ
decoded symbols = regrouped 5 8 symbols (bytes_in (length symbols))

-- bytes to payload: the numbers of the symbols, or refusal 91 or 81
abbrev pub encode_answer : (ℕ → Bool) → List ℕ → ℕ → Answer (List ℕ)
encode_answer takes bytes size = unless (takes (length bytes)) 91 (within size (encoded bytes))

-- payload to bytes, or refusal 43, 53 or 81
abbrev pub decode_answer : {E C : Type 0} → Operations E → Code E C → List ℕ → ℕ → Answer (List ℕ)
decode_answer F K symbols size = unless (K.allows (length symbols)) 43 (unless (all_numbers F K symbols) 53 (within size (decoded symbols)))

-- What is proved of these, of a kind that takes some counts of bytes
pub record WholeBytes {E C : Type 0} (F : Operations E) (K : Code E C) (takes : ℕ → Bool) : Type 0 where
  -- what was encoded is decoded again
  pub back : (bytes : List ℕ) → all (λ b. nat_lt b 256) bytes ≡ true → decoded (encoded bytes) ≡ bytes
  -- what is encoded is a payload of this kind
  pub payload : (bytes : List ℕ) → takes (length bytes) ≡ true → (K.allows (length (encoded bytes)) ≡ true) × (all_numbers F K (encoded bytes) ≡ true)
  -- no fewer symbols hold the bits
  pub smallest : (m n : ℕ) → 8 * m ≤ 5 * n → symbols_for m ≤ n
  pub enough : (m : ℕ) → 8 * m ≤ 5 * symbols_for m
