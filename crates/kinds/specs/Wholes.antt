-- The counts of bytes that the letters take give allowed counts of symbols: one test of all counts up to 64.
use Rattle.std.specs.Prelude.{◌≡◌, ℕ, ◌≤◌, Bool, true, not, ◌||◌, refl}
use Rattle.std.proofs.Common.{arith, inl, inr, le_trans, lit≤}
use Rattle.std.proofs.lemmas.Bool.{both_ways, not-true, or_cases}
use Rattle.fields.specs.Gf32.{gf32}
use Rattle.fields.specs.Each.{Each, at}
use Rattle.kinds.specs.Bytes.{Bytes, symbols_for}
use Rattle.kinds.specs.Lawful.{within}
use Rattle.kinds.specs.Letters.{Parts, letters_bytes, letters_code, long_bytes, long_letters, long_parts, short_bytes, short_letters, short_parts}

-- where a code takes m bytes, it allows as many symbols as hold them
abbrev fits : Parts → ℕ → Bool
fits parts m = not (letters_bytes parts m) || (letters_code parts).allows (symbols_for m)

module _ (parts : Parts) (few : parts.most_bytes ≤ 64) (test : Each 65 (fits parts)) where
  few_bytes : (m : ℕ) → letters_bytes parts m ≡ true → m ≤ 64
  few_bytes m e = le_trans (within parts.fewest_bytes parts.most_bytes m e).1 few

  fitting : (m : ℕ) → letters_bytes parts m ≡ true → (letters_code parts).allows (symbols_for m) ≡ true
  fitting m e =
      let small : m ≤ 64 = few_bytes m e in
      elim (or_cases (not (letters_bytes parts m)) _ (at 65 (fits parts) test m (omega arith))) [
        | inl refused ↦ absurd (both_ways _ (not-true _ refused) e)
        | inr allowed ↦ allowed
      ]

  letters_whole : Bytes gf32 (letters_code parts) (letters_bytes parts)
  letters_whole = record { five_bits = refl; few_bytes = few_bytes; fitting = fitting }

pub short_whole : Bytes gf32 short_letters short_bytes
short_whole = letters_whole short_parts (lit≤ tt) refl

pub long_whole : Bytes gf32 long_letters long_bytes
long_whole = letters_whole long_parts (lit≤ tt) refl
