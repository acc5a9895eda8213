-- The three codes keep the laws.
use Rattle.std.specs.Prelude.{◌≡◌, ℕ, ◌≤◌, true, nat_le, refl}
use Rattle.std.proofs.Common.{lit≤}
use Rattle.std.proofs.lemmas.Bool.{and_parts, leb-true}
use Rattle.fields.specs.Gf11.{gf11, gf11_u, gf11_v}
use Rattle.fields.specs.Gf32.{gf32, gf32_u, gf32_v, product, times_a}
use Rattle.fields.specs.Extensions.{gf121, gf1024}
use Rattle.fields.proofs.Extensions.{gf121_laws, gf1024_laws}
use Rattle.fields.specs.Polynomials.{gf32_laws}
use Rattle.fields.specs.Residues.{gf11_laws}
use Rattle.kinds.specs.Code.{Lawful}
use Rattle.kinds.specs.Digits.{digits}
use Rattle.kinds.specs.Letters.{Parts, letters_code, short_letters, short_parts, long_letters, long_parts, whole}
use Rattle.kinds.specs.Subfield.{embeds}
use Rattle.kinds.specs.Lawful.{SumTested, TextTested, lawful, within}

-- the codes over the letters

letters_text : (parts : Parts) → TextTested gf32 (letters_code parts)
letters_text parts = record {
  few_symbols = lit≤ tt;
  prefix_length = refl;
  prefix_plain = refl;
  alphabet_length = refl;
  alphabet_plain = refl;
  alphabet_apart = refl;
  thresholds = refl;
}

letters_longest : (parts : Parts) (n : ℕ) → (letters_code parts).allows n ≡ true → n ≤ parts.longest
letters_longest parts n e = leb-true _ _ (and_parts (nat_le n parts.longest) (whole n) (and_parts (nat_le parts.shortest n) _ e).1).0

letters_lawful : (parts : Parts) → SumTested gf32 gf1024 (letters_code parts) parts.longest → Lawful gf32 gf1024 (letters_code parts)
letters_lawful parts =
    lawful gf32 gf1024 (letters_code parts) parts.longest gf32_laws gf1024_laws (embeds gf32 gf32_laws gf32_u gf32_v) (letters_longest parts) (letters_text parts)

short_sum : SumTested gf32 gf1024 short_letters short_parts.longest
unfolding times_a product
short_sum = record { few_checks = lit≤ tt; generator_length = refl; target_length = refl; roots = refl; base_nonzero = refl; no_one = refl; short = lit≤ tt }

pub short_lawful : Lawful gf32 gf1024 short_letters
short_lawful = letters_lawful short_parts short_sum

long_sum : SumTested gf32 gf1024 long_letters long_parts.longest
unfolding times_a product
long_sum = record { few_checks = lit≤ tt; generator_length = refl; target_length = refl; roots = refl; base_nonzero = refl; no_one = refl; short = lit≤ tt }

pub long_lawful : Lawful gf32 gf1024 long_letters
long_lawful = letters_lawful long_parts long_sum

-- the digits

digits_text : TextTested gf11 digits
digits_text = record {
  few_symbols = lit≤ tt;
  prefix_length = refl;
  prefix_plain = refl;
  alphabet_length = refl;
  alphabet_plain = refl;
  alphabet_apart = refl;
  thresholds = refl;
}

digits_sum : SumTested gf11 gf121 digits 40
digits_sum = record { few_checks = lit≤ tt; generator_length = refl; target_length = refl; roots = refl; base_nonzero = refl; no_one = refl; short = lit≤ tt }

pub digits_lawful : Lawful gf11 gf121 digits
digits_lawful =
    lawful gf11 gf121 digits 40 gf11_laws gf121_laws (embeds gf11 gf11_laws gf11_u gf11_v) (λ n e. (within 4 40 n e).1) digits_text digits_sum
