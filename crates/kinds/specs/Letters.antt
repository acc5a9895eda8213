-- The two codes over the letters: a short one for 26 to 74 payload symbols, and a long one for 76 to 103.
use Rattle.std.specs.Prelude.{ℕ, ◌%◌, Bool, not, ◌&&◌, List, [], ◌∷◌, map, codes, ◌==◌, nat_le}
use Rattle.fields.specs.Extensions.{gf1024}
use Rattle.fields.specs.Gf32.{Gf32, gf32}
use Rattle.fields.specs.declared.pair.Pair.{Pair}
use Rattle.kinds.specs.Code.{Code}
use Rattle.kinds.specs.Embedding.{embedded}
use Rattle.kinds.specs.Characters.{place}

-- the character of the symbol with number i stands at place i
abbrev pub letters : List ℕ
letters = codes "QPZRY9X8GF2TVDW0S3JN54KHCE6MUA7L"

-- the symbols of a text in capitals
abbrev pub spelled : List ℕ → List Gf32
spelled text = map (λ c. gf32.element (place letters c)) text

-- a payload of whole bytes, five bits to a symbol, never leaves one of these remainders
abbrev pub whole : ℕ → Bool
whole n = not (n % 8 == 1) && (not (n % 8 == 3) && not (n % 8 == 6))

-- what the two codes differ in
pub record Parts : Type 0 where
  pub generator : List Gf32
  pub target : List Gf32
  pub checks : ℕ
  pub base : Pair Gf32
  pub first : ℕ
  -- the fewest and the most symbols of a payload, and bytes that one may hold
  pub shortest : ℕ
  pub longest : ℕ
  pub fewest_bytes : ℕ
  pub most_bytes : ℕ

abbrev pub letters_code : Parts → Code Gf32 (Pair Gf32)
letters_code parts = record {
  prefix = codes "MS1";
  alphabet = letters;
  secret = gf32.element 16;
  start = map gf32.element (1 ∷ 3 ∷ 3 ∷ 0 ∷ 13 ∷ 19 ∷ []);
  generator = parts.generator;
  target = parts.target;
  checks = parts.checks;
  embed = embedded gf32;
  base = parts.base;
  first = parts.first;
  allows = λ n. nat_le parts.shortest n && (nat_le n parts.longest && whole n);
}

-- the counts of bytes that a code takes
abbrev pub letters_bytes : Parts → ℕ → Bool
letters_bytes parts m = nat_le parts.fewest_bytes m && nat_le m parts.most_bytes

abbrev pub short_parts : Parts
short_parts = record {
  generator = map gf32.element (25 ∷ 27 ∷ 17 ∷ 8 ∷ 0 ∷ 25 ∷ 25 ∷ 25 ∷ 31 ∷ 27 ∷ 24 ∷ 16 ∷ 16 ∷ []);
  target = spelled (codes "SECRETSHARE32");
  checks = 13;
  base = gf1024.element 256;
  first = 77;
  shortest = 26;
  longest = 74;
  fewest_bytes = 16;
  most_bytes = 46;
}

abbrev pub long_parts : Parts
long_parts = record {
  generator = map gf32.element (15 ∷ 10 ∷ 25 ∷ 26 ∷ 9 ∷ 25 ∷ 21 ∷ 6 ∷ 23 ∷ 21 ∷ 6 ∷ 5 ∷ 22 ∷ 4 ∷ 23 ∷ []);
  target = spelled (codes "SECRETSHARE32EX");
  checks = 15;
  base = gf1024.element 217;
  first = 1019;
  shortest = 76;
  longest = 103;
  fewest_bytes = 47;
  most_bytes = 64;
}

abbrev pub short_letters : Code Gf32 (Pair Gf32)
short_letters = letters_code short_parts

abbrev pub long_letters : Code Gf32 (Pair Gf32)
long_letters = letters_code long_parts

abbrev pub short_bytes : ℕ → Bool
short_bytes = letters_bytes short_parts

abbrev pub long_bytes : ℕ → Bool
long_bytes = letters_bytes long_parts
