-- The code over the digits and X, for 4 to 40 payload symbols.
use Rattle.std.specs.Prelude.{◌&&◌, [], ◌∷◌, map, replicate, codes, nat_le}
use Rattle.fields.specs.Extensions.{gf121}
use Rattle.fields.specs.Gf11.{Gf11, gf11}
use Rattle.fields.specs.declared.pair.Pair.{Pair}
use Rattle.kinds.specs.Code.{Code}
use Rattle.kinds.specs.Embedding.{embedded}

abbrev pub digits : Code Gf11 (Pair Gf11)
digits = record {
  prefix = codes "NP1";
  alphabet = codes "0123456789X";
  secret = gf11.element 0;
  start = map gf11.element (1 ∷ []);
  generator = map gf11.element (3 ∷ 6 ∷ 2 ∷ 2 ∷ 0 ∷ 4 ∷ 10 ∷ 2 ∷ 9 ∷ 8 ∷ 7 ∷ 4 ∷ 10 ∷ 8 ∷ []);
  target = replicate 14 gf11.zero;
  checks = 14;
  embed = embedded gf11;
  base = gf121.element 23;
  first = 6;
  allows = λ n. nat_le 4 n && nat_le n 40;
}
