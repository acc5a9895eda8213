-- The two extensions that error correction works in: the pairs over GF(32), with t × t = t + 1, and over GF(11), with t × t = -1.
use Rattle.fields.specs.Field.{Operations}
use Rattle.fields.specs.Gf11.{Gf11, gf11, gf11_u, gf11_v}
use Rattle.fields.specs.Gf32.{Gf32, gf32, gf32_u, gf32_v}
use Rattle.fields.specs.Pairs.{pairs}
use Rattle.fields.specs.declared.pair.Pair.{Pair}

abbrev pub gf1024 : Operations (Pair Gf32)
gf1024 = pairs gf32 gf32_u gf32_v

abbrev pub gf121 : Operations (Pair Gf11)
gf121 = pairs gf11 gf11_u gf11_v
