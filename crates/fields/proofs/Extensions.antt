-- GF(1024) and GF(121) are fields.
use Rattle.std.proofs.Common.{lit≤}
use Rattle.fields.specs.Field.{FieldLaws}
use Rattle.fields.specs.Gf11.{gf11, gf11_u, gf11_v}
use Rattle.fields.specs.Gf32.{gf32, gf32_u, gf32_v}
use Rattle.fields.specs.Extensions.{gf121, gf1024}
use Rattle.fields.specs.PairsLemmas.{pair_laws}
use Rattle.fields.specs.Polynomials.{gf32_laws, gf32_rootless}
use Rattle.fields.specs.Residues.{gf11_laws, gf11_rootless}

pub gf1024_laws : FieldLaws gf1024
gf1024_laws = pair_laws gf32 gf32_laws gf32_u gf32_v gf32_rootless (lit≤ tt)

pub gf121_laws : FieldLaws gf121
gf121_laws = pair_laws gf11 gf11_laws gf11_u gf11_v gf11_rootless (lit≤ tt)
