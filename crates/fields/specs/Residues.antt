-- The whole numbers modulo 11 are a field, and -1 is no square.
use Rattle.std.specs.Prelude.{refl}
use Rattle.std.proofs.Common.{lit≤}
use Rattle.fields.specs.Field.{FieldLaws, Rootless}
use Rattle.fields.specs.Gf11.{gf11, gf11_rules, gf11_u, gf11_v}
use Rattle.fields.specs.BelowLemmas.{below_laws, below_rootless}

pub gf11_laws : FieldLaws gf11
gf11_laws = below_laws gf11_rules (lit≤ tt) refl (refl, refl, refl, refl, refl, refl, refl, refl, refl)

pub gf11_rootless : Rootless gf11 gf11_u gf11_v
gf11_rootless = below_rootless gf11_rules gf11_u gf11_v refl
