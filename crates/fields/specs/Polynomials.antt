-- The polynomials in a with a^5 = a^3 + 1 are a field, and e × e = e + 1 has no root in it.
use Rattle.std.specs.Prelude.{refl}
use Rattle.std.proofs.Common.{lit≤}
use Rattle.fields.specs.Field.{FieldLaws, Rootless}
use Rattle.fields.specs.Gf32.{gf32, gf32_rules, gf32_u, gf32_v, product, times_a}
use Rattle.fields.specs.BelowLemmas.{below_laws, below_rootless}

pub gf32_laws : FieldLaws gf32
unfolding times_a product
gf32_laws = below_laws gf32_rules (lit≤ tt) refl (refl, refl, refl, refl, refl, refl, refl, refl, refl)

pub gf32_rootless : Rootless gf32 gf32_u gf32_v
unfolding times_a product
gf32_rootless = below_rootless gf32_rules gf32_u gf32_v refl
