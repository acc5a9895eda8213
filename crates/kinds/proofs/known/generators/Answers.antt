use Rattle.std.proofs.Common.{refl}
use Rattle.fields.specs.Extensions.{gf121, gf1024}
use Rattle.fields.specs.Gf32.{product, times_a}
use Rattle.fields.proofs.Extensions.{gf121_laws, gf1024_laws}
use Rattle.kinds.proofs.Numbers.{same_words}
use Rattle.kinds.proofs.known.generators.Goals as goal

pub returns : goal.returns
unfolding times_a product
returns c = record {
  short = same_words gf1024 gf1024_laws _ _ refl;
  long = same_words gf1024 gf1024_laws _ _ refl;
  digit = same_words gf121 gf121_laws _ _ refl;
}
