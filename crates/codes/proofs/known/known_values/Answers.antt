use Rattle.std.proofs.Common.{◌≡◌, ℕ, refl, ap, ◌∙◌, ap₂}
use Rattle.fields.specs.Extensions.{gf121, gf1024}
use Rattle.fields.specs.Field.{Operations, FieldLaws}
use Rattle.fields.specs.Gf11.{gf11}
use Rattle.fields.specs.Gf32.{gf32, product, times_a}
use Rattle.fields.proofs.Extensions.{gf121_laws, gf1024_laws}
use Rattle.fields.specs.Polynomials.{gf32_laws}
use Rattle.fields.specs.Residues.{gf11_laws}
use Rattle.kinds.proofs.Numbers.{same_words}
use Rattle.codes.proofs.known.known_values.Goals as goal

-- what is computed at the elements with some numbers holds of every element with those numbers
module _ {E : Type 0} (F : Operations E) (laws : FieldLaws F) where
  one : (r : E → ℕ) (a : E) (m : ℕ) → r a ≡ m → (x : E) → F.number x ≡ F.number a → r x ≡ m
  one r a m e x h = ap r (laws.same x a h) ∙ e

  two : (r : E → E → ℕ) (a b : E) (m : ℕ) → r a b ≡ m → (x y : E) → F.number x ≡ F.number a → F.number y ≡ F.number b → r x y ≡ m
  two r a b m e x y h i = ap₂ r (laws.same x a h) (laws.same y b i) ∙ e

pub returns : goal.returns
unfolding times_a product
returns c = record {
  gf32_2_times_16 = two gf32 gf32_laws _ (gf32.element 2) (gf32.element 16) _ refl;
  gf32_inverse_of_5 = one gf32 gf32_laws _ (gf32.element 5) _ refl;
  gf11_7_times_8 = two gf11 gf11_laws _ (gf11.element 7) (gf11.element 8) _ refl;
  gf11_3_minus_5 = two gf11 gf11_laws _ (gf11.element 3) (gf11.element 5) _ refl;
  gf1024_32_squared = one gf1024 gf1024_laws _ (gf1024.element 32) _ refl;
  gf1024_256_squared = one gf1024 gf1024_laws _ (gf1024.element 256) _ refl;
  gf1024_256_to_31 = one gf1024 gf1024_laws _ (gf1024.element 256) _ refl;
  gf121_23_squared = one gf121 gf121_laws _ (gf121.element 23) _ refl;
  gf121_23_to_6 = one gf121 gf121_laws _ (gf121.element 23) _ refl;
  gf121_23_to_30 = one gf121 gf121_laws _ (gf121.element 23) _ refl;
  digit_generator_first = refl;
  digit_generator_last = refl;
  bip93_share = same_words gf32 gf32_laws _ _ refl;
}
