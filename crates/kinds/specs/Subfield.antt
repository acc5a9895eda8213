-- Symbols as pairs: sums and products stay what they are, and no two symbols become one pair.
use Rattle.std.specs.Prelude.{◌≡◌, refl}
use Rattle.std.proofs.Common.{sym, ap, ap₂}
use Rattle.fields.specs.Field.{Operations, FieldLaws}
use Rattle.fields.specs.Pairs.{pair, pairs, high}
use Rattle.fields.specs.Ring.{ring}
use Rattle.kinds.specs.Embedding.{embedded}

-- f takes the operations of F to those of G, and different elements to different ones
pub record Embeds {E C : Type 0} (F : Operations E) (G : Operations C) (f : E → C) : Type 0 where
  pub plus : (x y : E) → f (F.plus x y) ≡ G.plus (f x) (f y)
  pub times : (x y : E) → f (F.times x y) ≡ G.times (f x) (f y)
  pub zero : f F.zero ≡ G.zero
  pub one : f F.one ≡ G.one
  pub same : (x y : E) → f x ≡ f y → x ≡ y

module _ {E : Type 0} (F : Operations E) (laws : FieldLaws F) (u v : E) where
  open F use {plus as ◌⊕◌, times as ◌⊗◌, zero as 𝟘}

  infixl 60 ◌⊕◌
  infixl 70 ◌⊗◌
  low_of : (x y : E) → x ⊗ y ⊕ v ⊗ (𝟘 ⊗ 𝟘) ≡ x ⊗ y
  low_of x y = simp ring

  high_of : (x y : E) → high F u v x 𝟘 y 𝟘 ≡ 𝟘
  high_of x y = simp ring

  pub embeds : Embeds F (pairs F u v) (embedded F)
  embeds = record {
    plus = λ x y. ap₂ pair refl (sym (laws.plus_zero 𝟘));
    times = λ x y. ap₂ pair (sym (low_of x y)) (sym (high_of x y));
    zero = refl;
    one = refl;
    same = λ x y e. ap (λ p. p.lo) e;
  }
