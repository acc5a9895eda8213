-- Laws of a field with few elements, each by one test at the elements with all numbers below its order, which antt computes.
use Rattle.std.specs.Prelude.{◌≡◌, ℕ, zero, suc, ◌<◌, ◌≤◌, Bool, true, not, ◌==◌, ◌≢◌, refl}
use Rattle.std.proofs.Common.{◌∙◌, sym, ap, subst, subst₂, arith}
use Rattle.std.proofs.Math.Path.{subst₃}
use Rattle.std.proofs.lemmas.Bool.{both_ways, eq-eqb, eqb-true, not-true}
use Rattle.fields.specs.Field.{Operations, FieldLaws, Rootless}
use Rattle.fields.specs.Each.{Each, Each₂, Each₃, at, at₂, at₃}

module _ {E : Type 0} (F : Operations E) where
  open F use {element as of}

  abbrev agree : E → E → Bool
  agree x y = F.number x == F.number y

  -- x times its inverse is one, unless x is zero
  abbrev inverts : ℕ → Bool
  inverts zero = true
  inverts (suc n) = agree (F.times (of (suc n)) (F.inv (of (suc n)))) F.one

  -- the laws of sums and products, as tests
  abbrev pub Tests : Type 0
  Tests =
      Each₃ F.order (λ a b c. agree (F.plus (F.plus (of a) (of b)) (of c)) (F.plus (of a) (F.plus (of b) (of c))))
      × Each₂ F.order (λ a b. agree (F.plus (of a) (of b)) (F.plus (of b) (of a)))
      × Each F.order (λ a. agree (F.plus (of a) F.zero) (of a))
      × Each F.order (λ a. agree (F.plus (of a) (F.neg (of a))) F.zero)
      × Each₃ F.order (λ a b c. agree (F.times (F.times (of a) (of b)) (of c)) (F.times (of a) (F.times (of b) (of c))))
      × Each₂ F.order (λ a b. agree (F.times (of a) (of b)) (F.times (of b) (of a)))
      × Each F.order (λ a. agree (F.times (of a) F.one) (of a))
      × Each₃ F.order (λ a b c. agree (F.times (of a) (F.plus (of b) (of c))) (F.plus (F.times (of a) (of b)) (F.times (of a) (of c))))
      × Each F.order inverts

  -- t × t = u × t + v has no root, as a test
  abbrev pub NoRoot : E → E → Type 0
  NoRoot u v = Each F.order (λ a. not (agree (F.times (of a) (of a)) (F.plus (F.times u (of a)) v)))

  module _ (below : (x : E) → F.number x < F.order) (found : (x : E) → of (F.number x) ≡ x) where
    pub same : (x y : E) → F.number x ≡ F.number y → x ≡ y
    same x y e = sym (found x) ∙ ap of e ∙ found y

    law : (l r : E → E) → Each F.order (λ a. agree (l (of a)) (r (of a))) → (x : E) → l x ≡ r x
    law l r t x = subst (λ x. l x ≡ r x) (found x) (same _ _ (eqb-true _ _ (at F.order _ t (F.number x) (below x))))

    law₂ : (l r : E → E → E) → Each₂ F.order (λ a b. agree (l (of a) (of b)) (r (of a) (of b))) → (x y : E) → l x y ≡ r x y
    law₂ l r t x y =
        subst₂ (λ x y. l x y ≡ r x y) (found x) (found y) (same _ _ (eqb-true _ _ (at₂ F.order _ t (F.number x) (F.number y) (below x) (below y))))

    law₃ : (l r : E → E → E → E) → Each₃ F.order (λ a b c. agree (l (of a) (of b) (of c)) (r (of a) (of b) (of c))) → (x y z : E) → l x y z ≡ r x y z
    law₃ l r t x y z =
        subst₃ (λ x y z. l x y z ≡ r x y z) (found x) (found y) (found z)
        (same _ _ (eqb-true _ _ (at₃ F.order _ t (F.number x) (F.number y) (F.number z) (below x) (below y) (below z))))

    inverse : (n : ℕ) → inverts n ≡ true → (n ≢ 0) → F.times (of n) (F.inv (of n)) ≡ F.one
    inverse zero t nonzero = absurd (nonzero refl)
    inverse (suc n) t nonzero = same _ _ (eqb-true _ _ t)

    law_inv : F.number F.zero ≡ 0 → Each F.order inverts → (x : E) → (x ≢ F.zero) → F.times x (F.inv x) ≡ F.one
    law_inv number_zero t x nonzero =
        subst (λ x. F.times x (F.inv x) ≡ F.one) (found x)
        (inverse (F.number x) (at F.order inverts t (F.number x) (below x)) (λ e. nonzero (same _ _ (e ∙ sym number_zero))))

    pub rootless : (u v : E) → NoRoot u v → Rootless F u v
    rootless u v t e root =
        both_ways _ (not-true _ (at F.order _ t (F.number e) (below e)))
        (eq-eqb _ _ (subst (λ x. F.number (F.times x x) ≡ F.number (F.plus (F.times u x) v)) (sym (found e)) (ap F.number root)))

    pub laws_from : F.order ≤ 1024 → ((n : ℕ) → n < F.order → F.number (of n) ≡ n) → F.number F.zero ≡ 0 → F.number F.one ≡ 1 → Tests → FieldLaws F
    laws_from few numbered number_zero number_one tests = record {
      few = few;
      below = below;
      same = same;
      numbered = numbered;
      number_zero = number_zero;
      number_one = number_one;
      plus_assoc = law₃ (λ x y z. F.plus (F.plus x y) z) (λ x y z. F.plus x (F.plus y z)) tests.0;
      plus_comm = law₂ (λ x y. F.plus x y) (λ x y. F.plus y x) tests.1;
      plus_zero = law (λ x. F.plus x F.zero) (λ x. x) tests.2;
      plus_neg = law (λ x. F.plus x (F.neg x)) (λ _. F.zero) tests.3;
      times_assoc = law₃ (λ x y z. F.times (F.times x y) z) (λ x y z. F.times x (F.times y z)) tests.4;
      times_comm = law₂ (λ x y. F.times x y) (λ x y. F.times y x) tests.5;
      times_one = law (λ x. F.times x F.one) (λ x. x) tests.6;
      times_plus = law₃ (λ x y z. F.times x (F.plus y z)) (λ x y z. F.plus (F.times x y) (F.times x z)) tests.7;
      times_inv = law_inv number_zero tests.8;
      one_zero = λ e. let numbers : F.number F.one ≡ F.number F.zero = ap F.number e in omega arith;
    }
