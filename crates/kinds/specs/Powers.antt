-- Powers of one element of a field, and rules for many of them by one test that antt computes.
use Rattle.std.specs.Prelude.{◌≡◌, ℕ, zero, suc, ◌+◌, ◌-◌, ◌<◌, ◌≤◌, Bool, true, ◌&&◌, ◌≢◌}
use Rattle.std.proofs.Common.{◌∙◌, sym, ap, not-suc-le-zero, le_of_suc-le-suc, zero-add, suc-add, arith}
use Rattle.std.proofs.Math.Decide.{dec_le}
use Rattle.std.proofs.lemmas.Bool.{and_parts}
use Rattle.fields.specs.Field.{Operations, FieldLaws, power}
use Rattle.fields.specs.Ring.{one_times, times_left_comm, times_cancel, times_nonzero}

-- the test passes at y, b × y, b × b × y and so on, n elements in all
abbrev pub steps : {C : Type 0} → Operations C → (C → Bool) → C → ℕ → C → Bool
steps G test b zero y = true
steps G test b (suc n) y = test y && steps G test b n (G.times b y)

module _ {C : Type 0} (G : Operations C) (laws : FieldLaws G) where
  open G use {times as ◌⊗◌, zero as 𝟘, one as 𝟙}

  infixl 70 ◌⊗◌
  pub power_plus : (x : C) (m n : ℕ) → power G x (m + n) ≡ power G x m ⊗ power G x n
  power_plus x zero n = ap (power G x) (zero-add n) ∙ sym (one_times G laws (power G x n))
  power_plus x (suc m) n = ap (power G x) (suc-add m n) ∙ ap (λ y. x ⊗ y) (power_plus x m n) ∙ sym (laws.times_assoc x (power G x m) (power G x n))

  pub power_nonzero : (x : C) → (x ≢ 𝟘) → (n : ℕ) → power G x n ≢ 𝟘
  power_nonzero x nonzero zero = laws.one_zero
  power_nonzero x nonzero (suc n) = times_nonzero G laws x (power G x n) nonzero (power_nonzero x nonzero n)

  -- what `steps` says of the element at place i
  pub step : (test : C → Bool) (b : C) (n : ℕ) (y : C) → steps G test b n y ≡ true → (i : ℕ) → i < n → test (power G b i ⊗ y) ≡ true
  step test b zero y t i h = absurd (not-suc-le-zero h)
  step test b (suc n) y t zero h = ap test (one_times G laws y) ∙ (and_parts (test y) _ t).0
  step test b (suc n) y t (suc i) h =
      ap test (laws.times_assoc b (power G b i) y ∙ times_left_comm G laws b (power G b i) y)
      ∙ step test b n (b ⊗ y) (and_parts (test y) _ t).1 i (le_of_suc-le-suc h)

  -- Powers below n are different, where none of them but the first is one.

  module _ (b : C) (nonzero : b ≡ 𝟘 → ⊥) (n : ℕ) (not_one : (i : ℕ) → 0 < i → i < n → power G b i ≢ 𝟙) where
    apart_up : (i k : ℕ) → i + k < n → power G b i ≡ power G b (i + k) → i ≡ i + k
    apart_up i zero h e = omega arith
    apart_up i (suc k) h e =
        absurd (not_one (suc k) (omega arith) (omega arith) (sym (times_cancel G laws (power G b i) 𝟙 (power G b (suc k)) (power_nonzero b nonzero i) (laws.times_one (power G b i) ∙ e ∙ power_plus b i (suc k)))))

    ordered : (i j : ℕ) → i ≤ j → j < n → power G b i ≡ power G b j → i ≡ j
    ordered i j up h e =
        let sum : i + (j - i) ≡ j = omega arith in
        apart_up i (j - i) (omega arith) (e ∙ ap (power G b) (sym sum)) ∙ sum

    pub powers_apart : (i j : ℕ) → i < n → j < n → power G b i ≡ power G b j → i ≡ j
    powers_apart i j hi hj e = elim (dec_le i j) [ yes up ↦ ordered i j up hj e | no down ↦ sym (ordered j i (omega arith) hi (sym e)) ]
