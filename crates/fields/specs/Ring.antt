-- What the laws of a field give at once: zero, negation, cancellation, no zero divisors, equality by number.
use Rattle.std.specs.Prelude.{◌≡◌, ◌≢◌}
use Rattle.std.proofs.Common.{sym, ap, ◌∙◌}
use Rattle.std.proofs.Math.Decide.{ℕ_discrete}
use Rattle.fields.specs.Field.{Operations, FieldLaws}

module _ {E : Type 0} (F : Operations E) (laws : FieldLaws F) where
  open F use {plus as ◌⊕◌, times as ◌⊗◌, zero as 𝟘, one as 𝟙, neg, inv}

  infixl 60 ◌⊕◌
  infixl 70 ◌⊗◌
  -- the laws as lemmas, for the rulesets below
  pub plus_assoc : (x y z : E) → x ⊕ y ⊕ z ≡ x ⊕ (y ⊕ z)
  plus_assoc = laws.plus_assoc

  pub plus_comm : (x y : E) → x ⊕ y ≡ y ⊕ x
  plus_comm = laws.plus_comm

  pub plus_zero : (x : E) → x ⊕ 𝟘 ≡ x
  plus_zero = laws.plus_zero

  pub plus_neg : (x : E) → x ⊕ neg x ≡ 𝟘
  plus_neg = laws.plus_neg

  pub times_assoc : (x y z : E) → x ⊗ y ⊗ z ≡ x ⊗ (y ⊗ z)
  times_assoc = laws.times_assoc

  pub times_comm : (x y : E) → x ⊗ y ≡ y ⊗ x
  times_comm = laws.times_comm

  pub times_one : (x : E) → x ⊗ 𝟙 ≡ x
  times_one = laws.times_one

  pub times_plus : (x y z : E) → x ⊗ (y ⊕ z) ≡ x ⊗ y ⊕ x ⊗ z
  times_plus = laws.times_plus

  pub times_inv : (x : E) → (x ≢ 𝟘) → x ⊗ inv x ≡ 𝟙
  times_inv = laws.times_inv

  pub zero_plus : (x : E) → 𝟘 ⊕ x ≡ x
  zero_plus x = plus_comm 𝟘 x ∙ plus_zero x

  pub plus_left_comm : (x y z : E) → x ⊕ (y ⊕ z) ≡ y ⊕ (x ⊕ z)
  plus_left_comm x y z = sym (plus_assoc x y z) ∙ ap (λ w. w ⊕ z) (plus_comm x y) ∙ plus_assoc y x z

  pub one_times : (x : E) → 𝟙 ⊗ x ≡ x
  one_times x = times_comm 𝟙 x ∙ times_one x

  pub times_left_comm : (x y z : E) → x ⊗ (y ⊗ z) ≡ y ⊗ (x ⊗ z)
  times_left_comm x y z = sym (times_assoc x y z) ∙ ap (λ w. w ⊗ z) (times_comm x y) ∙ times_assoc y x z

  pub plus_times : (x y z : E) → (x ⊕ y) ⊗ z ≡ x ⊗ z ⊕ y ⊗ z
  plus_times x y z = simp (times_comm, times_plus)

  pub neg_plus : (x : E) → neg x ⊕ x ≡ 𝟘
  neg_plus x = plus_comm (neg x) x ∙ plus_neg x

  -- a sum keeps its value when x is added and taken away
  pub neg_plus_plus : (x y : E) → neg x ⊕ (x ⊕ y) ≡ y
  neg_plus_plus x y = sym (plus_assoc (neg x) x y) ∙ ap (λ w. w ⊕ y) (neg_plus x) ∙ zero_plus y

  pub plus_neg_plus : (x y : E) → x ⊕ (neg x ⊕ y) ≡ y
  plus_neg_plus x y = plus_left_comm x (neg x) y ∙ neg_plus_plus x y

  pub plus_cancel : (x y z : E) → x ⊕ y ≡ x ⊕ z → y ≡ z
  plus_cancel x y z e = sym (neg_plus_plus x y) ∙ ap (λ w. neg x ⊕ w) e ∙ neg_plus_plus x z

  pub times_zero : (x : E) → x ⊗ 𝟘 ≡ 𝟘
  times_zero x = plus_cancel (x ⊗ 𝟘) (x ⊗ 𝟘) 𝟘 (sym (times_plus x 𝟘 𝟘) ∙ ap (λ w. x ⊗ w) (plus_zero 𝟘) ∙ sym (plus_zero (x ⊗ 𝟘)))

  pub zero_times : (x : E) → 𝟘 ⊗ x ≡ 𝟘
  zero_times x = times_comm 𝟘 x ∙ times_zero x

  -- the negative of x is the one element that x and it sum to zero
  pub neg_unique : (x y : E) → x ⊕ y ≡ 𝟘 → y ≡ neg x
  neg_unique x y e = plus_cancel x y (neg x) (e ∙ sym (plus_neg x))

  pub neg_neg : (x : E) → neg (neg x) ≡ x
  neg_neg x = sym (neg_unique (neg x) x (neg_plus x))

  pub neg_zero : neg 𝟘 ≡ 𝟘
  neg_zero = sym (neg_unique 𝟘 𝟘 (plus_zero 𝟘))

  pub times_neg : (x y : E) → x ⊗ neg y ≡ neg (x ⊗ y)
  times_neg x y = neg_unique (x ⊗ y) (x ⊗ neg y) (sym (times_plus x y (neg y)) ∙ ap (λ w. x ⊗ w) (plus_neg y) ∙ times_zero x)

  pub neg_times : (x y : E) → neg x ⊗ y ≡ neg (x ⊗ y)
  neg_times x y = times_comm (neg x) y ∙ times_neg y x ∙ ap neg (times_comm y x)

  pub neg_of_plus : (x y : E) → neg (x ⊕ y) ≡ neg x ⊕ neg y
  neg_of_plus x y = sym (neg_unique (x ⊕ y) (neg x ⊕ neg y) (plus_assoc x y (neg x ⊕ neg y) ∙ ap (λ w. x ⊕ w) (plus_left_comm y (neg x) (neg y)) ∙ plus_neg_plus x (y ⊕ neg y) ∙ plus_neg y))

  -- two elements whose difference is zero are one
  pub minus_zero : (x y : E) → x ⊕ neg y ≡ 𝟘 → x ≡ y
  minus_zero x y e = plus_cancel (neg y) x y (plus_comm (neg y) x ∙ e ∙ sym (neg_plus y))

  pub minus_nonzero : (x y : E) → (x ≢ y) → x ⊕ neg y ≡ 𝟘 → ⊥
  minus_nonzero x y apart e = apart (minus_zero x y e)

  pub inv_times : (x y : E) → (x ≢ 𝟘) → inv x ⊗ (x ⊗ y) ≡ y
  inv_times x y nonzero = sym (times_assoc (inv x) x y) ∙ ap (λ w. w ⊗ y) (times_comm (inv x) x ∙ times_inv x nonzero) ∙ one_times y

  pub times_cancel : (x y z : E) → (x ≢ 𝟘) → x ⊗ y ≡ x ⊗ z → y ≡ z
  times_cancel x y z nonzero e = sym (inv_times x y nonzero) ∙ ap (λ w. inv x ⊗ w) e ∙ inv_times x z nonzero

  -- there are no zero divisors
  pub factor_zero : (x y : E) → (x ≢ 𝟘) → x ⊗ y ≡ 𝟘 → y ≡ 𝟘
  factor_zero x y nonzero e = times_cancel x y 𝟘 nonzero (e ∙ sym (times_zero x))

  pub times_nonzero : (x y : E) → (x ≢ 𝟘) → (y ≢ 𝟘) → x ⊗ y ≡ 𝟘 → ⊥
  times_nonzero x y x_nonzero y_nonzero e = y_nonzero (factor_zero x y x_nonzero e)

  -- an element is the one with its number
  pub element_number : (x : E) → F.element (F.number x) ≡ x
  element_number x = laws.same (F.element (F.number x)) x (laws.numbered (F.number x) (laws.below x))

  -- equality of elements is decided by their numbers
  pub decide : (x y : E) → Dec (x ≡ y)
  decide x y = elim (ℕ_discrete (F.number x) (F.number y)) [ yes e ↦ yes (laws.same x y e) | no d ↦ no (λ e. d (ap F.number e)) ]

-- x and neg x in one sum, some terms apart
module _ {E : Type 0} (F : Operations E) (laws : FieldLaws F) where
  open F use {plus as ◌⊕◌, neg}

  infixr 60 ◌⊕◌
  pub cancel_1 : (x a : E) → x ⊕ a ⊕ neg x ≡ a
  cancel_1 x a = plus_left_comm F laws x a (neg x) ∙ ap (λ w. a ⊕ w) (plus_neg F laws x) ∙ plus_zero F laws a

  pub cancel_1_more : (x a z : E) → x ⊕ a ⊕ neg x ⊕ z ≡ a ⊕ z
  cancel_1_more x a z = plus_left_comm F laws x a (neg x ⊕ z) ∙ ap (λ w. a ⊕ w) (plus_neg_plus F laws x z)

  pub cancel_2 : (x a b : E) → x ⊕ a ⊕ b ⊕ neg x ≡ a ⊕ b
  cancel_2 x a b = plus_left_comm F laws x a (b ⊕ neg x) ∙ ap (λ w. a ⊕ w) (cancel_1 x b)

  pub cancel_2_more : (x a b z : E) → x ⊕ a ⊕ b ⊕ neg x ⊕ z ≡ a ⊕ b ⊕ z
  cancel_2_more x a b z = plus_left_comm F laws x a (b ⊕ neg x ⊕ z) ∙ ap (λ w. a ⊕ w) (cancel_1_more x b z)

  pub cancel_3 : (x a b c : E) → x ⊕ a ⊕ b ⊕ c ⊕ neg x ≡ a ⊕ b ⊕ c
  cancel_3 x a b c = plus_left_comm F laws x a (b ⊕ c ⊕ neg x) ∙ ap (λ w. a ⊕ w) (cancel_2 x b c)

  pub cancel_3_more : (x a b c z : E) → x ⊕ a ⊕ b ⊕ c ⊕ neg x ⊕ z ≡ a ⊕ b ⊕ c ⊕ z
  cancel_3_more x a b c z = plus_left_comm F laws x a (b ⊕ c ⊕ neg x ⊕ z) ∙ ap (λ w. a ⊕ w) (cancel_2_more x b c z)

  pub cancel_4 : (x a b c d : E) → x ⊕ a ⊕ b ⊕ c ⊕ d ⊕ neg x ≡ a ⊕ b ⊕ c ⊕ d
  cancel_4 x a b c d = plus_left_comm F laws x a (b ⊕ c ⊕ d ⊕ neg x) ∙ ap (λ w. a ⊕ w) (cancel_3 x b c d)

  pub cancel_4_more : (x a b c d z : E) → x ⊕ a ⊕ b ⊕ c ⊕ d ⊕ neg x ⊕ z ≡ a ⊕ b ⊕ c ⊕ d ⊕ z
  cancel_4_more x a b c d z = plus_left_comm F laws x a (b ⊕ c ⊕ d ⊕ neg x ⊕ z) ∙ ap (λ w. a ⊕ w) (cancel_3_more x b c d z)

  pub cancel_5 : (x a b c d e : E) → x ⊕ a ⊕ b ⊕ c ⊕ d ⊕ e ⊕ neg x ≡ a ⊕ b ⊕ c ⊕ d ⊕ e
  cancel_5 x a b c d e = plus_left_comm F laws x a (b ⊕ c ⊕ d ⊕ e ⊕ neg x) ∙ ap (λ w. a ⊕ w) (cancel_4 x b c d e)

  pub cancel_5_more : (x a b c d e z : E) → x ⊕ a ⊕ b ⊕ c ⊕ d ⊕ e ⊕ neg x ⊕ z ≡ a ⊕ b ⊕ c ⊕ d ⊕ e ⊕ z
  cancel_5_more x a b c d e z = plus_left_comm F laws x a (b ⊕ c ⊕ d ⊕ e ⊕ neg x ⊕ z) ∙ ap (λ w. a ⊕ w) (cancel_4_more x b c d e z)

-- Products multiplied out, and sums and products sorted: `simp ring` proves an identity of commutative rings in which no
-- two terms cancel. A negative is one more unknown there.
pub ruleset ring = (plus_zero, zero_plus, times_zero, zero_times, times_one, one_times, times_plus, plus_times, plus_assoc, plus_comm, plus_left_comm, times_assoc, times_comm, times_left_comm)

-- The same with negatives: they go inwards, and x and neg x cancel if at most five terms of the sorted sum stand between
-- them (the positive terms are sorted before the negative ones).
pub ruleset ring_neg = (times_neg, neg_times, neg_neg, neg_of_plus, neg_zero, plus_neg, plus_neg_plus, cancel_1, cancel_1_more, cancel_2, cancel_2_more, cancel_3, cancel_3_more, cancel_4, cancel_4_more, cancel_5, cancel_5_more, ring)

-- examples
module _ {E : Type 0} (F : Operations E) (laws : FieldLaws F) where
  open F use {plus as ◌⊕◌, times as ◌⊗◌, neg}

  infixl 60 ◌⊕◌
  infixl 70 ◌⊗◌
  squares : (a b : E) → (a ⊕ b) ⊗ (a ⊕ b) ≡ a ⊗ a ⊕ (a ⊗ b ⊕ a ⊗ b) ⊕ b ⊗ b
  squares a b = simp ring

  cubes : (a b : E) → (a ⊕ neg b) ⊗ (a ⊗ a ⊕ a ⊗ b ⊕ b ⊗ b) ≡ a ⊗ a ⊗ a ⊕ neg (b ⊗ b ⊗ b)
  cubes a b = simp ring_neg

  differences : (a b c : E) → (a ⊕ neg b) ⊗ (b ⊕ neg c) ⊗ (c ⊕ neg a) ≡ a ⊗ a ⊗ (c ⊕ neg b) ⊕ b ⊗ b ⊗ (a ⊕ neg c) ⊕ c ⊗ c ⊗ (b ⊕ neg a)
  differences a b c = simp ring_neg
