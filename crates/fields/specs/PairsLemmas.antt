-- The pairs over a field are a field, where the equation t × t = u × t + v has no root in it.
-- The identities of sums and products are stated over variables, since `simp ring` does not sort terms such as p.lo.
use Rattle.std.specs.Prelude.{◌≡◌, ℕ, ◌+◌, ◌*◌, ◌/◌, ◌%◌, ◌<◌, ◌≤◌, ◌≢◌}
use Rattle.std.proofs.Common.{◌∙◌, sym, ap, ap₂, add_comm, mul_comm, mul-zero, mul-le-mul, mod-lt, div-lt_iff_lt-mul, div-add-mod'}
use Rattle.std.proofs.Math.Path.{◌≡⟨◌⟩◌, ◌∎}
use Rattle.std.proofs.Math.Arith.{digits_lt, digits_div, digits_mod}
use Rattle.fields.specs.Field.{Operations, FieldLaws, Rootless}
use Rattle.fields.specs.Pairs.{low, high, norm, pair, pairs}
use Rattle.fields.specs.declared.pair.Pair.{Pair}
use Rattle.fields.specs.Ring.{ring, ring_neg, decide, factor_zero, neg_neg, neg_zero, plus_neg}

-- pairs with the same parts are the same
by_parts : {E : Type 0} {p q : Pair E} → p.lo ≡ q.lo → p.hi ≡ q.hi → p ≡ q
by_parts e d = ap₂ pair e d

-- two digits to the base q, the low one first
digits : (a b q : ℕ) → a + q * b ≡ b * q + a
digits a b q = add_comm a (q * b) ∙ ap (λ n. n + a) (mul_comm q b)

module _ {E : Type 0} (F : Operations E) (laws : FieldLaws F) (u v : E) where
  infixl 60 ◌⊕◌
  infixl 70 ◌⊗◌
  open F use {plus as ◌⊕◌, times as ◌⊗◌, neg, inv, zero as 𝟎, one as 𝟏, number, order}

  pair_digits : (p : Pair E) → (pairs F u v).number p ≡ number p.hi * order + number p.lo
  pair_digits p = digits (number p.lo) (number p.hi) order

  low_digit : (p : Pair E) → (pairs F u v).number p % order ≡ number p.lo
  low_digit p = ap (λ n. n % order) (pair_digits p) ∙ digits_mod _ (laws.below p.lo)

  high_digit : (p : Pair E) → (pairs F u v).number p / order ≡ number p.hi
  high_digit p = ap (λ n. n / order) (pair_digits p) ∙ digits_div _ (laws.below p.lo)

  -- pairs with the same number are the same
  same_pair : (p q : Pair E) → (pairs F u v).number p ≡ (pairs F u v).number q → p ≡ q
  same_pair p q e =
      by_parts
      (laws.same _ _ (sym (low_digit p) ∙ ap (λ n. n % order) e ∙ low_digit q))
      (laws.same _ _ (sym (high_digit p) ∙ ap (λ n. n / order) e ∙ high_digit q))

  -- the parts of a number below order × order are numbers of elements
  numbered_pair : (n : ℕ) → n < order * order → (pairs F u v).number ((pairs F u v).element n) ≡ n
  numbered_pair n h =
      let positive : 0 < order = rw laws.number_zero at (laws.below 𝟎) in
      pair_digits ((pairs F u v).element n) ∙ ap₂ (λ d r. d * order + r) (laws.numbered (n / order) ((div-lt_iff_lt-mul positive).1 h)) (laws.numbered (n % order) (mod-lt n positive)) ∙ div-add-mod' n order

  -- The laws of the product, part by part. Those of the low part are written out, since `simp` does not look inside `low F u v a b c d`:
  -- it stays a call, as it stops at the operations of F, which is an argument. (`high` is opened by a rule that fits its outermost sum.)

  low_assoc : (a b c d m n : E)
      → (a ⊗ c ⊕ v ⊗ (b ⊗ d)) ⊗ m ⊕ v ⊗ (high F u v a b c d ⊗ n) ≡ a ⊗ (c ⊗ m ⊕ v ⊗ (d ⊗ n)) ⊕ v ⊗ (b ⊗ high F u v c d m n)
  low_assoc a b c d m n = simp ring

  high_assoc : (a b c d m n : E) → high F u v (low F u v a b c d) (high F u v a b c d) m n ≡ high F u v a b (low F u v c d m n) (high F u v c d m n)
  high_assoc a b c d m n = simp ring

  low_comm : (a b c d : E) → a ⊗ c ⊕ v ⊗ (b ⊗ d) ≡ c ⊗ a ⊕ v ⊗ (d ⊗ b)
  low_comm a b c d = simp ring

  high_comm : (a b c d : E) → high F u v a b c d ≡ high F u v c d a b
  high_comm a b c d = simp ring

  low_one : (a b : E) → a ⊗ 𝟏 ⊕ v ⊗ (b ⊗ 𝟎) ≡ a
  low_one a b = simp ring

  high_one : (a b : E) → high F u v a b 𝟏 𝟎 ≡ b
  high_one a b = simp ring

  low_plus : (a b c d m n : E) → a ⊗ (c ⊕ m) ⊕ v ⊗ (b ⊗ (d ⊕ n)) ≡ a ⊗ c ⊕ v ⊗ (b ⊗ d) ⊕ (a ⊗ m ⊕ v ⊗ (b ⊗ n))
  low_plus a b c d m n = simp ring

  high_plus : (a b c d m n : E) → high F u v a b (c ⊕ m) (d ⊕ n) ≡ high F u v a b c d ⊕ high F u v a b m n
  high_plus a b c d m n = simp ring

  -- the norm is the low part of the product with the conjugate
  norm_low : (a b : E) → norm F u v a b ≡ low F u v a b (a ⊕ u ⊗ b) (neg b)
  norm_low a b =
      let written_out : a ⊗ a ⊕ u ⊗ (a ⊗ b) ⊕ neg (v ⊗ (b ⊗ b)) ≡ a ⊗ (a ⊕ u ⊗ b) ⊕ v ⊗ (b ⊗ neg b) = simp ring_neg in
      written_out

  -- a + b × t times its conjugate times n, with c for - b: the norm times n, and nothing where c is - b
  low_conjugate : (a b c n : E) → low F u v a b ((a ⊕ u ⊗ b) ⊗ n) (c ⊗ n) ≡ low F u v a b (a ⊕ u ⊗ b) c ⊗ n
  low_conjugate a b c n = simp ring

  high_conjugate : (a b c n : E) → high F u v a b ((a ⊕ u ⊗ b) ⊗ n) (c ⊗ n) ≡ (a ⊗ (b ⊕ c) ⊕ u ⊗ (b ⊗ (b ⊕ c))) ⊗ n
  high_conjugate a b c n = simp ring

  -- the norm times i × i, with c for - b and e for a × i
  root_identity : (a b c i : E) → let e = a ⊗ i in let w = u ⊗ e ⊕ v ⊗ (c ⊗ i) in e ⊗ e ⊕ w ⊗ ((b ⊕ c) ⊗ i) ≡ low F u v a b (a ⊕ u ⊗ b) c ⊗ (i ⊗ i) ⊕ w ⊗ (c ⊗ i)
  root_identity a b c i = simp ring

  -- were the norm zero, - a / b would be a root
  root : (a b : E) → (neg b ≢ 𝟎) → norm F u v a b ≡ 𝟎 → let e = a ⊗ inv (neg b) in e ⊗ e ≡ u ⊗ e ⊕ v
  root a b nonzero norm_zero =
      let i = inv (neg b) in
      let e = a ⊗ i in
      let w = u ⊗ e ⊕ v ⊗ (neg b ⊗ i) in
      e ⊗ e ≡⟨ (simp (plus_neg, ring)) ⟩
      e ⊗ e ⊕ w ⊗ ((b ⊕ neg b) ⊗ i) ≡⟨ root_identity a b (neg b) i ⟩
      low F u v a b (a ⊕ u ⊗ b) (neg b) ⊗ (i ⊗ i) ⊕ w ⊗ (neg b ⊗ i) ≡⟨ ap (λ n. n ⊗ (i ⊗ i) ⊕ w ⊗ (neg b ⊗ i)) (sym (norm_low a b)) ⟩
      norm F u v a b ⊗ (i ⊗ i) ⊕ w ⊗ (neg b ⊗ i) ≡⟨ (simp (norm_zero, laws.times_inv (neg b) nonzero, ring)) ⟩
      u ⊗ e ⊕ v ∎

  -- the norm is zero at zero, and nowhere else
  pub norm_of_zero : norm F u v 𝟎 𝟎 ≡ 𝟎
  norm_of_zero = let written_out : 𝟎 ⊗ 𝟎 ⊕ u ⊗ (𝟎 ⊗ 𝟎) ⊕ neg (v ⊗ (𝟎 ⊗ 𝟎)) ≡ 𝟎 = simp ring_neg in written_out

  square_zero : (a : E) → a ⊗ a ≡ 𝟎 → a ≡ 𝟎
  square_zero a e = elim (decide F laws a 𝟎) [ yes zero ↦ zero | no nonzero ↦ factor_zero F laws a a nonzero e ]

  neg_nonzero : (b : E) → (b ≢ 𝟎) → neg b ≢ 𝟎
  neg_nonzero b nonzero e = nonzero (sym (neg_neg F laws b) ∙ ap neg e ∙ neg_zero F laws)

  pub zero_of_norm : Rootless F u v → (a b : E) → norm F u v a b ≡ 𝟎 → pair a b ≡ pair 𝟎 𝟎
  zero_of_norm rootless a b e =
      let written_out : a ⊗ (a ⊕ u ⊗ b) ⊕ v ⊗ (b ⊗ neg b) ≡ 𝟎 = sym (norm_low a b) ∙ e in
      elim (decide F laws b 𝟎) [
        | yes hi ↦ by_parts (square_zero a (simp (hi, ring) at written_out)) hi
        | no hi ↦ absurd (rootless _ (root a b (neg_nonzero b hi) e))
      ]

  pub pair_laws : Rootless F u v → order ≤ 32 → FieldLaws (pairs F u v)
  pair_laws rootless small = record {
    few = mul-le-mul small small;
    below = λ p. rw pair_digits (digits_lt (laws.below p.hi) (laws.below p.lo));
    same = same_pair;
    numbered = numbered_pair;
    number_zero = simp (laws.number_zero, mul-zero);
    number_one = simp (laws.number_zero, laws.number_one, mul-zero);
    plus_assoc = λ p q r. by_parts (laws.plus_assoc _ _ _) (laws.plus_assoc _ _ _);
    plus_comm = λ p q. by_parts (laws.plus_comm _ _) (laws.plus_comm _ _);
    plus_zero = λ p. by_parts (laws.plus_zero _) (laws.plus_zero _);
    plus_neg = λ p. by_parts (laws.plus_neg _) (laws.plus_neg _);
    times_assoc = λ p q r. by_parts (low_assoc _ _ _ _ _ _) (high_assoc _ _ _ _ _ _);
    times_comm = λ p q. by_parts (low_comm _ _ _ _) (high_comm _ _ _ _);
    times_one = λ p. by_parts (low_one _ _) (high_one _ _);
    times_plus = λ p q r. by_parts (low_plus _ _ _ _ _ _) (high_plus _ _ _ _ _ _);
    times_inv = λ p nonzero. by_parts (low_conjugate _ _ _ _ ∙ ap (λ n. n ⊗ inv (norm F u v p.lo p.hi)) (sym (norm_low p.lo p.hi)) ∙ laws.times_inv _ (λ e. nonzero (zero_of_norm rootless _ _ e))) (high_conjugate _ _ _ _ ∙ (simp (plus_neg, ring)));
    one_zero = λ e. laws.one_zero (ap (λ p. p.lo) e);
  }
