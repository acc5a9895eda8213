-- Words entry by entry, and their long division: the remainder is linear in the word, and the last symbols of a word go
-- into it as they are.
use Rattle.std.proofs.Common.{◌≡◌, ℕ, zero, suc, ◌+◌, List, [], ◌∷◌, ◌++◌, length, get_or, drop, replicate, sym, refl, ap, ◌∙◌, ap₂, append_assoc, append-nil, suc-add, zero-add, suc-ne-zero, arith, length-append}
use Rattle.std.proofs.Math.Nat.{suc_inj}
use Rattle.std.proofs.lemmas.List.{length-replicate}
use Rattle.fields.specs.Field.{Operations, FieldLaws, minus}
use Rattle.fields.specs.Ring.{ring_neg, zero_times, plus_cancel, minus_zero}
use Rattle.codes.specs.Division.{lessened, less, shifted, divided, remainder, quotient, product, Division, Remainders}

-- k zeros
abbrev pub zeros : {E : Type 0} → Operations E → ℕ → List E
zeros F k = replicate k F.zero

module _ {E : Type 0} (F : Operations E) (laws : FieldLaws F) where
  open F use {plus as ◌⊕◌, times as ◌⊗◌, zero as 𝟘, neg}

  infixl 60 ◌⊕◌
  infixl 70 ◌⊗◌
  -- Differences of words

  -- a difference is as long as the word that is lessened
  pub length_lessened : (u v : List E) → length (lessened F u v) ≡ length u
  length_lessened [] v = refl
  length_lessened (a ∷ u) [] = refl
  length_lessened (a ∷ u) (b ∷ v) = ap suc (length_lessened u v)

  -- a word less itself is zero
  pub lessened_self : (u : List E) → lessened F u u ≡ zeros F (length u)
  lessened_self [] = refl
  lessened_self (a ∷ u) = ap₂ ◌∷◌ (laws.plus_neg a) (lessened_self u)

  -- to take zero away changes nothing
  minus_nothing : (a : E) → minus F a 𝟘 ≡ a
  minus_nothing a = simp (ring_neg, minus)

  -- a word less zero is itself
  pub lessened_zeros : (u : List E) → lessened F u (zeros F (length u)) ≡ u
  lessened_zeros [] = refl
  lessened_zeros (a ∷ u) = ap₂ ◌∷◌ (minus_nothing a) (lessened_zeros u)

  -- the difference of two words in two parts
  pub lessened_append : (u v u' v' : List E) → length u ≡ length v → lessened F (u ++ u') (v ++ v') ≡ lessened F u v ++ lessened F u' v'
  lessened_append [] [] u' v' e = refl
  lessened_append [] (b ∷ v) u' v' e = absurd (suc-ne-zero (length v) (sym e))
  lessened_append (a ∷ u) [] u' v' e = absurd (suc-ne-zero (length u) e)
  lessened_append (a ∷ u) (b ∷ v) u' v' e = ap (λ w. minus F a b ∷ w) (lessened_append u v u' v' (suc_inj e))

  -- words that come to the same when one word is taken away are the same
  pub lessened_cancel : (u v w : List E) → length u ≡ length w → length v ≡ length w → lessened F u w ≡ lessened F v w → u ≡ v
  lessened_cancel [] [] w eu ev same = refl
  lessened_cancel [] (b ∷ v) w eu ev same = absurd (suc-ne-zero (length v) (ev ∙ sym eu))
  lessened_cancel (a ∷ u) [] w eu ev same = absurd (suc-ne-zero (length u) (eu ∙ sym ev))
  lessened_cancel (a ∷ u) (b ∷ v) [] eu ev same = same
  lessened_cancel (a ∷ u) (b ∷ v) (c ∷ w) eu ev same =
      let heads : neg c ⊕ a ≡ neg c ⊕ b = laws.plus_comm (neg c) a ∙ ap (λ l. get_or l 0 F.zero) same ∙ laws.plus_comm b (neg c) in
      ap₂ ◌∷◌ (plus_cancel F laws (neg c) a b heads) (lessened_cancel u v w (suc_inj eu) (suc_inj ev) (ap (drop 1) same))

  -- The length of the remainder

  -- a row keeps its length
  pub length_less : (t : E) (r g : List E) → length (less F t r g) ≡ length r
  length_less t [] g = refl
  length_less t (a ∷ r) [] = refl
  length_less t (a ∷ r) (c ∷ g) = ap suc (length_less t r g)

  -- a step keeps the length of the register
  pub length_shifted : (g r : List E) (s : E) → length (shifted F g r s) ≡ length r
  length_shifted g [] s = refl
  length_shifted g (top ∷ rest) s = length_less top (rest ++ (s ∷ [])) g ∙ simp length-append (omega arith)

  -- so does the register over a whole word
  pub length_divided : (g r w : List E) → length (divided F g r w) ≡ length r
  length_divided g r [] = refl
  length_divided g r (s ∷ w) = length_divided g (shifted F g r s) w ∙ length_shifted g r s

  -- the remainder has as many symbols as the generator has below its leading 1
  pub length_remainder : (g w : List E) → length (remainder F g w) ≡ length g
  length_remainder g w = length_divided g (zeros F (length g)) w ∙ length-replicate (length g) 𝟘

  -- The remainder is linear

  -- the difference of two rows, each less a multiple of g
  less_lessened : (t t' : E) (r r' g : List E) → length r ≡ length r' → less F (minus F t t') (lessened F r r') g ≡ lessened F (less F t r g) (less F t' r' g)
  less_lessened t t' [] r' g e = refl
  less_lessened t t' (a ∷ r) [] g e = absurd (suc-ne-zero (length r) e)
  less_lessened t t' (a ∷ r) (a' ∷ r') [] e = refl
  less_lessened t t' (a ∷ r) (a' ∷ r') (c ∷ g) e =
      let entry : minus F (minus F a a') (minus F t t' ⊗ c) ≡ minus F (minus F a (t ⊗ c)) (minus F a' (t' ⊗ c)) = simp ring_neg in
      ap₂ ◌∷◌ entry (less_lessened t t' r r' g (suc_inj e))

  -- one step on the difference of two registers is the difference of their steps
  shifted_lessened : (g r r' : List E) (s s' : E) → length r ≡ length r' → shifted F g (lessened F r r') (minus F s s') ≡ lessened F (shifted F g r s) (shifted F g r' s')
  shifted_lessened g [] r' s s' e = refl
  shifted_lessened g (top ∷ rest) [] s s' e = absurd (suc-ne-zero (length rest) e)
  shifted_lessened g (top ∷ rest) (top' ∷ rest') s s' e =
      ap (λ r. less F (minus F top top') r g) (sym (lessened_append rest rest' (s ∷ []) (s' ∷ []) (suc_inj e)))
      ∙ less_lessened top top' (rest ++ (s ∷ [])) (rest' ++ (s' ∷ [])) g (simp length-append (omega (arith, e)))

  -- and so over whole words
  divided_lessened : (g r r' w w' : List E) → length r ≡ length r' → length w ≡ length w'
      → divided F g (lessened F r r') (lessened F w w') ≡ lessened F (divided F g r w) (divided F g r' w')
  divided_lessened g r r' [] [] er ew = refl
  divided_lessened g r r' [] (s' ∷ w') er ew = absurd (suc-ne-zero (length w') (sym ew))
  divided_lessened g r r' (s ∷ w) [] er ew = absurd (suc-ne-zero (length w) ew)
  divided_lessened g r r' (s ∷ w) (s' ∷ w') er ew =
      ap (λ p. divided F g p (lessened F w w')) (shifted_lessened g r r' s s' er)
      ∙ divided_lessened g (shifted F g r s) (shifted F g r' s') w w' (length_shifted g r s ∙ er ∙ sym (length_shifted g r' s')) (suc_inj ew)

  -- the remainder of a difference is the difference of the remainders
  pub remainder_lessened : (g w w' : List E) → length w ≡ length w' → remainder F g (lessened F w w') ≡ lessened F (remainder F g w) (remainder F g w')
  remainder_lessened g w w' e =
      let start : zeros F (length g) ≡ lessened F (zeros F (length g)) (zeros F (length g)) = sym (lessened_self (zeros F (length g)) ∙ ap (zeros F) (length-replicate (length g) 𝟘)) in
      ap (λ r. divided F g r (lessened F w w')) start ∙ divided_lessened g (zeros F (length g)) (zeros F (length g)) w w' refl e

  -- Short words, and zeros in front

  -- zero times g takes nothing away
  less_zero : (r g : List E) → less F 𝟘 r g ≡ r
  less_zero [] g = refl
  less_zero (a ∷ r) [] = refl
  less_zero (a ∷ r) (c ∷ g) = ap₂ ◌∷◌ (ap (minus F a) (zero_times F laws c) ∙ minus_nothing a) (less_zero r g)

  -- symbols that push only zeros out of the register stay in it
  divided_short : (g u w : List E) → divided F g (zeros F (length w) ++ u) w ≡ u ++ w
  divided_short g u [] = sym (append-nil u)
  divided_short g u (s ∷ w) =
      ap (λ r. divided F g r w) (less_zero ((zeros F (length w) ++ u) ++ (s ∷ [])) g ∙ append_assoc (zeros F (length w)) u (s ∷ []))
      ∙ divided_short g (u ++ (s ∷ [])) w ∙ append_assoc u (s ∷ []) w

  -- a word no longer than the remainder is its own remainder
  pub remainder_short : (g w : List E) → length w ≡ length g → remainder F g w ≡ w
  remainder_short g w e = ap (λ r. divided F g r w) (ap (zeros F) (sym e) ∙ sym (append-nil (zeros F (length w)))) ∙ divided_short g [] w

  -- one zero more at the end
  zeros_push : (k : ℕ) → zeros F k ++ (𝟘 ∷ []) ≡ zeros F (suc k)
  zeros_push zero = refl
  zeros_push (suc k) = ap (λ r. 𝟘 ∷ r) (zeros_push k)

  -- a zero that comes into a register of zeros leaves it as it is
  shifted_zeros : (g : List E) (k : ℕ) → shifted F g (zeros F k) 𝟘 ≡ zeros F k
  shifted_zeros g zero = refl
  shifted_zeros g (suc k) = less_zero (zeros F k ++ (𝟘 ∷ [])) g ∙ zeros_push k

  -- zeros in front of a word do not change its remainder
  pub remainder_zeros : (g : List E) (k : ℕ) (w : List E) → remainder F g (zeros F k ++ w) ≡ remainder F g w
  remainder_zeros g zero w = refl
  remainder_zeros g (suc k) w = ap (λ r. divided F g r (zeros F k ++ w)) (shifted_zeros g (length g)) ∙ remainder_zeros g k w

  -- the last symbols of a word, as many as the remainder has: what they add to the remainder is themselves
  pub remainder_tail : (g w t : List E) → length t ≡ length g → lessened F (remainder F g (w ++ t)) (remainder F g (w ++ zeros F (length g))) ≡ t
  remainder_tail g w t e =
      sym (remainder_lessened g (w ++ t) (w ++ zeros F (length g)) (simp (length-append, length-replicate) (omega (arith, e))))
      ∙ ap (remainder F g) (ap (λ z. lessened F (w ++ t) (w ++ zeros F z)) (sym e) ∙ lessened_append w w t (zeros F (length t)) refl ∙ ap₂ ◌++◌ (lessened_self w) (lessened_zeros t))
      ∙ remainder_zeros g (length w) t ∙ remainder_short g t e

  -- Division with remainder

  -- what is taken away from one word might as well be added to the other
  less_swap : (t : E) (w p g : List E) → length w ≡ length p → lessened F (less F t w g) p ≡ lessened F w (less F (neg t) p g)
  less_swap t [] p g e = refl
  less_swap t (a ∷ w) [] g e = absurd (suc-ne-zero (length w) e)
  less_swap t (a ∷ w) (b ∷ p) [] e = refl
  less_swap t (a ∷ w) (b ∷ p) (c ∷ g) e =
      let entry : minus F (minus F a (t ⊗ c)) b ≡ minus F a (minus F b (neg t ⊗ c)) = simp (ring_neg, minus) in
      ap₂ ◌∷◌ entry (less_swap t w p g (suc_inj e))

  -- a multiple of nothing takes nothing away
  less_nothing : (t : E) (r : List E) → less F t r [] ≡ r
  less_nothing t [] = refl
  less_nothing t (a ∷ r) = refl

  -- a row as long as the generator takes all of a multiple of it
  less_append : (t : E) (r w g : List E) → length r ≡ length g → less F t (r ++ w) g ≡ less F t r g ++ w
  less_append t [] w [] e = less_nothing t w
  less_append t [] w (c ∷ g) e = absurd (suc-ne-zero (length g) (sym e))
  less_append t (b ∷ r) w [] e = refl
  less_append t (b ∷ r) w (c ∷ g) e = ap (λ v. minus F b (t ⊗ c) ∷ v) (less_append t r w g (suc_inj e))

  -- the quotient has a symbol for each step
  pub length_quotient : (g r w : List E) → length (quotient F g r w) ≡ length w
  length_quotient g r [] = refl
  length_quotient g r (s ∷ w) = ap suc (length_quotient g (shifted F g r s) w)

  -- a product is as long as both factors below the leading 1
  length_product : (g q : List E) → length (product F g q) ≡ length q + length g
  length_product g [] = length-replicate (length g) 𝟘 ∙ sym (zero-add (length g))
  length_product g (t ∷ q) = ap suc (length_less (neg t) (product F g q) g ∙ length_product g q) ∙ sym (suc-add (length q) (length g))

  -- register and word are quotient × generator + remainder
  divided_whole : (g r w : List E) → length r ≡ length g → lessened F (r ++ w) (product F g (quotient F g r w)) ≡ zeros F (length w) ++ divided F g r w
  divided_whole g r [] e = ap₂ (lessened F) (append-nil r) (ap (zeros F) (sym e)) ∙ lessened_zeros r
  divided_whole [] [] (s ∷ w) e = ap₂ ◌∷◌ (laws.plus_neg s) (ap (lessened F w) (less_nothing (neg s) (product F [] (quotient F [] [] w))) ∙ divided_whole [] [] w e)
  divided_whole (c ∷ g) [] (s ∷ w) e = absurd (suc-ne-zero (length g) (sym e))
  divided_whole g (top ∷ rest) (s ∷ w) e =
      ap₂ ◌∷◌ (laws.plus_neg top)
      (ap (λ v. lessened F v (less F (neg top) p g)) (sym (append_assoc rest (s ∷ []) w))
      ∙ sym (less_swap top (row ++ w) p g long)
      ∙ ap (λ v. lessened F v p) (less_append top row w g as_long)
      ∙ divided_whole g (less F top row g) w (length_less top row g ∙ as_long))
    where
      row : List E
      row = rest ++ (s ∷ [])

      p : List E
      p = product F g (quotient F g (less F top row g) w)

      as_long : length row ≡ length g
      as_long = simp length-append (omega (arith, e))

      long : length (row ++ w) ≡ length p
      long = length-append row w ∙ omega (arith, as_long, length_product g (quotient F g (less F top row g) w), length_quotient g (less F top row g) w)

  -- a word is q × generator + r in one way only
  whole_unique : (g w q q' r r' : List E) → length q ≡ length q' → length w ≡ length q + length g
      → lessened F w (product F g q) ≡ zeros F (length q) ++ r → lessened F w (product F g q') ≡ zeros F (length q') ++ r' → r ≡ r'
  whole_unique g w [] [] r r' e long whole whole' = sym whole ∙ whole'
  whole_unique g w [] (t' ∷ q') r r' e long whole whole' = absurd (suc-ne-zero (length q') (sym e))
  whole_unique g w (t ∷ q) [] r r' e long whole whole' = absurd (suc-ne-zero (length q) e)
  whole_unique g [] (t ∷ q) (t' ∷ q') r r' e long whole whole' = absurd (omega (arith, long, suc-add (length q) (length g)))
  whole_unique g (a ∷ w) (t ∷ q) (t' ∷ q') r r' e long whole whole' =
      whole_unique g (less F t w g) q q' r r' (suc_inj e) (length_less t w g ∙ shorter)
      (less_swap t w (product F g q) g (shorter ∙ sym (length_product g q)) ∙ ap (drop 1) whole)
      (less_swap t w (product F g q') g (shorter ∙ ap (λ n. n + length g) (suc_inj e) ∙ sym (length_product g q')) ∙ ap (λ u. lessened F w (less F (neg u) (product F g q') g)) same ∙ ap (drop 1) whole')
    where
      shorter : length w ≡ length q + length g
      shorter = omega (arith, long)

      same : t ≡ t'
      same = sym (minus_zero F laws a t (ap (λ l. get_or l 0 F.zero) whole)) ∙ minus_zero F laws a t' (ap (λ l. get_or l 0 F.zero) whole')

  -- the division divides
  pub divides : (g w : List E) → Division F g w (quotient F g (zeros F (length g)) w) (remainder F g w)
  divides g w = record {
    steps = length_quotient g (zeros F (length g)) w;
    short = length_remainder g w;
    whole = divided_whole g (zeros F (length g)) w (length-replicate (length g) 𝟘);
  }

  -- whatever is left when a multiple of the generator is taken away, if it is short enough, is the remainder
  pub remainder_only : (g w q r : List E) → Division F g w q r → r ≡ remainder F g w
  remainder_only g w q r division =
      whole_unique g (zeros F (length g) ++ w) q q' r (remainder F g w) (division.steps ∙ sym (divides g w).steps) (simp (length-append, length-replicate) (omega (arith, division.steps)))
      (division.whole ∙ ap (λ n. zeros F n ++ r) (sym division.steps)) ((divides g w).whole ∙ ap (λ n. zeros F n ++ remainder F g w) (sym (divides g w).steps))
    where
      q' : List E
      q' = quotient F g (zeros F (length g)) w

  -- what is proved of the long division
  pub remainders : Remainders F
  remainders = record { divides = divides; only = remainder_only; linear = remainder_lessened }
