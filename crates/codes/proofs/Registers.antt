-- The register of the long division.
use Rattle.std.proofs.Common.{◌≡◌, ℕ, zero, suc, ◌+◌, ◌<◌, ◌≤◌, true, ltb, List, [], ◌∷◌, ◌++◌, map, length, get_or, take, set, replicate, sym, refl, ap, ◌∙◌, subst, ap₂, le_of_suc-le-suc, not-suc-le-zero, suc-ne-zero, add-one, arith, below_more, length-append, length-set}
use Rattle.std.proofs.Math.Nat.{suc_inj}
use Rattle.std.proofs.lemmas.List.{ext_get_or, length-map, get_or-set_other, get_or-set_same, get_or-take, get_or-map, map-set, take-map, take_more_set, length-take-le, take-replicate}
use Rattle.std.proofs.lemmas.Bool.{and_parts, cond-true, lt-ltb, ltb-true}
use Rattle.fields.specs.Field.{Operations, FieldLaws, minus}
use Rattle.fields.specs.Numbered.{numbered}
use Rattle.fields.specs.Ring.{element_number, one_times}
use Rattle.kinds.specs.Code.{Code, Lawful}
use Rattle.kinds.specs.Words.{numbers}
use Rattle.codes.specs.Division.{less, lessened, shifted, divided, remainder}
use Rattle.codes.specs.Writing.{all_numbers}
use Rattle.codes.proofs.Scans.{all_next}
use Rattle.codes.proofs.Quotients.{length_lessened, length_shifted}

-- what a word is as long as
pub word_length : {E : Type 0} (F : Operations E) (bytes : List ℕ) (w : List E) → bytes ≡ numbers F w → length bytes ≡ length w
word_length F bytes w e = ap length e ∙ length-map w F.number

-- rows of which the entries below j have been worked out, and the others stand as they were: one more
abbrev pub WorkedOut : (ℕ → ℕ) → List ℕ → ℕ → List ℕ → Type 0
WorkedOut worked before j row = (length row ≡ 16) × ((k : ℕ) → k < j → get_or row k 0 ≡ worked k) × ((k : ℕ) → j ≤ k → get_or row k 0 ≡ get_or before k 0)

pub worked_out_more : (worked : ℕ → ℕ) (before row : List ℕ) (j value : ℕ) → WorkedOut worked before j row → j < 16 → value ≡ worked j → WorkedOut worked before (j + 1) (set row j value)
worked_out_more worked before row j value (long, below, above) small is = (
  length-set row j value ∙ long,
  below_more _ _ (λ k h. get_or-set_other row j k value 0 (omega arith) ∙ below k h) (get_or-set_same row j value 0 (omega (arith, long)) ∙ is),
  λ k h. get_or-set_other row j k value 0 (omega arith) ∙ above k (omega arith),
)

module _ {E : Type 0} (F : Operations E) (laws : FieldLaws F) where
  -- the element with the number of x is x
  pub numbered_number : (x : E) → numbered F (F.number x) ≡ x
  numbered_number x = cond-true _ _ _ (lt-ltb _ _ (laws.below x)) ∙ element_number F laws x

  -- a word from its numbers
  pub numbered_word : (w : List E) → map (numbered F) (numbers F w) ≡ w
  numbered_word [] = refl
  numbered_word (x ∷ w) = ap₂ ◌∷◌ (numbered_number x) (numbered_word w)

  -- numbers from their word
  pub numbers_back : {C : Type 0} (K : Code E C) (ns : List ℕ) → all_numbers F K ns ≡ true → numbers F (map (numbered F) ns) ≡ ns
  numbers_back K [] h = refl
  numbers_back K (n ∷ ns) h =
      let (first, rest) = and_parts (ltb n F.order) (all_numbers F K ns) h in
      let below : n < F.order = ltb-true n F.order first in
      ap₂ ◌∷◌ (ap F.number (cond-true _ _ _ (lt-ltb _ _ below)) ∙ laws.numbered n below) (numbers_back K ns rest)

  -- the front of a row whose entries are numbers of symbols
  pub front_numbers : {C : Type 0} (K : Code E C) (row : List ℕ) (n : ℕ) → n ≤ length row → ((k : ℕ) → k < n → (x : E) × (get_or row k 0 ≡ F.number x)) → all_numbers F K (take n row) ≡ true
  front_numbers K row zero h are = refl
  front_numbers K row (suc n) h are =
      let (x, is) = are n (omega arith) in
      ap (λ k. all_numbers F K (take k row)) (sym (add-one n)) ∙ all_next (λ m. ltb m F.order) row n (omega (arith, h)) (front_numbers K row n (omega (arith, h)) (λ k hk. are k (omega (arith, hk)))) (lt-ltb _ _ (omega (arith, is, laws.below x)))

  -- a symbol of a word that is given by its numbers
  pub numbered_at : (bytes : List ℕ) (w : List E) (j : ℕ) → bytes ≡ numbers F w → j < length w → numbered F (get_or bytes j 0) ≡ get_or w j F.zero
  numbered_at bytes w j e h = ap (numbered F) (ap (λ b. get_or b j 0) e ∙ get_or-map F.number w j F.zero 0 h) ∙ numbered_number (get_or w j F.zero)

  -- an entry of a row less t times another
  less_at : (t : E) (row g : List E) (k : ℕ) → k < length row → length row ≡ length g → get_or (less F t row g) k F.zero ≡ minus F (get_or row k F.zero) (F.times t (get_or g k F.zero))
  less_at t [] g k h e = absurd (not-suc-le-zero h)
  less_at t (r ∷ row) [] k h e = absurd (suc-ne-zero (length row) e)
  less_at t (r ∷ row) (c ∷ g) zero h e = refl
  less_at t (r ∷ row) (c ∷ g) (suc k) h e = less_at t row g k (le_of_suc-le-suc h) (suc_inj e)

  -- the front of a row after a step: s stands behind it, and each entry is worked out from the next
  pub stepped : (g : List E) (s : E) (before after : List E) → length g < length before → length before ≡ length after
      → ((k : ℕ) → k < length g → get_or after k F.zero ≡ minus F (get_or (set before (length g) s) (k + 1) F.zero) (F.times (get_or before 0 F.zero) (get_or g k F.zero)))
      → take (length g) after ≡ shifted F g (take (length g) before) s
  stepped [] s before after short same entries = refl
  stepped (c ∷ g) s [] after short same entries = absurd (not-suc-le-zero short)
  stepped (c ∷ g) s (top ∷ rest) after short same entries = ext_get_or F.zero _ _ lengths agree
    where
      n : ℕ
      n = length (c ∷ g)

      w : List E
      w = take (length g) rest

      row : List E
      row = w ++ (s ∷ [])

      w_length : length w ≡ length g
      w_length = length-take-le (length g) rest (omega (arith, short))

      row_length : length row ≡ n
      row_length = length-append w (s ∷ []) ∙ omega (arith, w_length)

      filled : take (n + 1) (set (top ∷ rest) n s) ≡ top ∷ row
      filled = take_more_set (top ∷ rest) n s short

      next : (k : ℕ) → k < n → get_or (set (top ∷ rest) n s) (k + 1) F.zero ≡ get_or row k F.zero
      next k h =
          sym (get_or-take (n + 1) (set (top ∷ rest) n s) (k + 1) F.zero (omega arith)) ∙ ap (λ l. get_or l (k + 1) F.zero) filled ∙ ap (λ i. get_or (top ∷ row) i F.zero) (add-one k)

      after_length : length (take n after) ≡ n
      after_length = length-take-le n after (omega (arith, short, same))

      lengths : length (take n after) ≡ length (shifted F (c ∷ g) (top ∷ w) s)
      lengths = after_length ∙ sym (length_shifted F laws (c ∷ g) (top ∷ w) s ∙ ap suc w_length)

      agree : (k : ℕ) → k < length (take n after) → get_or (take n after) k F.zero ≡ get_or (shifted F (c ∷ g) (top ∷ w) s) k F.zero
      agree k h =
          let h' : k < n = omega (arith, h, after_length) in
          get_or-take n after k F.zero h' ∙ entries k h' ∙ ap (λ a. minus F a (F.times top (get_or (c ∷ g) k F.zero))) (next k h') ∙ sym (less_at top row (c ∷ g) k (omega (arith, row_length)) row_length)

  -- an entry of one word less another
  pub lessened_at : (v w : List E) (j : ℕ) → j < length v → j < length w → get_or (lessened F v w) j F.zero ≡ minus F (get_or v j F.zero) (get_or w j F.zero)
  lessened_at [] w j hv hw = absurd (not-suc-le-zero hv)
  lessened_at (x ∷ v) [] j hv hw = absurd (not-suc-le-zero hw)
  lessened_at (x ∷ v) (y ∷ w) zero hv hw = refl
  lessened_at (x ∷ v) (y ∷ w) (suc j) hv hw = lessened_at v w j (le_of_suc-le-suc hv) (le_of_suc-le-suc hw)

  -- the remainder when one symbol more has come in
  pub divided_push : (g r w : List E) (s : E) → divided F g r (w ++ (s ∷ [])) ≡ shifted F g (divided F g r w) s
  divided_push g r [] s = refl
  divided_push g r (t ∷ w) s = divided_push g (shifted F g r t) w s

  -- the steps over two words, one after the other
  pub divided_append : (g r u v : List E) → divided F g r (u ++ v) ≡ divided F g (divided F g r u) v
  divided_append g r [] v = refl
  divided_append g r (t ∷ u) v = divided_append g (shifted F g r t) u v

  -- the remainder of a word that is one symbol longer
  pub divided_next : (g r u w : List E) (s : E) → w ≡ u ++ (s ∷ []) → shifted F g (divided F g r u) s ≡ divided F g r w
  divided_next g r u w s e = sym (ap (divided F g r) e ∙ divided_push g r u s)

module _ {E C : Type 0} (F : Operations E) (laws : FieldLaws F) {G : Operations C} (K : Code E C) (lawful : Lawful F G K) where
  -- the generator of a kind fits the register
  pub generator_size : (bytes : List ℕ) → bytes ≡ numbers F K.generator → length bytes ≡ K.checks
  generator_size bytes e = word_length F bytes K.generator e ∙ lawful.generator_length

  -- the target by its numbers
  pub target_size : (bytes : List ℕ) → bytes ≡ numbers F K.target → length bytes ≡ K.checks
  target_size bytes e = word_length F bytes K.target e ∙ lawful.target_length

  -- a step of a register, entry by entry
  pub shifted_register : (bytes before after : List ℕ) (s : E) → bytes ≡ numbers F K.generator → length before ≡ 16 → length after ≡ 16
      → ((k : ℕ) → k < length bytes → get_or after k 0 ≡ F.number (minus F (numbered F (get_or (set before (length bytes) (F.number s)) (k + 1) 0)) (F.times (numbered F (get_or before 0 0)) (numbered F (get_or bytes k 0)))))
      → map (numbered F) (take K.checks after) ≡ shifted F K.generator (map (numbered F) (take K.checks before)) s
  shifted_register bytes before after s given long long' entries =
      sym (take-map (numbered F) K.checks after)
      ∙ subst (λ n. take n (word after) ≡ shifted F K.generator (take n (word before)) s) lawful.generator_length
      (stepped F laws K.generator s (word before) (word after) (omega (arith, lawful.generator_length, lawful.few_checks, long, length-map before (numbered F))) (length-map before (numbered F) ∙ long ∙ sym (length-map after (numbered F) ∙ long'))
      (λ k h.
      get_or-map (numbered F) after k 0 F.zero (omega (arith, h, long', lawful.generator_length, lawful.few_checks)) ∙ ap (numbered F) (entries k (omega (arith, h, size))) ∙ numbered_number F laws _
      ∙ ap₂ (minus F) (next k h) (ap₂ F.times (sym (get_or-map (numbered F) before 0 0 F.zero (omega (arith, long)))) (numbered_at F laws bytes K.generator k given h))))
      ∙ ap (λ w. shifted F K.generator w s) (take-map (numbered F) K.checks before)
    where
      word : List ℕ → List E
      word row = map (numbered F) row

      size : length bytes ≡ length K.generator
      size = word_length F bytes K.generator given

      next : (k : ℕ) → k < length K.generator → numbered F (get_or (set before (length bytes) (F.number s)) (k + 1) 0) ≡ get_or (set (word before) (length K.generator) s) (k + 1) F.zero
      next k h =
          sym (get_or-map (numbered F) (set before (length bytes) (F.number s)) (k + 1) 0 F.zero (omega (arith, h, long, length-set before (length bytes) (F.number s), lawful.generator_length, lawful.few_checks)))
          ∙ ap (λ l. get_or l (k + 1) F.zero) (map-set (numbered F) before (length bytes) (F.number s) ∙ ap₂ (set (word before)) size (numbered_number F laws s))

  zeros_word : (n : ℕ) → map (numbered F) (replicate n 0) ≡ replicate n F.zero
  zeros_word zero = refl
  zeros_word (suc n) = ap₂ ◌∷◌ (ap (numbered F) (sym laws.number_zero) ∙ numbered_number F laws F.zero) (zeros_word n)

  -- as many zeros as there are check symbols
  pub check_zeros : map (numbered F) (take K.checks (replicate 16 0)) ≡ replicate K.checks F.zero
  check_zeros = ap (map (numbered F)) (take-replicate K.checks 16 0 (omega (arith, lawful.few_checks))) ∙ zeros_word K.checks

  -- they are the remainder of nothing
  pub zero_register : map (numbered F) (take K.checks (replicate 16 0)) ≡ remainder F K.generator []
  zero_register = check_zeros ∙ ap (λ n. replicate n F.zero) (sym lawful.generator_length)

  -- a register that is taken from the target, entry by entry
  pub lessened_register : (bytes before after : List ℕ) → bytes ≡ numbers F K.target → length before ≡ 16 → length after ≡ 16
      → ((k : ℕ) → k < length bytes → get_or after k 0 ≡ F.number (minus F (numbered F (get_or bytes k 0)) (numbered F (get_or before k 0))))
      → map (numbered F) (take K.checks after) ≡ lessened F K.target (map (numbered F) (take K.checks before))
  lessened_register bytes before after given long long' entries =
      ext_get_or F.zero _ _ (front after long' ∙ sym (length_lessened F laws K.target (word before) ∙ lawful.target_length))
      (λ k h.
      let below : k < K.checks = omega (arith, h, front after long') in
      entry after long' k below ∙ ap (numbered F) (entries k (omega (arith, below, target_size bytes given))) ∙ numbered_number F laws _
      ∙ ap₂ (minus F) (numbered_at F laws bytes K.target k given (omega (arith, below, lawful.target_length))) (sym (entry before long k below))
      ∙ sym (lessened_at F laws K.target (word before) k (omega (arith, below, lawful.target_length)) (omega (arith, below, front before long))))
    where
      word : List ℕ → List E
      word row = map (numbered F) (take K.checks row)

      front : (row : List ℕ) → length row ≡ 16 → length (word row) ≡ K.checks
      front row e = length-map (take K.checks row) (numbered F) ∙ length-take-le K.checks row (omega (arith, lawful.few_checks, e))

      entry : (row : List ℕ) → length row ≡ 16 → (k : ℕ) → k < K.checks → get_or (word row) k F.zero ≡ numbered F (get_or row k 0)
      entry row e k h =
          get_or-map (numbered F) (take K.checks row) k 0 F.zero (omega (arith, h, length-take-le K.checks row (omega (arith, lawful.few_checks, e)))) ∙ ap (numbered F) (get_or-take K.checks row k 0 h)

  -- a check symbol, from the numbers of the target and of the register
  pub check_symbol_lem : (bytes symbols : List ℕ) (j : ℕ) (one : E) → one ≡ F.one → bytes ≡ numbers F K.target → length symbols ≡ 16 → j < K.checks → (w : List E) → take K.checks symbols ≡ numbers F w
      → F.number (minus F (numbered F (get_or bytes j 0)) (F.times one (numbered F (get_or symbols j 0)))) ≡ F.number (get_or (lessened F K.target w) j F.zero)
  check_symbol_lem bytes symbols j one is_one given long below w holds =
      ap F.number
      (ap₂ (minus F) (numbered_at F laws bytes K.target j given (omega (arith, lawful.target_length)))
      (ap₂ F.times is_one (ap (numbered F) (sym (get_or-take K.checks symbols j 0 below)) ∙ numbered_at F laws (take K.checks symbols) w j holds (omega (arith, size))) ∙ one_times F laws _)
      ∙ sym (lessened_at F laws K.target w j (omega (arith, lawful.target_length)) (omega (arith, size))))
    where
      size : length w ≡ K.checks
      size = sym (word_length F (take K.checks symbols) w holds) ∙ length-take-le K.checks symbols (omega (arith, lawful.few_checks, long))
