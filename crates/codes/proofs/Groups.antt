-- Bits that are gathered in groups of another size: groups join and part, and each bit stays the bit that it was.
use Rattle.std.proofs.Common.{◌≡◌, ℕ, zero, suc, ◌+◌, ◌-◌, ◌*◌, ◌/◌, ◌%◌, ◌^◌, ◌<◌, ◌≤◌, List, length, drop, get_or, sym, refl, ap, ◌∙◌, ap₂, arith, lit<}
use Rattle.std.proofs.Math.Nat.{add-div_left, add-mod_left, add-suc, add-zero, add_assoc, add_comm, div-add-mod, div-eq_of_lt, div-lt_iff_lt-mul, div-one, le_refl, mod-eq_of_lt, mod-lt, mul-add-mod_self_left, mul_assoc, pow-suc, sub_self, zero-add, zero-mul}
use Rattle.std.proofs.lemmas.Nat.{div-mul-add, mod-mul-add, mod_low, shr-shr, shr_high}
use Rattle.std.proofs.lemmas.List.{get_or-drop}
use Rattle.std.proofs.lemmas.List.FromFn.{get_or-map-range_with_len, length-map-range_with_len}
use Rattle.codes.specs.Bytes.{bit, gathered, regrouped}

bit_below : (w : ℕ) (xs : List ℕ) (j : ℕ) → bit w xs j < 2
bit_below w xs j = mod-lt _ (lit< tt)

pub gathered_below : (w : ℕ) (xs : List ℕ) (j v : ℕ) → gathered w xs j v < 2 ^ v
gathered_below w xs j zero = lit< tt
gathered_below w xs j (suc v) = omega (arith, gathered_below w xs j v, bit_below w xs (j + v), pow-suc 2 v)

-- groups with the same bits are the same
pub gathered_same : (w w' : ℕ) (xs ys : List ℕ) (i j v : ℕ) → ((k : ℕ) → k < v → bit w xs (i + k) ≡ bit w' ys (j + k)) → gathered w xs i v ≡ gathered w' ys j v
gathered_same w w' xs ys i j zero h = refl
gathered_same w w' xs ys i j (suc v) h = ap₂ (λ g b. 2 * g + b) (gathered_same w w' xs ys i j v (λ k below. h k (omega arith))) (h v (omega arith))

joined_sum : (a p b c : ℕ) → 2 * (a * p + b) + c ≡ a * (p * 2) + (2 * b + c)
joined_sum a p b c = omega (arith, mul_assoc a p 2)

-- two groups in a row are one
gathered_join : (w : ℕ) (xs : List ℕ) (j u v : ℕ) → gathered w xs j (u + v) ≡ gathered w xs j u * 2 ^ v + gathered w xs (j + u) v
gathered_join w xs j u zero = ap (gathered w xs j) (add-zero u) ∙ omega arith
gathered_join w xs j u (suc v) =
    ap (gathered w xs j) (add-suc u v)
    ∙ ap₂ (λ g b. 2 * g + b) (gathered_join w xs j u v) (ap (bit w xs) (sym (add_assoc j u v)))
    ∙ joined_sum (gathered w xs j u) (2 ^ v) _ _
    ∙ ap (λ x. gathered w xs j u * x + gathered w xs (j + u) (suc v)) (sym (pow-suc 2 v))

-- a group parts into the first u of its v bits and the others
module _ (w : ℕ) (xs : List ℕ) (j v u : ℕ) (within : u ≤ v) where
  parted : gathered w xs j v ≡ gathered w xs j u * 2 ^ (v - u) + gathered w xs (j + u) (v - u)
  parted = ap (gathered w xs j) (omega arith) ∙ gathered_join w xs j u (v - u)

  pub gathered_front : gathered w xs j v / 2 ^ (v - u) ≡ gathered w xs j u
  gathered_front = ap (λ x. x / 2 ^ (v - u)) parted ∙ shr_high _ (v - u) _ (gathered_below w xs (j + u) (v - u))

  pub gathered_back : gathered w xs j v % 2 ^ (v - u) ≡ gathered w xs (j + u) (v - u)
  gathered_back = ap (λ x. x % 2 ^ (v - u)) parted ∙ mod_low _ (v - u) _ (gathered_below w xs (j + u) (v - u))

-- the first v bits of the i-th number, and all of it
gathered_part : (w : ℕ) (xs : List ℕ) (i v : ℕ) → v ≤ w → get_or xs i 0 < 2 ^ w → gathered w xs (i * w) v ≡ get_or xs i 0 / 2 ^ (w - v)
gathered_part w xs i zero h small = sym (ap (λ e. get_or xs i 0 / 2 ^ e) (omega arith) ∙ div-eq_of_lt small)
gathered_part w xs i (suc v) h small =
    ap₂ (λ g b. 2 * g + b) (gathered_part w xs i v (omega arith) small ∙ ap (λ e. x / 2 ^ e) (omega arith) ∙ sym (shr-shr x (w - suc v) 1))
    (ap₂ (λ q r. get_or xs q 0 / 2 ^ (w - 1 - r) % 2) (div-mul-add i w v (omega arith)) (mod-mul-add i w v (omega arith)) ∙ ap (λ e. x / 2 ^ e % 2) (omega arith))
    ∙ div-add-mod (x / 2 ^ (w - suc v)) 2
  where
    x : ℕ
    x = get_or xs i 0

pub gathered_number : (w : ℕ) (xs : List ℕ) (i : ℕ) → get_or xs i 0 < 2 ^ w → gathered w xs (i * w) w ≡ get_or xs i 0
gathered_number w xs i small = gathered_part w xs i w (le_refl w) small ∙ ap (λ e. get_or xs i 0 / 2 ^ e) (sub_self w) ∙ div-one (get_or xs i 0)

-- Reading: one number more is held, and the others are behind it

bit_behind : (w : ℕ) (ys : List ℕ) (j : ℕ) → 0 < w → bit w ys (w + j) ≡ bit w (drop 1 ys) j
bit_behind w ys j positive =
    ap₂ (λ q r. get_or ys q 0 / 2 ^ (w - 1 - r) % 2) (add-div_left j positive ∙ add_comm (j / w) 1) (add-mod_left w j)
    ∙ ap (λ x. x / 2 ^ (w - 1 - j % w) % 2) (sym (get_or-drop 1 ys (j / w) 0))

module _ (w : ℕ) (xs ys : List ℕ) (p count : ℕ) (behind : (j : ℕ) → bit w ys j ≡ bit w xs (p + count + j)) where
  pub loaded_held : get_or ys 0 0 < 2 ^ w → gathered w xs p count * 2 ^ w + get_or ys 0 0 ≡ gathered w xs p (count + w)
  loaded_held small =
      ap (λ x. gathered w xs p count * 2 ^ w + x)
      (sym (ap (λ j. gathered w ys j w) (sym (zero-mul w)) ∙ gathered_number w ys 0 small) ∙ gathered_same w w ys xs 0 (p + count) w (λ k _. ap (bit w ys) (zero-add k) ∙ behind k))
      ∙ sym (gathered_join w xs p count w)

  pub loaded_rest : 0 < w → (j : ℕ) → bit w (drop 1 ys) j ≡ bit w xs (p + (count + w) + j)
  loaded_rest positive j = sym (bit_behind w ys j positive) ∙ behind (w + j) ∙ ap (bit w xs) (omega arith)

-- Regrouping

-- a bit of a group is the bit that was gathered
gathered_bit : (w : ℕ) (xs : List ℕ) (j v k : ℕ) → k < v → gathered w xs j v / 2 ^ (v - 1 - k) % 2 ≡ bit w xs (j + k)
gathered_bit w xs j v k h =
    ap (λ e. gathered w xs j v / 2 ^ e % 2) (omega arith)
    ∙ ap (λ x. x % 2) (gathered_front w xs j v (suc k) h)
    ∙ mul-add-mod_self_left 2 (gathered w xs j k) (bit w xs (j + k))
    ∙ mod-eq_of_lt (bit_below w xs (j + k))

-- regrouped bits stay what they were
pub regrouped_bit : (w v : ℕ) (xs : List ℕ) (n j : ℕ) → 0 < v → j < n * v → bit v (regrouped w v xs n) j ≡ bit w xs j
regrouped_bit w v xs n j positive h =
    ap (λ x. x / 2 ^ (v - 1 - j % v) % 2) (get_or-map-range_with_len (λ i. gathered w xs (v * i) v) 0 n (j / v) (j / v) 0 ((div-lt_iff_lt-mul positive).1 h) (omega arith))
    ∙ gathered_bit w xs (v * (j / v)) v (j % v) (mod-lt j positive)
    ∙ ap (bit w xs) (div-add-mod j v)

pub length_regrouped : (w v : ℕ) (xs : List ℕ) (n : ℕ) → length (regrouped w v xs n) ≡ n
length_regrouped w v xs n = length-map-range_with_len (λ i. gathered w xs (v * i) v) 0 n
