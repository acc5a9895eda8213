-- Bytes as payload and back: nothing is lost, and what the two calls leave in the buffer.
use Rattle.std.proofs.Common.{◌≡◌, ℕ, ◌+◌, ◌*◌, ◌/◌, ◌^◌, ◌<◌, ◌≤◌, Bool, true, ltb, List, ◌++◌, length, get_or, take, drop, sym, refl, ap, ◌∙◌, subst, arith, mul_comm, lit<}
use Rattle.std.specs.List.{range_with_len}
use Rattle.std.proofs.lemmas.List.FromFn.{get_or-map-range_with_len}
use Rattle.std.proofs.lemmas.List.{ext_get_or, length-take-le}
use Rattle.std.proofs.lemmas.List.Elements.{All-map}
use Rattle.std.proofs.lemmas.List.Sums.{list_all-from_AllPass}
use Rattle.std.proofs.lemmas.Bool.{le-leb, lt-leb, lt-ltb, ltb-true}
use Rattle.fields.specs.Field.{Operations}
use Rattle.kinds.specs.Bytes.{Bytes, symbols_for}
use Rattle.kinds.specs.Code.{Code}
use Rattle.codes.specs.Bytes.{WholeBytes, decoded, encoded, gathered, regrouped}
use Rattle.codes.specs.Reading.{Answer, answered, refused, unless}
use Rattle.codes.specs.Texts.{all}
use Rattle.codes.specs.Writing.{Wrote, within}
use Rattle.codes.proofs.Buffers.{wrote_answered, wrote_refused}
use Rattle.codes.proofs.Groups.{gathered_below, gathered_number, gathered_same, length_regrouped, regrouped_bit}
use Rattle.codes.proofs.Readings.{unless_fails, unless_passes}
use Rattle.codes.proofs.Scans.{all_at}

-- as many bytes come back
same_count : (m : ℕ) → 5 * symbols_for m / 8 ≡ m
same_count m = omega arith

enough : (m : ℕ) → 8 * m ≤ 5 * symbols_for m
enough m = omega arith

-- and each is what it was
back : (bytes : List ℕ) → all (λ b. ltb b 256) bytes ≡ true → decoded (encoded bytes) ≡ bytes
back bytes small = ext_get_or 0 (decoded (encoded bytes)) bytes long same
  where
    m : ℕ
    m = length bytes

    n : ℕ
    n = symbols_for m

    count : 5 * length (encoded bytes) / 8 ≡ m
    count = ap (λ k. 5 * k / 8) (length_regrouped 8 5 bytes n) ∙ same_count m

    long : length (decoded (encoded bytes)) ≡ m
    long = length_regrouped 5 8 (encoded bytes) (5 * length (encoded bytes) / 8) ∙ count

    same : (i : ℕ) → i < length (decoded (encoded bytes)) → get_or (decoded (encoded bytes)) i 0 ≡ get_or bytes i 0
    same i h =
        let below : i < m = omega (arith, long, h) in
        let byte : get_or bytes i 0 < 2 ^ 8 = ltb-true (get_or bytes i 0) 256 (all_at (λ b. ltb b 256) bytes i below small) in
        get_or-map-range_with_len (λ k. gathered 5 (encoded bytes) (8 * k) 8) 0 (5 * length (encoded bytes) / 8) i i 0 (omega (arith, count)) (omega arith)
        ∙ gathered_same 5 8 (encoded bytes) bytes (8 * i) (8 * i) 8 (λ k hk. regrouped_bit 8 5 bytes n (8 * i + k) (lit< tt) (omega (arith, enough m)))
        ∙ ap (λ j. gathered 8 bytes j 8) (mul_comm 8 i)
        ∙ gathered_number 8 bytes i byte

-- the symbols are numbers of five bits
five_bits : (order : ℕ) → order ≡ 32 → (bytes : List ℕ) → all (λ n. ltb n order) (encoded bytes) ≡ true
five_bits order is bytes = list_all-from_AllPass _ (encoded bytes) (All-map (λ n. ltb n order ≡ true) group places (λ k d _. below (get_or places k d)))
  where
    places : List ℕ
    places = range_with_len 0 (symbols_for (length bytes))

    group : ℕ → ℕ
    group i = gathered 8 bytes (5 * i) 5

    below : (i : ℕ) → ltb (group i) order ≡ true
    below i = lt-ltb _ _ (omega (arith, is, gathered_below 8 bytes (5 * i) 5))

pub whole_bytes : {E C : Type 0} (F : Operations E) (K : Code E C) (takes : ℕ → Bool) → Bytes F K takes → WholeBytes F K takes
whole_bytes F K takes whole = record {
  back = back;
  payload = λ bytes taken. (
    ap K.allows (length_regrouped 8 5 bytes (symbols_for (length bytes))) ∙ whole.fitting (length bytes) taken,
    five_bits F.order whole.five_bits bytes,
  );
  smallest = λ m n h. omega arith;
  enough = enough;
}

-- What the calls leave

-- a test that was passed
pub wrote_passed : (b : Bool) (n : ℕ) (a : Answer (List ℕ)) (out after : List ℕ) (r : Answer ℕ) → b ≡ true → Wrote a out r after → Wrote (unless b n a) out r after
wrote_passed b n a out after r e h = subst (λ t. Wrote (unless t n a) out r after) (sym e) h

-- groups of bits that do not fit, and that do
module _ (w v : ℕ) (xs out : List ℕ) (n count : ℕ) (is : count ≡ n) where
  pub groups_refused : length out < count → Wrote (within (length out) (regrouped w v xs n)) out (refused 81) out
  groups_refused h = wrote_refused _ out 81 (unless_fails _ _ _ (lt-leb (length (regrouped w v xs n)) (length out) (omega (arith, length_regrouped w v xs n))))

  pub groups_written : (groups : List ℕ) → count ≤ length out → groups ≡ regrouped w v xs (length (take count out)) → Wrote (within (length out) (regrouped w v xs n)) out (answered count) (groups ++ drop count out)
  groups_written groups h e =
      wrote_answered _ out _ (regrouped w v xs n) count
      (unless_passes _ _ _ _ (le-leb (length (regrouped w v xs n)) (length out) (omega (arith, length_regrouped w v xs n))) refl)
      (is ∙ sym (length_regrouped w v xs n))
      (ap (λ l. l ++ drop count out) (e ∙ ap (regrouped w v xs) (length-take-le count out h ∙ is)))
