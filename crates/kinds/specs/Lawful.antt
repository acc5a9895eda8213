-- The laws of a code over the pairs of its field, from tests that antt computes.
use Rattle.std.specs.Prelude.{◌≡◌, ℕ, zero, suc, ◌+◌, ◌<◌, ◌≤◌, Bool, true, not, ◌&&◌, ◌||◌, ◌∷◌, map, length, ◌==◌, ◌≢◌, nat_le, nat_lt, slice_index}
use Rattle.std.proofs.Common.{◌∙◌, sym, ap, inl, inr, le_trans, arith}
use Rattle.std.proofs.lemmas.Bool.{and_parts, both_ways, eq-eqb, eqb-true, leb-true, ltb-true, not-true, or_cases}
use Rattle.fields.specs.Field.{Operations, FieldLaws, power}
use Rattle.fields.specs.Each.{Each, Each₂, at, at₂}
use Rattle.kinds.specs.Words.{horner}
use Rattle.kinds.specs.Code.{Code, Lawful, Plain}
use Rattle.kinds.specs.Characters.{place}
use Rattle.kinds.specs.Powers.{steps, step, power_plus, powers_apart}
use Rattle.kinds.specs.Subfield.{Embeds}

-- a test of both ends of a range
pub within : (low high n : ℕ) → (nat_le low n && nat_le n high) ≡ true → (low ≤ n) × (n ≤ high)
within low high n e =
    let ends = and_parts (nat_le low n) (nat_le n high) e in
    (leb-true low n ends.0, leb-true n high ends.1)

abbrev pub plain : ℕ → Bool
plain c = (nat_le 48 c && nat_le c 57) || (nat_le 65 c && nat_le c 90)

plain_says : (c : ℕ) → plain c ≡ true → Plain c
plain_says c e = elim (or_cases (nat_le 48 c && nat_le c 57) _ e) [ inl digit ↦ inl (within 48 57 c digit) | inr letter ↦ inr (within 65 90 c letter) ]

module _ {E C : Type 0} (F : Operations E) (K : Code E C) where
  abbrev pub character : ℕ → ℕ
  character i = slice_index K.alphabet i

  -- the character stands at the place where it is found
  abbrev pub found : ℕ → Bool
  found c = nat_lt (place K.alphabet c) F.order && character (place K.alphabet c) == c

  -- the tests of its characters
  pub record TextTested : Type 0 where
    pub few_symbols : F.order ≤ 32
    pub prefix_length : length K.prefix ≡ 3
    pub prefix_plain : Each 3 (λ i. plain (slice_index K.prefix i))
    pub alphabet_length : length K.alphabet ≡ F.order
    pub alphabet_plain : Each F.order (λ i. plain (character i))
    pub alphabet_apart : Each₂ F.order (λ i j. (i == j) || not (character i == character j))
    pub thresholds : Each 10 (λ d. (d == 1) || found (48 + d))

module _ {E C : Type 0} (F : Operations E) (G : Operations C) (K : Code E C) (top : ℕ) where
  abbrev pub root : C → Bool
  root y = G.number (horner G (map K.embed (F.one ∷ K.generator)) y) == 0

  -- the tests of its checksum, where the longest payload has `top` symbols
  pub record SumTested : Type 0 where
    pub few_checks : K.checks ≤ 15
    pub generator_length : length K.generator ≡ K.checks
    pub target_length : length K.target ≡ K.checks
    pub roots : steps G root K.base 8 (power G K.base K.first) ≡ true
    pub base_nonzero : not (G.number K.base == 0) ≡ true
    pub no_one : steps G (λ y. not (G.number y == 1)) K.base (5 + top + K.checks) K.base ≡ true
    pub short : top ≤ 103

  module _ (f_laws : FieldLaws F) (g_laws : FieldLaws G) (embeds : Embeds F G K.embed) (longest : (n : ℕ) → K.allows n ≡ true → n ≤ top) (text : TextTested F K) (sum : SumTested) where
    apart : (i j : ℕ) → i < F.order → j < F.order → character F K i ≡ character F K j → i ≡ j
    apart i j hi hj e = elim (or_cases (i == j) _ (at₂ F.order _ text.alphabet_apart i j hi hj)) [
      | inl same ↦ eqb-true i j same
      | inr differ ↦ absurd (both_ways _ (not-true _ differ) (eq-eqb _ _ e))
    ]

    threshold : (d : ℕ) → d ≤ 9 → (d ≢ 1) → (i : ℕ) × (i < F.order) × (character F K i ≡ 48 + d)
    threshold d h not_one =
        let i = place K.alphabet (48 + d) in
        elim (or_cases (d == 1) _ (at 10 (λ e. (e == 1) || found F K (48 + e)) text.thresholds d (omega arith))) [
          | inl one ↦ absurd (not_one (eqb-true d 1 one))
          | inr there ↦ let parts = and_parts (nat_lt i F.order) _ there in (i, ltb-true i F.order parts.0, eqb-true (character F K i) (48 + d) parts.1)
        ]

    vanishes : (i : ℕ) → i < 8 → horner G (map K.embed (F.one ∷ K.generator)) (power G K.base (K.first + i)) ≡ G.zero
    vanishes i h =
        let split : power G K.base (K.first + i) ≡ G.times (power G K.base i) (power G K.base K.first) = power_plus G g_laws K.base K.first i ∙ g_laws.times_comm _ _ in
        ap (horner G (map K.embed (F.one ∷ K.generator))) split
        ∙ g_laws.same _ _ (eqb-true _ _ (step G g_laws root K.base 8 (power G K.base K.first) sum.roots i h) ∙ sym g_laws.number_zero)

    base_nonzero : K.base ≡ G.zero → ⊥
    base_nonzero e = both_ways _ (not-true _ sum.base_nonzero) (eq-eqb _ _ (ap G.number e ∙ g_laws.number_zero))

    not_one : (i : ℕ) → 0 < i → i < 6 + top + K.checks → power G K.base i ≢ G.one
    not_one zero positive h e = omega arith
    not_one (suc i) positive h e =
        both_ways _ (not-true _ (step G g_laws _ K.base (5 + top + K.checks) K.base sum.no_one i (omega arith))) (eq-eqb _ _ (ap G.number (g_laws.times_comm _ _ ∙ e) ∙ g_laws.number_one))

    places : (n i j : ℕ) → K.allows n ≡ true → i < 6 + n + K.checks → j < 6 + n + K.checks → power G K.base i ≡ power G K.base j → i ≡ j
    places n i j allowed hi hj e =
        let short : n ≤ top = longest n allowed in
        powers_apart G g_laws K.base base_nonzero (6 + top + K.checks) not_one i j (omega arith) (omega arith) e

    up_to : (n : ℕ) → K.allows n ≡ true → n ≤ 103
    up_to n allowed = le_trans (longest n allowed) sum.short

    pub lawful : Lawful F G K
    lawful = record {
      few_symbols = text.few_symbols;
      embed_plus = embeds.plus;
      embed_times = embeds.times;
      embed_zero = embeds.zero;
      embed_one = embeds.one;
      embed_same = embeds.same;
      prefix_length = text.prefix_length;
      prefix_plain = λ i h. plain_says _ (at 3 (λ j. plain (slice_index K.prefix j)) text.prefix_plain i h);
      alphabet_length = text.alphabet_length;
      alphabet_plain = λ i h. plain_says _ (at F.order _ text.alphabet_plain i h);
      alphabet_apart = apart;
      thresholds = threshold;
      few_checks = sum.few_checks;
      generator_length = sum.generator_length;
      target_length = sum.target_length;
      roots = vanishes;
      short_payload = up_to;
      places_apart = places;
    }
