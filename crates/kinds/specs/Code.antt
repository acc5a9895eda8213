-- What a kind of share is: its alphabet, its checksum code, its allowed lengths, and the laws that these keep.
use Rattle.std.specs.Prelude.{◌≡◌, ℕ, ◌+◌, ◌<◌, ◌≤◌, Bool, true, ◌⊎◌, List, ◌∷◌, map, length, ◌≢◌, slice_index}
use Rattle.fields.specs.Field.{Operations, power}
use Rattle.kinds.specs.Words.{horner}

-- a kind of share over symbols E, corrected in the field C
pub record Code (E C : Type 0) : Type 0 where
  -- text: three characters in front, and the character of each symbol by its number
  pub prefix : List ℕ
  pub alphabet : List ℕ
  -- the index at which the secret lies
  pub secret : E
  -- the checksum: the word in front of the data, the generator below its leading 1, and the remainder that is asked for
  pub start : List E
  pub generator : List E
  pub target : List E
  pub checks : ℕ
  -- correction: symbols as elements of the larger field, and the powers of `base` from `first` that are roots
  pub embed : E → C
  pub base : C
  pub first : ℕ
  -- the payload lengths that are allowed
  pub allows : ℕ → Bool

-- a digit or a capital letter
abbrev pub Plain : ℕ → Type 0
Plain c = ((48 ≤ c) × (c ≤ 57)) ⊎ ((65 ≤ c) × (c ≤ 90))

-- what the values of a kind keep
pub record Lawful {E C : Type 0} (F : Operations E) (G : Operations C) (K : Code E C) : Type 0 where
  -- symbols, and the map that takes them into the larger field
  pub few_symbols : F.order ≤ 32
  pub embed_plus : (x y : E) → K.embed (F.plus x y) ≡ G.plus (K.embed x) (K.embed y)
  pub embed_times : (x y : E) → K.embed (F.times x y) ≡ G.times (K.embed x) (K.embed y)
  pub embed_zero : K.embed F.zero ≡ G.zero
  pub embed_one : K.embed F.one ≡ G.one
  pub embed_same : (x y : E) → K.embed x ≡ K.embed y → x ≡ y
  -- characters
  pub prefix_length : length K.prefix ≡ 3
  pub prefix_plain : (i : ℕ) → i < 3 → Plain (slice_index K.prefix i)
  pub alphabet_length : length K.alphabet ≡ F.order
  pub alphabet_plain : (i : ℕ) → i < F.order → Plain (slice_index K.alphabet i)
  pub alphabet_apart : (i j : ℕ) → i < F.order → j < F.order → slice_index K.alphabet i ≡ slice_index K.alphabet j → i ≡ j
  -- the characters 0 and 2 to 9 are among them
  pub thresholds : (d : ℕ) → d ≤ 9 → (d ≢ 1) → (i : ℕ) × (i < F.order) × (slice_index K.alphabet i ≡ 48 + d)
  -- the checksum, with eight powers in a row of the base among the roots of the generator
  pub few_checks : K.checks ≤ 15
  pub generator_length : length K.generator ≡ K.checks
  pub target_length : length K.target ≡ K.checks
  pub roots : (i : ℕ) → i < 8 → horner G (map K.embed (F.one ∷ K.generator)) (power G K.base (K.first + i)) ≡ G.zero
  -- payloads, and powers of the base that tell the places of the longest data apart
  pub short_payload : (n : ℕ) → K.allows n ≡ true → n ≤ 103
  pub places_apart : (n i j : ℕ) → K.allows n ≡ true → i < 6 + n + K.checks → j < 6 + n + K.checks → power G K.base i ≡ power G K.base j → i ≡ j
