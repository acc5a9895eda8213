-- Reading test by test.
use Rattle.std.proofs.Common.{◌≡◌, ℕ, ◌+◌, ◌-◌, ◌≤◌, Bool, true, false, ◌&&◌, ◌||◌, leb, List, map, length, get_or, take, drop, sym, refl, ap, ◌∙◌, ap₂, arith, length-drop, take-append-drop}
use Rattle.std.proofs.lemmas.List.{take_rest}
use Rattle.std.proofs.lemmas.Bool.{and_parts, leb-true, not_from_false, not_from_true}
use Rattle.fields.specs.Field.{Operations}
use Rattle.kinds.specs.Code.{Code}
use Rattle.codes.specs.Reading.{Answer, answered, refused, unless, fits, frame, read}
use Rattle.codes.specs.Texts.{all, any, both_cases, known, same_numbers, symbol}
use Rattle.kinds.specs.Characters.{capital, capital_letter, small_letter}
use Rattle.codes.specs.declared.texts.Cases.{Cases}
use Rattle.std.proofs.lemmas.List.Folds.{list_any-append}
use Rattle.codes.proofs.Scans.{any_next}

-- tests that fail and pass
pub unless_fails : {A : Type 0} (b : Bool) (n : ℕ) (a : Answer A) → b ≡ false → unless b n a ≡ refused n
unless_fails b n a e = ap (λ t. unless t n a) e

pub unless_passes : {A : Type 0} (b : Bool) (n : ℕ) (a c : Answer A) → b ≡ true → a ≡ c → unless b n a ≡ c
unless_passes b n a c e d = ap (λ t. unless t n a) e ∙ d

-- three characters one by one, and then the rest
any_in_two_parts : (f : ℕ → Bool) (t : List ℕ) → 3 ≤ length t → (s₀ s₁ s₂ s₃ s : Bool) → s₀ ≡ false → s₁ ≡ (s₀ || f (get_or t 0 0)) → s₂ ≡ (s₁ || f (get_or t 1 0)) → s₃ ≡ (s₂ || f (get_or t 2 0))
    → s ≡ (s₃ || any f (take (length t - 3) (drop 3 t))) → s ≡ any f t
any_in_two_parts f t long s₀ s₁ s₂ s₃ s e₀ e₁ e₂ e₃ e =
    e ∙ ap₂ ◌||◌ (any_next f t 2 false s₂ s₃ (omega arith) (any_next f t 1 false s₁ s₂ (omega arith) (any_next f t 0 false s₀ s₁ (omega arith) e₀ e₁) e₂) e₃) (ap (any f) (take_rest t 3))
    ∙ sym (list_any-append f (take 3 t) (drop 3 t)) ∙ ap (any f) (take-append-drop 3 t)

-- the cases of letters after one character more
abbrev After : Cases → ℕ → Cases → Type 0
After s c r = (r.small ≡ (s.small || small_letter c)) × (r.capitals ≡ (s.capitals || capital_letter c))

-- the cases that are seen in three characters and then the rest are those of the text
pub mixed_is : (t : List ℕ) → 3 ≤ length t → (s₀ s₁ s₂ s₃ s : Cases) → (s₀.small ≡ false) × (s₀.capitals ≡ false) → After s₀ (get_or t 0 0) s₁ → After s₁ (get_or t 1 0) s₂ → After s₂ (get_or t 2 0) s₃
    → s.small ≡ (s₃.small || any small_letter (take (length t - 3) (drop 3 t))) → s.capitals ≡ (s₃.capitals || any capital_letter (take (length t - 3) (drop 3 t)))
    → (b : Bool) → b ≡ (s.small && s.capitals) → b ≡ both_cases t
mixed_is t long s₀ s₁ s₂ s₃ s e₀ e₁ e₂ e₃ small capitals b is =
    is
    ∙ ap₂ ◌&&◌ (any_in_two_parts small_letter t long s₀.small s₁.small s₂.small s₃.small s.small e₀.0 e₁.0 e₂.0 e₃.0 small)
    (any_in_two_parts capital_letter t long s₀.capitals s₁.capitals s₂.capitals s₃.capitals s.capitals e₀.1 e₁.1 e₂.1 e₃.1 capitals)

module _ {E C : Type 0} (F : Operations E) (K : Code E C) (t : List ℕ) where
  pub refused_11 : fits K (length t) ≡ false → read F K t ≡ refused 11
  unfolding read
  refused_11 e = unless_fails _ _ _ e

  module _ (fit : fits K (length t) ≡ true) where
    pub long_enough : 9 + K.checks ≤ length t
    long_enough = leb-true (frame K) (length t) (and_parts (leb (frame K) (length t)) (K.allows (length t - frame K)) fit).0

    pub refused_12 : same_numbers (map capital (take 3 t)) K.prefix ≡ false → read F K t ≡ refused 12
    unfolding read
    refused_12 e = unless_passes _ _ _ _ fit (unless_fails _ _ _ e)

    module _ (begins : same_numbers (map capital (take 3 t)) K.prefix ≡ true) where
      pub refused_13 : all (known K) (take (length t - 3) (drop 3 t)) ≡ false → read F K t ≡ refused 13
      unfolding read
      refused_13 e = unless_passes _ _ _ _ fit (unless_passes _ _ _ _ begins (unless_fails _ _ _ (sym (ap (all (known K)) (take_rest t 3)) ∙ e)))

      module _ (all_known : all (known K) (take (length t - 3) (drop 3 t)) ≡ true) where
        pub refused_14 : both_cases t ≡ true → read F K t ≡ refused 14
        unfolding read
        refused_14 e =
            unless_passes _ _ _ _ fit (unless_passes _ _ _ _ begins (unless_passes _ _ _ _ (sym (ap (all (known K)) (take_rest t 3)) ∙ all_known) (unless_fails _ _ _ (not_from_true _ e))))

        pub is_read : both_cases t ≡ false → read F K t ≡ answered (map (symbol F K) (drop 3 t))
        unfolding read
        is_read e =
            unless_passes _ _ _ _ fit (unless_passes _ _ _ _ begins (unless_passes _ _ _ _ (sym (ap (all (known K)) (take_rest t 3)) ∙ all_known) (unless_passes _ _ _ _ (not_from_false _ e) refl)))

-- a refusal is no answer
refused_answered : {A : Type 0} (n : ℕ) (a : A) → refused n ≡ answered a → ⊥
refused_answered n a e = let z : ◌≡◌ {A = ℕ} 0 1 = cc in omega arith

-- equal answers hold equal values
pub answered_same : {A : Type 0} (a b : A) → answered a ≡ answered b → a ≡ b
answered_same _ _ e = cc

-- what is answered passed the test
pub unless_answered : {A : Type 0} (b : Bool) (n : ℕ) (a : Answer A) (x : A) → unless b n a ≡ answered x → (b ≡ true) × (a ≡ answered x)
unless_answered true n a x e = (refl, e)
unless_answered false n a x e = absurd (refused_answered n x e)

-- what is read is long enough, and all its characters are in the alphabet
pub read_passed : {E C : Type 0} (F : Operations E) (K : Code E C) (t : List ℕ) (d : List E) → read F K t ≡ answered d → (6 + K.checks ≤ length (drop 3 t)) × (all (known K) (drop 3 t) ≡ true)
unfolding read
read_passed F K t d e =
    let (fit, more) = unless_answered _ _ _ _ e in
    let (_, rest) = unless_answered _ _ _ _ more in
    let (all_known, _) = unless_answered _ _ _ _ rest in
    (longer (long_enough F K t fit), all_known)
  where
    longer : 9 + K.checks ≤ length t → 6 + K.checks ≤ length (drop 3 t)
    longer h = simp length-drop (omega arith)
