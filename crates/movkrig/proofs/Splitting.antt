-- The words of a line by its runs of blank bytes and of others, and a line without the return at its end.
use Rattle.std.proofs.Common.{◌≡◌, ℕ, zero, suc, ◌<◌, ◌≤◌, ◌-◌, ◌==◌, Bool, true, false, not, cond, List, [], ◌∷◌, length, get_or, take, drop, Option, Some, None, unwrap_or, refl, sym, ap, ◌∙◌, subst, add-zero, arith, length-drop, drop_of_length-le, get_or-drop, ne_eqb}
use Rattle.std.proofs.lemmas.Bool.{not-false, not-true, true≢false}
use Rattle.std.proofs.lemmas.Bool.Decides.{nat_tests}
use Rattle.std.proofs.lemmas.List.Quantifiers.{position-Some}
use Rattle.std.proofs.lemmas.List.Sums.{fails_before_first}
use Rattle.std.specs.List.{position, position_or_len}
use Rattle.movkrig.specs.Words.{blank, apart, longer, words, without_return}

-- the first n bytes, and no more, are blank, or are not
record Run (blanks : Bool) (n : ℕ) (line : List ℕ) : Type 0 where
  within : n ≤ length line
  alike : (k : ℕ) → k < n → blank (get_or line k 0) ≡ blanks
  stops : n < length line → blank (get_or line n 0) ≡ not blanks

past_blanks : (n : ℕ) (bs : List ℕ) → ((k : ℕ) → k < n → blank (get_or bs k 0) ≡ true) → words bs ≡ words (drop n bs)
past_blanks zero bs all = refl
past_blanks (suc n) [] all = refl
past_blanks (suc n) (b ∷ bs) all =
    ap (λ v. cond v (words bs) (cond (apart bs) ((b ∷ []) ∷ words bs) (longer b (words bs)))) (all 0 (omega arith))
    ∙ past_blanks n bs (λ k h. all (suc k) (omega arith))

-- a byte that is not blank is part of a word
solid_first : (b : ℕ) (bs : List ℕ) → blank b ≡ false → words (b ∷ bs) ≡ cond (apart bs) ((b ∷ []) ∷ words bs) (longer b (words bs))
solid_first b bs solid = ap (λ v. cond v (words bs) (cond (apart bs) ((b ∷ []) ∷ words bs) (longer b (words bs)))) solid

ends : (bs : List ℕ) → (0 < length bs → blank (get_or bs 0 0) ≡ true) → apart bs ≡ true
ends [] stops = refl
ends (c ∷ bs) stops = stops (omega arith)

word_first : (n : ℕ) (bs : List ℕ) → 0 < n → Run false n bs → words bs ≡ take n bs ∷ words (drop n bs)
word_first zero bs some run = absurd (omega arith)
word_first (suc n) [] some run = absurd (omega (arith, run.within))
word_first (suc zero) (b ∷ bs) some run =
    solid_first b bs (run.alike 0 (omega arith))
    ∙ ap (λ v. cond v ((b ∷ []) ∷ words bs) (longer b (words bs))) (ends bs (λ h. run.stops (omega arith)))
word_first (suc (suc n)) (b ∷ []) some run = absurd (omega (arith, run.within))
word_first (suc (suc n)) (b ∷ c ∷ bs) some run =
    solid_first b (c ∷ bs) (run.alike 0 (omega arith))
    ∙ ap (λ v. cond v ((b ∷ []) ∷ words (c ∷ bs)) (longer b (words (c ∷ bs)))) (run.alike 1 (omega arith))
    ∙ ap (longer b)
    (word_first (suc n) (c ∷ bs) (omega arith) (record {
      within = omega (arith, run.within);
      alike = λ k h. run.alike (suc k) (omega arith);
      stops = λ h. run.stops (omega arith);
    }))

is_None : (b : Bool) (n : ℕ) → cond b (Some n) None ≡ None → b ≡ false
is_None true n none = cc
is_None false n none = refl

nowhere : (p : ℕ → Bool) (line : List ℕ) → position p line ≡ None → length line ≤ position_or_len p line
nowhere p line none = let test = is_None _ _ none in grind (arith, nat_tests, test)

-- no byte is part of a word
pub no_word : (line : List ℕ) → position (λ b. not (blank b)) line ≡ None → words line ≡ []
no_word line none =
    past_blanks (length line) line (λ k h. not-false _ (fails_before_first (λ b. not (blank b)) line k 0 (omega (arith, nowhere (λ b. not (blank b)) line none))))
    ∙ ap words (drop_of_length-le line (omega arith))

-- the word at the front ends before its first blank, or where the line does
word_run : (line : List ℕ) (o : Option ℕ) → position blank line ≡ o → Run false (unwrap_or o (length line)) line
word_run line (Some m) e =
    let ends = position-Some blank line m 0 e in
    record { within = omega (arith, ends.0); alike = ends.2; stops = λ h. ends.1 }
word_run line None e =
    record {
      within = omega arith;
      alike = λ k h. fails_before_first blank line k 0 (omega (arith, nowhere blank line e));
      stops = λ h. absurd (omega arith);
    }

-- a word begins behind n bytes
module _ (line : List ℕ) (n : ℕ) (begins : position (λ b. not (blank b)) line ≡ Some n) where
  solid_at : blank (get_or (drop n line) 0 0) ≡ false
  solid_at =
      ap blank (get_or-drop n line 0 0 ∙ ap (λ i. get_or line i 0) (add-zero n))
      ∙ not-true _ (position-Some (λ b. not (blank b)) line n 0 begins).1

  some : (m : ℕ) → Run false m (drop n line) → 0 < m
  some zero run =
      let within = (position-Some (λ b. not (blank b)) line n 0 begins).0 in
      absurd (true≢false (sym (run.stops (omega (arith, length-drop n line))) ∙ solid_at))
  some (suc m) run = omega arith

  -- and goes on to the first blank behind them, or the end
  module _ (m : ℕ) (ends : m ≡ unwrap_or (position blank (drop n line)) (length (drop n line))) where
    run : Run false m (drop n line)
    run = subst (λ k. Run false k (drop n line)) (sym ends) (word_run (drop n line) _ refl)

    pub not_empty : 0 < m
    not_empty = some m run

    pub first_word : words line ≡ take m (drop n line) ∷ words (drop m (drop n line))
    first_word =
        past_blanks n line (λ k h. not-false _ ((position-Some (λ b. not (blank b)) line n 0 begins).2 k h))
        ∙ word_first m (drop n line) (some m run) run

nothing_left : (k : ℕ) → drop {A = ℕ} k [] ≡ 13 ∷ [] → ⊥
nothing_left zero e = cc
nothing_left (suc k) e = cc

-- a line that ends by a return, cut before it
pub returned : (line : List ℕ) (k : ℕ) → drop k line ≡ 13 ∷ [] → take k line ≡ without_return line
returned [] k e = absurd (nothing_left k e)
returned (b ∷ []) zero e = let h : b ≡ 13 = cc in sym (ap (λ v. cond v [] (b ∷ [])) (ap (λ n. n == 13) h))
returned (b ∷ []) (suc k) e = absurd (nothing_left k e)
returned (b ∷ c ∷ bs) zero e = cc
returned (b ∷ c ∷ bs) (suc k) e = ap (λ l. b ∷ l) (returned (c ∷ bs) k e)

-- a line that does not
pub not_returned : (line : List ℕ) (k : ℕ) → length line - 1 ≡ k → (drop k line ≡ 13 ∷ [] → ⊥) → line ≡ without_return line
not_returned [] k last other = refl
not_returned (b ∷ []) zero last other = sym (ap (λ v. cond v [] (b ∷ [])) (ne_eqb b 13 (λ h. other (ap (λ n. n ∷ []) h))))
not_returned (b ∷ []) (suc k) last other = absurd (omega arith)
not_returned (b ∷ c ∷ bs) zero last other = absurd (omega arith)
not_returned (b ∷ c ∷ bs) (suc k) last other = ap (λ l. b ∷ l) (not_returned (c ∷ bs) k (omega arith) other)
