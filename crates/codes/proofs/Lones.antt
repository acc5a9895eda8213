-- Writing a lone secret, test by test.
use Rattle.std.proofs.Common.{◌≡◌, ℕ, ◌+◌, ◌<◌, ◌≤◌, true, false, ◌&&◌, ◌++◌, eqb, leb, List, map, length, sym, refl, ap, ◌∙◌, arith, lit≤}
use Rattle.std.proofs.lemmas.List.{length-map}
use Rattle.std.proofs.lemmas.Bool.{and_parts, eqb-true, le-leb, lt-leb}
use Rattle.fields.specs.Field.{Operations, FieldLaws}
use Rattle.kinds.specs.Code.{Code, Lawful}
use Rattle.codes.specs.Checking.{checked}
use Rattle.codes.specs.Reading.{answered, refused}
use Rattle.fields.specs.Numbered.{numbered}
use Rattle.codes.specs.Writing.{LoneAccepted, all_numbers, completed, head_numbers, line, line_of, lone_answer, lone_parts}
use Rattle.codes.proofs.Lines.{checked_line, length_line_of}
use Rattle.codes.proofs.Written.{front_is}
use Rattle.codes.proofs.Readings.{answered_same, unless_answered, unless_fails, unless_passes}

zero_one : ◌≡◌ {A = ℕ} 0 1 → ⊥
zero_one e = omega arith

module _ {E C : Type 0} (F : Operations E) (laws : FieldLaws F) {G : Operations C} (K : Code E C) (lawful : Lawful F G K) where
  line_length : (id pl : List ℕ) → length id ≡ 4 → length (line_of F K (lone_parts F K id pl)) ≡ 9 + length pl + K.checks
  line_length id pl named =
      length_line_of F laws K lawful (lone_parts F K id pl) (length-map id F.element ∙ named) ∙ ap (λ n. 9 + n + K.checks) (length-map pl F.element)

  module _ (id pl : List ℕ) (size : ℕ) where
    pub refused_42 : (eqb (length id) 4 && all_numbers F K id) ≡ false → lone_answer F K id pl size ≡ refused 42
    unfolding lone_answer
    refused_42 e = unless_fails _ _ _ e

    module _ (named : (eqb (length id) 4 && all_numbers F K id) ≡ true) where
      pub is_four : length id ≡ 4
      is_four = eqb-true (length id) 4 (and_parts (eqb (length id) 4) (all_numbers F K id) named).0

      pub id_below : all_numbers F K id ≡ true
      id_below = (and_parts (eqb (length id) 4) (all_numbers F K id) named).1

      -- the line that is written from the numbers is that of the parts
      pub lone_line : all_numbers F K pl ≡ true → (four : List ℕ) (x : ℕ) → four ≡ id → x ≡ F.number K.secret
          → line F K (completed F K (map (numbered F) (head_numbers K 0 four x ++ pl))) ≡ line_of F K (lone_parts F K id pl)
      unfolding line_of
      lone_line pl_below four x same is_x =
          ap (λ us. line F K (completed F K (map (numbered F) (head_numbers K 0 us x ++ pl)))) same
          ∙ ap (λ h. line F K (completed F K h)) (front_is F laws K lawful 0 (lit≤ tt) zero_one id pl x K.secret is_x id_below pl_below)

      pub refused_43 : K.allows (length pl) ≡ false → lone_answer F K id pl size ≡ refused 43
      unfolding lone_answer
      refused_43 e = unless_passes _ _ _ _ named (unless_fails _ _ _ e)

      module _ (allowed : K.allows (length pl) ≡ true) where
        pub refused_53 : all_numbers F K pl ≡ false → lone_answer F K id pl size ≡ refused 53
        unfolding lone_answer
        refused_53 e = unless_passes _ _ _ _ named (unless_passes _ _ _ _ allowed (unless_fails _ _ _ e))

        module _ (pl_below : all_numbers F K pl ≡ true) where
          pub refused_81 : size < 9 + length pl + K.checks → lone_answer F K id pl size ≡ refused 81
          unfolding lone_answer
          refused_81 h =
              unless_passes _ _ _ _ named (unless_passes _ _ _ _ allowed (unless_passes _ _ _ _ pl_below (unless_fails _ _ _ (lt-leb (length (line_of F K (lone_parts F K id pl))) size (omega (arith, line_length id pl is_four))))))

          pub is_written : 9 + length pl + K.checks ≤ size → lone_answer F K id pl size ≡ answered (line_of F K (lone_parts F K id pl))
          unfolding lone_answer
          is_written h =
              unless_passes _ _ _ _ named (unless_passes _ _ _ _ allowed (unless_passes _ _ _ _ pl_below (unless_passes _ _ _ _ (le-leb (length (line_of F K (lone_parts F K id pl))) size (omega (arith, line_length id pl is_four))) refl)))

  pub lone_length : (id pl : List ℕ) → length id ≡ 4 → 9 + length pl + K.checks ≡ length (line_of F K (lone_parts F K id pl))
  lone_length id pl named = sym (line_length id pl named)

  -- what is written is accepted
  pub lone_accepted : LoneAccepted F K
  unfolding lone_answer
  lone_accepted id pl size l e =
      let line = line_of F K (lone_parts F K id pl) in
      let (named, e₁) = unless_answered (eqb (length id) 4 && all_numbers F K id) 42 _ l e in
      let (allowed, e₂) = unless_answered (K.allows (length pl)) 43 _ l e₁ in
      let (_, e₃) = unless_answered (all_numbers F K pl) 53 _ l e₂ in
      let (_, e₄) = unless_answered (leb (length line) size) 81 (answered line) l e₃ in
      ap (checked F K) (sym (answered_same _ _ e₄))
      ∙ checked_line F laws K lawful (lone_parts F K id pl) record {
        high = lit≤ tt;
        not_one = λ z. zero_one z;
        alone = λ _. refl;
        named = length-map id F.element ∙ is_four id pl size named;
        allowed = ap K.allows (length-map pl F.element) ∙ allowed;
      }
