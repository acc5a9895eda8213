-- Buffers that are written from the front: what stands there already, and behind it what stood there before.
use Rattle.std.proofs.Common.{◌≡◌, ℕ, ◌+◌, ◌<◌, ◌≤◌, List, [], ◌∷◌, ◌++◌, map, length, get_or, take, drop, set, sym, ap, ◌∙◌, ap₂, append_assoc, append-nil, add_assoc, arith}
use Rattle.codes.specs.Reading.{Answer, answered, refused}
use Rattle.codes.specs.Writing.{Wrote, counted, written}
use Rattle.std.proofs.lemmas.List.{drop_all, drop_more, length-map, length-take-le, map_more, set_at, take_all}

-- one byte more
pub put_next : (l o out : List ℕ) (at c : ℕ) → length l ≡ at → at < length o → out ≡ l ++ drop at o → set out at c ≡ (l ++ (c ∷ [])) ++ drop (at + 1) o
put_next l o out at c long below is =
    ap (λ b. set b at c) (is ∙ ap (λ r. l ++ r) (drop_more o at 0 below))
    ∙ set_at l (get_or o at 0) (drop (at + 1) o) c at long
    ∙ sym (append_assoc l (c ∷ []) (drop (at + 1) o))

-- one character more of some, behind what stands before them
pub text_next : {A : Type 0} (f : A → ℕ) (symbols : List A) (d : A) (before o : List ℕ) (at i : ℕ) → i < length symbols
    → ((before ++ map f (take i symbols)) ++ (f (get_or symbols i d) ∷ [])) ++ drop (at + i + 1) o ≡ (before ++ map f (take (i + 1) symbols)) ++ drop (at + (i + 1)) o
text_next f symbols d before o at i below =
    ap₂ ◌++◌ (append_assoc before (map f (take i symbols)) _ ∙ ap (λ m. before ++ m) (sym (map_more f symbols i d below))) (ap (λ n. drop n o) (add_assoc at i 1))

-- what f gives of some, written over a piece of their length: one more, and all
module _ {A : Type 0} (f : A → ℕ) (some : List A) (o out : List ℕ) (i : ℕ) (is : out ≡ map f (take i some) ++ drop i o) where
  pub put_more : (d : A) (c : ℕ) → i < length some → i < length o → c ≡ f (get_or some i d) → set out i c ≡ map f (take (i + 1) some) ++ drop (i + 1) o
  put_more d c below room e =
      put_next (map f (take i some)) o out i c (length-map (take i some) f ∙ length-take-le i some (omega arith)) room is
      ∙ ap (λ l. l ++ drop (i + 1) o) (ap (λ x. map f (take i some) ++ (x ∷ [])) e ∙ sym (map_more f some i d below))

  pub put_all : length some ≤ i → length o ≡ length some → out ≡ map f some
  put_all done long =
      is ∙ ap₂ (λ s r. map f s ++ r) (take_all i some done) (drop_all i o (omega arith)) ∙ append-nil (map f some)

-- what a writing call leaves, refused and answered
pub wrote_refused : (a : Answer (List ℕ)) (out : List ℕ) (n : ℕ) → a ≡ refused n → Wrote a out (refused n) out
wrote_refused a out n e = record { answer = sym (ap counted e); buffer = sym (ap (λ b. written b out) e) }

pub wrote_answered : (a : Answer (List ℕ)) (out after l : List ℕ) (n : ℕ) → a ≡ answered l → n ≡ length l → after ≡ l ++ drop n out → Wrote a out (answered n) after
wrote_answered a out after l n e long is = record {
  answer = ap answered long ∙ sym (ap counted e);
  buffer = is ∙ ap (λ m. l ++ drop m out) long ∙ sym (ap (λ b. written b out) e);
}
