-- Tests over texts: one character more, and one of those that all pass.
use Rattle.std.proofs.Common.{◌≡◌, ℕ, ◌+◌, ◌<◌, Bool, true, ◌||◌, List, length, get_or, take, sym, ap, ◌∙◌}
use Rattle.std.proofs.Math.Bool as bools
use Rattle.std.proofs.lemmas.List.Folds.{list_all_more, list_any_more}
use Rattle.std.proofs.lemmas.List.Sums.{AllPass-from_list_all}
use Rattle.std.proofs.lemmas.Bool.{and_from}
use Rattle.codes.specs.Texts.{all, any}

-- One character more

pub all_next : (f : ℕ → Bool) (t : List ℕ) (i : ℕ) → i < length t → all f (take i t) ≡ true → f (get_or t i 0) ≡ true → all f (take (i + 1) t) ≡ true
all_next f t i h before here = list_all_more f t i 0 h ∙ and_from _ _ before here

pub any_next : (f : ℕ → Bool) (t : List ℕ) (i : ℕ) (seen before after : Bool) → i < length t → before ≡ (seen || any f (take i t)) → after ≡ (before || f (get_or t i 0))
    → after ≡ (seen || any f (take (i + 1) t))
any_next f t i seen before after h e d = d ∙ ap (λ b. b || f (get_or t i 0)) e ∙ bools.or_assoc seen _ _ ∙ sym (ap (λ b. seen || b) (list_any_more f t i 0 h))

-- One character of those that all pass

pub all_at : (f : ℕ → Bool) (t : List ℕ) (i : ℕ) → i < length t → all f t ≡ true → f (get_or t i 0) ≡ true
all_at f t i h e = AllPass-from_list_all f t e i 0 h
