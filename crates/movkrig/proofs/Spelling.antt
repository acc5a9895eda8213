-- A word of six letters that is known letter by letter.
use Rattle.std.proofs.Common.{◌≡◌, ℕ, ◌<◌, ◌≤◌, List, [], ◌∷◌, length, get_or, arith}

pub six : (w : List ℕ) {a b c d e f : ℕ} → 6 ≤ length w → length w < 7
    → get_or w 0 0 ≡ a → get_or w 1 0 ≡ b → get_or w 2 0 ≡ c → get_or w 3 0 ≡ d → get_or w 4 0 ≡ e → get_or w 5 0 ≡ f
    → w ≡ a ∷ b ∷ c ∷ d ∷ e ∷ f ∷ []
six [] least below a b c d e f = absurd (omega arith)
six (u ∷ []) least below a b c d e f = absurd (omega arith)
six (u ∷ v ∷ []) least below a b c d e f = absurd (omega arith)
six (u ∷ v ∷ w ∷ []) least below a b c d e f = absurd (omega arith)
six (u ∷ v ∷ w ∷ x ∷ []) least below a b c d e f = absurd (omega arith)
six (u ∷ v ∷ w ∷ x ∷ y ∷ []) least below a b c d e f = absurd (omega arith)
six (u ∷ v ∷ w ∷ x ∷ y ∷ z ∷ []) least below a b c d e f = λ i. a i ∷ b i ∷ c i ∷ d i ∷ e i ∷ f i ∷ []
six (u ∷ v ∷ w ∷ x ∷ y ∷ z ∷ s ∷ rest) least below a b c d e f = absurd (omega arith)
