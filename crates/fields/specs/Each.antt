-- Rules for all numbers below a bound by one test that antt computes.
use Rattle.std.specs.Prelude.{◌≡◌, ℕ, ◌<◌, Bool, true}
use Rattle.std.proofs.lemmas.Bool.{agree_below, agree_below_at}

-- the test passes at each number below q
abbrev pub all_below : ℕ → (ℕ → Bool) → Bool
all_below q test = agree_below test (λ _. true) q

-- the same as a type, of one number, two and three
abbrev pub Each : ℕ → (ℕ → Bool) → Type 0
Each q test = all_below q test ≡ true

abbrev pub Each₂ : ℕ → (ℕ → ℕ → Bool) → Type 0
Each₂ q test = Each q (λ x. all_below q (test x))

abbrev pub Each₃ : ℕ → (ℕ → ℕ → ℕ → Bool) → Type 0
Each₃ q test = Each₂ q (λ x y. all_below q (test x y))

-- what such a test says of numbers below q
pub at : (q : ℕ) (test : ℕ → Bool) → Each q test → (x : ℕ) → x < q → test x ≡ true
at q test t x h = agree_below_at test (λ _. true) q x t h

pub at₂ : (q : ℕ) (test : ℕ → ℕ → Bool) → Each₂ q test → (x y : ℕ) → x < q → y < q → test x y ≡ true
at₂ q test t x y hx hy = at q (test x) (at q (λ x. all_below q (test x)) t x hx) y hy

pub at₃ : (q : ℕ) (test : ℕ → ℕ → ℕ → Bool) → Each₃ q test → (x y z : ℕ) → x < q → y < q → z < q → test x y z ≡ true
at₃ q test t x y z hx hy hz = at q (test x y) (at₂ q (λ x y. all_below q (test x y)) t x y hx hy) z hz
