-- The numbers below q under their rules are a field, where tests of all of them pass.
use Rattle.std.specs.Prelude.{◌≡◌, ℕ, ◌%◌, ◌<◌, ◌≤◌}
use Rattle.std.proofs.Common.{ap, subst, mod-eq_of_lt}
use Rattle.std.proofs.Math.Bridge.{le_prop}
use Rattle.fields.specs.Field.{FieldLaws, Rootless}
use Rattle.fields.specs.Below.{Rules, below, residue}
use Rattle.fields.specs.Tested.{Tests, NoRoot, laws_from, rootless}
use Rattle.fields.specs.declared.below.Below.{Below}

-- elements with the same number are the same
pub same_below : {q : ℕ} (x y : Below q) → x.n ≡ y.n → x ≡ y
same_below {q} x y e = subst (λ m. (h : m < q) → x ≡ record { n = m; bound = h }) e (λ h. ap (λ b. record { n = x.n; bound = b }) (le_prop x.bound h)) y.bound

module _ {q : ℕ} (rules : Rules q) where
  bound : (x : Below q) → x.n < q
  bound x = x.bound

  found : (x : Below q) → residue rules.positive x.n ≡ x
  found x = same_below _ _ (mod-eq_of_lt x.bound)

  pub below_laws : q ≤ 1024 → 1 % q ≡ 1 → Tests (below rules) → FieldLaws (below rules)
  below_laws few one tests = laws_from (below rules) bound found few (λ n h. mod-eq_of_lt h) (mod-eq_of_lt rules.positive) one tests

  pub below_rootless : (u v : Below q) → NoRoot (below rules) u v → Rootless (below rules) u v
  below_rootless = rootless (below rules) bound found
