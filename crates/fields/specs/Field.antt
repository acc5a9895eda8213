-- A finite field: its elements, their numbers, its operations, and the laws that they keep.
use Rattle.std.specs.Prelude.{◌≡◌, ℕ, zero, suc, ◌<◌, ◌≤◌, ◌≢◌}

pub record Operations (E : Type 0) : Type 0 where
  -- how many elements there are, and the number of each
  pub order : ℕ
  pub number : E → ℕ
  -- the element with a number below the order; from there on any element
  pub element : ℕ → E
  pub zero : E
  pub one : E
  pub plus : E → E → E
  pub neg : E → E
  pub times : E → E → E
  -- the inverse of an element other than zero; at zero any element
  pub inv : E → E

pub record FieldLaws {E : Type 0} (F : Operations E) : Type 0 where
  -- at most 1024 elements, numbered from 0, one number to each
  pub few : F.order ≤ 1024
  pub below : (x : E) → F.number x < F.order
  pub same : (x y : E) → F.number x ≡ F.number y → x ≡ y
  pub numbered : (n : ℕ) → n < F.order → F.number (F.element n) ≡ n
  pub number_zero : F.number F.zero ≡ 0
  pub number_one : F.number F.one ≡ 1
  -- sums
  pub plus_assoc : (x y z : E) → F.plus (F.plus x y) z ≡ F.plus x (F.plus y z)
  pub plus_comm : (x y : E) → F.plus x y ≡ F.plus y x
  pub plus_zero : (x : E) → F.plus x F.zero ≡ x
  pub plus_neg : (x : E) → F.plus x (F.neg x) ≡ F.zero
  -- products
  pub times_assoc : (x y z : E) → F.times (F.times x y) z ≡ F.times x (F.times y z)
  pub times_comm : (x y : E) → F.times x y ≡ F.times y x
  pub times_one : (x : E) → F.times x F.one ≡ x
  pub times_plus : (x y z : E) → F.times x (F.plus y z) ≡ F.plus (F.times x y) (F.times x z)
  pub times_inv : (x : E) → (x ≢ F.zero) → F.times x (F.inv x) ≡ F.one
  pub one_zero : F.one ≡ F.zero → ⊥

-- no element solves e × e = u × e + v
abbrev pub Rootless : {E : Type 0} → Operations E → E → E → Type 0
Rootless {E} F u v = (e : E) → F.times e e ≢ F.plus (F.times u e) v

module _ {E : Type 0} (F : Operations E) where
  abbrev pub minus : E → E → E
  minus x y = F.plus x (F.neg y)

  abbrev pub power : E → ℕ → E
  power x zero = F.one
  power x (suc n) = F.times x (power x n)
