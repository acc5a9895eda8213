-- The generators from their roots: each is the product of X − β^e over some exponents e.
use Rattle.std.specs.Prelude.{◌≡◌, ℕ, List, [], ◌∷◌, map}
use Rattle.fields.specs.Field.{Operations, minus, power}
use Rattle.fields.specs.Gf11.{gf11}
use Rattle.fields.specs.Gf32.{gf32}
use Rattle.fields.specs.Extensions.{gf121, gf1024}
use Rattle.kinds.specs.Code.{Code}
use Rattle.kinds.specs.Digits.{digits}
use Rattle.kinds.specs.Letters.{short_letters, long_letters}

module _ {C : Type 0} (G : Operations C) where
  -- what is left of a word times X − r behind the entry p
  abbrev pub after : C → C → List C → List C
  after r p [] = minus G G.zero (G.times r p) ∷ []
  after r p (c ∷ w) = minus G c (G.times r p) ∷ after r c w

  -- a word times X − r, both with the highest power first
  abbrev pub times_root : C → List C → List C
  times_root r [] = []
  times_root r (c ∷ w) = c ∷ after r c w

  -- the product of X − r over the roots
  abbrev pub with_roots : List C → List C
  with_roots [] = G.one ∷ []
  with_roots (r ∷ rs) = times_root r (with_roots rs)

abbrev pub FromRoots : {E C : Type 0} → Operations E → Operations C → Code E C → List ℕ → Type 0
FromRoots F G K exponents = map K.embed (F.one ∷ K.generator) ≡ with_roots G (map (power G K.base) exponents)

pub record Generators : Type 0 where
  pub short : FromRoots gf32 gf1024 short_letters (17 ∷ 20 ∷ 46 ∷ 49 ∷ 52 ∷ 77 ∷ 78 ∷ 79 ∷ 80 ∷ 81 ∷ 82 ∷ 83 ∷ 84 ∷ [])
  pub long : FromRoots gf32 gf1024 long_letters (0 ∷ 1 ∷ 2 ∷ 3 ∷ 32 ∷ 64 ∷ 96 ∷ 895 ∷ 927 ∷ 959 ∷ 991 ∷ 1019 ∷ 1020 ∷ 1021 ∷ 1022 ∷ [])
  pub digit : FromRoots gf11 gf121 digits (1 ∷ 6 ∷ 7 ∷ 8 ∷ 9 ∷ 10 ∷ 11 ∷ 12 ∷ 13 ∷ 17 ∷ 23 ∷ 28 ∷ 39 ∷ 50 ∷ [])
