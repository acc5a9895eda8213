-- The pairs over a field, as elements lo + hi × t with t × t = u × t + v.
use Rattle.std.specs.Prelude.{◌+◌, ◌*◌, ◌/◌, ◌%◌}
use Rattle.fields.specs.Field.{Operations}
use Rattle.fields.specs.declared.pair.Pair.{Pair}

abbrev pub pair : {E : Type 0} → E → E → Pair E
pair a b = record { lo = a; hi = b }

module _ {E : Type 0} (F : Operations E) (u v : E) where
  infixl 60 ◌⊕◌
  infixl 70 ◌⊗◌
  open F use {plus as ◌⊕◌, times as ◌⊗◌, neg, inv, zero as 𝟎, one as 𝟏, number, element, order}

  -- the two parts of (a + b × t) × (c + d × t), since t × t is u × t + v
  abbrev pub low : E → E → E → E → E
  low a b c d = a ⊗ c ⊕ v ⊗ (b ⊗ d)

  abbrev pub high : E → E → E → E → E
  high a b c d = a ⊗ d ⊕ b ⊗ c ⊕ u ⊗ (b ⊗ d)

  -- a + b × t times its conjugate, (a + u × b) - b × t, is its norm, an element of the field
  abbrev pub norm : E → E → E
  norm a b = a ⊗ a ⊕ u ⊗ (a ⊗ b) ⊕ neg (v ⊗ (b ⊗ b))

  abbrev pub pairs : Operations (Pair E)
  pairs = record {
    order = order * order;
    number = λ p. number p.lo + order * number p.hi;
    element = λ n. pair (element (n % order)) (element (n / order));
    zero = pair 𝟎 𝟎;
    one = pair 𝟏 𝟎;
    plus = λ p q. pair (p.lo ⊕ q.lo) (p.hi ⊕ q.hi);
    neg = λ p. pair (neg p.lo) (neg p.hi);
    times = λ p q. pair (low p.lo p.hi q.lo q.hi) (high p.lo p.hi q.lo q.hi);
    inv = λ p. pair ((p.lo ⊕ u ⊗ p.hi) ⊗ inv (norm p.lo p.hi)) (neg p.hi ⊗ inv (norm p.lo p.hi));
  }
