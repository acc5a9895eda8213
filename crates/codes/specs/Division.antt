-- The long division of words of symbols, written highest power first.
use Rattle.std.specs.Prelude.{◌≡◌, List, [], ◌∷◌, ◌++◌, length, replicate}
use Rattle.fields.specs.Field.{Operations, minus}

module _ {E : Type 0} (F : Operations E) where
  -- entry by entry, one word less the other
  abbrev pub lessened : List E → List E → List E
  lessened [] ys = []
  lessened (x ∷ xs) [] = x ∷ xs
  lessened (x ∷ xs) (y ∷ ys) = minus F x y ∷ lessened xs ys

  -- entry by entry, the row less t times the other
  abbrev pub less : E → List E → List E → List E
  less t [] gs = []
  less t (r ∷ rs) [] = r ∷ rs
  less t (r ∷ rs) (g ∷ gs) = minus F r (F.times t g) ∷ less t rs gs

  -- one step of the long division by the monic polynomial with the symbols g below its leading 1:
  -- the next symbol comes in at the end, and what leaves at the top is taken away as a multiple of g
  abbrev pub shifted : List E → List E → E → List E
  shifted g [] s = []
  shifted g (top ∷ rest) s = less top (rest ++ (s ∷ [])) g

  -- the steps over a word, from a register
  abbrev pub divided : List E → List E → List E → List E
  divided g register [] = register
  divided g register (s ∷ w) = divided g (shifted g register s) w

  -- the remainder of a word by that polynomial
  abbrev pub remainder : List E → List E → List E
  remainder g w = divided g (replicate (length g) F.zero) w

  -- the symbol that goes into the quotient as s comes in: what leaves at the top
  abbrev pub leaving : List E → E → E
  leaving [] s = s
  leaving (top ∷ rest) s = top

  -- the quotient of a word, divided on from a register
  abbrev pub quotient : List E → List E → List E → List E
  quotient g register [] = []
  quotient g register (s ∷ w) = leaving register s ∷ quotient g (shifted g register s) w

  -- the word q times that polynomial
  abbrev pub product : List E → List E → List E
  product g [] = replicate (length g) F.zero
  product g (t ∷ q) = t ∷ less (F.neg t) (product g q) g

  -- the word w is q times that polynomial and r, with zeros in front to make the lengths fit
  pub record Division (g w q r : List E) : Type 0 where
    pub steps : length q ≡ length w
    pub short : length r ≡ length g
    pub whole : lessened (replicate (length g) F.zero ++ w) (product g q) ≡ replicate (length w) F.zero ++ r

  -- What is proved of the long division: it divides, in the only way, and the remainder is linear
  pub record Remainders : Type 0 where
    pub divides : (g w : List E) → Division g w (quotient g (replicate (length g) F.zero) w) (remainder g w)
    pub only : (g w q r : List E) → Division g w q r → r ≡ remainder g w
    pub linear : (g w w' : List E) → length w ≡ length w' → remainder g (lessened w w') ≡ lessened (remainder g w) (remainder g w')
