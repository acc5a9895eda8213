-- Writing lines, in capitals: what they are, and what writing a lone secret answers.
use Rattle.std.specs.Prelude.{◌≡◌, ℕ, ◌+◌, Bool, ◌&&◌, List, [], ◌∷◌, ◌++◌, map, length, drop, replicate, ◌==◌, nat_le, nat_lt}
use Rattle.fields.specs.Field.{Operations}
use Rattle.kinds.specs.Characters.{capital, place}
use Rattle.kinds.specs.Code.{Code}
use Rattle.codes.specs.Checking.{Codeword, Parts, checked}
use Rattle.codes.specs.Division.{lessened, remainder}
use Rattle.codes.specs.Reading.{Answer, answered, refused, then, unless}
use Rattle.codes.specs.Texts.{all, character, symbol}

-- a buffer after an answer was written to it: bytes beyond the answer keep their values, and a refusal changes nothing
abbrev pub written : Answer (List ℕ) → List ℕ → List ℕ
written (answered l) out = l ++ drop (length l) out
written (refused n) out = out

-- how much was written
abbrev pub counted : Answer (List ℕ) → Answer ℕ
counted a = then a (λ l. answered (length l))

-- a call that is to write this answer into a buffer: what it answers, and the buffer that it leaves
pub record Wrote (a : Answer (List ℕ)) (out : List ℕ) (r : Answer ℕ) (after : List ℕ) : Type 0 where
  pub answer : r ≡ counted a
  pub buffer : after ≡ written a out

-- an answer that a buffer of this length holds; else refusal 81
abbrev pub within : ℕ → List ℕ → Answer (List ℕ)
within size l = unless (nat_le (length l) size) 81 (answered l)

-- the numbers of the head of a line: threshold, identifier and index
abbrev pub head_numbers : {E C : Type 0} → Code E C → ℕ → List ℕ → ℕ → List ℕ
head_numbers K k identifier index = place K.alphabet (capital (48 + k)) ∷ (identifier ++ (index ∷ []))

-- parts from the numbers of their symbols
abbrev pub parts_of : {E : Type 0} → Operations E → ℕ → List ℕ → E → List ℕ → Parts E
parts_of F k identifier x payload = record {
  threshold = k;
  identifier = map F.element identifier;
  index = x;
  payload = map F.element payload;
}

module _ {E C : Type 0} (F : Operations E) (K : Code E C) where
  -- whether each is the number of a symbol
  abbrev pub all_numbers : List ℕ → Bool
  all_numbers = all (λ n. nat_lt n F.order)

  -- a line of data
  abbrev pub line : List E → List ℕ
  line d = K.prefix ++ map (character F K) d

  -- threshold, identifier, index and payload, and the check symbols that make them a codeword
  abbrev pub completed : List E → List E
  completed h = h ++ lessened F K.target (remainder F K.generator (K.start ++ (h ++ replicate K.checks F.zero)))

  -- the line with these parts
  unfoldable pub line_of : Parts E → List ℕ
  line_of p = line (completed (symbol F K (48 + p.threshold) ∷ (p.identifier ++ (p.index ∷ p.payload))))

  -- a lone secret, from the numbers of its symbols
  abbrev pub lone_parts : List ℕ → List ℕ → Parts E
  lone_parts identifier payload = parts_of F 0 identifier K.secret payload

  -- writing a lone secret into a buffer of a length: the line, or the first of the refusals 42, 43, 53 and 81
  unfoldable pub lone_answer : List ℕ → List ℕ → ℕ → Answer (List ℕ)
  lone_answer identifier payload size =
      unless (length identifier == 4 && all_numbers identifier) 42
      (unless (K.allows (length payload)) 43
      (unless (all_numbers payload) 53
      (within size (line_of (lone_parts identifier payload)))))

  -- What is proved of completing data: it gives a codeword, and no other check symbols do
  pub record Completion : Type 0 where
    pub codeword : (h : List E) → Codeword F K (completed h)
    pub only : (h t : List E) → length t ≡ K.checks → Codeword F K (h ++ t) → h ++ t ≡ completed h

  -- What is proved of writing: what is written is accepted by checking, as a lone secret with that identifier and payload
  abbrev pub LoneAccepted : Type 0
  LoneAccepted = (identifier payload : List ℕ) (size : ℕ) (l : List ℕ)
      → lone_answer identifier payload size ≡ answered l → checked F K l ≡ answered (lone_parts identifier payload)
