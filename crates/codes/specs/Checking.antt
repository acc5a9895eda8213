-- Checking a text: whether its data is a codeword, and the parts of the line.
use Rattle.std.specs.Prelude.{◌≡◌, ℕ, ◌+◌, ◌-◌, Bool, cond, not, ◌&&◌, ◌||◌, List, ◌++◌, length, take, drop, Decides, ◌==◌, nat_le, slice_index_or}
use Rattle.fields.specs.Field.{Operations}
use Rattle.kinds.specs.Code.{Code}
use Rattle.codes.specs.Reading.{Answer, answered, then, unless, read}
use Rattle.codes.specs.Texts.{character, same_numbers}
use Rattle.kinds.specs.Words.{numbers}
use Rattle.codes.specs.Division.{remainder, Remainders}

-- whether a character is a threshold: 0 or 2 to 9
abbrev pub is_threshold : ℕ → Bool
is_threshold c = c == 48 || (nat_le 50 c && nat_le c 57)

-- the head of a line and its payload
pub record Parts (E : Type 0) : Type 0 where
  pub threshold : ℕ
  pub identifier : List E
  pub index : E
  pub payload : List E

module _ {E C : Type 0} (F : Operations E) (K : Code E C) where
  -- the remainder of the data behind the start word is the target
  abbrev pub Codeword : List E → Type 0
  Codeword d = remainder F K.generator (K.start ++ d) ≡ K.target

  -- the same as a test, by numbers
  abbrev pub is_codeword : List E → Bool
  is_codeword d = same_numbers (numbers F (remainder F K.generator (K.start ++ d))) (numbers F K.target)

  -- What is proved of the checksum: the remainder is the one of long division, and the test is what it stands for
  pub record Checksum : Type 0 where
    pub division : Remainders F
    pub test : (d : List E) → Decides (is_codeword d) (Codeword d)

  -- the parts of data, or refusal 31 or 32: no threshold, or threshold 0 with another index than the secret's
  abbrev pub headed : List E → Answer (Parts E)
  headed d =
      let c = character F K (slice_index_or d 0 F.zero) in
      let i = slice_index_or d 5 F.zero in
      unless (is_threshold c) 31
      (unless (not (c == 48) || F.number i == F.number K.secret) 32
      (answered record {
        threshold = c - 48;
        identifier = take 4 (drop 1 d);
        index = i;
        payload = take (length d - (6 + K.checks)) (drop 6 d);
      }))

  -- checking a text
  unfoldable pub checked : List ℕ → Answer (Parts E)
  checked t = then (read F K t) (λ d. unless (is_codeword d) 21 (headed d))

-- a part of a text, as typed, and the place where it begins
pub record Excerpt : Type 0 where
  pub place : ℕ
  pub text : List ℕ

-- n characters of a text from a place on
abbrev pub excerpt : List ℕ → ℕ → ℕ → Excerpt
excerpt t i n = record { place = i; text = take n (drop i t) }

-- what a text is: a lone secret with identifier and payload, or a share with threshold, identifier, index and payload
pub data Typed : Type 0 where
  lone : Excerpt → Excerpt → Typed
  share : ℕ → Excerpt → Excerpt → Excerpt → Typed

-- the parts of a text with these parts, as typed
abbrev pub typed : {E : Type 0} → List ℕ → Parts E → Typed
typed t p =
    let identifier = excerpt t 4 4 in
    let payload = excerpt t 9 (length p.payload) in
    cond (p.threshold == 0) (lone identifier payload) (share p.threshold identifier (excerpt t 8 1) payload)

-- what checking answers
abbrev pub check_answer : {E C : Type 0} → Operations E → Code E C → List ℕ → Answer Typed
check_answer F K t = then (checked F K t) (λ p. answered (typed t p))
