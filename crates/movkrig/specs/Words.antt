-- The words of a line.
use Rattle.std.specs.Prelude.{ℕ, Bool, true, cond, ◌||◌, List, [], ◌∷◌, ◌==◌}
use Rattle.movkrig.specs.declared.words.Words.{Words}

-- a space or a tab
abbrev pub blank : ℕ → Bool
blank b = b == 32 || b == 9

-- nothing of a word stands at the front
abbrev pub apart : List ℕ → Bool
apart [] = true
apart (b ∷ bs) = blank b

-- one more byte at the front of the first word
abbrev pub longer : ℕ → List (List ℕ) → List (List ℕ)
longer b [] = (b ∷ []) ∷ []
longer b (w ∷ ws) = (b ∷ w) ∷ ws

-- the longest runs of bytes that are not blank
abbrev pub words : List ℕ → List (List ℕ)
words [] = []
words (b ∷ bs) = cond (blank b) (words bs) (cond (apart bs) ((b ∷ []) ∷ words bs) (longer b (words bs)))

-- a line without the carriage return at its end, if it has one
abbrev pub without_return : List ℕ → List ℕ
without_return [] = []
without_return (b ∷ []) = cond (b == 13) [] (b ∷ [])
without_return (b ∷ c ∷ bs) = b ∷ without_return (c ∷ bs)

abbrev pub line_words : List ℕ → List (List ℕ)
line_words line = words (without_return line)

-- the words that are still to be read
abbrev pub left_words : Words → List (List ℕ)
left_words s = words s.rest.now
