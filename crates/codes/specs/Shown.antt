-- The answer of checking as the code holds it, by what its references point to.
use Rattle.std.specs.Prelude.{ℕ, Ok, Err, Result}
use Rattle.codes.specs.Checking.{Excerpt, Typed, lone, share}
use Rattle.codes.specs.Reading.{Answer, answered, refused}
use Rattle.codes.specs.Refusals.{number_of}
use Rattle.codes.specs.declared.parts.Line.{Line}
use Rattle.codes.specs.declared.parts.Line.TheVariants.{Lone, Share}
use Rattle.codes.specs.declared.parts.Part.{Part}
use Rattle.codes.specs.declared.refusals.Refusal.{Refusal}

abbrev pub shown_part : Part → Excerpt
shown_part p = record { place = p.place; text = p.text.now }

abbrev pub shown_line : Line → Typed
shown_line (Lone i p) = lone (shown_part i) (shown_part p)
shown_line (Share k i x p) = share k (shown_part i) (shown_part x) (shown_part p)

abbrev pub shown : Result Line Refusal → Answer Typed
shown (Ok l) = answered (shown_line l)
shown (Err e) = refused (number_of e)

-- how much a call wrote
abbrev pub shown_count : Result ℕ Refusal → Answer ℕ
shown_count (Ok n) = answered n
shown_count (Err e) = refused (number_of e)
