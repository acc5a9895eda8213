-- What the program answers to a line.
use Rattle.std.specs.Prelude.{◌≡◌, ℕ, Bool, true, false, List, Some, None, Ok, Err, vec_items, Option, Result, MatchResult, Vec, ⊤}
use Rattle.std.specs.declared.alloc.Global.{Global}
use Rattle.fields.specs.Field.{Operations}
use Rattle.kinds.specs.Code.{Code}
use Rattle.codes.specs.Bytes.{decode_answer, encode_answer}
use Rattle.codes.specs.Checking.{Typed, check_answer}
use Rattle.codes.specs.Reading.{Answer, answered, refused}
use Rattle.codes.specs.Refusals.{number_of}
use Rattle.codes.specs.Shown.{shown_line}
use Rattle.codes.specs.Writing.{lone_answer}
use Rattle.movkrig.specs.declared.answers.Answer.{Answer as Held}
use Rattle.movkrig.specs.declared.answers.Answer.TheVariants.{Line, Written, Payload, Bytes}
use Rattle.movkrig.specs.declared.commands.ByteTask.{ByteTask}
use Rattle.movkrig.specs.declared.commands.ByteTask.TheVariants.{Encode, Decode}
use Rattle.movkrig.specs.declared.commands.LineTask.{LineTask}
use Rattle.movkrig.specs.declared.commands.LineTask.TheVariants.{Check, Lone}
use Rattle.movkrig.specs.declared.errors.Failure.{Failure}
use Rattle.movkrig.specs.declared.errors.Failure.TheVariants.{Command, Refused, OutOfMemory}
use Rattle.movkrig.specs.declared.names.KindName.{KindName}
use Rattle.movkrig.specs.Commands.{Order, check, lone, encode, decode, Fault, order_of}
use Rattle.movkrig.specs.Hexadecimal.{hex_bytes}
use Rattle.movkrig.specs.Shown.{shown_fault}
use Rattle.movkrig.specs.Symbols.{characters_of, numbers_of}
use Rattle.movkrig.specs.Words.{line_words}
use Rattle.movkrig.specs.Writing.{decode_under, encode_under, lone_under, under}

-- nothing, the parts of a line, a line, a payload or bytes that were written, the number of a refusal, or why the line
-- is no command
pub data Reply : Type 0 where
  silence : Reply
  parts : Typed → Reply
  line : List ℕ → Reply
  payload : List ℕ → Reply
  bytes : List ℕ → Reply
  refusal : ℕ → Reply
  error : Fault → Reply

-- what checking answers under the code of a kind
abbrev pub check_under : KindName → List ℕ → Answer Typed
check_under kind text = under kind (λ _ _ F K. check_answer F K text)

abbrev pub of_check : Answer Typed → Reply
of_check (answered typed) = parts typed
of_check (refused n) = refusal n

abbrev pub of_writing : (List ℕ → Reply) → Answer (List ℕ) → Reply
of_writing show (answered l) = show l
of_writing show (refused n) = refusal n

abbrev pub of_order : Order → Reply
of_order (check kind text) = of_check (check_under kind text)
of_order (lone kind identifier load size) = of_writing line (lone_under kind identifier load size)
of_order (encode kind hex size) = of_writing payload (encode_under kind hex size)
of_order (decode kind load size) = of_writing bytes (decode_under kind load size)

abbrev pub of_reading : Result (Option Order) Fault → Reply
of_reading (Ok None) = silence
of_reading (Ok (Some order)) = of_order order
of_reading (Err e) = error e

abbrev pub reply_to : List ℕ → Reply
reply_to text = of_reading (order_of (line_words text))

-- an answer as the code holds it, by what its references point to
abbrev pub shown_answer : Held → Reply
shown_answer (Line parted) = parts (shown_line parted)
shown_answer (Written v) = line (vec_items v)
shown_answer (Payload v) = payload (vec_items v)
shown_answer (Bytes v) = bytes (vec_items v)

abbrev pub shown_reply : Option Held → Reply
shown_reply None = silence
shown_reply (Some answer) = shown_answer answer

-- a failure is what is to be replied, unless memory ran out
abbrev pub Fails : Reply → Failure → Type 0
Fails reply (Command e) = error (shown_fault e) ≡ reply
Fails reply (Refused e) = refusal (number_of e) ≡ reply
Fails reply (OutOfMemory e) = ⊤

-- a result of replying, of carrying out a command and of writing is what is to be replied, unless memory ran out
abbrev pub Replies : Result (Option Held) Failure → Reply → Type 0
Replies result reply = MatchResult result (λ answer. shown_reply answer ≡ reply) (Fails reply)

abbrev pub Executes : Result Held Failure → Reply → Type 0
Executes result reply = MatchResult result (λ answer. shown_answer answer ≡ reply) (Fails reply)

abbrev pub Writes : (List ℕ → Reply) → Result (Vec ℕ Global) Failure → Answer (List ℕ) → Type 0
Writes show result answer = MatchResult result (λ v. show (vec_items v) ≡ of_writing show answer) (Fails (of_writing show answer))

-- whether memory ran out
abbrev pub out_of_memory : Failure → Bool
out_of_memory (Command e) = false
out_of_memory (Refused e) = false
out_of_memory (OutOfMemory e) = true

-- checking takes no memory, so there is always enough of it; writing may lack it
abbrev pub EnoughMemory : LineTask → Result Held Failure → Type 0
EnoughMemory (Check text) result = MatchResult result (λ answer. ⊤) (λ failure. out_of_memory failure ≡ false)
EnoughMemory (Lone identifier load size) result = ⊤

-- what a task gives under any code
module _ {E C : Type 0} (F : Operations E) (K : Code E C) where
  abbrev pub of_line_task : LineTask → Reply
  of_line_task (Check text) = of_check (check_answer F K text.now)
  of_line_task (Lone identifier load size) = of_writing line (lone_answer F K (numbers_of K identifier.now) (numbers_of K load.now) size)

  abbrev pub of_byte_task : (ℕ → Bool) → ByteTask → Reply
  of_byte_task takes (Encode hex size) = of_writing (λ symbols. payload (characters_of K symbols)) (encode_answer takes (hex_bytes hex.now) size)
  of_byte_task takes (Decode load size) = of_writing bytes (decode_answer F K (numbers_of K load.now) size)
