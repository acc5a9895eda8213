-- Commands and errors as the code holds them, by what their references point to.
use Rattle.std.specs.Prelude.{◌≡◌, ℕ, List, Some, None, Ok, Err, Option, Result}
use Rattle.std.specs.Borrow.{Bor}
use Rattle.movkrig.specs.declared.commands.ByteTask.TheVariants.{Encode, Decode}
use Rattle.movkrig.specs.declared.commands.Command.{Command}
use Rattle.movkrig.specs.declared.commands.Command.TheVariants.{OfLines, OfBytes}
use Rattle.movkrig.specs.declared.commands.LineTask.TheVariants.{Check, Lone}
use Rattle.movkrig.specs.declared.errors.CommandError.{CommandError}
use Rattle.movkrig.specs.declared.errors.CommandError.TheVariants.{UnknownCommand, UnknownKind, NoBytes, MissingWord, SurplusWord, LongWord, NoHexadecimal, NoLength}
use Rattle.movkrig.specs.declared.names.CommandName.{CommandName}
use Rattle.movkrig.specs.declared.names.KindName.{KindName}
use Rattle.movkrig.specs.declared.operands.Operands.{Operands}
use Rattle.movkrig.specs.Commands.{Order, check, lone, encode, decode, Fault, unknown_command, unknown_kind, no_bytes, missing_word, surplus_word, long_word, no_hexadecimal, no_length, Taken, took, failed}
use Rattle.movkrig.specs.Names.{command_named, kind_named}
use Rattle.movkrig.specs.Words.{left_words}

-- the words behind a command's name that are still to be read
abbrev pub ahead : Operands → List (List ℕ)
ahead o = left_words o.words

abbrev pub shown_order : Command → Order
shown_order (OfLines kind (Check text)) = check kind text.now
shown_order (OfLines kind (Lone identifier payload size)) = lone kind identifier.now payload.now size
shown_order (OfBytes kind (Encode bytes size)) = encode kind bytes.now size
shown_order (OfBytes kind (Decode payload size)) = decode kind payload.now size

abbrev pub shown_fault : CommandError → Fault
shown_fault (UnknownCommand word) = unknown_command word.now
shown_fault (UnknownKind word) = unknown_kind word.now
shown_fault (NoBytes command) = no_bytes command
shown_fault (MissingWord command) = missing_word command
shown_fault (SurplusWord command word) = surplus_word command word.now
shown_fault (LongWord most) = long_word most
shown_fault (NoHexadecimal word) = no_hexadecimal word.now
shown_fault (NoLength word) = no_length word.now

-- what reading a name answers: the command or the kind that the word names, or an error that holds the word
abbrev pub NamesCommand : Bor (List ℕ) → Result CommandName CommandError → Type 0
NamesCommand word (Ok c) = command_named word.now ≡ Some c
NamesCommand word (Err e) = (command_named word.now ≡ None) × (e ≡ UnknownCommand word)

abbrev pub NamesKind : Bor (List ℕ) → Result KindName CommandError → Type 0
NamesKind word (Ok k) = kind_named word.now ≡ Some k
NamesKind word (Err e) = (kind_named word.now ≡ None) × (e ≡ UnknownKind word)

-- what a step of reading answers, shown by a function, and the words that it leaves are those of a definition
abbrev pub Reads : {X A : Type 0} → (X → A) → Result X CommandError → List (List ℕ) → Taken A → Type 0
Reads show (Ok x) ws t = t ≡ took (show x) ws
Reads show (Err e) ws t = t ≡ failed (shown_fault e)

-- a step of reading from one state of the operands to the next, which leaves the command as it is
pub record Step {X A : Type 0} (show : X → A) (take : CommandName → List (List ℕ) → Taken A) (before after : Operands) (result : Result X CommandError) : Type 0 where
  pub command : after.command ≡ before.command
  pub reads : Reads show result (ahead after) (take before.command (ahead before))

abbrev pub shown_option : Option Command → Option Order
shown_option None = None
shown_option (Some command) = Some (shown_order command)

abbrev pub shown_reading : Result (Option Command) CommandError → Result (Option Order) Fault
shown_reading (Ok o) = Ok (shown_option o)
shown_reading (Err e) = Err (shown_fault e)
