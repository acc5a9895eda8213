-- The command language: what the words of a line ask for.
use Rattle.std.specs.Prelude.{ℕ, Bool, false, cond, List, [], ◌∷◌, length, Some, None, Ok, Err, Option, Result, ◌==◌, nat_le}
use Rattle.movkrig.specs.declared.names.ByteKindName.{ByteKindName}
use Rattle.movkrig.specs.declared.names.CommandName.{CommandName}
use Rattle.movkrig.specs.declared.names.CommandName.TheVariants.{Check, Lone, Encode, Decode}
use Rattle.movkrig.specs.declared.names.KindName.{KindName}
use Rattle.movkrig.specs.Hexadecimal.{is_hexadecimal}
use Rattle.movkrig.specs.Lengths.{length_of}
use Rattle.movkrig.specs.Names.{byte_kind, command_named, kind_named}

-- a command with its words
pub data Order : Type 0 where
  check : KindName → List ℕ → Order
  -- identifier, payload and the length of the buffer
  lone : KindName → List ℕ → List ℕ → ℕ → Order
  -- bytes in hexadecimal, or a payload, and the length of the buffer
  encode : ByteKindName → List ℕ → ℕ → Order
  decode : ByteKindName → List ℕ → ℕ → Order

-- why words are no command
pub data Fault : Type 0 where
  unknown_command : List ℕ → Fault
  unknown_kind : List ℕ → Fault
  no_bytes : CommandName → Fault
  missing_word : CommandName → Fault
  surplus_word : CommandName → List ℕ → Fault
  long_word : ℕ → Fault
  no_hexadecimal : List ℕ → Fault
  no_length : List ℕ → Fault

-- what is read from the front of a list of words, and the words behind it
pub data Taken (A : Type 0) : Type 0 where
  took : A → List (List ℕ) → Taken A
  failed : Fault → Taken A

-- the next step, if this one did not fail
abbrev pub then : {A B : Type 0} → Taken A → (A → List (List ℕ) → Taken B) → Taken B
then (took a ws) f = f a ws
then (failed e) f = failed e

abbrev pub known_length : List ℕ → List (List ℕ) → Option ℕ → Taken ℕ
known_length w ws None = failed (no_length w)
known_length w ws (Some n) = took n ws

-- the length of a buffer: 128 where it is left out
abbrev pub take_length : List (List ℕ) → Taken ℕ
take_length [] = took 128 []
take_length (w ∷ ws) = known_length w ws (length_of w)

module _ (c : CommandName) where
  -- a word that may be anything
  abbrev pub take_word : List (List ℕ) → Taken (List ℕ)
  take_word [] = failed (missing_word c)
  take_word (w ∷ ws) = took w ws

  abbrev pub known_kind : List ℕ → List (List ℕ) → Option KindName → Taken KindName
  known_kind w ws None = failed (unknown_kind w)
  known_kind w ws (Some k) = took k ws

  abbrev pub take_kind : List (List ℕ) → Taken KindName
  take_kind ws = then (take_word ws) (λ w rest. known_kind w rest (kind_named w))

  abbrev pub known_byte_kind : List (List ℕ) → Option ByteKindName → Taken ByteKindName
  known_byte_kind ws None = failed (no_bytes c)
  known_byte_kind ws (Some k) = took k ws

  -- a kind whose payloads hold bytes
  abbrev pub take_byte_kind : List (List ℕ) → Taken ByteKindName
  take_byte_kind ws = then (take_kind ws) (λ k rest. known_byte_kind rest (byte_kind k))

  -- a word of at most so many characters
  abbrev pub take_bounded : ℕ → List (List ℕ) → Taken (List ℕ)
  take_bounded most ws = then (take_word ws) (λ w rest. cond (nat_le (length w) most) (took w rest) (failed (long_word most)))

  -- at most 1024 bytes in hexadecimal
  abbrev pub take_hexadecimal : List (List ℕ) → Taken (List ℕ)
  take_hexadecimal ws = then (take_bounded 2048 ws) (λ w rest. cond (is_hexadecimal w) (took w rest) (failed (no_hexadecimal w)))

  -- no word is left
  abbrev pub take_end : List (List ℕ) → Taken (Unit {0})
  take_end [] = took tt []
  take_end (w ∷ ws) = failed (surplus_word c w)

  -- KIND TEXT
  abbrev pub take_check : List (List ℕ) → Taken Order
  take_check ws =
      then (take_kind ws) (λ kind after_kind.
      then (take_word after_kind) (λ text after_text.
      then (take_end after_text) (λ _ none. took (check kind text) none)))

  -- KIND ID PAYLOAD [LEN]
  abbrev pub take_lone : List (List ℕ) → Taken Order
  take_lone ws =
      then (take_kind ws) (λ kind after_kind.
      then (take_bounded 1024 after_kind) (λ identifier after_identifier.
      then (take_bounded 1024 after_identifier) (λ payload after_payload.
      then (take_length after_payload) (λ size after_length.
      then (take_end after_length) (λ _ none. took (lone kind identifier payload size) none)))))

  -- KIND HEX [LEN]
  abbrev pub take_encode : List (List ℕ) → Taken Order
  take_encode ws =
      then (take_byte_kind ws) (λ kind after_kind.
      then (take_hexadecimal after_kind) (λ bytes after_bytes.
      then (take_length after_bytes) (λ size after_length.
      then (take_end after_length) (λ _ none. took (encode kind bytes size) none))))

  -- KIND CHARS [LEN]
  abbrev pub take_decode : List (List ℕ) → Taken Order
  take_decode ws =
      then (take_byte_kind ws) (λ kind after_kind.
      then (take_bounded 1024 after_kind) (λ payload after_payload.
      then (take_length after_payload) (λ size after_length.
      then (take_end after_length) (λ _ none. took (decode kind payload size) none))))

-- the words behind the name of a command
abbrev pub take_order : CommandName → List (List ℕ) → Taken Order
take_order Check ws = take_check Check ws
take_order Lone ws = take_lone Lone ws
take_order Encode ws = take_encode Encode ws
take_order Decode ws = take_decode Decode ws

-- a word that begins with #
abbrev pub comments : List ℕ → Bool
comments [] = false
comments (b ∷ bs) = b == 35

abbrev pub whole : Taken Order → Result (Option Order) Fault
whole (took order ws) = Ok (Some order)
whole (failed e) = Err e

abbrev pub order_named : List ℕ → List (List ℕ) → Option CommandName → Result (Option Order) Fault
order_named w ws None = Err (unknown_command w)
order_named w ws (Some c) = whole (take_order c ws)

-- what the words of a line ask for: nothing where there is none, or in a comment
abbrev pub order_of : List (List ℕ) → Result (Option Order) Fault
order_of [] = Ok None
order_of (w ∷ ws) = cond (comments w) (Ok None) (order_named w ws (command_named w))
