-- The names of commands and of kinds.
use Rattle.std.specs.Prelude.{ℕ, cond, List, Some, None, codes, Option}
use Rattle.std.specs.Str.{bytes_eq}
use Rattle.movkrig.specs.declared.names.ByteKindName.{ByteKindName}
use Rattle.movkrig.specs.declared.names.ByteKindName.TheVariants as with_bytes
use Rattle.movkrig.specs.declared.names.CommandName.{CommandName}
use Rattle.movkrig.specs.declared.names.CommandName.TheVariants.{Check, Lone, Encode, Decode}
use Rattle.movkrig.specs.declared.names.KindName.{KindName}
use Rattle.movkrig.specs.declared.names.KindName.TheVariants.{Short, Long, Digits}

-- the command that a word names
abbrev pub command_named : List ℕ → Option CommandName
command_named w =
    cond (bytes_eq w (codes "check")) (Some Check)
    (cond (bytes_eq w (codes "lone")) (Some Lone)
    (cond (bytes_eq w (codes "encode")) (Some Encode)
    (cond (bytes_eq w (codes "decode")) (Some Decode) None)))

-- the kind that a word names
abbrev pub kind_named : List ℕ → Option KindName
kind_named w =
    cond (bytes_eq w (codes "short")) (Some Short)
    (cond (bytes_eq w (codes "long")) (Some Long)
    (cond (bytes_eq w (codes "digits")) (Some Digits) None))

-- the same as a kind whose payloads hold bytes, if they do
abbrev pub byte_kind : KindName → Option ByteKindName
byte_kind Short = Some with_bytes.Short
byte_kind Long = Some with_bytes.Long
byte_kind Digits = None
