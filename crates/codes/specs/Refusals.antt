-- The numbers of the refusals.
use Rattle.std.specs.Prelude.{ℕ}
use Rattle.codes.specs.declared.refusals.Refusal.{Refusal}
use Rattle.codes.specs.declared.refusals.Refusal.TheVariants.{Length, Prefix, Character, MixedCase, Checksum, Threshold, LoneIndex, Identifier, Payload, Symbol, Buffer, Bytes}

abbrev pub number_of : Refusal → ℕ
number_of Length = 11
number_of Prefix = 12
number_of Character = 13
number_of MixedCase = 14
number_of Checksum = 21
number_of Threshold = 31
number_of LoneIndex = 32
number_of Identifier = 42
number_of Payload = 43
number_of Symbol = 53
number_of Buffer = 81
number_of Bytes = 91
