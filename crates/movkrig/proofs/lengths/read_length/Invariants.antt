use Rattle.std.proofs.Common.{◌≡◌, drop}
use Rattle.movkrig.specs.Lengths.{length_from, length_of}
use Rattle.movkrig.proofs.lengths.read_length.Given as goal

-- the digits that are left decide
abbrev pub invariant-loop-c : goal.invariant-loop-c
invariant-loop-c l = length_from l.length (drop l.c-index l.word) ≡ length_of l.word
