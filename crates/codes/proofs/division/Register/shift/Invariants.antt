use Rattle.std.proofs.Common.{◌+◌, get_or}
use Rattle.fields.specs.Field.{minus}
use Rattle.fields.specs.Numbered.{numbered}
use Rattle.codes.proofs.Registers.{WorkedOut}
use Rattle.codes.proofs.division.Register.shift.Given as goal

-- the entries below j have been worked out, from those that stood there when the loop began
abbrev pub invariant-loop-j : goal.invariant-loop-j
invariant-loop-j g l =
    let F = g.K.Symbol.Field.ops in
    let before = l.initial.self-inside.entries in
    WorkedOut (λ k. F.number (minus F (numbered F (get_or before (k + 1) 0)) (F.times l.top (numbered F (get_or l.generator k 0))))) before l.j l.self-inside.entries
