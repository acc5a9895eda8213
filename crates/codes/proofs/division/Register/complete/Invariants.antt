use Rattle.std.proofs.Common.{get_or}
use Rattle.fields.specs.Field.{minus}
use Rattle.fields.specs.Numbered.{numbered}
use Rattle.codes.proofs.Registers.{WorkedOut}
use Rattle.codes.proofs.division.Register.complete.Given as goal

-- the entries below j have been taken from the target's
abbrev pub invariant-loop-j : goal.invariant-loop-j
invariant-loop-j g l =
    let F = g.K.Symbol.Field.ops in
    let before = l.initial.self-inside.entries in
    WorkedOut (λ k. F.number (minus F (numbered F (get_or l.t-items k 0)) (numbered F (get_or before k 0)))) before l.j l.self-inside.entries
