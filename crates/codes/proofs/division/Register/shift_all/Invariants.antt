use Rattle.std.proofs.Common.{◌≡◌, map, take}
use Rattle.fields.specs.Numbered.{numbered}
use Rattle.codes.specs.Division.{divided}
use Rattle.codes.proofs.division.Register.shift_all.Given as goal

-- the symbols so far have come in
abbrev pub invariant-loop-n : goal.invariant-loop-n
invariant-loop-n g l =
    let F = g.K.Symbol.Field.ops in
    l.self ≡ divided F g.K.Kind.code.generator l.initial.self (map (numbered F) (take l.n-index l.numbers))
