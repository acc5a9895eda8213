use Rattle.std.proofs.Common.{◌≡◌, true, ◌||◌, ◌++◌, map, take}
use Rattle.codes.specs.Texts.{all, any, known, symbol}
use Rattle.kinds.specs.Characters.{capital_letter, small_letter}
use Rattle.codes.specs.Division.{remainder}
use Rattle.codes.proofs.reading.scanned.Given as goal

-- what is asked for holds of the characters so far
abbrev pub invariant-loop-c : goal.invariant-loop-c
invariant-loop-c g l =
    let F = g.K.Symbol.Field.ops in
    let K = g.K.Kind.code in
    let front = take l.c-index l.text in
    (all (known K) front ≡ true)
    × (l.cases.small ≡ (l.initial.cases.small || any small_letter front))
    × (l.cases.capitals ≡ (l.initial.cases.capitals || any capital_letter front))
    × (l.register ≡ remainder F K.generator (K.start ++ map (symbol F K) front))
