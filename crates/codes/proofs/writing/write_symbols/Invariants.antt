use Rattle.std.proofs.Common.{◌≡◌, ◌++◌, map, take, drop}
use Rattle.fields.specs.Numbered.{numbered}
use Rattle.codes.specs.Texts.{character}
use Rattle.codes.proofs.writing.write_symbols.Given as goal

-- the characters so far stand in front
abbrev pub invariant-loop-i : goal.invariant-loop-i
invariant-loop-i g l =
    let F = g.K.Symbol.Field.ops in
    l.piece ≡ map (λ n. character F g.K.Kind.code (numbered F n)) (take l.i l.numbers) ++ drop l.i l.initial.piece
