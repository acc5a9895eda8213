use Rattle.std.proofs.Common.{◌+◌, map, get_or, take, ap, ◌∙◌, ap₂, rules}
use Rattle.std.proofs.lemmas.List.{map_more}
use Rattle.fields.specs.Numbered.{numbered}
use Rattle.codes.specs.Division.{shifted}
use Rattle.codes.proofs.Registers.{divided_next}
use Rattle.codes.proofs.division.Register.shift_all.Goals as goal

pub loop-n-preserved : goal.loop-n-preserved
loop-n-preserved g c =
    let F = g.K.Symbol.Field.ops in
    let generator = g.K.Kind.code.generator in
    let numbers = c.args.numbers.now in
    let i = c.loop-n.n-index in
    c.shift.ensures
    ∙ ap₂ (shifted F generator) c.loop-n.invariant (c.numbered.ensures ∙ ap (numbered F) c.from.ensures)
    ∙ divided_next F g.met.K.Symbol.Field.lawful generator _ (map (numbered F) (take i numbers)) (map (numbered F) (take (i + 1) numbers)) (numbered F (get_or numbers i 0)) (map_more (numbered F) numbers i 0 (search rules))
