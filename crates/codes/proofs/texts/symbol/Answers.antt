use Rattle.std.proofs.Common.{◌∙◌}
use Rattle.codes.proofs.Characters.{looked_up}
use Rattle.codes.proofs.texts.symbol.Goals as goal

pub returns : goal.returns
returns g c = looked_up g.K.Symbol.Field.ops g.K.Kind.code g.met.K.Kind.lawful c.args.c c.from.result (c.from.ensures ∙ c.place_of.ensures) c.element.result c.element.ensures
