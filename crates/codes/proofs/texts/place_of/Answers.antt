use Rattle.std.proofs.Common.{get_or, ap₂, ◌∙◌, arith}
use Rattle.codes.proofs.Characters.{table_at}
use Rattle.codes.proofs.texts.place_of.Goals as goal

pub returns : goal.returns
returns g c = ap₂ (λ t i. get_or t i 0) c.symbol_table.ensures c.from.ensures ∙ table_at g.K.Kind.code.alphabet c.args.c (omega arith)
