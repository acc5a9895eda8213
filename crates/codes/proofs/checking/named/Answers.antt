use Rattle.std.proofs.Common.{sym, refl, ◌∙◌}
use Rattle.codes.proofs.Heads.{is_31, is_32, is_lone, is_share}
use Rattle.codes.proofs.checking.named.Goals as goal

pub returns-then-not-is_threshold : goal.returns-then-not-is_threshold
returns-then-not-is_threshold g c t split =
    is_31 g.K.Symbol.Field.ops g.met.K.Symbol.Field.lawful g.K.Kind.code g.met.K.Kind.lawful c.args.word.«data».now c.requires c.args.word.alphabet t split c.capital-threshold.result _ c.check_symbols.result c.check_symbols.ensures c.capital-threshold.ensures refl
    (sym c.is_threshold.ensures ∙ c.if-not-is_threshold.true)

pub returns-then-threshold-ne48 : goal.returns-then-threshold-ne48
returns-then-threshold-ne48 g c t split =
    is_share g.K.Symbol.Field.ops g.met.K.Symbol.Field.lawful g.K.Kind.code g.met.K.Kind.lawful c.args.word.«data».now c.requires c.args.word.alphabet t split c.capital-threshold.result _ c.check_symbols.result c.check_symbols.ensures c.capital-threshold.ensures refl
    (sym c.is_threshold.ensures ∙ c.if-not-is_threshold.false) c.if-threshold-ne48.true

pub returns-then-not-is_secret : goal.returns-then-not-is_secret
returns-then-not-is_secret g c t split =
    is_32 g.K.Symbol.Field.ops g.met.K.Symbol.Field.lawful g.K.Kind.code g.met.K.Kind.lawful c.args.word.«data».now c.requires c.args.word.alphabet t split c.capital-threshold.result _ c.check_symbols.result c.check_symbols.ensures c.capital-threshold.ensures refl
    (sym c.is_threshold.ensures ∙ c.if-not-is_threshold.false) c.if-threshold-ne48.false (sym c.is_secret.ensures ∙ c.if-not-is_secret.true)

pub returns : goal.returns
returns g c t split =
    is_lone g.K.Symbol.Field.ops g.met.K.Symbol.Field.lawful g.K.Kind.code g.met.K.Kind.lawful c.args.word.«data».now c.requires c.args.word.alphabet t split c.capital-threshold.result _ c.check_symbols.result c.check_symbols.ensures c.capital-threshold.ensures refl
    (sym c.is_threshold.ensures ∙ c.if-not-is_threshold.false) c.if-threshold-ne48.false (sym c.is_secret.ensures ∙ c.if-not-is_secret.false)
