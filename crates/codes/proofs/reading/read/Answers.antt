use Rattle.std.proofs.Common.{◌≤◌, map, length, sym, ap, ◌∙◌, arith}
use Rattle.codes.specs.Reading.{answered}
use Rattle.codes.specs.Texts.{all, known, symbol}
use Rattle.std.proofs.lemmas.List.{take_rest}
use Rattle.codes.proofs.Readings.{is_read, mixed_is, long_enough, refused_11, refused_12, refused_13, refused_14}
use Rattle.codes.proofs.reading.read.Goals as goal

pub returns-then-not-has_length : goal.returns-then-not-has_length
returns-then-not-has_length g c =
    refused_11 g.K.Symbol.Field.ops g.K.Kind.code c.args.text.now (sym c.has_length.ensures ∙ c.if-not-has_length.true)

pub returns-then-not-has_prefix : goal.returns-then-not-has_prefix
returns-then-not-has_prefix g c =
    refused_12 g.K.Symbol.Field.ops g.K.Kind.code c.args.text.now (sym c.has_length.ensures ∙ c.if-not-has_length.false) (sym c.has_prefix.ensures ∙ c.if-not-has_prefix.true)

pub returns-in_default-scanned : goal.returns-in_default-scanned
returns-in_default-scanned g c =
    refused_13 g.K.Symbol.Field.ops g.K.Kind.code c.args.text.now (sym c.has_length.ensures ∙ c.if-not-has_length.false) (sym c.has_prefix.ensures ∙ c.if-not-has_prefix.false) c.in_default-scanned.ensures

pub returns-then-both : goal.returns-then-both
returns-then-both g c =
    let K = g.K.Kind.code in
    let t = c.args.text.now in
    let fit = sym c.has_length.ensures ∙ c.if-not-has_length.false in
    let long : 3 ≤ length t = omega (arith, long_enough g.K.Symbol.Field.ops K t fit) in
    let scan = c.in-Some.ensures in
    refused_14 g.K.Symbol.Field.ops K t fit (sym c.has_prefix.ensures ∙ c.if-not-has_prefix.false) (ap (all (known K)) (sym scan.2) ∙ c.in-Some.scan.word.alphabet)
    (sym (mixed_is t long c.none.result c.and.result c.and-2.result c.and-seen.result c.in-Some.scan.cases (c.none.ensures.small, c.none.ensures.capitals) (c.and.ensures.small, c.and.ensures.capitals) (c.and-2.ensures.small, c.and-2.ensures.capitals) (c.and-seen.ensures.small, c.and-seen.ensures.capitals) scan.0 scan.1 c.both.result c.both.ensures) ∙ c.if-both.true)

pub returns : goal.returns
returns g c =
    let K = g.K.Kind.code in
    let t = c.args.text.now in
    let fit = sym c.has_length.ensures ∙ c.if-not-has_length.false in
    let long : 3 ≤ length t = omega (arith, long_enough g.K.Symbol.Field.ops K t fit) in
    let scan = c.in-Some.ensures in
    let is_data = scan.2 ∙ take_rest t 3 in (
      is_read g.K.Symbol.Field.ops K t fit (sym c.has_prefix.ensures ∙ c.if-not-has_prefix.false) (ap (all (known K)) (sym scan.2) ∙ c.in-Some.scan.word.alphabet)
          (sym (mixed_is t long c.none.result c.and.result c.and-2.result c.and-seen.result c.in-Some.scan.cases (c.none.ensures.small, c.none.ensures.capitals) (c.and.ensures.small, c.and.ensures.capitals) (c.and-2.ensures.small, c.and-2.ensures.capitals) (c.and-seen.ensures.small, c.and-seen.ensures.capitals) scan.0 scan.1 c.both.result c.both.ensures) ∙ c.if-both.false)
          ∙ ap (λ u. answered (map (symbol g.K.Symbol.Field.ops K) u)) (sym is_data),
      is_data,
    )
