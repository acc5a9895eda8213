use Rattle.std.proofs.Common.{◌+◌, ◌++◌, map, get_or, take, sym, ap, ◌∙◌, ap₂, append_assoc}
use Rattle.std.proofs.lemmas.List.{map_more}
use Rattle.codes.specs.Division.{shifted}
use Rattle.codes.specs.Texts.{known, symbol}
use Rattle.kinds.specs.Characters.{capital_letter, small_letter}
use Rattle.codes.proofs.Registers.{divided_next}
use Rattle.codes.proofs.Scans.{all_next, any_next}
use Rattle.codes.proofs.reading.scanned.Goals as goal

pub loop-c-preserved : goal.loop-c-preserved
loop-c-preserved g c =
    let F = g.K.Symbol.Field.ops in
    let K = g.K.Kind.code in
    let f = symbol F K in
    let t = c.args.text.now in
    let i = c.loop-c.c-index in
    let below = c.loop-c-test.true in (
      all_next (known K) t i below c.loop-c.invariant.0 c.in_ok-symbol.ensures.0,
      any_next small_letter t i c.args.seen.small c.loop-c.cases.small c.and-cases.result.small below c.loop-c.invariant.1 c.and-cases.ensures.small,
      any_next capital_letter t i c.args.seen.capitals c.loop-c.cases.capitals c.and-cases.result.capitals below c.loop-c.invariant.2 c.and-cases.ensures.capitals,
      c.shift.ensures
          ∙ ap₂ (shifted F K.generator) c.loop-c.invariant.3 c.in_ok-symbol.ensures.1
          ∙ divided_next F g.met.K.Symbol.Field.lawful K.generator _ (K.start ++ map f (take i t)) (K.start ++ map f (take (i + 1) t)) (f (get_or t i 0)) (ap (λ w. K.start ++ w) (map_more f t i 0 below) ∙ sym (append_assoc K.start (map f (take i t)) _)),
    )
