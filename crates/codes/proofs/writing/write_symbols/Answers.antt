use Rattle.std.proofs.Common.{sym, ap, ◌∙◌, rules}
use Rattle.std.proofs.lemmas.Simd.{map-map}
use Rattle.fields.specs.Numbered.{numbered}
use Rattle.codes.specs.Texts.{character}
use Rattle.codes.proofs.Buffers.{put_all, put_more}
use Rattle.codes.proofs.writing.write_symbols.Goals as goal

pub loop-i-preserved : goal.loop-i-preserved
loop-i-preserved g c =
    let F = g.K.Symbol.Field.ops in
    let K = g.K.Kind.code in
    put_more (λ n. character F K (numbered F n)) c.args.numbers.now c.args.piece.now c.loop-i.piece c.loop-i.i c.loop-i.invariant 0 _ (search rules) (search rules)
    (c.character.ensures ∙ ap (character F K) (c.numbered.ensures ∙ ap (numbered F) c.from.ensures))

pub returns : goal.returns
returns g c =
    let F = g.K.Symbol.Field.ops in
    let K = g.K.Kind.code in
    put_all (λ n. character F K (numbered F n)) c.args.numbers.now c.args.piece.now c.loop-i.piece c.loop-i.i c.loop-i.invariant c.loop-i-test.false c.requires
    ∙ sym (map-map (character F K) (numbered F) c.args.numbers.now)
