use Rattle.std.proofs.Common.{◌≡◌, ◌+◌, ◌*◌, [], ◌∷◌, ◌++◌, length, drop, sym, refl, ap, ap₂, ◌∙◌, subst, arith}
use Rattle.std.proofs.Math.Nat.{mul-zero, mul-suc}
use Rattle.std.proofs.lemmas.List.{append-nil, drop_all}
use Rattle.std.proofs.lemmas.List.FromFn.{map-range_with_len_more}
use Rattle.codes.specs.Bits.{At}
use Rattle.codes.specs.Bytes.{gathered, regrouped}
use Rattle.codes.proofs.Buffers.{put_next}
use Rattle.codes.proofs.Groups.{length_regrouped}
use Rattle.codes.proofs.bits.Bits.fill.Goals as goal

pub loop-place-init : goal.loop-place-init
loop-place-init g c = λ xs at. (refl, subst (At g.row.WIDTH c.args.self xs) (sym (mul-zero c.args.group)) at)

pub loop-place-preserved : goal.loop-place-preserved
loop-place-preserved g c = λ xs at.
    let i = c.loop-place.place-index in
    let groups = regrouped g.row.WIDTH c.args.group xs i in
    let here = c.loop-place.invariant xs at in (
      put_next groups c.args.out.now c.loop-place.place-items i c.take.result (length_regrouped g.row.WIDTH c.args.group xs i) c.loop-place-test.true here.0
          ∙ ap (λ l. l ++ drop (i + 1) c.args.out.now)
          (ap (λ v. groups ++ (v ∷ [])) (c.take.ensures.value xs (c.args.group * i) here.1) ∙ sym (map-range_with_len_more (λ k. gathered g.row.WIDTH xs (c.args.group * k) c.args.group) 0 i i (omega arith))),
      subst (At g.row.WIDTH c.take.new.self xs) (omega (arith, mul-suc c.args.group i)) (c.take.ensures.place xs (c.args.group * i) here.1),
    )

pub returns : goal.returns
returns g c = λ xs at.
    let all : c.loop-place.place-index ≡ length c.args.out.now = omega (arith, c.loop-place-test.false, c.loop-place.auto.place-index-end) in
    (c.loop-place.invariant xs at).0
    ∙ ap₂ (λ n rest. regrouped g.row.WIDTH c.args.group xs n ++ rest) all (drop_all c.loop-place.place-index c.args.out.now c.loop-place-test.false)
    ∙ append-nil (regrouped g.row.WIDTH c.args.group xs (length c.args.out.now))
