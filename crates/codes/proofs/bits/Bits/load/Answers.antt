use Rattle.std.proofs.Common.{◌≡◌, ℕ, ◌+◌, ◌*◌, ◌%◌, ◌^◌, ◌<◌, ◌≤◌, get_or, sym, ap, ◌∙◌, ap₂, subst, mul_comm, arith}
use Rattle.std.specs.Slice.Iter.{iter_rest}
use Rattle.std.proofs.lemmas.List.{get_or-drop}
use Rattle.std.proofs.lemmas.Nat.{mul-add-lt, pow-add, shl_whole}
use Rattle.codes.specs.Bytes.{bit}
use Rattle.codes.proofs.Groups.{loaded_held, loaded_rest}
use Rattle.codes.proofs.bits.Bits.load.Goals as goal

-- nothing is lost on the left, and there is room on the right
shifted : (held count w : ℕ) → held < 2 ^ count → count < 8 → w ≤ 8 → held * 2 ^ w % 2 ^ 32 ≡ held * 2 ^ w
shifted held count w fits few narrow = shl_whole held count w 32 fits (omega arith)

roomy : (held count w number : ℕ) → held < 2 ^ count → number < 2 ^ w → held * 2 ^ w + number < 2 ^ (count + w)
roomy held count w number fits small =
    let room = mul-add-lt held (2 ^ w) number (2 ^ count) fits small in
    omega (arith, pow-add 2 count w, mul_comm (2 ^ count) (2 ^ w))

pub invariant_of-self-clause-fits : goal.invariant_of-self-clause-fits
invariant_of-self-clause-fits g c =
    let s = c.args.self.now in
    let small : c.from.result < 2 ^ g.row.WIDTH = subst (λ n. n < 2 ^ g.row.WIDTH) (sym (c.from.ensures ∙ c.next_or_zero-number.ensures.value)) (s.small 0) in
    omega (arith, shifted s.held s.count g.row.WIDTH s.fits c.requires s.narrow, roomy s.held s.count g.row.WIDTH c.from.result s.fits small)

pub invariant_of-self-clause-small : goal.invariant_of-self-clause-small
invariant_of-self-clause-small g c = λ i.
    let s = c.args.self.now in
    subst (λ n. n < 2 ^ g.row.WIDTH) (sym (ap (λ l. get_or l i 0) c.next_or_zero-number.ensures.rest ∙ get_or-drop 1 (iter_rest s.rest) i 0)) (s.small (1 + i))

pub returns-clause-place : goal.returns-clause-place
returns-clause-place g c = λ xs p at.
    let s = c.args.self.now in
    record {
      held =
          ap₂ (λ h n. h + n) (shifted s.held s.count g.row.WIDTH s.fits c.requires s.narrow) (c.from.ensures ∙ c.next_or_zero-number.ensures.value)
          ∙ ap (λ h. h * 2 ^ g.row.WIDTH + get_or (iter_rest s.rest) 0 0) at.held
          ∙ loaded_held g.row.WIDTH xs (iter_rest s.rest) p s.count at.rest (s.small 0);
      rest = λ j. ap (λ l. bit g.row.WIDTH l j) c.next_or_zero-number.ensures.rest ∙ loaded_rest g.row.WIDTH xs (iter_rest s.rest) p s.count at.rest s.positive j;
    }
