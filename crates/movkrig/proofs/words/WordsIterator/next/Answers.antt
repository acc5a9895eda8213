use Rattle.std.proofs.Common.{◌≡◌, ◌∷◌, ◌<◌, take, drop, length, sym, refl, ap, ◌∙◌, arith, rules, unwrap_or}
use Rattle.std.proofs.iter.Next.{firm}
use Rattle.std.specs.List.{position}
use Rattle.movkrig.specs.Words.{blank, words}
use Rattle.movkrig.proofs.Splitting.{no_word, first_word, not_empty}
use Rattle.movkrig.proofs.words.WordsIterator.next.Goals as goal

pub returns-in_default-clause-steps : goal.returns-in_default-clause-steps
returns-in_default-clause-steps c = (no_word c.args.self.now.rest.now (sym c.word_start.ensures ∙ c.in_default.is), refl)

pub returns : goal.returns
returns c =
    let line = c.args.self.now.rest.now in
    let n = c.in-Some.start in
    let m = c.unwrap_or.result in
    let back = c.split_at.ensures.back in
    let cut = c.split_at-2.ensures in
    let begins = sym c.word_start.ensures ∙ c.in-Some.is in
    let ends : m ≡ unwrap_or (position blank (drop n line)) (length (drop n line)) =
    c.unwrap_or.ensures ∙ ap (λ o. unwrap_or o (length c.split_at.result.1.now)) c.word_end.ensures ∙ ap (λ l. unwrap_or (position blank l) (length l)) back in
    let some : 0 < m = not_empty line n begins m ends in
    record {
      steps = first_word line n begins m ends ∙ sym (λ i. (cut.front ∙ ap (take m) back) i ∷ words ((cut.back ∙ ap (drop m) back) i));
      goes = firm ((tt, tt, omega (arith, cut.back_len, cut.front_len, c.split_at.ensures.back_len))) (λ h. search rules);
    }
