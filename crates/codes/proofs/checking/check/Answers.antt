use Rattle.std.proofs.Common.{sym, ap, ◌∙◌}
use Rattle.std.proofs.lemmas.Result.{err_from_is_err_and}
use Rattle.codes.specs.Reading.{refused}
use Rattle.codes.specs.Refusals.{number_of}
use Rattle.codes.specs.Shown.{shown}
use Rattle.codes.proofs.Checks.{checksum, unread, wrong, right}
use Rattle.codes.proofs.Readings.{read_passed}
use Rattle.codes.proofs.checking.check.Goals as goal

pub returns-in_err-word : goal.returns-in_err-word
returns-in_err-word g c =
    let (y, is, same) = err_from_is_err_and c.from_residual.result c.from_residual.ensures.1 in
    record {
      answer =
          ap shown is ∙ ap (λ e. refused (number_of e)) same ∙ sym (unread g.K.Symbol.Field.ops g.K.Kind.code c.args.text.now _ c.in_err-word.ensures);
      checksum = checksum g.K.Symbol.Field.ops g.met.K.Symbol.Field.lawful g.K.Kind.code;
    }

pub returns-then-not-is_target : goal.returns-then-not-is_target
returns-then-not-is_target g c =
    let word = c.in_ok-word.word in
    record {
      answer =
          wrong g.K.Symbol.Field.ops g.K.Kind.code c.args.text.now word.«data».now word.register c.is_target.result c.in_ok-word.ensures.0 word.divided c.is_target.ensures c.if-not-is_target.true;
      checksum = checksum g.K.Symbol.Field.ops g.met.K.Symbol.Field.lawful g.K.Kind.code;
    }

pub named-requires : goal.named-requires
named-requires g c =
    let word = c.in_ok-word.ensures in
    rw word.1 (read_passed g.K.Symbol.Field.ops g.K.Kind.code c.args.text.now _ word.0).0

pub returns : goal.returns
returns g c =
    let word = c.in_ok-word.word in
    record {
      answer =
          c.named.ensures c.args.text.now (sym c.in_ok-word.ensures.1)
          ∙ right g.K.Symbol.Field.ops g.K.Kind.code c.args.text.now word.«data».now word.register c.is_target.result c.in_ok-word.ensures.0 word.divided c.is_target.ensures c.if-not-is_target.false;
      checksum = checksum g.K.Symbol.Field.ops g.met.K.Symbol.Field.lawful g.K.Kind.code;
    }
