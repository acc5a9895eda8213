use Rattle.std.proofs.Common.{◌+◌, ◌++◌, length, drop, sym, ap, ◌∙◌, ap₂, arith}
use Rattle.codes.specs.Writing.{line_of, lone_parts}
use Rattle.codes.proofs.Buffers.{wrote_answered, wrote_refused}
use Rattle.codes.proofs.Completion.{completion}
use Rattle.codes.proofs.Lones.{is_four, is_written, lone_accepted, lone_length, lone_line, refused_42, refused_43, refused_53, refused_81}
use Rattle.codes.proofs.lone.write_lone.Goals as goal

pub returns-in_default : goal.returns-in_default
returns-in_default g c =
    record {
      wrote =
          wrote_refused _ c.args.out.now 42 (refused_42 g.K.Symbol.Field.ops g.met.K.Symbol.Field.lawful g.K.Kind.code g.met.K.Kind.lawful c.args.identifier.now c.args.payload.now (length c.args.out.now) c.in_default.ensures);
      completion = completion g.K.Symbol.Field.ops g.met.K.Symbol.Field.lawful g.K.Kind.code g.met.K.Kind.lawful;
      accepted = lone_accepted g.K.Symbol.Field.ops g.met.K.Symbol.Field.lawful g.K.Kind.code g.met.K.Kind.lawful;
    }

pub returns-then-not-allows : goal.returns-then-not-allows
returns-then-not-allows g c =
    record {
      wrote =
          wrote_refused _ c.args.out.now 43 (refused_43 g.K.Symbol.Field.ops g.met.K.Symbol.Field.lawful g.K.Kind.code g.met.K.Kind.lawful c.args.identifier.now c.args.payload.now (length c.args.out.now) c.in-Some.ensures.0 (sym c.allows.ensures ∙ c.if-not-allows.true));
      completion = completion g.K.Symbol.Field.ops g.met.K.Symbol.Field.lawful g.K.Kind.code g.met.K.Kind.lawful;
      accepted = lone_accepted g.K.Symbol.Field.ops g.met.K.Symbol.Field.lawful g.K.Kind.code g.met.K.Kind.lawful;
    }

pub returns-then-not-are_numbers : goal.returns-then-not-are_numbers
returns-then-not-are_numbers g c =
    record {
      wrote =
          wrote_refused _ c.args.out.now 53
          (refused_53 g.K.Symbol.Field.ops g.met.K.Symbol.Field.lawful g.K.Kind.code g.met.K.Kind.lawful c.args.identifier.now c.args.payload.now (length c.args.out.now) c.in-Some.ensures.0 (sym c.allows.ensures ∙ c.if-not-allows.false) (sym c.are_numbers.ensures ∙ c.if-not-are_numbers.true));
      completion = completion g.K.Symbol.Field.ops g.met.K.Symbol.Field.lawful g.K.Kind.code g.met.K.Kind.lawful;
      accepted = lone_accepted g.K.Symbol.Field.ops g.met.K.Symbol.Field.lawful g.K.Kind.code g.met.K.Kind.lawful;
    }

pub returns-then-out-length : goal.returns-then-out-length
returns-then-out-length g c =
    record {
      wrote =
          wrote_refused _ c.args.out.now 81
          (refused_81 g.K.Symbol.Field.ops g.met.K.Symbol.Field.lawful g.K.Kind.code g.met.K.Kind.lawful c.args.identifier.now c.args.payload.now (length c.args.out.now) c.in-Some.ensures.0 (sym c.allows.ensures ∙ c.if-not-allows.false) (sym c.are_numbers.ensures ∙ c.if-not-are_numbers.false)
          (omega (arith, c.check_symbols.ensures)));
      completion = completion g.K.Symbol.Field.ops g.met.K.Symbol.Field.lawful g.K.Kind.code g.met.K.Kind.lawful;
      accepted = lone_accepted g.K.Symbol.Field.ops g.met.K.Symbol.Field.lawful g.K.Kind.code g.met.K.Kind.lawful;
    }

pub returns : goal.returns
returns g c =
    let F = g.K.Symbol.Field.ops in
    let laws = g.met.K.Symbol.Field.lawful in
    let K = g.K.Kind.code in
    let lawful = g.met.K.Kind.lawful in
    let id = c.args.identifier.now in
    let pl = c.args.payload.now in
    let out = c.args.out.now in
    let named = c.in-Some.ensures.0 in
    let below = sym c.are_numbers.ensures ∙ c.if-not-are_numbers.false in
    let count = ap (λ n. 9 + length pl + n) c.check_symbols.ensures in
    record {
      wrote =
          wrote_answered _ out c.write_line.new.out (line_of F K (lone_parts F K id pl)) (9 + length pl + c.check_symbols.result)
          (is_written F laws K lawful id pl (length out) named (sym c.allows.ensures ∙ c.if-not-allows.false) below (omega (arith, c.check_symbols.ensures)))
          (count ∙ lone_length F laws K lawful id pl (is_four F laws K lawful id pl (length out) named))
          (c.write_line.ensures ∙ ap₂ (λ l n. l ++ drop n out) (lone_line F laws K lawful id pl (length out) named below _ _ c.in-Some.ensures.1 c.secret_number.ensures) (sym count));
      completion = completion g.K.Symbol.Field.ops g.met.K.Symbol.Field.lawful g.K.Kind.code g.met.K.Kind.lawful;
      accepted = lone_accepted g.K.Symbol.Field.ops g.met.K.Symbol.Field.lawful g.K.Kind.code g.met.K.Kind.lawful;
    }
