use Rattle.std.proofs.Common.{length, sym, ◌∙◌}
use Rattle.codes.specs.Bytes.{bytes_in}
use Rattle.codes.proofs.Payloads.{groups_refused, groups_written, wrote_passed}
use Rattle.codes.proofs.bytes.decode.Goals as goal

pub returns-then-out-count : goal.returns-then-out-count
returns-then-out-count g c =
    wrote_passed _ _ _ _ _ _ (sym c.allows.ensures ∙ c.if-not-allows.false)
    (wrote_passed _ _ _ _ _ _ (sym c.are_numbers.ensures ∙ c.if-not-are_numbers.false) (groups_refused 5 8 c.args.symbols.now c.args.out.now (bytes_in (length c.args.symbols.now)) c.bytes_in-count.result c.bytes_in-count.ensures c.if-out-count.true))

pub returns : goal.returns
returns g c =
    wrote_passed _ _ _ _ _ _ (sym c.allows.ensures ∙ c.if-not-allows.false)
    (wrote_passed _ _ _ _ _ _ (sym c.are_numbers.ensures ∙ c.if-not-are_numbers.false)
    (groups_written 5 8 c.args.symbols.now c.args.out.now (bytes_in (length c.args.symbols.now)) c.bytes_in-count.result c.bytes_in-count.ensures c.fill.new.out c.if-out-count.false (c.fill.ensures c.args.symbols.now c.of.ensures)))
