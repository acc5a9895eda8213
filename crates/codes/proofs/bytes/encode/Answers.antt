use Rattle.std.proofs.Common.{length, sym, ◌∙◌}
use Rattle.kinds.specs.Bytes.{symbols_for}
use Rattle.codes.proofs.Payloads.{groups_refused, groups_written, whole_bytes, wrote_passed}
use Rattle.codes.proofs.bytes.encode.Goals as goal

pub returns-then-not-takes_bytes-clause-laws : goal.returns-then-not-takes_bytes-clause-laws
returns-then-not-takes_bytes-clause-laws g c = whole_bytes g.K.Symbol.Field.ops g.K.Kind.code g.K.ByteKind.takes g.met.K.ByteKind.whole

pub returns-then-out-count : goal.returns-then-out-count
returns-then-out-count g c = record {
  wrote =
      wrote_passed _ _ _ _ _ _ (sym c.takes_bytes.ensures ∙ c.if-not-takes_bytes.false)
      (groups_refused 8 5 c.args.bytes.now c.args.out.now (symbols_for (length c.args.bytes.now)) c.symbols_for-count.result c.symbols_for-count.ensures c.if-out-count.true);
  laws = whole_bytes g.K.Symbol.Field.ops g.K.Kind.code g.K.ByteKind.takes g.met.K.ByteKind.whole;
}

pub returns : goal.returns
returns g c = record {
  wrote =
      wrote_passed _ _ _ _ _ _ (sym c.takes_bytes.ensures ∙ c.if-not-takes_bytes.false)
      (groups_written 8 5 c.args.bytes.now c.args.out.now (symbols_for (length c.args.bytes.now)) c.symbols_for-count.result c.symbols_for-count.ensures c.fill.new.out c.if-out-count.false (c.fill.ensures c.args.bytes.now c.of.ensures));
  laws = whole_bytes g.K.Symbol.Field.ops g.K.Kind.code g.K.ByteKind.takes g.met.K.ByteKind.whole;
}
