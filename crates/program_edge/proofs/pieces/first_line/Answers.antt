use Rattle.std.proofs.Common.{subst, arith}
use Rattle.std.proofs.lemmas.List.{take_all}
use Rattle.program_edge.proofs.Splitting.{HasNoFeed, first_line, one_more, not_empty, last_line}
use Rattle.program_edge.proofs.pieces.first_line.Goals as goal

pub returns-then-byte-eq10-clause-some : goal.returns-then-byte-eq10-clause-some
returns-then-byte-eq10-clause-some c =
    first_line c.args.text.now c.loop-i.i c.loop-i-test.true c.loop-i.invariant c.if-byte-eq10.true c.split_at.result.0.now c.split_at.result.1.now
    c.split_at.ensures.front c.split_at.ensures.back

pub loop-i-preserved : goal.loop-i-preserved
loop-i-preserved c = one_more c.args.text.now c.loop-i.i c.loop-i-test.true c.loop-i.invariant c.if-byte-eq10.false

pub returns-clause-some : goal.returns-clause-some
returns-clause-some c =
    last_line c.args.text.now (not_empty c.args.text.now c.is_empty.result c.is_empty.ensures c.if-is_empty.false)
    (subst HasNoFeed (take_all c.loop-i.i c.args.text.now (omega (arith, c.loop-i-test.false))) c.loop-i.invariant)
