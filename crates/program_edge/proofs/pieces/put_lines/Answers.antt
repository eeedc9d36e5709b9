use Rattle.program_edge.proofs.PuttingLines.{line_failed, one_line_more}
use Rattle.program_edge.proofs.pieces.put_lines.Goals as goal

pub returns-in_err-put_one-clause-puts : goal.returns-in_err-put_one-clause-puts
returns-in_err-put_one-clause-puts g c =
    line_failed c.args.text.now (g.K.Sink.means c.args.out.now) (g.K.Sink.means c.loop-line.out) (g.K.Sink.means c.put_one.new.out) c.loop-line.rest.now
    c.in-Some.line.now c.in-Some.behind.now c.loop-line.invariant c.in-Some.ensures.some c.from_residual.result c.from_residual.ensures.0 c.in_err-put_one.ensures.puts

pub loop-line-preserved : goal.loop-line-preserved
loop-line-preserved g c =
    let puts = c.in_ok-put_one.ensures.puts in
    let one = c.in_ok-put_one.ensures.one in
    one_line_more c.args.text.now (g.K.Sink.means c.args.out.now) (g.K.Sink.means c.loop-line.out) (g.K.Sink.means c.put_one.new.out) c.loop-line.rest.now
    c.in-Some.line.now c.in-Some.behind.now c.loop-line.invariant c.in-Some.ensures.some puts.0 puts.1 one.0 one.1
