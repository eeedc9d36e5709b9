use Rattle.program_edge.proofs.Putting.{puts_first, puts_then}
use Rattle.program_edge.proofs.pieces.put_both.Goals as goal

pub returns-in_err-put_one : goal.returns-in_err-put_one
returns-in_err-put_one g c =
    puts_first c.from_residual.result (g.K.Sink.means c.args.out.now) (g.K.Sink.means c.put_one.new.out) c.args.first.now c.args.second.now
    c.from_residual.ensures.0 c.in_err-put_one.ensures.puts

pub returns : goal.returns
returns g c =
    puts_then c.put_one-2.result (g.K.Sink.means c.args.out.now) (g.K.Sink.means c.put_one.new.out) (g.K.Sink.means c.put_one-2.new.out) c.args.first.now c.args.second.now
    c.in_ok-put_one.ensures.puts c.put_one-2.ensures.puts
