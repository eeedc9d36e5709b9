use Rattle.std.proofs.Common.{◌++◌, ◌∷◌, [], subst}
use Rattle.program_edge.specs.Puts.{Puts}
use Rattle.program_edge.proofs.Putting.{puts_first, puts_then}
use Rattle.program_edge.proofs.pieces.put_line.Goals as goal

pub returns-in_err-put_one : goal.returns-in_err-put_one
returns-in_err-put_one g c =
    puts_first c.from_residual.result (g.K.Sink.means c.args.out.now) (g.K.Sink.means c.put_one.new.out) c.args.words.now (c.args.name.now ++ 10 ∷ [])
    c.from_residual.ensures.0 c.in_err-put_one.ensures.puts

pub returns : goal.returns
returns g c =
    puts_then c.put_both.result (g.K.Sink.means c.args.out.now) (g.K.Sink.means c.put_one.new.out) (g.K.Sink.means c.put_both.new.out) c.args.words.now (c.args.name.now ++ 10 ∷ [])
    c.in_ok-put_one.ensures.puts
    (subst (λ z. Puts c.put_both.result (g.K.Sink.means c.put_one.new.out) (z ++ 10 ∷ []) (g.K.Sink.means c.put_both.new.out)) c.as_bytes.ensures.value c.put_both.ensures)
