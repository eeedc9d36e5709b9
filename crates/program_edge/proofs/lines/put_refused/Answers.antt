use Rattle.std.proofs.Common.{◌∷◌, [], ◌++◌, codes}
use Rattle.program_edge.specs.Numbers.{fields_text}
use Rattle.program_edge.specs.Lines.{problem_fields}
use Rattle.program_edge.proofs.Putting.{puts_first, puts_then}
use Rattle.program_edge.proofs.lines.put_refused.Goals as goal

pub returns-in_err-put_one : goal.returns-in_err-put_one
returns-in_err-put_one g c =
    puts_first c.from_residual.result (g.K.Sink.means c.args.out.now) (g.K.Sink.means c.put_one.new.out) (codes "problem refused") (fields_text (problem_fields c.args.fault.now) ++ 10 ∷ [])
    c.from_residual.ensures.0 c.in_err-put_one.ensures.puts

pub returns-in_err-put_fault : goal.returns-in_err-put_fault
returns-in_err-put_fault g c =
    let failed = c.from_residual-in_err-put_fault.result in
    let fields = fields_text (problem_fields c.args.fault.now) in
    puts_then failed (g.K.Sink.means c.args.out.now) (g.K.Sink.means c.put_one.new.out) (g.K.Sink.means c.put_fault.new.out) (codes "problem refused") (fields ++ 10 ∷ [])
    c.in_ok-put_one.ensures.puts
    (puts_first failed (g.K.Sink.means c.put_one.new.out) (g.K.Sink.means c.put_fault.new.out) fields (10 ∷ []) c.from_residual-in_err-put_fault.ensures.0 c.in_err-put_fault.ensures)

pub returns : goal.returns
returns g c =
    let fields = fields_text (problem_fields c.args.fault.now) in
    puts_then c.put_one-2.result (g.K.Sink.means c.args.out.now) (g.K.Sink.means c.put_one.new.out) (g.K.Sink.means c.put_one-2.new.out) (codes "problem refused") (fields ++ 10 ∷ [])
    c.in_ok-put_one.ensures.puts
    (puts_then c.put_one-2.result (g.K.Sink.means c.put_one.new.out) (g.K.Sink.means c.put_fault.new.out) (g.K.Sink.means c.put_one-2.new.out) fields (10 ∷ [])
    c.in_ok-put_fault.ensures c.put_one-2.ensures.puts)
