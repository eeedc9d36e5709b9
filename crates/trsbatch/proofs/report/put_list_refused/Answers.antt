use Rattle.std.proofs.Common.{◌∷◌, [], ◌++◌, codes}
use Rattle.program_edge.specs.Numbers.{fields_text}
use Rattle.program_edge.proofs.Putting.{puts_first, puts_then}
use Rattle.trsbatch.proofs.report.put_list_refused.Goals as goal

pub returns-in_err-put_one : goal.returns-in_err-put_one
returns-in_err-put_one g c =
    puts_first c.from_residual.result (g.K.Sink.means c.args.out.now) (g.K.Sink.means c.put_one.new.out) (codes "list refused") (fields_text (c.args.line ∷ []) ++ 10 ∷ [])
    c.from_residual.ensures.0 c.in_err-put_one.ensures.puts

pub returns-in_err-put_fields : goal.returns-in_err-put_fields
returns-in_err-put_fields g c =
    let failed = c.from_residual-in_err-put_fields.result in
    let fields = fields_text (c.args.line ∷ []) in
    puts_then failed (g.K.Sink.means c.args.out.now) (g.K.Sink.means c.put_one.new.out) (g.K.Sink.means c.put_fields.new.out) (codes "list refused") (fields ++ 10 ∷ [])
    c.in_ok-put_one.ensures.puts
    (puts_first failed (g.K.Sink.means c.put_one.new.out) (g.K.Sink.means c.put_fields.new.out) fields (10 ∷ []) c.from_residual-in_err-put_fields.ensures.0 c.in_err-put_fields.ensures)

pub returns : goal.returns
returns g c =
    let fields = fields_text (c.args.line ∷ []) in
    puts_then c.put_one-2.result (g.K.Sink.means c.args.out.now) (g.K.Sink.means c.put_one.new.out) (g.K.Sink.means c.put_one-2.new.out) (codes "list refused") (fields ++ 10 ∷ [])
    c.in_ok-put_one.ensures.puts
    (puts_then c.put_one-2.result (g.K.Sink.means c.put_one.new.out) (g.K.Sink.means c.put_fields.new.out) (g.K.Sink.means c.put_one-2.new.out) fields (10 ∷ [])
    c.in_ok-put_fields.ensures c.put_one-2.ensures.puts)
