use Rattle.program_edge.proofs.Putting.{fields_first, fields_then}
use Rattle.program_edge.proofs.pieces.+put_fields.Goals as goal

pub returns-in_err-put_number-in-Some : goal.returns-in_err-put_number-in-Some
returns-in_err-put_number-in-Some g t c =
    fields_first c.from_residual.result (g.K.Sink.means c.args.out.now) (g.K.Sink.means c.put_number.new.out) c.args.fields.now c.in-Some.rest.now c.in-Some.number.now
    c.in-Some.ensures.cases.0 c.from_residual.ensures.0 c.in_err-put_number-in-Some.ensures

pub returns-in_ok-put_number-in-Some : goal.returns-in_ok-put_number-in-Some
returns-in_ok-put_number-in-Some g t c =
    fields_then c.put_fields.result (g.K.Sink.means c.args.out.now) (g.K.Sink.means c.put_number.new.out) (g.K.Sink.means c.put_fields.new.out) c.args.fields.now c.in-Some.rest.now c.in-Some.number.now
    c.in-Some.ensures.cases.0 c.in_ok-put_number-in-Some.ensures c.put_fields.ensures
