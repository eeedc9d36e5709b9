use Rattle.completion_text.proofs.Names.{copied_name}
use Rattle.completion_text.proofs.printing.names_of.Goals as goal

pub loop-f-preserved : goal.loop-f-preserved
loop-f-preserved c =
    copied_name c.loop-f.names.items c.push.new.self.items c.in_ok-from_slice.field-0 c.args.system.now.names c.loop-f.f c.name.result.now c.in_ok-push.ensures.items
    c.in_ok-from_slice.ensures.items c.name.ensures c.loop-f.invariant
