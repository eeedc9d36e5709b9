use Rattle.path_text.proofs.DefiningLines.{line_more}
use Rattle.path_text.proofs.defining.put_definitions.Goals as goal

pub loop-k-preserved : goal.loop-k-preserved
loop-k-preserved c =
    line_more c.args.names.now c.loop-k.k c.get.result.now c.loop-k.out.items c.put_definition.new.out.items _ c.get.ensures.path c.in_ok-put_definition.ensures c.loop-k.invariant
