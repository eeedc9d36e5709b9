use Rattle.std.proofs.Common.{subst}
use Rattle.trsbatch.specs.ListAnswers.{texts}
use Rattle.trsbatch.proofs.ListLines.{AreRead, one_more, refused_list}
use Rattle.trsbatch.proofs.list.read_list.Goals as goal

pub returns-in-Err : goal.returns-in-Err
returns-in-Err c =
    let so_far = subst (λ left. AreRead c.args.text.now (texts c.loop-left.names) left c.loop-left.number) c.in-Some.is c.loop-left.invariant in
    refused_list c.args.text.now (texts c.loop-left.names) c.in-Some.rest c.loop-left.number so_far c.first_line.result.0.now c.first_line.result.1 c.first_line.ensures
    c.in-Err.fault (texts c.take_line.new.names) c.in-Err.ensures

pub loop-left-preserved : goal.loop-left-preserved
loop-left-preserved c =
    let so_far = subst (λ left. AreRead c.args.text.now (texts c.loop-left.names) left c.loop-left.number) c.in-Some.is c.loop-left.invariant in
    let (good, is, few) = c.in-Ok.ensures in
    one_more c.args.text.now (texts c.loop-left.names) c.in-Some.rest c.loop-left.number so_far c.first_line.result.0.now c.first_line.result.1 c.first_line.ensures
    (texts c.take_line.new.names) good is few
