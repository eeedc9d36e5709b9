use Rattle.trs_caps.specs.View.{holed}
use Rattle.trs_caps.proofs.KnownSteps.{noted_meets, one_more_known}
use Rattle.trs_caps.proofs.capping.is_opened.Goals as goal

pub returns-in-Some-clause-meets : goal.returns-in-Some-clause-meets
returns-in-Some-clause-meets c = λ fixed pool t known is whole.
    noted_meets c.args.by_root.now.rules fixed pool t (holed c.args.cap.now) whole c.args.opens.now c.args.id c.in-Some.yes known is c.in-Some.ensures

pub returns-clause-known : goal.returns-clause-known
returns-clause-known c = λ fixed pool t known is whole.
    one_more_known c.args.by_root.now.rules fixed pool t (holed c.args.cap.now) whole c.args.opens.now c.note.new.opens c.args.id c.in_ok-yes.yes known is c.in_ok-yes.ensures c.in_ok-note.ensures
