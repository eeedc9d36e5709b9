use Rattle.trs_caps.proofs.KnownSteps.{note_made, none_noted}
use Rattle.trs_caps.proofs.knowing.note.Goals as goal

pub returns-in_default : goal.returns-in_default
returns-in_default c = none_noted c.args.opens.now c.args.id c.args.yes

pub returns : goal.returns
returns c = note_made c.args.opens.now c.insert.new.self c.args.id c.in-Some.i c.args.yes c.in-Some.is c.in_ok-insert.ensures.updates
