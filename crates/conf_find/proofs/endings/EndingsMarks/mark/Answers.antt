use Rattle.conf_find.proofs.MarkLaws.{one_more_ending, is_still_there}
use Rattle.conf_find.proofs.endings.EndingsMarks.mark.Goals as goal

pub returns-clause-still : goal.returns-clause-still
returns-clause-still c = λ i h. is_still_there c.args.self.now.normal c.insert.new.self c.args.id c.in_ok-is_normal.is_normal c.in_ok-insert.ensures.updates i h

pub returns-clause-marks : goal.returns-clause-marks
returns-clause-marks c =
    one_more_ending c.args.by_root.now.rules c.args.pool.now c.args.self.now _ c.args.id c.in_ok-is_normal.is_normal c.requires.marks c.requires.narrow.there
    c.in_ok-is_normal.ensures.normal c.in_ok-is_normal.ensures.reducible c.in_ok-insert.ensures.updates
