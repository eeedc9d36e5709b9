use Rattle.conf_find.proofs.MarkLaws.{caps_tell}
use Rattle.conf_find.proofs.caps.CapMarksMarks.are_parted.Goals as goal

pub clashes-requires-clause-left : goal.clashes-requires-clause-left
clashes-requires-clause-left c = c.requires.marks.number c.args.left c.number-first.result c.number-first.ensures

pub clashes-requires-clause-right : goal.clashes-requires-clause-right
clashes-requires-clause-right c = c.requires.marks.number c.args.right c.number-second.result c.number-second.ensures

pub returns : goal.returns
returns c =
    caps_tell c.args._by_root.now.rules c.args._pool.now c.args.self.now c.args.left c.args.right c.number-first.result c.number-second.result c.clashes.result
    c.requires.marks c.number-first.ensures c.number-second.ensures c.clashes.ensures
