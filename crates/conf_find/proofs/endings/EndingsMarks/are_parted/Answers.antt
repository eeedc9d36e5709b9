use Rattle.conf_find.proofs.MarkLaws.{endings_tell}
use Rattle.conf_find.proofs.endings.EndingsMarks.are_parted.Goals as goal

pub returns : goal.returns
returns c =
    endings_tell c.args._by_root.now.rules c.args.pool.now c.args.self.now c.args.left c.args.right c.is_normal.result c.is_normal-2.result c.are_different.result c.ids_are_distinct.ensures
    c.requires.marks c.is_normal.ensures c.is_normal-2.ensures c.are_different.ensures
