use Rattle.order_find.proofs.memo.Memo.keep.Goals as goal

pub returns : goal.returns
returns c = λ pairs true projects. c.put.ensures pairs (c.make_room.ensures pairs true) projects
