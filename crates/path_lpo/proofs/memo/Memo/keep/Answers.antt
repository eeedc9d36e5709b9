use Rattle.path_lpo.proofs.memo.Memo.keep.Goals as goal

pub returns : goal.returns
returns c = λ rank nodes true is. c.put.ensures rank nodes (c.make_room.ensures rank nodes true) is
