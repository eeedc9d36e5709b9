use Rattle.poly_find.proofs.Starts.{one_owner_more}
use Rattle.poly_find.proofs.owners.add_owner.Goals as goal

pub loop-part-preserved : goal.loop-part-preserved
loop-part-preserved c =
    one_owner_more c.args.f c.args.parts c.loop-part._part c.args.owners.now.items c.loop-part.owners.items c.push.new.self.items c.loop-part-test.true
    c.in_ok-push.ensures.items c.loop-part.invariant
