use Rattle.std.proofs.Common.{◌+◌, sym, subst}
use Rattle.poly_lin.proofs.Numbering.{AreNumbered, one_numbered}
use Rattle.poly_lin.proofs.listing.Listing.+add.Goals as goal

pub loop-arg-preserved : goal.loop-arg-preserved
loop-arg-preserved t c =
    let start = c.args.self.now.nodes.items in
    let next = c.add.new.self.nodes.items in
    let args = c.deref-arg-items.result.now in
    subst (λ ns. AreNumbered start next args ns (c.loop-arg.arg-index + 1)) (sym c.in_ok-push-in-App.ensures.items)
    (one_numbered start c.loop-arg.self.nodes.items next args c.loop-arg.numbers.items c.loop-arg.arg-index c.arg-item.result c.in_ok-add-in-App.field-0
    c.loop-arg-test.true c.arg-item.is c.loop-arg.invariant c.add.ensures.kept c.in_ok-add-in-App.ensures.number)
