use Rattle.std.proofs.Common.{◌≡◌, List, Some, refl, sym, subst}
use Rattle.std.specs.Prelude.{slice_get}
use Rattle.order_search.proofs.dp_core.pair_order.Placing.{copied_item}
use Rattle.order_find.specs.declared.memo.Known.{Known}
use Rattle.order_find.proofs.Remembering.{remembered}
use Rattle.order_find.proofs.memo.Memo.find.Goals as goal

pub returns-then-known-right : goal.returns-then-known-right
returns-then-known-right c =
    remembered c.args.self.now.known.items c.place.result c.in_ok-known.known.now c.args.pair c.args.left c.args.right
    (subst (λ (l : List Known). slice_get l c.place.result ≡ Some c.in_ok-known.known.now) c.deref.ensures.value
    (sym (copied_item c.deref.result.now c.place.result (Some c.in_ok-known.known) c.in_ok-known.ensures.lookup)))
    c.if-known-pair.true c.if-known-left.true c.if-known-right.true c.in_ok-known.known.now.containment refl
