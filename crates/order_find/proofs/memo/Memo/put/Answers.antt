use Rattle.std.proofs.Common.{Some, subst}
use Rattle.std.proofs.lemmas.List.Elements.{All-set}
use Rattle.std.proofs.lemmas.Option.{same_Some}
use Rattle.order_search.specs.dp_core.declared.contained.Containment.{Containment}
use Rattle.order_find.specs.Remembered.{PairProjectsSo, IsTrueOf}
use Rattle.order_find.proofs.memo.Memo.put.Goals as goal

pub returns : goal.returns
returns c = λ pairs true projects.
    All-set (IsTrueOf pairs) c.args.self.now.known.items c.place-place.result
    (record { pair = c.args.pair; left = c.args.left; right = c.args.right; containment = Some c.args.containment })
    (λ found e. subst (λ (x : Containment). PairProjectsSo pairs c.args.pair c.args.left c.args.right x) (same_Some c.args.containment found e) projects)
    true
