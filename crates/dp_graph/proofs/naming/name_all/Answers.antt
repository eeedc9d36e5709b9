use Rattle.std.proofs.Common.{subst, sym, take}
use Rattle.std.proofs.lemmas.Result.{err_from_is_err_and}
use Rattle.dp_graph.specs.GroupOrSingle.{items_of, all_members}
use Rattle.dp_graph.specs.Unnamed.{AreUnnamed}
use Rattle.dp_graph.proofs.UnnamedPairs.{item_refused, item_named, item_taken, items_named, all_items_left}
use Rattle.dp_graph.proofs.naming.name_all.Goals as goal

pub returns-in_err-name-clause-answers : goal.returns-in_err-name-clause-answers
returns-in_err-name-clause-answers c = λ numbers are.
    let p = err_from_is_err_and c.from_residual.result c.from_residual.ensures.1 in
    let i = c.loop-item.item-index in
    let here = rw c.members.ensures at (c.in_err-name.ensures.answers numbers (all_members (items_of (take i c.args.items.now))) (c.loop-item.invariant.unnamed numbers are)) in
    rw (p.1, p.2) (item_refused numbers c.args.items.now i c.item-item.result c.loop-item-test.true c.item-item.is c.in_err-name.field-0.0 here (c.loop-item.invariant.passed numbers are))

pub loop-item-preserved : goal.loop-item-preserved
loop-item-preserved c =
    let i = c.loop-item.item-index in
    let items = c.args.items.now in
    record {
      passed = λ numbers are. item_named numbers items i c.item-item.result c.loop-item-test.true c.item-item.is
          (rw c.members.ensures at (c.in_ok-name.ensures.answers numbers (all_members (items_of (take i items))) (c.loop-item.invariant.unnamed numbers are))) (c.loop-item.invariant.passed numbers are);
      unnamed = λ numbers are. subst (λ z. AreUnnamed numbers z c.name.new.left) (sym (item_taken numbers items i c.item-item.result c.loop-item-test.true c.item-item.is))
          (rw c.members.ensures at (c.in_ok-name.ensures.left numbers (all_members (items_of (take i items))) (c.loop-item.invariant.unnamed numbers are)));
    }

pub returns-clause-answers : goal.returns-clause-answers
returns-clause-answers c = λ numbers are. items_named numbers c.args.items.now c.loop-item.item-index c.loop-item-test.false (c.loop-item.invariant.passed numbers are)

pub returns-clause-left : goal.returns-clause-left
returns-clause-left c = λ numbers are. all_items_left numbers c.args.items.now c.loop-item.item-index c.loop-item.left c.loop-item-test.false (c.loop-item.invariant.unnamed numbers are)
