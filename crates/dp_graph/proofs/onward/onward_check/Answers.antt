use Rattle.std.proofs.Common.{subst, sym, take}
use Rattle.std.proofs.lemmas.Result.{err_from_is_err_and}
use Rattle.dp_graph.specs.GroupOrSingle.{items_of, all_members}
use Rattle.dp_graph.specs.EarlierPairs.{IsEarlier}
use Rattle.dp_graph.proofs.OnwardItems.{is_below, item_seen, item_leads_back, all_items_seen}
use Rattle.dp_graph.proofs.UnnamedPairs.{item_taken}
use Rattle.dp_graph.proofs.onward.onward_check.Goals as goal

pub returns-in_err-item_check : goal.returns-in_err-item_check
returns-in_err-item_check c =
    let p = err_from_is_err_and c.from_residual.result c.from_residual.ensures.1 in
    let i = c.loop-i.i in
    let items = c.args.items.now in
    rw (p.1, p.2) (item_leads_back c.args.graph.now items i c.index-items-i.result c.loop-i-test.true c.index-items-i.is c.in_err-item_check.field-0.0
    (rw c.members.ensures at (c.in_err-item_check.ensures (all_members (items_of (take i items))) (c.loop-i.invariant.kept c.loop-i-test.true))) c.loop-i.invariant.passed)

pub loop-i-preserved : goal.loop-i-preserved
loop-i-preserved c =
    let i = c.loop-i.i in
    let items = c.args.items.now in
    record {
      passed = item_seen c.args.graph.now items i c.index-items-i.result c.loop-i-test.true c.index-items-i.is
          (rw c.members.ensures at (c.in_ok-item_check.ensures (all_members (items_of (take i items))) (c.loop-i.invariant.kept c.loop-i-test.true))) c.loop-i.invariant.passed;
      kept = λ more. subst (λ z. IsEarlier c.args.graph.now z c.add_if_more.new.earlier) (sym (item_taken (all_members (items_of items)) items i c.index-items-i.result c.loop-i-test.true c.index-items-i.is))
          (rw c.members-in-loop-i.ensures at (c.in_ok-add_if_more.ensures (is_below _ _ more) (all_members (items_of (take i items))) (c.loop-i.invariant.kept c.loop-i-test.true)));
    }

pub returns : goal.returns
returns c = all_items_seen c.args.graph.now c.args.items.now c.loop-i.i c.loop-i-test.false c.loop-i.invariant.passed
