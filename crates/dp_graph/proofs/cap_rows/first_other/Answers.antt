use Rattle.std.proofs.Common.{◌≡◌, Some, slice_get, slice_index, refl}
use Rattle.term_pool.proofs.RootRules.{rule_read}
use Rattle.trs_caps.specs.View.{holed}
use Rattle.dp_graph.proofs.CapRowLaws.{one_more_other, no_other}
use Rattle.dp_graph.proofs.cap_rows.first_other.Goals as goal

pub loop-k-preserved : goal.loop-k-preserved
loop-k-preserved c =
    let there : slice_get c.rules-rules.result.now (slice_index c.with_root-k-items.result.now c.loop-k.k-index) ≡ Some c.index-rules-k.result =
    rule_read c.args.by_root.now.rules c.rules-rules.result.now c.with_root-k-items.result.now c.loop-k.k-index c.index-rules-k.result c.rules-rules.ensures.rules c.with_root-k-items.ensures.within
    c.loop-k-test.true c.index-rules-k.is in
    one_more_other c.args.by_root.now.rules c.args.lefts.now (holed c.args.cap.now) c.with_root-k-items.result.now c.loop-k.k-index c.index-rules-k.result c.in_ok-meets_other.field-0 c.loop-k-test.true
    (rw c.rules-rules.ensures.rules at there) c.in_ok-meets_other.ensures.all c.if-branch.false c.loop-k.invariant

pub returns : goal.returns
returns c =
    no_other c.args.by_root.now.rules c.args.lefts.now (holed c.args.cap.now) c.args.by_root.now c.args.f c.with_root-k-items.result.now c.loop-k.k-index refl c.rules-rules.ensures.valid c.requires
    c.with_root-k-items.ensures.numbers c.loop-k-test.false c.loop-k.invariant
