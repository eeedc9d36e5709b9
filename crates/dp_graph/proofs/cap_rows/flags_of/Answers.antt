use Rattle.std.proofs.Common.{refl}
use Rattle.trs_caps.specs.View.{holed}
use Rattle.dp_graph.proofs.CapRowLaws.{no_flags, one_more_flag, all_flags}
use Rattle.dp_graph.proofs.cap_rows.flags_of.Goals as goal

pub loop-k-init : goal.loop-k-init
loop-k-init c = no_flags c.args.by_root.now.rules c.args.lefts.now (holed c.args.cap.now) c.numbers_at-k-items.result.now c.new-row.result.items c.new-row.ensures.items

pub loop-k-preserved : goal.loop-k-preserved
loop-k-preserved c =
    one_more_flag c.args.by_root.now.rules c.args.lefts.now (holed c.args.cap.now) c.numbers_at-k-items.result.now c.loop-k.k-index c.loop-k.row.items c.look_at.new.row.items c.loop-k-test.true
    (rw c.rules-rules.ensures.rules at c.in_ok-look_at.ensures) c.loop-k.invariant

pub returns : goal.returns
returns c = λ noted.
    all_flags c.args.by_root.now.rules c.args.lefts.now (holed c.args.cap.now) c.args.by_root.now c.args.noted.now c.args.f c.numbers_at-k-items.result.now c.loop-k.k-index c.loop-k.row.items refl c.rules-rules.ensures.valid
    c.requires.lefts noted c.requires.root c.numbers_at-k-items.ensures c.loop-k-test.false c.loop-k.invariant
