use Rattle.std.proofs.Common.{inl, inr, length, ◌<◌, ◌≤◌, arith}
use Rattle.term_pool.specs.Pooled.{tree_at}
use Rattle.term_pool.specs.Redexes.{HasRedexes}
use Rattle.term_pool.specs.Reach.{no_step, no_entry, too_deep}
use Rattle.term_pool.specs.ListedIds.{listed, listed_at}
use Rattle.term_pool.proofs.Extending.{extends_itself, extends_on, same_tree_at}
use Rattle.term_pool.proofs.ListingLaws.{looked_through, redex_read}
use Rattle.term_pool.proofs.ReachedIds.{added_on, nothing_added, length_listed}
use Rattle.term_pool.proofs.pools.Pool.look_at.Goals.{After-deref-step-items}
use Rattle.term_pool.proofs.pools.Pool.look_at.Goals as goal

pub returns-then-len-bounds-clause-adds : goal.returns-then-len-bounds-clause-adds
returns-then-len-bounds-clause-adds c =
    let far : c.args.bounds.depth ≤ length c.args.entry.now.1.items = omega (arith, c.if-len-bounds.true, c.len.ensures, c.args.entry.now.1.ok.0) in
    nothing_added c.args.bounds.limit c.args.bounds.size _ c.args.self.now c.args.reached.now c.requires.reached (too_deep far no_entry)

pub loop-step-init : goal.loop-step-init
loop-step-init c = record {
  adds = nothing_added c.args.bounds.limit c.args.bounds.size _ c.args.self.now c.args.reached.now c.requires.reached no_step;
  kept = extends_itself c.args.self.now;
  known = c.in_ok-steps.ensures.known;
}

redexes : (c : After-deref-step-items) → HasRedexes c.args.by_root.now.rules (tree_at c.args.self.now c.args.entry.now.0) c.deref-step-items.result.now
redexes c = rw c.deref-step-items.ensures.value c.in_ok-steps.ensures.redexes

near : (c : After-deref-step-items) → length c.args.entry.now.1.items < c.args.bounds.depth
near c = omega (arith, c.if-len-bounds.false, c.len.ensures, c.args.entry.now.1.ok.0)

pub returns-then-len-bounds-2-clause-adds : goal.returns-then-len-bounds-2-clause-adds
returns-then-len-bounds-2-clause-adds c =
    let a = (goal.at.returns-then-len-bounds-2-clause-adds c).After-deref-step-items in
    let adds = c.loop-step.invariant.adds in
    record {
      lists = looked_through c.args.by_root.now.rules c.args.bounds.depth c.args.bounds.size c.args.bounds.limit (listed c.args.self.now c.args.entry.now) c.deref-step-items.result.now
          (listed_at c.args.self.now c.args.reached.now.list.items) c.loop-step.step-index (listed_at c.loop-step.self c.loop-step.reached.list.items) (near a) (redexes a) adds.lists
          (inr (omega (arith, c.if-len-bounds-2.true, c.len-in-loop-step.ensures, c.loop-step.reached.list.ok.0, length_listed c.loop-step.self c.loop-step.reached.list.items)));
      reached = adds.reached;
      room = adds.room;
    }

pub returns-clause-adds : goal.returns-clause-adds
returns-clause-adds c =
    let a = (goal.at.returns-clause-adds c).After-deref-step-items in
    let adds = c.loop-step.invariant.adds in
    record {
      lists = looked_through c.args.by_root.now.rules c.args.bounds.depth c.args.bounds.size c.args.bounds.limit (listed c.args.self.now c.args.entry.now) c.deref-step-items.result.now
          (listed_at c.args.self.now c.args.reached.now.list.items) c.loop-step.step-index (listed_at c.loop-step.self c.loop-step.reached.list.items) (near a) (redexes a) adds.lists
          (inl c.loop-step-test.false);
      reached = adds.reached;
      room = adds.room;
    }

pub add_reduct-requires-clause-redex : goal.add_reduct-requires-clause-redex
add_reduct-requires-clause-redex c =
    let same = same_tree_at c.args.self.now c.loop-step.self c.loop-step.invariant.kept c.args.entry.now.0 c.requires.there in
    rw (c.trs.ensures, same) (redex_read c.args.by_root.now.rules (tree_at c.args.self.now c.args.entry.now.0) c.deref-step-items.result.now c.loop-step.step-index c.step-item.result
    (redexes (goal.at.add_reduct-requires-clause-redex c).After-deref-step-items) c.loop-step-test.true c.step-item.is)

pub loop-step-preserved : goal.loop-step-preserved
loop-step-preserved c =
    let same = same_tree_at c.args.self.now c.loop-step.self c.loop-step.invariant.kept c.args.entry.now.0 c.requires.there in
    let more = rw (c.trs.ensures, same) at c.in_ok-add_reduct.ensures.adds in
    record {
      adds = added_on c.args.by_root.now.rules c.args.bounds.depth c.args.bounds.size c.args.bounds.limit (listed c.args.self.now c.args.entry.now)
          c.deref-step-items.result.now c.args.self.now c.loop-step.self c.add_reduct.new.self c.args.reached.now c.loop-step.reached c.add_reduct.new.reached c.loop-step.step-index c.step-item.result
          c.loop-step-test.true c.step-item.is c.loop-step.invariant.adds more;
      kept = extends_on c.args.self.now c.loop-step.self c.add_reduct.new.self c.loop-step.invariant.kept c.in_ok-add_reduct.ensures.kept;
      known = rw c.trs.ensures at c.in_ok-add_reduct.ensures.known;
    }

pub add_reduct-requires-clause-known : goal.add_reduct-requires-clause-known
add_reduct-requires-clause-known c = rw c.trs.ensures c.loop-step.invariant.known

pub returns-in_err-add_reduct-clause-kept : goal.returns-in_err-add_reduct-clause-kept
returns-in_err-add_reduct-clause-kept c = extends_on c.args.self.now c.loop-step.self c.add_reduct.new.self c.loop-step.invariant.kept c.in_err-add_reduct.ensures.kept

pub returns-then-len-bounds-2-clause-known : goal.returns-then-len-bounds-2-clause-known
returns-then-len-bounds-2-clause-known c = c.loop-step.invariant.known

pub returns-clause-known : goal.returns-clause-known
returns-clause-known c = c.loop-step.invariant.known
