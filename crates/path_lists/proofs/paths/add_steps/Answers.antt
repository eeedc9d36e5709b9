use Rattle.std.proofs.Common.{[], arith}
use Rattle.term_pool.specs.Pooled.{tree_at}
use Rattle.term_pool.specs.Reach.{AreReducts, no_step}
use Rattle.term_pool.specs.ListedIds.{listed}
use Rattle.term_pool.proofs.Extending.{extends_itself, extends_on, same_tree_at}
use Rattle.term_pool.proofs.ListingLaws.{redex_read}
use Rattle.path_lists.proofs.Longer.{nothing_added, one_more_reduct, all_added, full_added}
use Rattle.path_lists.proofs.paths.add_steps.Goals as goal

pub loop-step-init : goal.loop-step-init
loop-step-init c = record {
  adds = nothing_added (AreReducts c.args.trs.now.rules 4096 (listed c.args.pool.now c.args.entry.now) []) c.args.pool.now c.args.paths.now.items c.requires.below c.requires.few no_step;
  kept = extends_itself c.args.pool.now;
}

pub returns-then-len-ge-MOST_PATHS-clause-adds : goal.returns-then-len-ge-MOST_PATHS-clause-adds
returns-then-len-ge-MOST_PATHS-clause-adds c =
    full_added c.args.trs.now.rules (listed c.args.pool.now c.args.entry.now) c.args.steps.now c.requires.short c.requires.redexes c.args.pool.now c.loop-step.pool c.args.paths.now.items c.loop-step.paths.items
    c.loop-step.step-index c.loop-step.invariant.adds (omega (arith, c.if-len-ge-MOST_PATHS.true, c.len.ensures, c.loop-step.paths.ok.0))

pub returns-clause-adds : goal.returns-clause-adds
returns-clause-adds c =
    all_added c.args.trs.now.rules (listed c.args.pool.now c.args.entry.now) c.args.steps.now c.requires.short c.requires.redexes c.args.pool.now c.loop-step.pool c.args.paths.now.items c.loop-step.paths.items
    c.loop-step.step-index c.loop-step.invariant.adds c.loop-step-test.false

pub add_path-requires-clause-redex : goal.add_path-requires-clause-redex
add_path-requires-clause-redex c =
    let same = same_tree_at c.args.pool.now c.loop-step.pool c.loop-step.invariant.kept c.args.entry.now.0 c.requires.there in
    rw same (redex_read c.args.trs.now.rules (tree_at c.args.pool.now c.args.entry.now.0) c.args.steps.now c.loop-step.step-index c.step-item.result
    c.requires.redexes c.loop-step-test.true c.step-item.is)

pub add_path-requires-clause-sure : goal.add_path-requires-clause-sure
add_path-requires-clause-sure c =
    let same = same_tree_at c.args.pool.now c.loop-step.pool c.loop-step.invariant.kept c.args.entry.now.0 c.requires.there in
    rw same c.requires.on.sure

pub add_path-requires-clause-from : goal.add_path-requires-clause-from
add_path-requires-clause-from c =
    let same = same_tree_at c.args.pool.now c.loop-step.pool c.loop-step.invariant.kept c.args.entry.now.0 c.requires.there in
    rw same c.requires.on.from

pub loop-step-preserved : goal.loop-step-preserved
loop-step-preserved c =
    let same = same_tree_at c.args.pool.now c.loop-step.pool c.loop-step.invariant.kept c.args.entry.now.0 c.requires.there in
    let more = rw same at c.in_ok-add_path.ensures.adds in
    record {
      adds = one_more_reduct c.args.trs.now.rules (listed c.args.pool.now c.args.entry.now) c.args.steps.now c.args.pool.now c.loop-step.pool c.add_path.new.pool
          c.args.paths.now.items c.loop-step.paths.items c.add_path.new.paths.items c.loop-step.step-index c.step-item.result c.loop-step-test.true c.step-item.is c.loop-step.invariant.adds more;
      kept = extends_on c.args.pool.now c.loop-step.pool c.add_path.new.pool c.loop-step.invariant.kept c.in_ok-add_path.ensures.kept;
    }
