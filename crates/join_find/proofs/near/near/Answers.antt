use Rattle.std.proofs.Common.{◌∙◌, ◌+◌, List, take, refl, sym, subst}
use Rattle.trs_defs.specs.Tree.{Tree}
use Rattle.term_pool.specs.Pooled.{tree_at}
use Rattle.term_pool.specs.Redexes.{HasRedexes}
use Rattle.term_pool.proofs.ListingLaws.{redex_read}
use Rattle.term_pool.proofs.PoolTrees.{stands}
use Rattle.join_find.specs.Near.{HasNear}
use Rattle.join_find.proofs.NearTerms.{near_starts, near_goes_on, near_ends}
use Rattle.join_find.proofs.near.near.Goals.{After-deref-step-items}
use Rattle.join_find.proofs.near.near.Goals as goal

redexes : (c : After-deref-step-items) → HasRedexes c.args.by_root.now.rules (tree_at c.args.pool.now c.args.id) c.deref-step-items.result.now
redexes c = rw c.deref-step-items.ensures.value c.in_ok-steps.ensures.redexes

pub loop-step-init : goal.loop-step-init
loop-step-init c = record {
  near = near_starts c.args.by_root.now.rules c.args.pool.now (tree_at c.args.pool.now c.args.id) c.args.id c.new.result c.push.new.self.items c.new-near.result.items
      c.new.ensures.items c.new-near.ensures.items c.in_ok-push.ensures.items;
  same = refl;
}

pub add_reduct-requires-clause-there : goal.add_reduct-requires-clause-there
add_reduct-requires-clause-there c = rw c.loop-step.invariant.same c.requires.narrow.there

pub add_reduct-requires-clause-redex : goal.add_reduct-requires-clause-redex
add_reduct-requires-clause-redex c =
    let a = (goal.at.add_reduct-requires-clause-redex c).After-deref-step-items in
    rw (c.loop-step.invariant.same, c.trs.ensures) (redex_read c.args.by_root.now.rules (tree_at c.args.pool.now c.args.id) c.deref-step-items.result.now c.loop-step.step-index c.step-item.result
    (redexes a) c.loop-step-test.true c.step-item.is)

pub loop-step-preserved : goal.loop-step-preserved
loop-step-preserved c =
    let id = c.args.id in
    let P : List Tree → Type 0 = λ p. HasNear c.args.by_root.now.rules p (tree_at p id) id (take (c.loop-step.step-index + 1) c.deref-step-items.result.now) c.add_reduct.new.near.items in
    record {
      near = subst P (sym c.in_ok-add_reduct.ensures.same)
          (near_goes_on c.args.by_root.now.rules c.loop-step.pool (tree_at c.loop-step.pool id) id c.deref-step-items.result.now c.loop-step.near.items c.add_reduct.new.near.items
          c.loop-step.step-index c.step-item.result c.loop-step-test.true c.step-item.is c.loop-step.invariant.near (rw c.trs.ensures at c.in_ok-add_reduct.ensures.adds));
      same = c.in_ok-add_reduct.ensures.same ∙ c.loop-step.invariant.same;
    }

pub returns-clause-near : goal.returns-clause-near
returns-clause-near c =
    let a = (goal.at.returns-clause-near c).After-deref-step-items in
    let id = c.args.id in
    let N : List Tree → Type 0 = λ p. HasNear c.args.by_root.now.rules p (tree_at p id) id (take c.loop-step.step-index c.deref-step-items.result.now) c.loop-step.near.items in
    near_ends c.args.by_root.now.rules c.args.pool.now (tree_at c.args.pool.now id) id c.deref-step-items.result.now c.loop-step.near.items c.loop-step.step-index
    c.loop-step-test.false (stands c.args.pool.now id c.requires.narrow.there) (redexes a) (subst N c.loop-step.invariant.same c.loop-step.invariant.near)
