use Rattle.std.proofs.Common.{arith, subst, sym, get_or}
use Rattle.trsbatch.specs.Problems.{IsBlockOf}
use Rattle.trsbatch.specs.Placing.{IsInSlot}
use Rattle.trsbatch.proofs.Zipping.{zip_more, zip_set, zip_get, zip_long}
use Rattle.trsbatch.proofs.beside.blocks_of.Goals as goal

pub index_mut-requires : goal.index_mut-requires
index_mut-requires g c =
    let long = zip_long (IsInSlot c.args.question c.args.budget) c.args.problems.now c.loop-place.slots.items c.loop-place.invariant.0 in
    omega (arith, long, c.loop-place-test.true, c.loop-place.slots.ok)

pub loop-place-preserved : goal.loop-place-preserved
loop-place-preserved g c = (
  zip_set (IsInSlot c.args.question c.args.budget) c.args.problems.now c.loop-place.slots.items c.loop-place.place c.take-made.new.self c.loop-place-test.true
      (λ d. subst (IsInSlot c.args.question c.args.budget (get_or c.args.problems.now c.loop-place.place d)) (sym c.take-made.ensures.after) tt) c.loop-place.invariant.0,
  rw c.in_ok-push.ensures.items (zip_more (IsBlockOf c.args.question c.args.budget) c.args.problems.now c.loop-place.blocks.items c.loop-place.place
      c.index-problems-place.result c.block_or.result c.loop-place-test.true c.index-problems-place.is c.loop-place.invariant.1 c.block_or.ensures),
)

pub block_or-requires-clause-made :
    goal.block_or-requires-clause-made
block_or-requires-clause-made g c κs within =
    rw (c.take-made.ensures.value, c.index_mut.ensures.value) (subst (λ p. IsInSlot c.args.question c.args.budget p (get_or c.loop-place.slots.items c.loop-place.place c.index_mut.result.now))
    (sym c.index-problems-place.is) (zip_get (IsInSlot c.args.question c.args.budget) c.args.problems.now c.loop-place.slots.items c.loop-place.place
    c.index-problems-place.result c.index_mut.result.now c.loop-place.invariant.0 c.loop-place-test.true))
