use Rattle.std.proofs.Common.{◌∷◌, [], ◌++◌, sym, subst}
use Rattle.trsbatch.specs.Problems.{IsBlockOf, AreBlocksOf}
use Rattle.trsbatch.proofs.Zipping.{zip_more}
use Rattle.trsbatch.proofs.beside.blocks_alone.Goals as goal

pub loop-place-preserved : goal.loop-place-preserved
loop-place-preserved g c =
    rw c.in_ok-push.ensures.items (zip_more (IsBlockOf c.args.question c.args.budget) c.args.problems.now c.loop-place.blocks.items c.loop-place.place
    c.index-problems-place.result c.block_at.result c.loop-place-test.true c.index-problems-place.is c.loop-place.invariant c.block_at.ensures)
