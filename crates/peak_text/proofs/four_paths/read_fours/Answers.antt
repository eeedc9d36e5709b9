use Rattle.std.proofs.Common.{◌∙◌, sym}
use Rattle.path_text.proofs.InTurn.{turn_taken, left_more}
use Rattle.peak_text.specs.FourPaths.{four, paths_of_four}
use Rattle.peak_text.proofs.four_paths.read_fours.Goals as goal

pub loop-item-preserved : goal.loop-item-preserved
loop-item-preserved c =
    let s = c.loop-item.sharing in
    let t = c.read_four.new.sharing in
    let before = c.loop-item.fours.items in
    let v = c.in-Ok.four in
    let reads = sym c.in_ok-four.ensures.read ∙ c.in-Ok.is in
    let left = rw c.in-Ok.is at c.in_ok-four.ensures.left in
    record {
      read =
          rw c.in_ok-push-in-Ok.ensures.items
          (turn_taken four paths_of_four s c.args.items.now c.item-item.result c.loop-item.item-index before _ c.loop-item-test.true c.item-item.is c.loop-item.invariant.read v t reads left);
      left = rw c.in_ok-push-in-Ok.ensures.items (left_more paths_of_four c.args.sharing.now s t before v c.loop-item.invariant.left left);
    }
