use Rattle.std.proofs.Common.{◌∙◌, sym}
use Rattle.path_text.proofs.InTurn.{turn_taken, left_more}
use Rattle.peak_text.specs.TwoPaths.{two_behind, paths_of_two}
use Rattle.peak_text.proofs.two_paths.read_each.Goals as goal

pub loop-item-preserved : goal.loop-item-preserved
loop-item-preserved c =
    let s = c.loop-item.sharing in
    let t = c.read_two.new.sharing in
    let before = c.loop-item.joins.items in
    let v = c.in-Ok.join in
    let reads = sym c.in_ok-join.ensures.read ∙ c.in-Ok.is in
    let left = rw c.in-Ok.is at c.in_ok-join.ensures.left in
    record {
      read =
          rw c.in_ok-push-in-Ok.ensures.items
          (turn_taken (two_behind c.args.word.now) paths_of_two s c.args.items.now c.item-item.result c.loop-item.item-index before _ c.loop-item-test.true c.item-item.is c.loop-item.invariant.read v t reads left);
      left = rw c.in_ok-push-in-Ok.ensures.items (left_more paths_of_two c.args.sharing.now s t before v c.loop-item.invariant.left left);
    }
