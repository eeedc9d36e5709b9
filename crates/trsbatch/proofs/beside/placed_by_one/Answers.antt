use Rattle.std.proofs.Common.{arith, get_or}
use Rattle.std.specs.Result.{is_ok}
use Rattle.trsbatch.specs.Placing.{IsPlaced}
use Rattle.trsbatch.proofs.Placing.{pushed, placed_at}
use Rattle.trsbatch.proofs.beside.placed_by_one.Goals as goal

pub loop-preserved : goal.loop-preserved
loop-preserved g c =
    let place = get_or c.args.order.now c.fetch_add-turn.result 0 in
    record {
      each = pushed (IsPlaced c.args.question c.args.budget c.args.problems.now) c.loop.placed.items c.push.new.self.items
          (record { place = place; block = c.block_at-block.result }) (is_ok c.push.result) c.push.ensures.items c.loop.invariant.each
          (placed_at c.args.question c.args.budget c.args.problems.now place c.index-problems-place.result c.block_at-block.result
          (c.requires.order c.fetch_add-turn.result 0 (omega (arith, c.if-turn-order.false))) c.index-problems-place.is c.block_at-block.ensures);
    }

pub returns-then-is_err : goal.returns-then-is_err
returns-then-is_err g c =
    let place = get_or c.args.order.now c.fetch_add-turn.result 0 in
    record {
      each = pushed (IsPlaced c.args.question c.args.budget c.args.problems.now) c.loop.placed.items c.push.new.self.items
          (record { place = place; block = c.block_at-block.result }) (is_ok c.push.result) c.push.ensures.items c.loop.invariant.each
          (placed_at c.args.question c.args.budget c.args.problems.now place c.index-problems-place.result c.block_at-block.result
          (c.requires.order c.fetch_add-turn.result 0 (omega (arith, c.if-turn-order.false))) c.index-problems-place.is c.block_at-block.ensures);
    }
