use Rattle.std.proofs.Common.{◌++◌, ◌∷◌, []}
use Rattle.io_edge.proofs.AskingAgain.{once_again, twice_again}
use Rattle.trsbatch.proofs.Fetching.{one_touched_at, one_more_fetched}
use Rattle.trsbatch.proofs.problem.fetch_problems.Goals as goal

pub returns-in_err-problem-clause-untouched : goal.returns-in_err-problem-clause-untouched
returns-in_err-problem-clause-untouched g c =
    one_touched_at c.args.names.now c.loop-name.name-index (g.S.Shelf.means c.args.shelf.now) (g.S.Shelf.means c.loop-name.shelf)
    (g.S.Shelf.means c.fetch_problem.new.shelf) _ c.loop-name-test.true c.loop-name.invariant.1 c.fetch_problem.ensures.asked

pub returns-in_err-push-clause-untouched : goal.returns-in_err-push-clause-untouched
returns-in_err-push-clause-untouched g c =
    one_touched_at c.args.names.now c.loop-name.name-index (g.S.Shelf.means c.args.shelf.now) (g.S.Shelf.means c.loop-name.shelf)
    (g.S.Shelf.means c.fetch_problem.new.shelf) _ c.loop-name-test.true c.loop-name.invariant.1 c.fetch_problem.ensures.asked

pub loop-name-preserved : goal.loop-name-preserved
loop-name-preserved g c =
    let before = g.S.Shelf.means c.args.shelf.now in
    let middle = g.S.Shelf.means c.loop-name.shelf in
    let now = g.S.Shelf.means c.fetch_problem.new.shelf in
    let asked = c.fetch_problem.ensures.asked in (
      rw c.in_ok-push.ensures.items (one_more_fetched before middle now c.args.names.now c.loop-name.problems.items c.loop-name.name-index _ c.in_ok-problem.problem
          c.loop-name-test.true c.loop-name.invariant.2 c.loop-name.invariant.0 c.in_ok-problem.ensures.name asked c.in_ok-problem.ensures.text),
      one_touched_at c.args.names.now c.loop-name.name-index before middle now _ c.loop-name-test.true c.loop-name.invariant.1 asked,
      twice_again before middle now c.loop-name.invariant.2 (once_again middle now _ asked.told asked.faults asked.read),
    )
