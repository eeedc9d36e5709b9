use Rattle.std.proofs.Common.{◌≤◌, ◌+◌, ℕ, List, subst, arith}
use Rattle.trs_defs.specs.Tree.{Tree}
use Rattle.trs_defs.specs.Size.{size_of}
use Rattle.trs_defs.specs.Path.{PlacedRule, StepsAt}
use Rattle.path_lists.proofs.Growing.{one_less_step, no_step_left}
use Rattle.path_lists.proofs.room.Room.most_nodes.Goals as goal

pub loop-step-init : goal.loop-step-init
loop-step-init c = λ few s t small follows. record { from = s; small = small; follows = follows }

pub loop-step-preserved : goal.loop-step-preserved
loop-step-preserved c = λ few s t small follows.
    let sum = c.saturating_add-most.ensures in
    one_less_step c.args.trs.now.rules c.args.path.now c.loop-step.step-index c.step-item.result c.growth_by-more.result c.loop-step.most c.saturating_add-most.result t c.loop-step-test.true c.step-item.is
    (subst (λ (x : PlacedRule). (p : List ℕ) (t u : Tree) → StepsAt c.args.trs.now.rules p x.rule t u → size_of u ≤ size_of t + c.growth_by-more.result) c.step.view_is c.growth_by-more.ensures) (omega (arith, few, sum)) (c.loop-step.invariant (omega (arith, few, sum)) s t small follows)

pub returns : goal.returns
returns c = λ few s t small follows.
    no_step_left c.args.trs.now.rules c.args.path.now c.loop-step.step-index c.loop-step.most t c.loop-step-test.false (c.loop-step.invariant few s t small follows)
