use Rattle.std.proofs.Common.{◌≡◌, ◌∙◌, sym, None}
use Rattle.tree_state.specs.tree_definitions.Questions.{goal_count}
use Rattle.tree_core.proofs.Flags.{lost_verdict, no_verdict}
use Rattle.tree_core.proofs.tree.Tree.verdict.Goals as goal

pub returns-in-None : goal.returns-in-None
returns-in-None c =
    let i = c.self.inside in
    let none : i.board.state.winner ≡ None = sym c.winner.ensures ∙ c.in-None.is in
    rw (← c.self.view_is) (none, lost_verdict (goal_count i.question) i.board c.self.invariant.counted none (sym c.has_verdict.ensures ∙ c.if-has_verdict.true))

pub returns-in-None-2 : goal.returns-in-None-2
returns-in-None-2 c =
    let i = c.self.inside in
    let none : i.board.state.winner ≡ None = sym c.winner.ensures ∙ c.in-None-2.is in
    rw (← c.self.view_is) (none, no_verdict (goal_count i.question) i.board c.self.invariant.counted (sym c.has_verdict.ensures ∙ c.if-has_verdict.false))
