use Rattle.std.proofs.Common.{◌≡◌, true, false, map, refl, sym, ap, ◌∙◌, subst, rules, List}
use Rattle.tree_state.specs.Parts.{all_failed, lost_if}
use Rattle.tree_definitions.specs.States.{TreeNode}
use Rattle.tree_state.specs.declared.goal_state.GoalState.{GoalState}
use Rattle.tree_state.specs.contracts.board.Board.{the_view}
use Rattle.tree_state.specs.Seen.{entry_of}
use Rattle.tree_state.proofs.SeenNodes.{seen_at}
use Rattle.tree_state.proofs.board.Board.note_stuck.Goals as goal

pub returns-then-has_failed : goal.returns-then-has_failed
returns-then-has_failed c = rw (← c.self.view_is) (λ node there.
    let h = map entry_of c.self.inside.history.items in
    let same = seen_at h c.self.inside.nodes.items c.args.n c.index.result.now node c.index.ensures there in
    let also = seen_at h c.self.inside.nodes.items c.args.n c.index-then-has_failed.result.now node c.index-then-has_failed.ensures there in
    let all : all_failed node.marks ≡ true = subst (λ (x : TreeNode). all_failed x.marks ≡ true) same (sym (c.has_failed.ensures h) ∙ c.if-has_failed.true) in
    let goal_is : c.index-then-has_failed.result.now.goal ≡ node.goal = ap (λ (x : TreeNode). x.goal) also in
    let goals : c.lose.new.goals.items ≡ lost_if (all_failed node.marks) c.self.inside.goals.items node.goal = rw (all, ← goal_is) (search rules) in
    ap (λ (gs : List GoalState). record (the_view c.self.inside) { goals = gs }) goals)

pub returns-else-has_failed : goal.returns-else-has_failed
returns-else-has_failed c = rw (← c.self.view_is) (λ node there.
    let h = map entry_of c.self.inside.history.items in
    let same = seen_at h c.self.inside.nodes.items c.args.n c.index.result.now node c.index.ensures there in
    let none : all_failed node.marks ≡ false = subst (λ (x : TreeNode). all_failed x.marks ≡ false) same (sym (c.has_failed.ensures h) ∙ c.if-has_failed.false) in
    rw none refl)
