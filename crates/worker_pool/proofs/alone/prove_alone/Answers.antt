use Rattle.std.proofs.Common.{◌≡◌, ◌∙◌, ap, sym, subst}
use Rattle.tree_core.specs.tree_definitions.Questions.{goal_count}
use Rattle.tree_core.specs.tree_definitions.Trees.{ProofTree}
use Rattle.tree_core.specs.tree_definitions.Verdicts.{HasVerdict}
use Rattle.tree_core.specs.tree_definitions.declared.question.Question.{Question}
use Rattle.worker_pool.specs.Turns.{IsTurn}
use Rattle.worker_pool.proofs.Rounds.{new_tree, new_at_rest}
use Rattle.worker_pool.proofs.alone.prove_alone.Goals as goal

pub loop-searcher-init : goal.loop-searcher-init
loop-searcher-init c =
    let tree = c.in_ok-tree.tree in
    let is : tree ≡ new_tree c.args.question c.args.trs.now c.args.limits.budget = c.in_ok-tree.ensures in
    let system : tree.system ≡ c.args.trs.now = ap (λ (t : ProofTree). t.system) is in
    record {
      rest = new_at_rest c.args.question c.args.trs.now c.args.limits.budget tree is;
      searcher = c.new-searcher.ensures ∙ (c.in_ok-tables.ensures ∙ sym system);
      question = ap (λ (t : ProofTree). t.question) is;
      system = system;
      budget = ap (λ (t : ProofTree). t.budget) is;
    }

pub returns-clause-verdict : goal.returns-clause-verdict
returns-clause-verdict c =
    let old = c.loop-searcher.tree in
    let new = c.take_turn.new.tree in
    let question : new.question ≡ c.args.question = c.in_ok-take_turn.ensures.same.question ∙ c.loop-searcher.invariant.question in
    let verdict : HasVerdict (goal_count new.question) new.state = subst (IsTurn old new) c.if-branch.false c.in_ok-take_turn.ensures.turn in
    subst (λ (t : ProofTree). HasVerdict (goal_count c.args.question) t.state) (sym c.new-2.ensures)
    (subst (λ (q : Question). HasVerdict (goal_count q) new.state) question verdict)
