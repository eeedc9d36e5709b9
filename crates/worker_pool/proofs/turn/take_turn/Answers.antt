use Rattle.std.proofs.Common.{◌∙◌, ℕ, subst, sym}
use Rattle.trs_defs.specs.System.{System}
use Rattle.tree_core.specs.tree_definitions.declared.answers.Claimed.{Claimed}
use Rattle.tree_core.specs.tree_definitions.declared.answers.Claimed.TheVariants as claim
use Rattle.tree_core.specs.tree_definitions.Replies.{IsClaim, IsTask}
use Rattle.worker_pool.specs.Turns.{IsAnswerTo}
use Rattle.worker_pool.proofs.Rounds.{none_runs, mid_system, task_given, at_rest}
use Rattle.worker_pool.proofs.turn.take_turn.Goals as goal

pub unreachable-requires : goal.unreachable-requires
unreachable-requires c =
    let again : IsClaim c.args.tree.now 0 c.claim.new.self claim.Again = subst (λ (a : Claimed). IsClaim c.args.tree.now 0 c.claim.new.self a) c.in-Again.is c.in_ok-task.ensures.claim in
    none_runs c.args.tree.now c.requires.rest again.0

pub post-requires-clause-outcome : goal.post-requires-clause-outcome
post-requires-clause-outcome c =
    let old = c.args.tree.now in
    let mid = c.claim.new.self in
    let task = c.in-Task.task in
    let is_task : IsTask old 0 mid task = subst (λ (a : Claimed). IsClaim old 0 mid a) c.in-Task.is c.in_ok-task.ensures.claim in
    let answer : IsAnswerTo mid.system mid.budget task c.in_ok-outcome.outcome =
    subst (λ (s : System). IsAnswerTo s mid.budget task c.in_ok-outcome.outcome) (c.requires.searcher ∙ sym (mid_system old mid c.requires.rest task is_task))
    (subst (λ (b : ℕ). IsAnswerTo c.args.searcher.now b task c.in_ok-outcome.outcome) c.limits-limits.ensures c.in_ok-outcome.ensures.answer) in
    task_given old mid c.requires.rest task is_task c.in_ok-outcome.outcome answer

pub returns-clause-rest : goal.returns-clause-rest
returns-clause-rest c =
    let old = c.args.tree.now in
    let mid = c.claim.new.self in
    let task = c.in-Task.task in
    let is_task : IsTask old 0 mid task = subst (λ (a : Claimed). IsClaim old 0 mid a) c.in-Task.is c.in_ok-task.ensures.claim in
    let answer : IsAnswerTo mid.system mid.budget task c.in_ok-outcome.outcome =
    subst (λ (s : System). IsAnswerTo s mid.budget task c.in_ok-outcome.outcome) (c.requires.searcher ∙ sym (mid_system old mid c.requires.rest task is_task))
    (subst (λ (b : ℕ). IsAnswerTo c.args.searcher.now b task c.in_ok-outcome.outcome) c.limits-limits.ensures c.in_ok-outcome.ensures.answer) in
    at_rest old mid c.requires.rest task is_task c.tickets_have_one_seat.ensures c.in_ok-outcome.outcome answer c.post.new.tree c.in_ok-post.field-0 c.in_ok-post.ensures
