use Rattle.std.proofs.Common.{◌≡◌, ◌≢◌, ◌∙◌, ◌+◌, ◌≤◌, List, sym, subst}
use Rattle.trs_defs.specs.Tree.{Tree}
use Rattle.trs_defs.specs.Size.{size_of}
use Rattle.term_pool.specs.Pooled.{StandsFor, tree_at}
use Rattle.term_pool.specs.declared.paths.PathFault.TheVariants as fault
use Rattle.term_pool.proofs.PoolTrees.{stands}
use Rattle.join_find.specs.ParallelRow.{IsParallelStep}
use Rattle.join_find.proofs.ParallelPeaks.{no_parallel_step, few_nodes_close, not_followed, leads_to_end, end_is_there, fault_stops}
use Rattle.join_find.proofs.parallel.closing_of_ids.Goals.{After-run_path, In-Some}
use Rattle.join_find.proofs.parallel.closing_of_ids.Goals as goal

-- the steps that were found are the parallel step from one side to the other
parallel : (c : In-Some) → IsParallelStep c.args.trs.now.rules (tree_at c.args.pool.now c.args.ids.0) (tree_at c.args.pool.now c.args.ids.1) c.in-Some.steps.items
parallel c = rw c.in-Some.is at c.in_ok-found.ensures.steps

left_stands : (c : After-run_path) → StandsFor c.steps_between.new.pool c.args.ids.0 (tree_at c.args.pool.now c.args.ids.0)
left_stands c =
    let P : List Tree → Type 0 = λ p. StandsFor p c.args.ids.0 (tree_at c.args.pool.now c.args.ids.0) in
    subst P (sym c.in_ok-found.ensures.same) (stands c.args.pool.now c.args.ids.0 c.requires.left.there)

right_stands : (c : After-run_path) → StandsFor c.steps_between.new.pool c.args.ids.1 (tree_at c.args.pool.now c.args.ids.1)
right_stands c =
    let P : List Tree → Type 0 = λ p. StandsFor p c.args.ids.1 (tree_at c.args.pool.now c.args.ids.1) in
    subst P (sym c.in_ok-found.ensures.same) (stands c.args.pool.now c.args.ids.1 c.requires.right.there)

pub returns-in_default-clause-step : goal.returns-in_default-clause-step
returns-in_default-clause-step c = no_parallel_step c.args.trs.now.rules c.args.pool.now c.args.ids (rw c.in_default.is at c.in_ok-found.ensures.steps)

pub have_few_nodes-requires-clause-left : goal.have_few_nodes-requires-clause-left
have_few_nodes-requires-clause-left c = rw c.in_ok-found.ensures.same c.requires.left.there

pub have_few_nodes-requires-clause-right : goal.have_few_nodes-requires-clause-right
have_few_nodes-requires-clause-right c = rw c.in_ok-found.ensures.same c.requires.right.there

pub returns-then-have_few_nodes-clause-step : goal.returns-then-have_few_nodes-clause-step
returns-then-have_few_nodes-clause-step c =
    let F : List Tree → Type 0 = λ pool. size_of (tree_at pool c.args.ids.0) + size_of (tree_at pool c.args.ids.1) ≤ 65536 in
    few_nodes_close c.args.trs.now.rules c.args.pool.now c.args.ids c.in-Some.steps.items (parallel (goal.at.returns-then-have_few_nodes-clause-step c).In-Some) c.requires.left c.requires.right
    (subst F c.in_ok-found.ensures.same (c.have_few_nodes.ensures c.if-have_few_nodes.true))

pub returns-in-Err-At-clause-step : goal.returns-in-Err-At-clause-step
returns-in-Err-At-clause-step c =
    let a = (goal.at.returns-in-Err-At-clause-step c).After-run_path in
    let b = (goal.at.returns-in-Err-At-clause-step c).In-Some in
    let s = tree_at c.args.pool.now c.args.ids.0 in
    let t = tree_at c.args.pool.now c.args.ids.1 in
    let other : c.in-Err-At.field-0 ≢ fault.OutOfMemory = λ e. (let wrong : fault.At c.in-Err-At.field-0-0 c.in-Err-At.field-0-1 ≡ fault.OutOfMemory = sym c.in-Err-At.field-0-is ∙ e in absurd cc) in
    not_followed c.args.trs.now.rules c.args.pool.now c.args.ids c.in-Some.steps.items (parallel b)
    (fault_stops c.args.trs.now.rules c.in-Some.steps.items c.steps_between.new.pool c.run_path.new.self c.args.ids.0 0 c.in-Err-At.field-0 s t
    (left_stands a) (rw c.deref.ensures.value at c.in-Err-At.ensures.only) other)

pub returns-then-end-ids-clause-step : goal.returns-then-end-ids-clause-step
returns-then-end-ids-clause-step c =
    let a = (goal.at.returns-then-end-ids-clause-step c).After-run_path in
    let b = (goal.at.returns-then-end-ids-clause-step c).In-Some in
    let s = tree_at c.args.pool.now c.args.ids.0 in
    let t = tree_at c.args.pool.now c.args.ids.1 in
    record {
      left = c.requires.left.there;
      right = c.requires.right.there;
      parallel = parallel b;
      follows = end_is_there c.args.trs.now.rules c.in-Some.steps.items c.steps_between.new.pool c.run_path.new.self c.args.ids.0 c.in-Ok.end c.args.ids.1
          s t (left_stands a) (c.in-Ok.ensures.kept.kept c.args.ids.1 t (right_stands a)) c.if-end-ids.true
          (rw c.deref.ensures.value at c.in-Ok.ensures.end);
    }

pub returns-clause-step : goal.returns-clause-step
returns-clause-step c =
    let a = (goal.at.returns-clause-step c).After-run_path in
    let b = (goal.at.returns-clause-step c).In-Some in
    let s = tree_at c.args.pool.now c.args.ids.0 in
    let t = tree_at c.args.pool.now c.args.ids.1 in
    not_followed c.args.trs.now.rules c.args.pool.now c.args.ids c.in-Some.steps.items (parallel b)
    (leads_to_end c.args.trs.now.rules c.in-Some.steps.items c.steps_between.new.pool c.run_path.new.self c.args.ids.0 c.in-Ok.end c.args.ids.1 s t
    c.ids_are_distinct.ensures (left_stands a) (c.in-Ok.ensures.kept.kept c.args.ids.1 t (right_stands a)) (rw c.deref.ensures.value at c.in-Ok.ensures.only) c.if-end-ids.false)
