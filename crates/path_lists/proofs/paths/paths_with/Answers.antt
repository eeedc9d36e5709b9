use Rattle.std.proofs.Common.{◌≡◌, ◌≤◌, ◌+◌, ℕ, IsTrue, Result, Ok, Err, IfOk, length, sym, subst, arith}
use Rattle.trs_defs.specs.Tree.{Tree}
use Rattle.trs_defs.specs.Size.{within_limits}
use Rattle.trs_defs.proofs.Limits.{limits_size}
use Rattle.trs_core.specs.View.{tree}
use Rattle.term_pool.specs.Pooled.{tree_at}
use Rattle.term_pool.specs.ListedIds.{listed_at}
use Rattle.term_pool.specs.Redexes.{IsNarrow}
use Rattle.term_pool.proofs.PoolTrees.{stands_at, stands_within}
use Rattle.term_pool.proofs.Extending.{extends_on}
use Rattle.path_lists.specs.PathList.{IsPathList}
use Rattle.path_lists.proofs.KnownReducts.{still_known}
use Rattle.path_lists.proofs.paths.paths_with.Goals.{In_ok-id}
use Rattle.path_lists.proofs.paths.paths_with.Goals as goal

same : (c : In_ok-id) → tree_at c.intern.new.self c.in_ok-id.id ≡ tree c.args.start.now
same c = stands_at c.intern.new.self c.in_ok-id.id (tree c.args.start.now) c.in_ok-id.ensures.id

-- the term's own ids come to those of the ends
few_in_all : {X E : Type 0} (r : Result X E) (first next last : ℕ) → next ≤ first + 65536 → IfOk r (λ _. last ≤ next + 1048576) → IfOk r (λ _. last ≤ first + 1114112)
few_in_all (Ok found) first next last own ends = omega (arith, own, ends)
few_in_all (Err e) first next last own ends = tt

pub paths_from-requires-clause-there : goal.paths_from-requires-clause-there
paths_from-requires-clause-there c = stands_within c.intern.new.self c.in_ok-id.id (tree c.args.start.now) c.in_ok-id.ensures.id

pub paths_from-requires-clause-small : goal.paths_from-requires-clause-small
paths_from-requires-clause-small c = subst (λ t. IsTrue (within_limits t)) (sym (same (goal.at.paths_from-requires-clause-small c).In_ok-id)) c.requires.small

pub paths_from-requires-clause-narrow : goal.paths_from-requires-clause-narrow
paths_from-requires-clause-narrow c = subst IsNarrow (sym (same (goal.at.paths_from-requires-clause-narrow c).In_ok-id)) c.requires.narrow

pub paths_from-requires-clause-ends : goal.paths_from-requires-clause-ends
paths_from-requires-clause-ends c = still_known c.args.trs.now.rules c.args.pool.now c.intern.new.self c.in_ok-id.ensures.kept c.args.ends.now c.requires.ends

pub returns-clause-list : goal.returns-clause-list
returns-clause-list c =
    let P : Tree → Type 0 = λ t. IfOk c.paths_from.result (λ found. IsPathList c.args.trs.now.rules t (listed_at c.paths_from.new.pool found.items)) in
    subst P (same (goal.at.returns-clause-list c).In_ok-id) c.paths_from.ensures.list

pub returns-clause-kept : goal.returns-clause-kept
returns-clause-kept c = extends_on c.args.pool.now c.intern.new.self c.paths_from.new.pool c.in_ok-id.ensures.kept c.paths_from.ensures.kept

pub returns-clause-few : goal.returns-clause-few
returns-clause-few c =
    let size = limits_size (tree c.args.start.now) c.requires.small in
    few_in_all c.paths_from.result (length c.args.pool.now) (length c.intern.new.self) (length c.paths_from.new.pool) (omega (arith, size, c.in_ok-id.ensures.few)) c.paths_from.ensures.few
