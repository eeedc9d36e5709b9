use Rattle.std.proofs.Common.{◌≡◌, Some, ap, length, refl, slice_get, sym, subst}
use Rattle.std.proofs.lemmas.Option.{slice_get_read, slice_get_within}
use Rattle.std.proofs.lemmas.Result.{err_from_is_err_and}
use Rattle.trs_defs.specs.Substitution.{apply}
use Rattle.trs_defs.specs.System.{RewriteRule}
use Rattle.trs_defs.specs.Tree.{Tree}
use Rattle.trs_core.specs.View.{tree}
use Rattle.term_pool.specs.Pooled.{tree_at}
use Rattle.crit_pairs.specs.Meeting.{solution}
use Rattle.crit_pairs.specs.Sides.{KeepsLimits, PassesLimit}
use Rattle.crit_pairs.proofs.PooledResultLaws.{pair_keeps, pair_passes}
use Rattle.crit_pairs.proofs.pooled_results.make_bound.Goals.{After-index-rules-j}
use Rattle.crit_pairs.proofs.pooled_results.make_bound.Goals as goal

-- the outer rule, as it is read
outer_read : (c : After-index-rules-j) → slice_get c.args.rules.now.rules c.args.j ≡ Some c.index-rules-j.result
outer_read c =
    let u = c.requires.unifier in
    let rules = c.rules.result.now in
    let there : slice_get rules c.args.j ≡ Some u.outer = subst (λ xs. slice_get xs c.args.j ≡ Some u.outer) (sym c.rules.ensures.rules) u.outer_numbered in
    let read = slice_get_read rules (length rules) c.args.j c.index-rules-j.result refl (slice_get_within rules c.args.j u.outer there) c.index-rules-j.is in
    subst (λ xs. slice_get xs c.args.j ≡ Some c.index-rules-j.result) c.rules.ensures.rules read

pub returns-in_err-total-clause-fault : goal.returns-in_err-total-clause-fault
returns-in_err-total-clause-fault c =
    let p = err_from_is_err_and c.from_residual-in_err-total.result c.from_residual-in_err-total.ensures.1 in
    let σ = solution c.args.bindings.now in
    let pool = c.bound_results.new.pool in
    let fault = c.in_err-total.field-0.0 in
    let left_is : tree c.outer.inside.left ≡ c.index-rules-j.result.left = ap (λ (r : RewriteRule). r.left) c.outer.view_is in
    let F : Tree → Type 0 = λ t. PassesLimit fault c.args.nodes (apply σ t) (tree_at pool c.in_ok-pair.pair.left) (tree_at pool c.in_ok-pair.pair.right) in
    rw (p.1, p.2) (λ top left right is.
    pair_passes c.args.rules.now.rules c.args.j c.args.i c.args.place.now σ pool c.in_ok-pair.pair c.in_ok-pair.ensures.results c.index-rules-j.result
    (outer_read (goal.at.returns-in_err-total-clause-fault c).After-index-rules-j) c.args.nodes top left right is fault (subst F left_is c.in_err-total.ensures.fault))

pub returns-clause-limits : goal.returns-clause-limits
returns-clause-limits c = λ top left right is.
    let σ = solution c.args.bindings.now in
    let pool = c.bound_results.new.pool in
    let left_is : tree c.outer.inside.left ≡ c.index-rules-j.result.left = ap (λ (r : RewriteRule). r.left) c.outer.view_is in
    let K : Tree → Type 0 = λ t. KeepsLimits c.args.nodes c.in_ok-total.total (apply σ t) (tree_at pool c.in_ok-pair.pair.left) (tree_at pool c.in_ok-pair.pair.right) in
    pair_keeps c.args.rules.now.rules c.args.j c.args.i c.args.place.now σ pool c.in_ok-pair.pair c.in_ok-pair.ensures.results c.index-rules-j.result
    (outer_read (goal.at.returns-clause-limits c).After-index-rules-j) c.args.nodes top left right is c.in_ok-total.total (subst K left_is c.in_ok-total.ensures.limits)
