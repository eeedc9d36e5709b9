use Rattle.std.proofs.Common.{◌≡◌, sym, subst, ◌∙◌}
use Rattle.std.proofs.lemmas.Option.{same_Some}
use Rattle.trs_defs.specs.Substitution.{apply}
use Rattle.trs_defs.specs.System.{RewriteRule}
use Rattle.trs_defs.specs.Tree.{Tree}
use Rattle.trs_core.specs.View.{tree}
use Rattle.term_pool.specs.Pooled.{tree_at}
use Rattle.term_pool.proofs.PoolTrees.{stands_at, stands_within}
use Rattle.crit_pairs.specs.InOrder.{in_order}
use Rattle.crit_pairs.specs.Overlapping.{substitution}
use Rattle.crit_pairs.specs.Sides.{AreRenumbered}
use Rattle.crit_pairs.proofs.PooledResultLaws.{results_are}
use Rattle.crit_pairs.proofs.SpotWalk.{small_of}
use Rattle.crit_pairs.proofs.pooled_results.make_built.Goals as goal

pub contract-requires-clause-small : goal.contract-requires-clause-small
contract-requires-clause-small c = (small_of c.args.rules.now.rules c.args.i c.args.inner.now c.requires.small c.requires.inner).1

pub returns-clause-results : goal.returns-clause-results
returns-clause-results c =
    let σ = substitution c.args.unifier.now in
    let outer = c.args.outer.now in
    let pool = c.intern_pair.new.pool in
    let pair = c.in_ok-pair.pair in
    let reduct = tree c.in_ok-reduct.reduct in
    let first = tree c.in_ok-sides.sides.0 in
    let second = tree c.in_ok-sides.sides.1 in
    let O : RewriteRule → Type 0 = λ r. AreRenumbered (apply σ r.left) (apply σ reduct) (apply σ r.right) (in_order (apply σ r.left)) first second in
    let made : O outer = subst O c.outer.view_is c.in_ok-sides.ensures in
    let left_is : first ≡ tree_at pool pair.left = sym (stands_at pool pair.left first c.in_ok-pair.ensures.left) in
    let right_is : second ≡ tree_at pool pair.right = sym (stands_at pool pair.right second c.in_ok-pair.ensures.right) in
    results_are c.args.rules.now.rules c.args.j c.args.i c.args.place.now σ outer c.args.inner.now c.requires.outer c.requires.inner pool pair
    (stands_within pool pair.left first c.in_ok-pair.ensures.left) (stands_within pool pair.right second c.in_ok-pair.ensures.right) (λ u is.
    let U : Tree → Type 0 = λ t. AreRenumbered (apply σ outer.left) (apply σ t) (apply σ outer.right) (in_order (apply σ outer.left)) first second in
    let L : Tree → Type 0 = λ t. AreRenumbered (apply σ outer.left) (apply σ u) (apply σ outer.right) (in_order (apply σ outer.left)) t second in
    let R : Tree → Type 0 = λ t. AreRenumbered (apply σ outer.left) (apply σ u) (apply σ outer.right) (in_order (apply σ outer.left)) (tree_at pool pair.left) t in
    subst R right_is (subst L left_is (subst U (same_Some reduct u (sym c.in_ok-reduct.ensures ∙ is)) made))
    )
