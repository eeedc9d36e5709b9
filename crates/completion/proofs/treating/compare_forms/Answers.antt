use Rattle.std.proofs.Common.{IfOk, ap, refl, subst, sym}
use Rattle.trs_defs.specs.Tree.{Tree}
use Rattle.trs_core.specs.View.{tree}
use Rattle.term_pool.specs.Pooled.{tree_at}
use Rattle.term_pool.proofs.PoolTrees.{stands_at}
use Rattle.completion.specs.GreaterBy.{GreaterBy}
use Rattle.completion.specs.Treating.{IsCompared}
use Rattle.completion.proofs.treating.compare_forms.Goals as goal

pub returns-then-s-t : goal.returns-then-s-t
returns-then-s-t c = (ap (tree_at c.args.pool.now) c.if-s-t.true, refl)

pub returns : goal.returns
returns c =
    let pool = c.args.pool.now in
    let L : Tree → Type 0 = λ t. IfOk c.compare.result (IsCompared (GreaterBy c.args.order.now) c.args.system.now c.args.units t (tree c.in_ok-right.right)) in
    let R : Tree → Type 0 = λ t. IfOk c.compare.result (IsCompared (GreaterBy c.args.order.now) c.args.system.now c.args.units (tree_at pool c.args.s) t) in
    subst R (sym (stands_at pool c.args.t (tree c.in_ok-right.right) c.in_ok-right.ensures))
    (subst L (sym (stands_at pool c.args.s (tree c.in_ok-left.left) c.in_ok-left.ensures)) c.compare.ensures)
