use Rattle.std.proofs.Common.{◌≡◌, IfOk, Result, Ok, Err, sym, subst}
use Rattle.trs_defs.specs.Tree.{Tree}
use Rattle.trs_defs.specs.Substitution.{apply}
use Rattle.trs_core.specs.View.{tree}
use Rattle.term_pool.specs.LeftSides.{IsGround}
use Rattle.crit_pairs.specs.InOrder.{in_order}
use Rattle.crit_pairs.specs.Overlapping.{substitution}
use Rattle.crit_pairs.specs.Sides.{AreRenumbered}
use Rattle.crit_pairs.specs.UnbuiltTop.{unbuilt_tree}
use Rattle.crit_pairs.proofs.TermsInOrder.{in_order_beside}
use Rattle.crit_pairs.proofs.unbuilt.UnbuiltTopBuiltSides.beside_ground.Goals as goal

beside : {E X : Type 0} (of : X → Tree) (made : Result X E) (t : Tree) → IfOk made (λ top. of top ≡ in_order t)
    → IfOk made (λ top. (left right : Tree) → IsGround left → IsGround right → AreRenumbered t left right (of top) left right)
beside of (Ok top) t h = λ left right left_ground right_ground. subst (λ z. AreRenumbered t left right z left right) (sym h) (in_order_beside t left right left_ground right_ground)
beside of (Err e) t h = tt

pub returns : goal.returns
returns c = beside unbuilt_tree c.of.result (apply (substitution c.args.unifier.now) (tree c.args.top.now)) c.of.ensures
