use Rattle.std.proofs.Common.{◌≡◌, ap, subst}
use Rattle.trs_core.specs.View.{tree}
use Rattle.trs_defs.specs.Substitution.{apply}
use Rattle.trs_defs.specs.System.{RewriteRule}
use Rattle.trs_defs.specs.Tree.{Tree}
use Rattle.term_pool.specs.LeftSides.{IsGround}
use Rattle.crit_pairs.specs.Overlapping.{substitution}
use Rattle.crit_pairs.specs.Sides.{AreRenumbered}
use Rattle.crit_pairs.specs.WholeSides.{AreWhole}
use Rattle.crit_pairs.specs.declared.results.Results.TheVariants as made
use Rattle.crit_pairs.proofs.WholeLaws.{whole_renumbered}
use Rattle.crit_pairs.proofs.results.peak_sides.Goals as goal

pub returns-in_ok-whole-in-Whole-2 : goal.returns-in_ok-whole-in-Whole-2
returns-in_ok-whole-in-Whole-2 g c =
    let unifier = substitution c.args.unifier.now in
    let outer = c.args.outer.now in
    let left = c.in-Whole.left.now in
    let right = c.in-Whole.right.now in
    let whole : AreWhole outer.right (made.Whole c.in-Whole.left c.in-Whole.right) = rw c.in-Whole.is at c.requires.whole in
    let is : tree c.outer.inside.left ≡ outer.left = ap (λ (r : RewriteRule). r.left) c.outer.view_is in
    let top = g.T.Top.top_tree c.in_ok-beside_ground-in-Whole.field-0 in
    let B : Tree → Type 0 = λ t. (x y : Tree) → IsGround x → IsGround y → AreRenumbered (apply unifier t) x y top x y in
    rw c.in-Whole.is
    (whole_renumbered unifier (apply unifier outer.left) (tree left.term.now) outer.right left right whole.0 whole.1 top _ _
    (subst B is c.in_ok-beside_ground-in-Whole.ensures) c.in_ok-whole-in-Whole.ensures c.in_ok-whole-in-Whole-2.ensures)
