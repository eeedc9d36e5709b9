use Rattle.std.proofs.Common.{◌≡◌, Some, IfSome, ap, subst}
use Rattle.trs_core.specs.View.{tree}
use Rattle.trs_defs.specs.Position.{replaced_at}
use Rattle.trs_defs.specs.Renaming.{shifted}
use Rattle.trs_defs.specs.Substitution.{apply}
use Rattle.trs_defs.specs.System.{RewriteRule}
use Rattle.trs_defs.specs.Tree.{Tree}
use Rattle.crit_pairs.specs.Overlapping.{substitution}
use Rattle.crit_pairs.specs.SideSizes.{IsSmallOf}
use Rattle.crit_pairs.specs.Sides.{AreCounted}
use Rattle.crit_pairs.proofs.SideInstances.{sides_counted}
use Rattle.crit_pairs.proofs.counting.peak_size.Goals as goal

pub returns-in-Some-Some : goal.returns-in-Some-Some
returns-in-Some-Some c =
    let unifier = substitution c.args.unifier.now in
    let outer = c.args.outer.now in
    let inner = c.args.inner.now in
    let put = c.in-Some-Some.put in
    let other = c.in-Some-Some.other in
    let left_is : tree c.outer.inside.left ≡ outer.left = ap (λ (r : RewriteRule). r.left) c.outer.view_is in
    let right_is : tree c.outer.inside.right ≡ outer.right = ap (λ (r : RewriteRule). r.right) c.outer.view_is in
    let by_is : tree c.inner.inside.right ≡ inner.right = ap (λ (r : RewriteRule). r.right) c.inner.view_is in
    let B : Tree → Type 0 = λ t. IfSome c.in_ok-by.by (IsSmallOf (apply unifier (shifted 65536 t))) in
    let R : Tree → Type 0 = λ t. IfSome c.in_ok-right.right (IsSmallOf (apply unifier (shifted 0 t))) in
    let C : Tree → Type 0 = λ l. IfSome c.three_sizes.result (λ n. (b r u : Tree) → IsSmallOf (apply unifier b) put → IsSmallOf (apply unifier r) other → replaced_at c.args.place.now l b ≡ Some u
    → AreCounted (apply unifier l) (apply unifier u) (apply unifier r) n) in
    sides_counted unifier outer.left (shifted 65536 inner.right) outer.right c.args.place.now c.three_sizes.result c.in_ok-by.by c.in_ok-right.right put other
    c.in-Some-Some.is-0 (subst B by_is c.in_ok-by.ensures.small) c.in-Some-Some.is-1 (subst R right_is c.in_ok-right.ensures.small) (subst C left_is c.three_sizes.ensures)
