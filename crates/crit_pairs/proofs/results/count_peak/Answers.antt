use Rattle.std.proofs.Common.{◌≡◌, IfOk, IfErr, ap, subst}
use Rattle.trs_core.specs.View.{tree}
use Rattle.trs_defs.specs.Substitution.{apply}
use Rattle.trs_defs.specs.System.{RewriteRule}
use Rattle.trs_defs.specs.Tree.{Tree}
use Rattle.crit_pairs.specs.MadePairs.{CountsTop}
use Rattle.crit_pairs.specs.Overlapping.{substitution}
use Rattle.crit_pairs.specs.WholeSides.{AreWhole, TopPasses}
use Rattle.crit_pairs.specs.declared.results.Results.TheVariants as made
use Rattle.crit_pairs.proofs.WholeLaws.{whole_limits, whole_fault}
use Rattle.crit_pairs.proofs.results.count_peak.Goals as goal

pub returns-in-Whole-clause-limits : goal.returns-in-Whole-clause-limits
returns-in-Whole-clause-limits c =
    let unifier = substitution c.args.unifier.now in
    let outer = c.args.outer.now in
    let left = c.in-Whole.left.now in
    let right = c.in-Whole.right.now in
    let whole : AreWhole outer.right (made.Whole c.in-Whole.left c.in-Whole.right) = rw c.in-Whole.is at c.requires.whole in
    let is : tree c.outer.inside.left ≡ outer.left = ap (λ (r : RewriteRule). r.left) c.outer.view_is in
    let C : Tree → Type 0 = λ t. IfOk c.count_top.result (CountsTop (apply unifier t) left.size right.size c.args.nodes) in
    rw c.in-Whole.is (whole_limits unifier (apply unifier outer.left) (tree left.term.now) outer.right left right whole.0 whole.1 c.args.nodes c.count_top.result
    (subst C is c.count_top.ensures.counted))

pub returns-in-Whole-clause-fault : goal.returns-in-Whole-clause-fault
returns-in-Whole-clause-fault c =
    let unifier = substitution c.args.unifier.now in
    let outer = c.args.outer.now in
    let left = c.in-Whole.left.now in
    let right = c.in-Whole.right.now in
    let whole : AreWhole outer.right (made.Whole c.in-Whole.left c.in-Whole.right) = rw c.in-Whole.is at c.requires.whole in
    let is : tree c.outer.inside.left ≡ outer.left = ap (λ (r : RewriteRule). r.left) c.outer.view_is in
    let F : Tree → Type 0 = λ t. IfErr c.count_top.result (λ fault. TopPasses fault c.args.nodes (apply unifier t) left.size right.size) in
    rw c.in-Whole.is (whole_fault unifier (apply unifier outer.left) (tree left.term.now) outer.right left right whole.0 whole.1 c.args.nodes c.count_top.result
    (subst F is c.count_top.ensures.fault))
