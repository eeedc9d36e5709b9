use Rattle.std.proofs.Common.{◌≡◌, IfOk, IfErr, ℕ, ap, subst}
use Rattle.trs_core.specs.View.{tree}
use Rattle.trs_defs.specs.Substitution.{apply}
use Rattle.trs_defs.specs.System.{RewriteRule}
use Rattle.trs_defs.specs.Tree.{Tree}
use Rattle.crit_pairs.specs.Apart.{renamed_apart}
use Rattle.crit_pairs.specs.MadePairs.{CountsTop}
use Rattle.crit_pairs.specs.Overlapping.{substitution}
use Rattle.crit_pairs.specs.Sides.{KeepsLimits, PassesLimit}
use Rattle.crit_pairs.specs.WholeSides.{AreResults, TopPasses}
use Rattle.crit_pairs.specs.declared.faults.PeakFault.{PeakFault}
use Rattle.crit_pairs.specs.declared.results.Results.TheVariants as made
use Rattle.crit_pairs.proofs.SpotWalk.{small_of}
use Rattle.crit_pairs.proofs.WholeLaws.{both_whole, whole_limits, whole_fault, of_the_reduct, fault_of_the_reduct}
use Rattle.crit_pairs.proofs.results.count_overlap.Goals.{In-Some}
use Rattle.crit_pairs.proofs.results.count_overlap.Goals as goal

results : (c : In-Some) → AreResults c.args.outer.now c.args.inner.now c.args.place.now (made.Whole c.in-Some.left c.in-Some.right)
results c =
    both_whole c.args.rules.now.rules c.args.outer.now c.args.inner.now c.args.place.now c.args.j c.args.i c.in-Some.left c.in-Some.right
    c.requires.outer c.requires.inner c.in-Some.ensures

pub returns-in-Some-clause-limits : goal.returns-in-Some-clause-limits
returns-in-Some-clause-limits c =
    let unifier = substitution c.args.unifier.now in
    let outer = c.args.outer.now in
    let left = c.in-Some.left.now in
    let right = c.in-Some.right.now in
    let both = results (goal.at.returns-in-Some-clause-limits c).In-Some in
    let is : tree c.outer.inside.left ≡ outer.left = ap (λ (r : RewriteRule). r.left) c.outer.view_is in
    let C : Tree → Type 0 = λ t. IfOk c.count_top.result (CountsTop (apply unifier t) left.size right.size c.args.nodes) in
    let P : Tree → ℕ → Type 0 = λ u total. KeepsLimits c.args.nodes total (apply unifier outer.left) (apply unifier u) (apply unifier outer.right) in
    of_the_reduct c.args.place.now outer.left (renamed_apart c.args.inner.now).right (tree left.term.now) P c.count_top.result both.replaced
    (whole_limits unifier (apply unifier outer.left) (tree left.term.now) outer.right left right both.whole.0 both.whole.1 c.args.nodes c.count_top.result
    (subst C is c.count_top.ensures.counted))

pub returns-in-Some-clause-fault : goal.returns-in-Some-clause-fault
returns-in-Some-clause-fault c =
    let unifier = substitution c.args.unifier.now in
    let outer = c.args.outer.now in
    let left = c.in-Some.left.now in
    let right = c.in-Some.right.now in
    let both = results (goal.at.returns-in-Some-clause-fault c).In-Some in
    let is : tree c.outer.inside.left ≡ outer.left = ap (λ (r : RewriteRule). r.left) c.outer.view_is in
    let F : Tree → Type 0 = λ t. IfErr c.count_top.result (λ fault. TopPasses fault c.args.nodes (apply unifier t) left.size right.size) in
    let P : Tree → PeakFault → Type 0 = λ u fault. PassesLimit fault c.args.nodes (apply unifier outer.left) (apply unifier u) (apply unifier outer.right) in
    fault_of_the_reduct c.args.place.now outer.left (renamed_apart c.args.inner.now).right (tree left.term.now) P c.count_top.result both.replaced
    (whole_fault unifier (apply unifier outer.left) (tree left.term.now) outer.right left right both.whole.0 both.whole.1 c.args.nodes c.count_top.result
    (subst F is c.count_top.ensures.fault))

pub count_unmade-requires-clause-outer_small : goal.count_unmade-requires-clause-outer_small
count_unmade-requires-clause-outer_small c = (small_of c.args.rules.now.rules c.args.j c.args.outer.now c.requires.small c.requires.outer).1

pub count_unmade-requires-clause-small : goal.count_unmade-requires-clause-small
count_unmade-requires-clause-small c = (small_of c.args.rules.now.rules c.args.i c.args.inner.now c.requires.small c.requires.inner).1
