use Rattle.std.proofs.Common.{◌≡◌, ◌<◌, ◌∙◌, ap, inr, Some, IsTrue, sym, arith}
use Rattle.std.proofs.lemmas.Option.{get_or_from_slice_get}
use Rattle.trs_defs.specs.Size.{size_of}
use Rattle.trs_core.specs.View.{tree}
use Rattle.std.specs.BTreeSet.{contains}
use Rattle.std.proofs.Common.{nat_cmp}
use Rattle.term_pool.specs.Pooled.{tree_at}
use Rattle.term_pool.specs.Reaching.{IsReduct}
use Rattle.term_pool.proofs.Extending.{extends_itself, same_tree_at, undone}
use Rattle.term_pool.proofs.KnownLaws.{known_on}
use Rattle.term_pool.proofs.LargeReducts.{passed_over}
use Rattle.term_pool.proofs.PoolTrees.{stands}
use Rattle.term_pool.proofs.pools.Pool.new_reduct.Goals.{In-Some, After-release, After-release-then-contains, Then-contains}
use Rattle.term_pool.proofs.pools.Pool.new_reduct.Goals as goal

made : (c : In-Some) → IsReduct c.args.trs.now.rules c.args.step.now (tree_at c.args.self.now c.args.id) c.args.self.now c.reduct.new.self c.in-Some.reduct
made c = rw c.in-Some.is at c.in_ok-reduct.ensures.reduct

-- where the right side alone is too large
pub returns-then-size-clause-none : goal.returns-then-size-clause-none
returns-then-size-clause-none c =
    let rules = c.args.trs.now.rules in
    let read = get_or_from_slice_get rules c.args.step.now.rule c.requires.redex.rule c.index-rules-step.result c.requires.redex.numbered in
    let number : c.step.inside.rule ≡ c.args.step.now.rule = ap (λ s. s.rule) c.step.view_is in
    let is = rw (c.rules.ensures.rules, number) at c.index-rules-step.is in
    let same : c.index-rules-step.result ≡ c.requires.redex.rule = is ∙ read in
    let nodes : size_of (tree c.rule.inside.right) ≡ size_of c.requires.redex.rule.right = ap (λ r. size_of r.right) (c.rule.view_is ∙ same) in
    let large : c.args.size < size_of c.requires.redex.rule.right = omega (arith, c.if-size.true, c.size.ensures, nodes) in
    passed_over rules (tree_at c.args.self.now c.args.id) c.args.step.now c.args.size c.requires.redex large c.args.ids.now c.args.self.now

-- nothing is kept of what is too large
unchanged : (c : After-release) → c.release.new.self ≡ c.args.self.now
unchanged c = undone c.args.self.now c.reduct.new.self c.release.new.self c.mark-mark.result c.mark-mark.ensures c.in_ok-reduct.ensures.kept c.release.ensures

pub returns-then-from-size-clause-unchanged : goal.returns-then-from-size-clause-unchanged
returns-then-from-size-clause-unchanged c = unchanged (goal.at.returns-then-from-size-clause-unchanged c).After-release

pub returns-then-from-size-clause-known : goal.returns-then-from-size-clause-known
returns-then-from-size-clause-known c = rw (unchanged (goal.at.returns-then-from-size-clause-known c).After-release) c.requires.known

pub returns-then-from-size-clause-kept : goal.returns-then-from-size-clause-kept
returns-then-from-size-clause-kept c = rw (unchanged (goal.at.returns-then-from-size-clause-kept c).After-release) (extends_itself c.args.self.now)

-- nor of what is in the set
undone_known : (c : After-release-then-contains) → c.release-then-contains.new.self ≡ c.args.self.now
undone_known c = undone c.args.self.now c.reduct.new.self c.release-then-contains.new.self c.mark-mark.result c.mark-mark.ensures c.in_ok-reduct.ensures.kept c.release-then-contains.ensures

in_set : (c : Then-contains) → IsTrue (contains nat_cmp c.args.ids.now c.in-Some.reduct)
in_set c = sym c.contains.ensures ∙ c.if-contains.true

same_reduct : (c : Then-contains) → tree_at c.reduct.new.self c.in-Some.reduct ≡ tree_at c.args.self.now c.in-Some.reduct
same_reduct c = same_tree_at c.args.self.now c.reduct.new.self c.in_ok-reduct.ensures.kept c.in-Some.reduct (c.requires.below c.in-Some.reduct (in_set c))

pub returns-in_err-note_contractum-clause-kept : goal.returns-in_err-note_contractum-clause-kept
returns-in_err-note_contractum-clause-kept c = rw (undone_known (goal.at.returns-in_err-note_contractum-clause-kept c).After-release-then-contains) (extends_itself c.args.self.now)

pub returns-then-contains-clause-none : goal.returns-then-contains-clause-none
returns-then-contains-clause-none c =
    let a = (goal.at.returns-then-contains-clause-none c).Then-contains in
    let below = c.requires.below c.in-Some.reduct (in_set a) in
    record {
      result = tree_at c.reduct.new.self c.in-Some.reduct;
      steps = (made (goal.at.returns-then-contains-clause-none c).In-Some).steps;
      why = inr (c.in-Some.reduct, in_set a, stands c.args.self.now c.in-Some.reduct below ∙ ap (λ t. Some t) (sym (same_reduct a)));
    }

pub returns-then-contains-clause-unchanged : goal.returns-then-contains-clause-unchanged
returns-then-contains-clause-unchanged c = undone_known (goal.at.returns-then-contains-clause-unchanged c).After-release-then-contains

pub returns-then-contains-clause-known : goal.returns-then-contains-clause-known
returns-then-contains-clause-known c =
    let rules = c.args.trs.now.rules in
    let back = undone_known (goal.at.returns-then-contains-clause-known c).After-release-then-contains in
    let steps = rw (same_reduct (goal.at.returns-then-contains-clause-known c).Then-contains) at (made (goal.at.returns-then-contains-clause-known c).In-Some).steps in
    c.in_ok-note_contractum.ensures rules (rw back c.requires.known) (rw back steps)

pub returns-then-contains-clause-kept : goal.returns-then-contains-clause-kept
returns-then-contains-clause-kept c = rw (undone_known (goal.at.returns-then-contains-clause-kept c).After-release-then-contains) (extends_itself c.args.self.now)

pub returns-clause-known : goal.returns-clause-known
returns-clause-known c =
    let rules = c.args.trs.now.rules in
    let kept = c.in_ok-reduct.ensures.kept in
    let same : tree_at c.reduct.new.self c.args.id ≡ tree_at c.args.self.now c.args.id = same_tree_at c.args.self.now c.reduct.new.self kept c.args.id c.requires.there in
    c.in_ok-note_contractum-2.ensures rules (known_on rules c.args.self.now c.reduct.new.self c.args.known.now kept c.requires.known)
    (rw same (made (goal.at.returns-clause-known c).In-Some).steps)
