use Rattle.std.proofs.Common.{◌≡◌, Some, sym, ap, ◌∙◌, slice_get, subst, refl}
use Rattle.trs_defs.specs.Tree.{Tree}
use Rattle.trs_defs.specs.Position.{subterm_at, replaced_at}
use Rattle.trs_defs.specs.System.{RewriteRule}
use Rattle.trs_defs.specs.Path.{StepsAt}
use Rattle.trs_defs.proofs.Places.{steps_at_once}
use Rattle.trs_core.specs.View.{tree}
use Rattle.term_pool.specs.Pooled.{tree_at}
use Rattle.term_pool.specs.Bindings.{bound_terms, instance_of}
use Rattle.term_pool.specs.Placing.{IsTooLargePut}
use Rattle.term_pool.specs.Steps.{HasNoMatch, IsTooLarge}
use Rattle.term_pool.specs.Outlines.{IsOutline}
use Rattle.term_pool.specs.declared.steps.StepFault.TheVariants.{NoMatch, TooLarge}
use Rattle.term_pool.proofs.Extending.{undone}
use Rattle.term_pool.proofs.OutlineLaws.{outline_found, outline_none, small_left}
use Rattle.term_pool.proofs.PoolTrees.{stands}
use Rattle.term_pool.proofs.StepLemmas.{rule_numbered, step_to, step_too_large, fault_excludes}
use Rattle.term_pool.proofs.pools.Pool.step_by.Goals.{In-Some, After-match_over, In_default-2, After-put_instance}
use Rattle.term_pool.proofs.pools.Pool.step_by.Goals as goal

numbered : (c : In-Some) → slice_get c.args.trs.now.rules c.args.k ≡ Some c.in-Some.rule.now
numbered c =
    rule_numbered _ _ _ c.in-Some.rule.now c.in-Some.rule.now.left c.in-Some.rule.now.right c.rules.ensures.rules c.in-Some.ensures.lookup.3.0 c.in-Some.ensures.lookup.1 refl

-- the outline, in its parts
abbrev opened : (c : After-match_over) → RewriteRule
opened c = record { left = tree c.outline.inside.left; right = tree c.outline.inside.right }

outline : (c : After-match_over) → IsOutline c.args.self.now c.in-Some.rule.now (opened c)
outline c =
    let lent = c.of_rule-outline.ensures c.args.trs.now.rules c.args.self.now c.requires.outlines (numbered (goal.at.After-match_over c).In-Some) in
    subst (IsOutline c.args.self.now c.in-Some.rule.now) (sym c.outline.view_is) lent

there : (c : After-match_over) → subterm_at c.args.place.now (tree_at c.args.self.now c.args.id) ≡ Some (tree_at c.args.self.now c.in-Some-at.part)
there c = rw c.places.ensures.places at (sym c.in-Some-at.ensures.is)

no_match : (c : In_default-2) → HasNoMatch c.args.trs.now.rules c.args.place.now c.args.k (tree_at c.args.self.now c.args.id)
no_match c =
    let a = (goal.at.In_default-2 c).After-match_over in
    let part = tree_at c.args.self.now c.in-Some-at.part in
    let small = small_left c.args.trs.now.rules c.rules.result.now c.args.k c.in-Some.rule.now c.rules.ensures.rules c.in-Some.ensures.lookup.3.0 c.in-Some.ensures.lookup.1
    c.systems_are_valid.ensures.variables in
    record {
      rule = c.in-Some.rule.now;
      numbered = numbered (goal.at.In_default-2 c).In-Some;
      part = part;
      there = there a;
      none = outline_none c.args.self.now c.in-Some.rule.now (opened a) part (outline a) small (rw c.in_default-2.is at c.in_ok-found.ensures.none);
    }

pub returns-in_default-2-clause-fault : goal.returns-in_default-2-clause-fault
returns-in_default-2-clause-fault c = no_match (goal.at.returns-in_default-2-clause-fault c).In_default-2

pub returns-in_default-2-clause-only : goal.returns-in_default-2-clause-only
returns-in_default-2-clause-only c = λ u step within.
    let fault = no_match (goal.at.returns-in_default-2-clause-only c).In_default-2 in
    absurd (fault_excludes c.args.trs.now c.args.place.now c.args.k (tree_at c.args.self.now c.args.id) u NoMatch c.rules.ensures.valid fault (λ e. cc) step within)

matched : (c : After-put_instance) → instance_of c.args.self.now c.in-Some-2.found c.in-Some.rule.now.left ≡ tree_at c.args.self.now c.in-Some-at.part
matched c =
    let a = (goal.at.After-put_instance c).After-match_over in
    outline_found c.args.self.now c.in-Some.rule.now (opened a) (tree_at c.args.self.now c.in-Some-at.part) c.in-Some-2.found (outline a)
    (rw c.in-Some-2.is at c.in_ok-found.ensures.parts) (rw c.in-Some-2.is at c.in_ok-found.ensures.found)

-- the contractum by the outline is that by the rule
same_right : (c : After-put_instance) → instance_of c.args.self.now c.in-Some-2.found (tree c.outline.inside.right) ≡ instance_of c.args.self.now c.in-Some-2.found c.in-Some.rule.now.right
same_right c =
    (outline (goal.at.After-put_instance c).After-match_over).right (bound_terms c.args.self.now c.in-Some-2.found) (rw c.in-Some-2.is at c.in_ok-found.ensures.parts)

too_large : (c : After-put_instance) → IsTooLargePut c.args.place.now (tree_at c.args.self.now c.args.id) (instance_of c.args.self.now c.in-Some-2.found (tree c.outline.inside.right))
    → IsTooLarge c.args.trs.now.rules c.args.place.now c.args.k (tree_at c.args.self.now c.args.id)
too_large c large =
    let P : Tree → Type 0 = λ x. IsTooLargePut c.args.place.now (tree_at c.args.self.now c.args.id) x in
    step_too_large c.args.trs.now.rules c.args.place.now c.args.k (tree_at c.args.self.now c.args.id) (tree_at c.args.self.now c.in-Some-at.part)
    c.in-Some.rule.now.left c.in-Some.rule.now.right (bound_terms c.args.self.now c.in-Some-2.found) (numbered (goal.at.After-put_instance c).In-Some) (there (goal.at.After-put_instance c).After-match_over) (matched c)
    (subst P (same_right c) large)

made_step : (c : After-put_instance) → (u : Tree) → replaced_at c.args.place.now (tree_at c.args.self.now c.args.id) (instance_of c.args.self.now c.in-Some-2.found (tree c.outline.inside.right)) ≡ Some u
    → StepsAt c.args.trs.now.rules c.args.place.now c.args.k (tree_at c.args.self.now c.args.id) u
made_step c u put =
    let P : Tree → Type 0 = λ x. replaced_at c.args.place.now (tree_at c.args.self.now c.args.id) x ≡ Some u in
    step_to c.args.trs.now.rules c.args.place.now c.args.k (tree_at c.args.self.now c.args.id) (tree_at c.args.self.now c.in-Some-at.part)
    c.in-Some.rule.now.left c.in-Some.rule.now.right (bound_terms c.args.self.now c.in-Some-2.found) (numbered (goal.at.After-put_instance c).In-Some) (there (goal.at.After-put_instance c).After-match_over) (matched c)
    u (subst P (same_right c) put)

pub returns-in_default-put-clause-fault : goal.returns-in_default-put-clause-fault
returns-in_default-put-clause-fault c =
    too_large (goal.at.returns-in_default-put-clause-fault c).After-put_instance (rw (c.in_default-put.is, c.places-2.ensures.places) at c.in-Ok.ensures.none)

pub returns-in_default-put-clause-only : goal.returns-in_default-put-clause-only
returns-in_default-put-clause-only c = λ u step within.
    let large = too_large (goal.at.returns-in_default-put-clause-only c).After-put_instance (rw (c.in_default-put.is, c.places-2.ensures.places) at c.in-Ok.ensures.none) in
    absurd (fault_excludes c.args.trs.now c.args.place.now c.args.k (tree_at c.args.self.now c.args.id) u TooLarge c.rules.ensures.valid large (λ e. cc) step within)

pub returns-clause-step : goal.returns-clause-step
returns-clause-step c =
    let made = rw (c.in-Some-put.is, c.places-2.ensures.places) at c.in-Ok.ensures.put in
    made_step (goal.at.returns-clause-step c).After-put_instance (tree_at c.put_instance.new.self c.in-Some-put.new) made.put

pub returns-clause-only : goal.returns-clause-only
returns-clause-only c = λ u step within.
    let made = rw (c.in-Some-put.is, c.places-2.ensures.places) at c.in-Ok.ensures.put in
    let is = made_step (goal.at.returns-clause-only c).After-put_instance (tree_at c.put_instance.new.self c.in-Some-put.new) made.put in
    let same = steps_at_once c.args.trs.now c.args.place.now c.args.k (tree_at c.args.self.now c.args.id) (tree_at c.put_instance.new.self c.in-Some-put.new) u c.rules.ensures.valid is step in
    stands c.put_instance.new.self c.in-Some-put.new made.there ∙ ap (λ z. Some z) same

pub returns-in_default-put_instance-clause-unchanged : goal.returns-in_default-put_instance-clause-unchanged
returns-in_default-put_instance-clause-unchanged c =
    undone c.args.self.now c.put_instance.new.self c.release.new.self c.mark-mark.result c.mark-mark.ensures c.put_instance.ensures.kept c.release.ensures
