use Rattle.std.proofs.Common.{◌≡◌, ◌≢◌, ◌<◌, ◌∙◌, ℕ, false, IsTrue, List, [], ◌∷◌, ◌+◌, Some, length, slice_get, refl, sym, ap, subst, arith}
use Rattle.trs_defs.specs.Tree.{Tree, items}
use Rattle.trs_defs.specs.Position.{subterm_at}
use Rattle.trs_defs.specs.Path.{PlacedRule}
use Rattle.term_pool.specs.Pooled.{StandsFor, tree_at}
use Rattle.term_pool.specs.Redexes.{Grows}
use Rattle.term_pool.proofs.RedexWalk.{popped, positive_below, grown_all}
use Rattle.join_find.specs.Alike.{AreAlike}
use Rattle.join_find.specs.ParallelRow.{HasNoRootStep, IsParallelStep}
use Rattle.join_find.proofs.ParallelWalk.{argument_of, part_there, smaller_part, limits_inside, narrow_inside, few_arguments, different_terms, no_step_added, root_step_added, none_unless_alike, arguments_begin, arguments_refute, argument_then_rest, no_rest_further, no_first, no_argument_left}
use Rattle.join_find.proofs.parallel_step.+add_steps.Goals.{In_ok-rule, In_default, In-Some-common_arity, After-argument-in-loop-i, In_ok-add_steps}
use Rattle.join_find.proofs.parallel_step.+add_steps.Goals as goal

pub returns-then-ids-clause-found : goal.returns-then-ids-clause-found
returns-then-ids-clause-found t c = λ _.
    no_step_added c.args.trs.now.rules c.args.place.now.items (tree_at c.args.pool.now c.args.ids.0) (tree_at c.args.pool.now c.args.ids.1) c.args.steps.now.items (ap (tree_at c.args.pool.now) c.if-ids.true)

different : (t : ℕ) (c : In_ok-rule t) → tree_at c.args.pool.now c.args.ids.0 ≢ tree_at c.args.pool.now c.args.ids.1
different t c = different_terms c.args.pool.now c.args.ids.0 c.args.ids.1 c.ids_are_distinct.ensures c.requires.from c.requires.to c.if-ids.false

pub returns-in-Some-clause-found : goal.returns-in-Some-clause-found
returns-in-Some-clause-found t c = λ _.
    let step = rw c.in-Some.is at c.in_ok-rule.ensures.rule in
    root_step_added c.args.trs.now.rules c.args.place.now.items (tree_at c.args.pool.now c.args.ids.0) (tree_at c.args.pool.now c.args.ids.1) c.args.steps.now.items c.push.new.self.items c.in_ok-at.at c.in-Some.rule
    (different t (goal.at.returns-in-Some-clause-found t c).In_ok-rule) step (c.in_ok-at.ensures ∙ c.deref.ensures.value) c.in_ok-push.ensures.items

no_root : (t : ℕ) (c : In_default t) → HasNoRootStep c.args.trs.now.rules (tree_at c.args.pool.now c.args.ids.0) (tree_at c.args.pool.now c.args.ids.1)
no_root t c = rw c.in_default.is at c.in_ok-rule.ensures.rule

pub common_arity-requires-clause-from : goal.common_arity-requires-clause-from
common_arity-requires-clause-from t c = rw c.in_ok-rule.ensures.same c.requires.from

pub common_arity-requires-clause-to : goal.common_arity-requires-clause-to
common_arity-requires-clause-to t c = rw c.in_ok-rule.ensures.same c.requires.to

pub returns-in_default-common_arity-clause-none : goal.returns-in_default-common_arity-clause-none
returns-in_default-common_arity-clause-none t c = λ _.
    let N : List Tree → Type 0 = λ pool. (n : ℕ) → AreAlike (tree_at pool c.args.ids.0) (tree_at pool c.args.ids.1) n → ⊥ in
    none_unless_alike c.args.trs.now.rules c.args.place.now.items (tree_at c.args.pool.now c.args.ids.0) (tree_at c.args.pool.now c.args.ids.1)
    (different t (goal.at.returns-in_default-common_arity-clause-none t c).In_ok-rule) (no_root t (goal.at.returns-in_default-common_arity-clause-none t c).In_default)
    (subst N c.in_ok-rule.ensures.same (rw c.in_default-common_arity.is at c.common_arity.ensures.none))

-- both terms are one symbol over as many arguments
alike : (t : ℕ) (c : In-Some-common_arity t) → AreAlike (tree_at c.args.pool.now c.args.ids.0) (tree_at c.args.pool.now c.args.ids.1) c.in-Some-common_arity.count
alike t c =
    let A : List Tree → Type 0 = λ pool. AreAlike (tree_at pool c.args.ids.0) (tree_at pool c.args.ids.1) c.in-Some-common_arity.count in
    subst A c.in_ok-rule.ensures.same (rw c.in-Some-common_arity.is at c.common_arity.ensures.some)

pub loop-i-init : goal.loop-i-init
loop-i-init t c =
    let other = different t (goal.at.loop-i-init t c).In_ok-rule in
    let none = no_root t (goal.at.loop-i-init t c).In_default in
    let a = alike t (goal.at.loop-i-init t c).In-Some-common_arity in
    let few = few_arguments (tree_at c.args.pool.now c.args.ids.0) a.root a.lefts a.left c.requires.narrow in
    record {
      same = c.in_ok-rule.ensures.same;
      placed = refl;
      rest = λ a rest h. arguments_begin c.args.trs.now.rules c.args.place.now.items (tree_at c.args.pool.now c.args.ids.0) (tree_at c.args.pool.now c.args.ids.1) c.in-Some-common_arity.count a other none c.args.steps.now.items rest h;
      none = λ a h. arguments_refute c.args.trs.now.rules c.args.place.now.items (tree_at c.args.pool.now c.args.ids.0) (tree_at c.args.pool.now c.args.ids.1) c.in-Some-common_arity.count a other none h;
      few = omega (arith, few, a.left_count);
    }

pub argument-requires-clause-there : goal.argument-requires-clause-there
argument-requires-clause-there t c = rw c.loop-i.invariant.same c.requires.from

pub argument-requires-in-loop-i-clause-there : goal.argument-requires-in-loop-i-clause-there
argument-requires-in-loop-i-clause-there t c = rw c.loop-i.invariant.same c.requires.to

pub argument-requires-clause-has : goal.argument-requires-clause-has
argument-requires-clause-has t c =
    let a = alike t (goal.at.argument-requires-clause-has t c).In-Some-common_arity in
    let H : List Tree → Type 0 = λ pool. (u : Tree) × (subterm_at ((c.loop-i.i + 1) ∷ []) (tree_at pool c.args.ids.0) ≡ Some u) in
    subst H (sym c.loop-i.invariant.same) (argument_of c.args.pool.now c.args.ids.0 a.root c.loop-i.i a.lefts a.left (omega (arith, c.loop-i-test.true, a.left_count)))

pub argument-requires-in-loop-i-clause-has : goal.argument-requires-in-loop-i-clause-has
argument-requires-in-loop-i-clause-has t c =
    let a = alike t (goal.at.argument-requires-in-loop-i-clause-has t c).In-Some-common_arity in
    let H : List Tree → Type 0 = λ pool. (u : Tree) × (subterm_at ((c.loop-i.i + 1) ∷ []) (tree_at pool c.args.ids.1) ≡ Some u) in
    subst H (sym c.loop-i.invariant.same) (argument_of c.args.pool.now c.args.ids.1 a.root c.loop-i.i a.rights a.right (omega (arith, c.loop-i-test.true, a.right_count)))

-- the ids of the next arguments
left_part : (t : ℕ) (c : After-argument-in-loop-i t) (a : AreAlike (tree_at c.args.pool.now c.args.ids.0) (tree_at c.args.pool.now c.args.ids.1) c.in-Some-common_arity.count)
    → (c.argument.result < length c.args.pool.now) × (slice_get (items a.lefts) c.loop-i.i ≡ Some (tree_at c.args.pool.now c.argument.result))
left_part t c a =
    let P : List Tree → Type 0 = λ pool. (u : Tree) → subterm_at ((c.loop-i.i + 1) ∷ []) (tree_at pool c.args.ids.0) ≡ Some u → StandsFor pool c.argument.result u in
    part_there c.args.pool.now c.args.ids.0 a.root c.loop-i.i a.lefts a.left (omega (arith, c.loop-i-test.true, a.left_count)) c.argument.result (subst P c.loop-i.invariant.same c.argument.ensures)

right_part : (t : ℕ) (c : After-argument-in-loop-i t) (a : AreAlike (tree_at c.args.pool.now c.args.ids.0) (tree_at c.args.pool.now c.args.ids.1) c.in-Some-common_arity.count)
    → (c.argument-in-loop-i.result < length c.args.pool.now) × (slice_get (items a.rights) c.loop-i.i ≡ Some (tree_at c.args.pool.now c.argument-in-loop-i.result))
right_part t c a =
    let P : List Tree → Type 0 = λ pool. (u : Tree) → subterm_at ((c.loop-i.i + 1) ∷ []) (tree_at pool c.args.ids.1) ≡ Some u → StandsFor pool c.argument-in-loop-i.result u in
    part_there c.args.pool.now c.args.ids.1 a.root c.loop-i.i a.rights a.right (omega (arith, c.loop-i-test.true, a.right_count)) c.argument-in-loop-i.result (subst P c.loop-i.invariant.same c.argument-in-loop-i.ensures)

pub add_steps-requires : goal.add_steps-requires
add_steps-requires t c =
    let a = alike t (goal.at.add_steps-requires t c).In-Some-common_arity in
    let b = (goal.at.add_steps-requires t c).After-argument-in-loop-i in
    let pool = c.args.pool.now in
    let (from, left) = left_part t b a in
    let (to, right) = right_part t b a in
    let smaller = smaller_part (tree_at pool c.args.ids.0) a.root a.lefts c.loop-i.i (tree_at pool c.argument.result) a.left left in
    let narrow = narrow_inside (tree_at pool c.args.ids.0) a.root a.lefts c.loop-i.i (tree_at pool c.argument.result) a.left left c.requires.narrow in
    let limits = limits_inside (tree_at pool c.args.ids.1) a.root a.rights c.loop-i.i (tree_at pool c.argument-in-loop-i.result) a.right right c.requires.limits in
    let positive = positive_below c.args.place.now.items c.push-in-loop-i.new.self.items c.loop-i.i (rw c.loop-i.invariant.placed at c.in_ok-push-2.ensures.items) c.requires.positive in
    rw c.loop-i.invariant.same (omega (arith, smaller, c.decreases), (c.requires.rules, (from, (to, (narrow, (limits, positive))))))

-- what was found of the next arguments
found_there : (t : ℕ) (c : In_ok-add_steps t) → IsTrue c.in_ok-add_steps.field-0
    → Grows c.push-in-loop-i.new.self.items (IsParallelStep c.args.trs.now.rules (tree_at c.args.pool.now c.argument.result) (tree_at c.args.pool.now c.argument-in-loop-i.result)) c.loop-i.steps.items c.add_steps.new.steps.items
found_there t c found =
    let G : List Tree → Type 0 = λ pool. Grows c.push-in-loop-i.new.self.items (IsParallelStep c.args.trs.now.rules (tree_at pool c.argument.result) (tree_at pool c.argument-in-loop-i.result)) c.loop-i.steps.items c.add_steps.new.steps.items in
    subst G c.loop-i.invariant.same (c.in_ok-add_steps.ensures.found found)

none_there : (t : ℕ) (c : In_ok-add_steps t) → c.in_ok-add_steps.field-0 ≡ false → (ss : List PlacedRule)
    → IsParallelStep c.args.trs.now.rules (tree_at c.args.pool.now c.argument.result) (tree_at c.args.pool.now c.argument-in-loop-i.result) ss → ⊥
none_there t c not =
    let N : List Tree → Type 0 = λ pool. (ss : List PlacedRule) → IsParallelStep c.args.trs.now.rules (tree_at pool c.argument.result) (tree_at pool c.argument-in-loop-i.result) ss → ⊥ in
    subst N c.loop-i.invariant.same (c.in_ok-add_steps.ensures.none not)

pub returns-then-not-branch-clause-none : goal.returns-then-not-branch-clause-none
returns-then-not-branch-clause-none t c = λ _.
    let a = alike t (goal.at.returns-then-not-branch-clause-none t c).In-Some-common_arity in
    let b = (goal.at.returns-then-not-branch-clause-none t c).After-argument-in-loop-i in
    let d = (goal.at.returns-then-not-branch-clause-none t c).In_ok-add_steps in
    let s = tree_at c.args.pool.now c.args.ids.0 in
    let u = tree_at c.args.pool.now c.args.ids.1 in
    no_first c.args.trs.now.rules (items a.lefts) (items a.rights) c.loop-i.i (tree_at c.args.pool.now c.argument.result) (tree_at c.args.pool.now c.argument-in-loop-i.result)
    (left_part t b a).1 (right_part t b a).1 ((ss : List PlacedRule) → IsParallelStep c.args.trs.now.rules s u ss → ⊥) (c.loop-i.invariant.none a) (none_there t d c.if-not-branch.true)

pub loop-i-preserved : goal.loop-i-preserved
loop-i-preserved t c =
    let b = (goal.at.loop-i-preserved t c).After-argument-in-loop-i in
    let d = (goal.at.loop-i-preserved t c).In_ok-add_steps in
    let place = c.args.place.now.items in
    let pushed = rw c.loop-i.invariant.placed at c.in_ok-push-2.ensures.items in
    let s = tree_at c.args.pool.now c.args.ids.0 in
    let u = tree_at c.args.pool.now c.args.ids.1 in
    let x = tree_at c.args.pool.now c.argument.result in
    let y = tree_at c.args.pool.now c.argument-in-loop-i.result in
    let P : List PlacedRule → Type 0 = λ ss. IsParallelStep c.args.trs.now.rules s u ss in
    record {
      same = c.in_ok-add_steps.ensures.same ∙ c.loop-i.invariant.same;
      placed = popped place c.push-in-loop-i.new.self.items c.add_steps.new.place.items c.pop.new.self.items _ c.add_steps.new.place.len pushed (c.in_ok-add_steps.ensures.place c.if-not-branch.false)
          (omega (arith, c.add_steps.new.place.ok.0)) c.pop.ensures.rest;
      rest = λ a rest h. argument_then_rest c.args.trs.now.rules (items a.lefts) (items a.rights) c.loop-i.i x y (left_part t b a).1 (right_part t b a).1 place c.push-in-loop-i.new.self.items P
          c.args.steps.now.items c.loop-i.steps.items c.add_steps.new.steps.items pushed (c.loop-i.invariant.rest a) (found_there t d c.if-not-branch.false) rest h;
      none = λ a. no_rest_further c.args.trs.now.rules (items a.lefts) (items a.rights) c.loop-i.i x y (left_part t b a).1 (right_part t b a).1
          ((ss : List PlacedRule) → IsParallelStep c.args.trs.now.rules s u ss → ⊥) (c.loop-i.invariant.none a);
      few = c.loop-i.invariant.few;
    }

pub returns-clause-found : goal.returns-clause-found
returns-clause-found t c = λ _.
    let a = alike t (goal.at.returns-clause-found t c).In-Some-common_arity in
    let s = tree_at c.args.pool.now c.args.ids.0 in
    let u = tree_at c.args.pool.now c.args.ids.1 in
    grown_all c.args.place.now.items (λ ss. IsParallelStep c.args.trs.now.rules s u ss) c.args.steps.now.items c.loop-i.steps.items
    (c.loop-i.invariant.rest a [] (no_argument_left c.args.trs.now.rules (items a.lefts) (items a.rights) c.loop-i.i (omega (arith, a.left_count, c.loop-i-test.false)) (a.right_count ∙ sym a.left_count)))
