use Rattle.std.proofs.Common.{◌≡◌, ◌<◌, ◌+◌, ◌++◌, ◌∷◌, [], ℕ, All, List, length, None, Option, Some, ap, arith, refl, subst, sym, ◌∙◌}
use Rattle.trs_defs.specs.Position.{argument_at}
use Rattle.trs_defs.specs.Size.{size_of}
use Rattle.term_pool.specs.Pooled.{tree_at}
use Rattle.term_pool.proofs.RedexWalk.{popped, positive_below}
use Rattle.completion.specs.Searching.{HasNoneOf, IsFound, IsRootFound}
use Rattle.completion.proofs.SearchLaws.{argument_smaller, argument_narrow, few_arguments, past_root, past_next, past_all, first_inside, passed_by_all, passed_by_some, one_more_passed, placed_further}
use Rattle.completion.proofs.searching.+first_redex.Goals as goal

pub returns-then-known-all-clause-found : goal.returns-then-known-all-clause-found
returns-then-known-all-clause-found t c = (
  passed_by_all c.args.system.now.rules c.args.pool.now c.args.passed.now c.args.id (length c.rules.result.now) c.requires.passed (ap length c.rules.ensures.rules) (sym c.count-known.ensures ∙ c.if-known-all.true),
  refl,
)

pub root_redex-requires-clause-none : goal.root_redex-requires-clause-none
root_redex-requires-clause-none t c =
    let N : ℕ → Type 0 = λ n. HasNoneOf n c.args.system.now.rules (tree_at c.args.pool.now c.args.id) in
    subst N (sym c.count-known.ensures) (passed_by_some c.args.system.now.rules c.args.pool.now c.args.passed.now c.args.id c.requires.passed)

pub loop-part-init : goal.loop-part-init
loop-part-init t c =
    let R : Option ℕ → Type 0 = IsRootFound c.args.system.now.rules (tree_at c.args.pool.now c.args.id) in
    record {
      none = past_root c.args.system.now.rules (tree_at c.args.pool.now c.args.id) (subst R c.in_default.is c.in_ok-rule.ensures);
      passed = c.requires.passed;
      same = refl;
    }

pub first_redex-requires : goal.first_redex-requires
first_redex-requires t c =
    let whole = tree_at c.args.pool.now c.args.id in
    let part = tree_at c.args.pool.now c.in-Some-argument.part in
    let there : argument_at whole (c.loop-part.count + 1) ≡ Some part = rw c.from.ensures at (sym c.in-Some-argument.ensures.is) in
    let smaller : size_of part < size_of whole = argument_smaller whole (c.loop-part.count + 1) part there in
    let pushed = rw c.loop-part.invariant.same at c.in_ok-push.ensures.items in
    let positive = positive_below c.args.place.now.items c.push.new.self.items c.loop-part.count pushed c.requires.positive in (
      omega (arith, smaller, c.decreases),
      (c.in-Some-argument.ensures.there, (argument_narrow whole (c.loop-part.count + 1) part there c.requires.narrow, (positive, (c.requires.sides, c.loop-part.invariant.passed)))),
    )

pub returns-in-Some-2-clause-found : goal.returns-in-Some-2-clause-found
returns-in-Some-2-clause-found t c =
    let whole = tree_at c.args.pool.now c.args.id in
    let part = tree_at c.args.pool.now c.in-Some-argument.part in
    let there : argument_at whole (c.loop-part.count + 1) ≡ Some part = rw c.from.ensures at (sym c.in-Some-argument.ensures.is) in
    let pushed : c.push.new.self.items ≡ c.args.place.now.items ++ (c.loop-part.count + 1) ∷ [] = rw c.loop-part.invariant.same at c.in_ok-push.ensures.items in
    let F : Option ℕ → Type 0 = IsFound c.args.system.now.rules part c.push.new.self.items c.first_redex.new.place.items in
    let (p, first, grown) = subst F c.in-Some-2.is c.in_ok-rule-2.ensures.found in (
      (c.loop-part.count + 1) ∷ p,
      first_inside c.args.system.now.rules whole c.loop-part.count c.loop-part.invariant.none part p c.in-Some-2.rule there first,
      grown ∙ (ap (λ xs. xs ++ p) pushed ∙ placed_further c.args.place.now.items p (c.loop-part.count + 1)),
    )

pub overflow_add-count : goal.overflow_add-count
overflow_add-count t c =
    let whole = tree_at c.args.pool.now c.args.id in
    let part = tree_at c.args.pool.now c.in-Some-argument.part in
    let there : argument_at whole (c.loop-part.count + 1) ≡ Some part = rw c.from.ensures at (sym c.in-Some-argument.ensures.is) in
    omega (arith, few_arguments whole c.loop-part.count part there c.requires.narrow)

pub loop-part-smaller : goal.loop-part-smaller
loop-part-smaller t c =
    let whole = tree_at c.args.pool.now c.args.id in
    let part = tree_at c.args.pool.now c.in-Some-argument.part in
    let there : argument_at whole (c.loop-part.count + 1) ≡ Some part = rw c.from.ensures at (sym c.in-Some-argument.ensures.is) in
    omega (arith, few_arguments whole c.loop-part.count part there c.requires.narrow)

pub loop-part-preserved : goal.loop-part-preserved
loop-part-preserved t c =
    let whole = tree_at c.args.pool.now c.args.id in
    let part = tree_at c.args.pool.now c.in-Some-argument.part in
    let there : argument_at whole (c.loop-part.count + 1) ≡ Some part = rw c.from.ensures at (sym c.in-Some-argument.ensures.is) in
    let pushed : c.push.new.self.items ≡ c.args.place.now.items ++ (c.loop-part.count + 1) ∷ [] = rw c.loop-part.invariant.same at c.in_ok-push.ensures.items in
    let F : Option ℕ → Type 0 = IsFound c.args.system.now.rules part c.push.new.self.items c.first_redex.new.place.items in
    let (none, unmoved) = subst F c.in_default-2.is c.in_ok-rule-2.ensures.found in
    record {
      none = past_next c.args.system.now.rules whole c.loop-part.count c.loop-part.invariant.none part there none;
      passed = c.in_ok-rule-2.ensures.passed;
      same = popped c.args.place.now.items c.push.new.self.items c.first_redex.new.place.items c.pop.new.self.items _ c.first_redex.new.place.len pushed unmoved
          (omega (arith, c.first_redex.new.place.ok.0)) c.pop.ensures.rest;
    }

pub returns-clause-found : goal.returns-clause-found
returns-clause-found t c =
    let whole = tree_at c.args.pool.now c.args.id in
    let gone : argument_at whole (c.loop-part.count + 1) ≡ None = rw c.from.ensures at (sym c.in_default-argument.ensures.is) in
    (past_all c.args.system.now.rules whole c.loop-part.count c.loop-part.invariant.none gone, c.loop-part.invariant.same)

pub returns-clause-positive : goal.returns-clause-positive
returns-clause-positive t c =
    let P : List ℕ → Type 0 = All (λ n. 0 < n) in
    subst P (sym c.loop-part.invariant.same) c.requires.positive

pub returns-clause-passed : goal.returns-clause-passed
returns-clause-passed t c =
    let whole = tree_at c.args.pool.now c.args.id in
    let gone : argument_at whole (c.loop-part.count + 1) ≡ None = rw c.from.ensures at (sym c.in_default-argument.ensures.is) in
    one_more_passed c.args.system.now.rules c.args.pool.now c.loop-part.passed c.pass.new.self c.args.id (length c.rules.result.now) c.in_ok-pass.ensures c.loop-part.invariant.passed c.requires.there
    (ap length c.rules.ensures.rules) (past_all c.args.system.now.rules whole c.loop-part.count c.loop-part.invariant.none gone)
