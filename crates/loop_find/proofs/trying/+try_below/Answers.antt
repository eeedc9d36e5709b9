use Rattle.std.proofs.Common.{◌≡◌, arith, refl, ap}
use Rattle.trs_defs.specs.Tree.{app}
use Rattle.trs_core.specs.View.{tree, forest}
use Rattle.rewrite_core.proofs.RedexWalk.{smaller_argument}
use Rattle.term_pool.proofs.RedexWalk.{popped, narrow_app, narrow_next, positive_below}
use Rattle.assign_search.proofs.Continuing.{continues_on}
use Rattle.loop_find.proofs.Tried.{sets_out, goes_on, comes_out, arrives, still_there, root_then_arguments, next_argument, no_argument_left, nothing_tried}
use Rattle.loop_find.proofs.Extensions.{part_of_argument}
use Rattle.loop_find.proofs.trying.+try_below.Goals as goal

pub returns-in-Var-clause-turn : goal.returns-in-Var-clause-turn
returns-in-Var-clause-turn g t c = λ cl e.
    nothing_tried c.args.trial.now.trs.now.rules c.args.trial.now.budget cl c.args.place.now.items c.in-Var.field-0 (tree c.args.part.now) (ap tree c.in-Var.is) c.args.closures.now c.requires.trial.within

pub returns-then-not-is_next-clause-turn : goal.returns-then-not-is_next-clause-turn
returns-then-not-is_next-clause-turn g t c = λ cl e.
    let rules = c.args.trial.now.trs.now.rules in
    let is : tree c.args.part.now ≡ app c.in-App.field-0 _ = ap tree c.in-App.is in
    comes_out rules c.args.trial.now.budget _ _ _ _ c.args.closures.now c.args.closures.now
    (sets_out rules c.args.trial.now.budget _ _ c.args.closures.now c.requires.trial.within refl)
    (root_then_arguments rules cl c.args.place.now.items c.in-App.field-0 _ (tree c.args.part.now) is) c.try_rules.new.closures _ _ c.in_ok-turn-in-App.turn
    (λ n. let y = c.if-not-is_next.ensures.1 n in absurd cc) (λ r. r) (rw c.deref.ensures.value at (c.in_ok-turn-in-App.ensures.turn cl e))

pub loop-i-init : goal.loop-i-init
loop-i-init g t c =
    let rules = c.args.trial.now.trs.now.rules in
    let items = c.deref-arg-items.result.now in
    let is : tree c.args.part.now ≡ app c.in-App.field-0 (forest items) = rw (c.in-App.is, ← c.args-in-App.view_is, c.deref-arg-items.ensures.value) refl in
    let n = narrow_app tree items c.in-App.field-0 (tree c.args.part.now) is c.requires.part.narrow in
    record {
      going = λ cl e.
          goes_on rules c.args.trial.now.budget _ _ _ _ c.args.closures.now c.args.closures.now
          (sets_out rules c.args.trial.now.budget _ _ c.args.closures.now c.requires.trial.within refl)
          (root_then_arguments rules cl c.args.place.now.items c.in-App.field-0 (forest items) (tree c.args.part.now) is) c.try_rules.new.closures _ c.in_ok-turn-in-App.turn
          (c.if-not-is_next.ensures.0 refl) (rw c.deref.ensures.value at (c.in_ok-turn-in-App.ensures.turn cl e));
      trial = c.in_ok-turn-in-App.ensures.trial;
      narrow = n.1;
      few = n.0;
      same = refl;
      continues = c.try_rules.ensures.continues;
    }

pub try_below-requires : goal.try_below-requires
try_below-requires g t c =
    let items = c.deref-arg-items.result.now in
    let is : tree c.args.part.now ≡ app c.in-App.field-0 (forest items) = rw (c.in-App.is, ← c.args-in-App.view_is, c.deref-arg-items.ensures.value) refl in
    let pushed = rw c.loop-i.invariant.same at c.in_ok-push-in-App.ensures.items in
    let narrow = narrow_next tree items c.loop-i.i c.arg-item.result c.loop-i-test.true c.arg-item.is c.loop-i.invariant.narrow in
    let positive = positive_below c.args.place.now.items c.push.new.self.items c.loop-i.i pushed c.requires.part.positive in
    let smaller = smaller_argument items c.loop-i.i c.in-App.field-0 (tree c.args.part.now) c.arg-item.result is c.loop-i-test.true c.arg-item.is in
    let part = part_of_argument c.args.trial.now c.args.place.now.items c.push.new.self.items (tree c.args.part.now) c.in-App.field-0 items c.loop-i.i c.arg-item.result c.requires.part is c.loop-i-test.true c.arg-item.is pushed positive narrow.0 in
    λ κs lives. (omega (arith, smaller, c.decreases), (lives, (c.loop-i.invariant.trial, part)))

pub overflow_cast-i : goal.overflow_cast-i
overflow_cast-i g t c = omega (arith, c.loop-i.invariant.few, c.loop-i-test.true)

pub returns-then-not-is_next-2-clause-turn : goal.returns-then-not-is_next-2-clause-turn
returns-then-not-is_next-2-clause-turn g t c = λ cl e.
    let rules = c.args.trial.now.trs.now.rules in
    let items = c.deref-arg-items.result.now in
    let pushed = rw c.loop-i.invariant.same at c.in_ok-push-in-App.ensures.items in
    let before = c.loop-i.invariant.going cl e in
    comes_out rules c.args.trial.now.budget _ _ _ _ c.args.closures.now c.loop-i.closures before
    (next_argument rules cl c.args.place.now.items c.push.new.self.items items c.loop-i.i c.arg-item.result c.loop-i-test.true c.arg-item.is pushed) c.try_below.new.closures _ _ c.in_ok-turn-in-App-2.turn
    (λ n. let y = c.if-not-is_next-2.ensures.1 n in absurd cc) (λ r. omega (arith, r, c.loop-i.invariant.continues.later))
    (c.in_ok-turn-in-App-2.ensures.turn cl (still_there rules c.args.trial.now.budget _ _ c.args.closures.now c.loop-i.closures c.args.trial.now.number cl before e))

pub loop-i-preserved : goal.loop-i-preserved
loop-i-preserved g t c =
    let rules = c.args.trial.now.trs.now.rules in
    let items = c.deref-arg-items.result.now in
    let place = c.args.place.now.items in
    let pushed = rw c.loop-i.invariant.same at c.in_ok-push-in-App.ensures.items in
    let narrow = narrow_next tree items c.loop-i.i c.arg-item.result c.loop-i-test.true c.arg-item.is c.loop-i.invariant.narrow in
    record {
      going = λ cl e.
          let before = c.loop-i.invariant.going cl e in
          goes_on rules c.args.trial.now.budget _ _ _ _ c.args.closures.now c.loop-i.closures before
          (next_argument rules cl place c.push.new.self.items items c.loop-i.i c.arg-item.result c.loop-i-test.true c.arg-item.is pushed) c.try_below.new.closures _ c.in_ok-turn-in-App-2.turn
          (c.if-not-is_next-2.ensures.0 refl)
          (c.in_ok-turn-in-App-2.ensures.turn cl (still_there rules c.args.trial.now.budget _ _ c.args.closures.now c.loop-i.closures c.args.trial.now.number cl before e));
      trial = c.in_ok-turn-in-App-2.ensures.trial;
      narrow = narrow.1;
      few = c.loop-i.invariant.few;
      same = popped place c.push.new.self.items c.try_below.new.place.items c.pop.new.self.items _ c.try_below.new.place.len pushed (c.in_ok-turn-in-App-2.ensures.place (c.if-not-is_next-2.ensures.0 refl))
          (omega (arith, c.try_below.new.place.ok.0)) c.pop.ensures.rest;
      continues = continues_on c.loop-i.invariant.continues c.try_below.ensures.continues;
    }

pub returns-after-loop-i-clause-turn : goal.returns-after-loop-i-clause-turn
returns-after-loop-i-clause-turn g t c = λ cl e.
    arrives c.args.trial.now.trs.now.rules c.args.trial.now.budget _ _ c.args.closures.now c.loop-i.closures
    (no_argument_left c.args.trial.now.trs.now.rules cl c.args.place.now.items c.deref-arg-items.result.now c.loop-i.i c.loop-i-test.false) (c.loop-i.invariant.going cl e)
