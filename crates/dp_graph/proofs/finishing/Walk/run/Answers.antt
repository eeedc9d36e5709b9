use Rattle.std.proofs.Common.{ℕ, List, length, arith, ap, subst, ◌∙◌}
use Rattle.std.proofs.lemmas.List.{append-nil}
use Rattle.dp_graph.specs.GraphConditions.{lists_of}
use Rattle.dp_graph.specs.Finishing.{IsWalk}
use Rattle.dp_graph.proofs.FinishingLaws.{enter_first, enters_there, enters_kept}
use Rattle.dp_graph.proofs.ListPlaces.{lists_length, length_more}
use Rattle.dp_graph.proofs.finishing.Walk.run.Goals as goal

pub loop-place-init : goal.loop-place-init
loop-place-init c =
    let e = c.in_ok-enter.ensures in
    let old = c.args.self.now in
    let new = c.enter.new.self in
    let size = lists_length c.args.rows.now in
    let count = c.requires.walk.count in
    record {
      walk = enter_first (lists_of c.args.rows.now) old.entered.items new.entered.items old.next.items new.next.items old.way.items new.way.items old.finished.items new.finished.items c.args.start
          c.requires.way e.enters e.next e.finished c.requires.walk;
      entered = enters_there old.entered.items new.entered.items old.way.items new.way.items c.args.start e.enters (let lt = c.requires.start in omega (arith, lt, size, count));
      kept = λ k set. enters_kept old.entered.items new.entered.items old.way.items new.way.items c.args.start e.enters k set;
    }

pub step-requires-clause-walk : goal.step-requires-clause-walk
step-requires-clause-walk c =
    let w = c.loop-place.self in
    subst (λ (z : List ℕ). IsWalk (lists_of c.args.rows.now) w.entered.items w.next.items z w.finished.items) c.in-Some.ensures.items c.loop-place.invariant.walk

pub loop-place-smaller : goal.loop-place-smaller
loop-place-smaller c =
    let l = ap length c.in-Some.ensures.items in
    let m = length_more c.pop.new.self.items c.in-Some.place in
    let e = c.in_ok-step.ensures.effort in
    omega (arith, e, l, m)

pub loop-place-preserved : goal.loop-place-preserved
loop-place-preserved c =
    let e = c.in_ok-step.ensures in
    record {
      walk = e.walk;
      entered = e.kept c.args.start c.loop-place.invariant.entered;
      kept = λ k set. e.kept k (c.loop-place.invariant.kept k set);
    }

pub returns-clause-walk : goal.returns-clause-walk
returns-clause-walk c =
    let w = c.loop-place.self in
    subst (λ (z : List ℕ). IsWalk (lists_of c.args.rows.now) w.entered.items w.next.items z w.finished.items) (c.in_default.ensures.items ∙ append-nil c.pop.new.self.items) c.loop-place.invariant.walk

pub returns-clause-entered : goal.returns-clause-entered
returns-clause-entered c = c.loop-place.invariant.entered

pub returns-clause-kept : goal.returns-clause-kept
returns-clause-kept c = c.loop-place.invariant.kept
