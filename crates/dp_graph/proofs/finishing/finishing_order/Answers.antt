use Rattle.std.proofs.Common.{◌≡◌, Some, true, slice_get, length, arith, sym, subst}
use native.Mathlib.Decide.{dec_lt}
use Rattle.dp_graph.specs.GraphConditions.{lists_of}
use Rattle.dp_graph.proofs.FinishingLaws.{walk_starts, all_finished}
use Rattle.dp_graph.proofs.ListPlaces.{lists_length}
use Rattle.dp_graph.proofs.finishing.finishing_order.Goals as goal

pub loop-start-init : goal.loop-start-init
loop-start-init c =
    let w = c.in_ok-walk.walk in
    let s = c.in_ok-walk.ensures in
    record {
      walk = walk_starts (lists_of c.args.rows.now) w.entered.items w.next.items w.way.items w.finished.items (length c.args.rows.now) (sym (lists_length c.args.rows.now)) s.entered s.next s.way s.finished;
      way = s.way;
      entered = λ k lt. absurd (omega (arith, lt));
    }

pub loop-start-preserved : goal.loop-start-preserved
loop-start-preserved c =
    let e = c.in_ok-run.ensures in
    record {
      walk = e.walk;
      way = e.way;
      entered = λ k lt. elim (dec_lt k c.loop-start.start) [
        | yes s ↦ e.kept k (c.loop-start.invariant.entered k s)
        | no s ↦ subst (λ z. slice_get c.run.new.self.entered.items z ≡ Some true) (omega (arith, s, lt)) e.entered
      ];
    }

pub returns : goal.returns
returns c =
    let w = c.loop-start.walk in
    let size = lists_length c.args.rows.now in
    all_finished (lists_of c.args.rows.now) w.entered.items w.next.items w.way.items w.finished.items c.loop-start.invariant.way
    (λ i lt. c.loop-start.invariant.entered i (omega (arith, lt, size, c.loop-start-test.false))) c.loop-start.invariant.walk
