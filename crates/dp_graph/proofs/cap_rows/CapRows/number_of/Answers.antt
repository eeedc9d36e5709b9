use Rattle.std.proofs.Common.{sym, subst}
use Rattle.trs_caps.specs.View.{holed}
use Rattle.dp_graph.specs.CapRows.{HasKey}
use Rattle.dp_graph.proofs.CapRowLaws.{cap_known, cap_made, cap_keeps}
use Rattle.dp_graph.proofs.cap_rows.CapRows.number_of.Goals as goal

pub returns-in-Some-clause-number : goal.returns-in-Some-clause-number
returns-in-Some-clause-number c = λ all are has.
    cap_known c.args.by_root.now.rules c.args.lefts.now c.args.self.now all (holed c.args.cap.now) c.args.key.now c.in-Some.number are has c.in-Some.ensures

pub returns-in-Some-clause-kept : goal.returns-in-Some-clause-kept
returns-in-Some-clause-kept c = λ n flags h. h

pub returns-clause-number : goal.returns-clause-number
returns-clause-number c = λ all are has.
    cap_made c.args.by_root.now.rules c.args.lefts.now c.args.self.now c.add.new.self all (holed c.args.cap.now) c.in_ok-key.key c.in_ok-row.row.items c.add.result are (subst (HasKey all (holed c.args.cap.now)) (sym c.in_ok-key.ensures.items) has) (c.in_ok-row.ensures are.noted) c.add.ensures

pub returns-clause-kept : goal.returns-clause-kept
returns-clause-kept c = cap_keeps c.in_ok-key.key c.in_ok-row.row.items c.args.self.now c.add.new.self c.add.result c.add.ensures
