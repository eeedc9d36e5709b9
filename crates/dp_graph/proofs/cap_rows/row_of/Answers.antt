use Rattle.std.proofs.Common.{ap, ◌==◌, ◌∙◌}
use Rattle.trs_caps.specs.View.{holed}
use Rattle.dp_graph.proofs.WordRowLaws.{empty_if}
use Rattle.dp_graph.proofs.CapRowLaws.{row_with_flag, row_of_other, row_of_none}
use Rattle.dp_graph.proofs.cap_rows.row_of.Goals.{then-is_empty+in_ok-k+in-Some+in_ok-set, then-is_empty+in_ok-k+in_default, else-is_empty}
use Rattle.dp_graph.proofs.cap_rows.row_of.Goals as goal

pub returns : goal.returns
returns c = λ noted.
    let rules = c.args.by_root.now.rules in
    let lefts = c.args.lefts.now in
    let cap = holed c.args.cap.now in
    let row = c.in_ok-row.row.items in
    let has = c.in_ok-row.ensures noted in
    let empty = empty_if c.is_empty.result row (c.is_empty.ensures ∙ ap (λ n. n == 0) c.in_ok-row.row.ok.0) in
    elim c.if-is_empty.branch [
      | then-is_empty+in_ok-k+in-Some+in_ok-set w ↦ rw w.row-is (row_of_other rules lefts cap row w.set.new.row.items w.in-Some.k has (rw w.in-Some.is at w.in_ok-k.ensures) w.in_ok-set.ensures)
      | then-is_empty+in_ok-k+in_default w ↦ rw w.row-is (row_of_none rules lefts cap row c.requires.lefts has (rw w.in_default.is at w.in_ok-k.ensures) (empty.0 w.if-is_empty.true))
      | else-is_empty w ↦ rw w.row-is (row_with_flag rules lefts cap row has (λ e. let yes = empty.1 e in let no = w.if-is_empty.false in absurd cc))
    ]
