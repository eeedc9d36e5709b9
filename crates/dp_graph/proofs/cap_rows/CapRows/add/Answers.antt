use Rattle.std.proofs.Common.{refl}
use Rattle.dp_graph.proofs.cap_rows.CapRows.add.Goals as goal

pub returns : goal.returns
returns c = record {
  key = c.in_ok-number.ensures;
  row = c.in_ok-row.row;
  caps = c.in_ok-push.ensures.items;
  here = c.in_ok-row.ensures.there;
  kept = c.in_ok-row.ensures.kept;
  noted = refl;
  parts = refl;
}
