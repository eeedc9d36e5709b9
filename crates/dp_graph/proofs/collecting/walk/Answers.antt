use Rattle.std.proofs.Common.{subst, sym, ◌∙◌}
use Rattle.std.proofs.lemmas.Option.{same_Some}
use Rattle.trs_defs.specs.Member.{In}
use Rattle.dp_graph.specs.GraphConditions.{lists_of}
use Rattle.dp_graph.specs.Rows.{Follows}
use Rattle.dp_graph.proofs.FoundLaws.{finds_same}
use Rattle.dp_graph.proofs.ListPlaces.{row_at}
use Rattle.dp_graph.proofs.collecting.walk.Goals as goal

pub returns : goal.returns
returns c =
    let at = row_at c.args.rows.now c.args.k c.index-rows-k.result c.requires c.index-rows-k.is in
    finds_same (λ j. In j c.deref.result.now) (λ j. Follows (lists_of c.args.rows.now) c.args.k j) c.args.flags.now.items c.visit.new.flags.items c.args.found.now.items c.visit.new.found.items
    (λ j i. (c.index-rows-k.result.items, at, subst (In j) c.deref.ensures.value i))
    (λ j (row, is, i). subst (In j) (same_Some row c.index-rows-k.result.items (sym is ∙ at) ∙ sym c.deref.ensures.value) i) c.in_ok-visit.ensures
