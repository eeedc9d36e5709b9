use Rattle.std.proofs.Common.{◌≡◌, List, Some, ap, sym, subst, ◌∙◌}
use Rattle.std.specs.Prelude.{Option, slice_get}
use Rattle.std.specs.Slice.{IsItemAt}
use Rattle.path_lpo.proofs.Spans.{read_item}
use Rattle.lpo_find.specs.declared.kept.Sides.{Sides}
use Rattle.lpo_find.proofs.KeptSides.{found_sides}
use Rattle.lpo_find.proofs.kept.KeptSides.find.Goals as goal

pub returns-then-have_same_filters : goal.returns-then-have_same_filters
returns-then-have_same_filters c =
    let kept = c.args.self.now.places.items in
    let i = c.place_of.result in
    let item : IsItemAt kept i c.get.result = subst (λ (l : List (Option Sides)). IsItemAt l i c.get.result) c.deref.ensures.value c.get.ensures.lookup in
    let there : slice_get kept i ≡ Some (Some c.in-Some-Some.sides) =
    read_item kept i c.get.result c.in-Some-Some.field-0 item c.in-Some-Some.is ∙ ap (λ o. Some o) c.in-Some-Some.field-0-is in
    found_sides c.args.symbols.now c.deref-then-sides-number.result.now c.args.values.now c.requires.distinct (c.have_same_filters.ensures c.if-have_same_filters.true)
    kept i c.args.number c.in-Some-Some.sides there c.if-sides-number.true (sym c.deref-then-sides-number.ensures.value)
