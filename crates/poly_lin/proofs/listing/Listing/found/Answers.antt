use Rattle.std.proofs.Common.{◌≡◌, Some, slice_get, ap, sym, ◌∙◌}
use Rattle.std.proofs.lemmas.Bool.Decides.{Decides-eqb}
use Rattle.std.proofs.lemmas.Slice.Eq.{slice_eq-Decides}
use Rattle.trs_core.specs.View.{tree}
use Rattle.pair_order.proofs.Placing.{copied_item}
use Rattle.poly_lin.proofs.Numbering.{found_number}
use Rattle.poly_lin.proofs.listing.Listing.found.Goals as goal

pub returns-then-eq : goal.returns-then-eq
returns-then-eq c =
    let there : slice_get c.args.self.now.nodes.items c.in_ok-n.field-0.now ≡ Some c.in_ok-other.other.now =
    ap (λ ms. slice_get ms c.in_ok-n.field-0.now) (sym c.deref-2.ensures.value)
    ∙ sym (copied_item c.deref-2.result.now c.in_ok-n.field-0.now (Some c.in_ok-other.other) c.in_ok-other.ensures.lookup) in
    let same : c.as_slice.result.now ≡ c.args.args.now = (slice_eq-Decides Decides-eqb _ _ _ c.eq.ensures).0 c.if-eq.true in
    found_number c.args.self.now.nodes.items c.in_ok-n.field-0.now c.in_ok-other.other.now c.args.args.now (tree c.args.t.now) c.args.self.now.earlier there
    (c.have_one_root.ensures c.if-have_one_root.true) (sym c.as_slice.ensures.value ∙ same) c.requires
