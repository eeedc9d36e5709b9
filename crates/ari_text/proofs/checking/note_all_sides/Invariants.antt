use Rattle.std.proofs.Common.{◌≡◌, drop}
use Rattle.sexp_core.specs.Items.{views}
use Rattle.ari_text.specs.Least.{noted}
use Rattle.ari_text.specs.Faults.{all_side_faults}
use Rattle.ari_text.proofs.checking.note_all_sides.Given as goal

abbrev pub invariant-loop-item : goal.invariant-loop-item
invariant-loop-item l =
    noted l.least (all_side_faults l.symbols (views (drop l.item-index l.items))) ≡ noted l.fn.least (all_side_faults l.symbols (views l.items))
