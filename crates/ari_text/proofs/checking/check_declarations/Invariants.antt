use Rattle.std.proofs.Common.{◌≡◌, drop, [], None}
use Rattle.sexp_core.specs.Items.{views}
use Rattle.ari_text.specs.Least.{noted}
use Rattle.ari_text.specs.Faults.{symbols_of, all_declaration_faults, whole_room}
use Rattle.ari_text.proofs.checking.check_declarations.Given as goal

abbrev pub invariant-loop-item : goal.invariant-loop-item
invariant-loop-item l = record {
  symbols : symbols_of l.symbols (views (drop l.item-index l.items)) ≡ symbols_of [] (views l.items);
  least : noted l.least (all_declaration_faults l.symbols l.room (views (drop l.item-index l.items))) ≡ noted None (all_declaration_faults [] whole_room (views l.items));
}
