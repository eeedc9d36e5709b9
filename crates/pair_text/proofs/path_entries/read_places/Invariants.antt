use Rattle.std.proofs.Common.{◌≡◌, Ok, min, drop}
use Rattle.sexp_core.specs.Items.{views}
use Rattle.text_reading.specs.Seen.{joined}
use Rattle.pair_text.specs.InTurn.{ascending}
use Rattle.pair_text.proofs.path_entries.read_places.Given as goal

abbrev pub invariant-loop-item : goal.invariant-loop-item
invariant-loop-item l =
    joined (Ok l.places.items) (ascending (min l.arity 255) (views (drop l.item-index l.items)) l.least) ≡ ascending (min l.arity 255) (views l.items) 1
