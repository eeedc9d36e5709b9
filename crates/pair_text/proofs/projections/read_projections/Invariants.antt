use Rattle.std.proofs.Common.{◌≡◌, Ok, drop}
use Rattle.sexp_core.specs.Items.{views}
use Rattle.text_reading.specs.Seen.{joined}
use Rattle.pair_text.specs.InTurn.{in_turn}
use Rattle.pair_text.specs.Entries.{with_symbol_of}
use Rattle.pair_text.specs.Projections.{projected_symbol, projection, projections}
use Rattle.pair_text.proofs.projections.read_projections.Given as goal

abbrev pub invariant-loop-item : goal.invariant-loop-item
invariant-loop-item l =
    joined (Ok l.entries.items) (in_turn (with_symbol_of projected_symbol) (projection l.system) (views (drop l.item-index l.items)) l.known) ≡ projections l.system (views l.items)
