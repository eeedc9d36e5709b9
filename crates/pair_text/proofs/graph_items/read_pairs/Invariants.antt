use Rattle.std.proofs.Common.{◌≡◌, ◌-◌, ◌^◌, Ok, drop}
use Rattle.sexp_core.specs.Items.{views}
use Rattle.text_reading.specs.Seen.{joined}
use Rattle.pair_text.specs.InTurn.{ascending}
use Rattle.pair_text.proofs.graph_items.read_pairs.Given as goal

abbrev pub invariant-loop-item : goal.invariant-loop-item
invariant-loop-item l =
    joined (Ok l.pairs.items) (ascending (2 ^ 32 - 1) (views (drop l.item-index l.items)) l.least) ≡ ascending (2 ^ 32 - 1) (views l.items) 0
