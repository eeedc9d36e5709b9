use Rattle.std.proofs.Common.{◌≡◌, List, drop}
use Rattle.sexp_core.specs.Items.{views}
use Rattle.kbo_order.specs.declared.entries.KboEntry.{KboEntry}
use Rattle.pair_text.specs.KnuthEntries.{first_low}
use Rattle.pair_text.specs.TopRanks.{AreTopRanks}
use Rattle.pair_text.proofs.knuth_entries.first_low.Given as goal

abbrev pub invariant-loop-item : goal.invariant-loop-item
invariant-loop-item l =
    (es : List KboEntry) → AreTopRanks l.top es → first_low l.system es (views (drop l.item-index l.items)) ≡ first_low l.system es (views l.items)
