use Rattle.std.proofs.Common.{drop}
use Rattle.sexp_core.specs.Items.{views}
use Rattle.pair_text.proofs.TopRankLaws.{IsTelling}
use Rattle.pair_text.proofs.knuth_entries.top_ranks.Given as goal

abbrev pub invariant-loop-item : goal.invariant-loop-item
invariant-loop-item l = IsTelling l.system l.top (views (drop l.item-index l.items)) (views l.items)
