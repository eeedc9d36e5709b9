-- What strategies find starts from tops of critical peaks, whose variables are numbered in order.
use Rattle.std.specs.Prelude.{ℕ, List, Ok}
use Rattle.std.proofs.Common.{sym, subst, inl, inr}
use Rattle.trs_defs.specs.Member.{In}
use Rattle.trs_defs.proofs.Members.{in_or, no_in}
use Rattle.trs_defs.specs.Tree.{Tree}
use Rattle.trs_defs.specs.Variable.{variables_of}
use Rattle.trs_defs.specs.System.{RewriteRule, System}
use Rattle.rewrite_core.specs.PlacedPeak.{PlacedPeak}
use Rattle.cert_text.specs.crit_pairs.PeakList.{Spot, Lists, at_end, no_overlap, one_peak, IsCount}
use Rattle.report_text.specs.conf_find.Fork.{Fork}
use Rattle.report_text.specs.conf_find.ForkRows.{FindsParted}
use Rattle.report_text.proofs.tree_definitions.strategies.conf_find.ForkLaw.{behind_in}
use Rattle.report_text.specs.strategies.Rows.{FindsOnPeaks}
use Rattle.report_text.specs.strategies.Conditions as strategies
use Rattle.conclusion.specs.FoundInOrder.{FoundStepsAreInOrder}

abbrev TopInOrder : PlacedPeak → Type 0
TopInOrder peak = IsCount 0 (variables_of peak.top)

top_in_order : {rules : List RewriteRule} {total : ℕ} {spots : List Spot} {peaks : List PlacedPeak} → Lists rules total spots (Ok peaks) → (peak : PlacedPeak)
    → In peak peaks → TopInOrder peak
top_in_order at_end peak i = absurd (no_in i)
top_in_order (no_overlap none later) peak i = top_in_order later peak i
top_in_order (one_peak {p = p} is small few later) peak i = elim (in_or i) [
  | inl same ↦ subst TopInOrder (sym same) is.counted
  | inr j ↦ top_in_order later peak j
]

fork_in_order : (parted : List RewriteRule → Tree → Tree → Type 0) (system : System) (fork : Fork)
    → FindsOnPeaks system (λ peaks. FindsParted parted system.rules peaks fork) → IsCount 0 (variables_of fork.start)
fork_in_order parted system fork h =
    let (peak, behind, parts) = h.found in
    subst (λ (f : Fork). IsCount 0 (variables_of f.start)) (sym parts.parts.is) (top_in_order h.listed peak (behind_in behind))

pub found_in_order : FoundStepsAreInOrder
found_in_order system budget s p step strategies.dp_is_found = tt
found_in_order system budget s p step (strategies.graph_is_found h) = tt
found_in_order system budget s p step (strategies.subterm_is_found h) = tt
found_in_order system budget s p step (strategies.poly_is_found h) = tt
found_in_order system budget s p step (strategies.lpo_is_found h) = tt
found_in_order system budget s p step (strategies.kbo_is_found h) = tt
found_in_order system budget s p step (strategies.usable_is_found h) = tt
found_in_order system budget s p step (strategies.loop_is_found h) = tt
found_in_order system budget s p step (strategies.parallel_is_found h) = tt
found_in_order system budget s p step (strategies.strong_is_found h) = tt
found_in_order system budget s p step (strategies.label_is_found h) = tt
found_in_order system budget s p step (strategies.newman_is_found h) = tt
found_in_order system budget s p step (strategies.fork_is_found {fork = fork} h) = fork_in_order _ system fork h
found_in_order system budget s p step strategies.confluence_is_found = tt
found_in_order system budget s p step strategies.newman_confluence_is_found = tt
found_in_order system budget s p step (strategies.split_is_found {fork = fork} h) = fork_in_order _ system fork h
