-- The items of given numbers are one list, and so are ascending numbers with the same members.
use Rattle.std.specs.Prelude.{◌≡◌, ℕ, List, []}
use Rattle.std.proofs.Common.{sym, ◌∙◌}
use Rattle.std.specs.List.Sorted.{IsStrictlyIncreasing}
use Rattle.trs_defs.specs.Member.{In}
use Rattle.sampling.specs.dp_core.Numbered.{AreItemsOf}
use Rattle.conclusion.proofs.tree_definitions.strategies.dp_graph.ComponentLaws.{ascends_of}
use Rattle.conclusion.proofs.tree_definitions.strategies.Shrinking.{same_ascending}
use Rattle.conclusion.specs.report_text.strategies.order_search.Ascending.{AreAscending}
use Rattle.conclusion.proofs.tree_definitions.strategies.dp_graph.dp_core.Conclusions.{same_pairs}

pub items_once : {A : Type 0} (all : List A) (numbers : List ℕ) (xs ys : List A) → AreItemsOf all numbers xs → AreItemsOf all numbers ys → xs ≡ ys
items_once all numbers xs ys h k = same_pairs xs ys (sym h ∙ k)

pub increasing_once : (xs ys : List ℕ) → IsStrictlyIncreasing xs → IsStrictlyIncreasing ys
    → ((n : ℕ) → In n xs → In n ys) → ((n : ℕ) → In n ys → In n xs) → xs ≡ ys
increasing_once xs ys up rising to back = same_ascending xs ys (ascends_of xs up) (ascends_of ys rising) to back

pub ascending_once : (listed xs ys : List ℕ) → AreAscending listed xs → AreAscending listed ys → xs ≡ ys
ascending_once listed xs ys h k =
    increasing_once xs ys h.increasing k.increasing (λ n i. (k.each n).1 ((h.each n).0 i)) (λ n i. (h.each n).1 ((k.each n).0 i))
