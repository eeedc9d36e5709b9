use Rattle.std.proofs.Common.{◌≡◌, ◌++◌, ℕ, List, ap, subst, ◌∙◌}
use Rattle.std.specs.List.Sorted.{IsPermutation}
use Rattle.std.proofs.lemmas.List.Sorted.{IsNonDecreasingBy-from_sort}
use Rattle.trs_core.specs.View.{tree}
use Rattle.trs_core.specs.Occurrences.{occurring_in}
use Rattle.order_search.specs.dp_core.Symbols.{symbols_of}
use Rattle.kbo_find.proofs.occurrences.Occurrences.of.Goals as goal

pub returns : goal.returns
returns c =
    let t = tree c.args.t.now in
    let symbols : c.add_occurrences.new.symbols.items ≡ symbols_of t = c.in_ok-add_occurrences.ensures.symbols ∙ ap (λ (l : List ℕ). l ++ symbols_of t) c.new-symbols.ensures.items in
    let variables : c.add_occurrences.new.variables.items ≡ occurring_in t =
    c.in_ok-add_occurrences.ensures.variables ∙ ap (λ (l : List ℕ). l ++ occurring_in t) c.new-variables.ensures.items in
    record {
      symbols = subst (λ (l : List ℕ). IsPermutation l c.sort_unstable.new.self.items) symbols c.sort_unstable.ensures.permutation;
      variables = subst (λ (l : List ℕ). IsPermutation l c.sort_unstable-2.new.self.items) variables c.sort_unstable-2.ensures.permutation;
      ascending = IsNonDecreasingBy-from_sort (λ x. x) c.sort_unstable-2.new.self.items c.sort_unstable-2.ensures.sorted;
    }
