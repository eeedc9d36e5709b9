use Rattle.std.proofs.Common.{ℕ, List, false, replicate, ap, subst, sym, ◌∙◌}
use Rattle.std.specs.List.{Contains}
use Rattle.std.proofs.lemmas.List.Filters.{dedup_is}
use Rattle.std.proofs.lemmas.List.Kept.{Contains-dedup_nat, Contains-from_dedup}
use Rattle.std.proofs.lemmas.List.Sorted.{Contains-permutation, IsPermutation-sym}
use Rattle.std.proofs.lemmas.Map.Keys.{IsStrictlyIncreasing-dedup}
use Rattle.dp_graph.proofs.UnnamedPairs.{none_is_named}
use Rattle.dp_graph.proofs.unnamed.Unnamed.new.Goals as goal

pub returns : goal.returns
returns c =
    let is = dedup_is _ _ _ c.dedup.ensures.filtered in
    let moved = c.sort_unstable.ensures.permutation in
    let same = c.in_ok-numbers.ensures.items in
    none_is_named c.args.problem.now _ (rw is (IsStrictlyIncreasing-dedup _ c.sort_unstable.ensures.sorted))
    (λ n h. rw is (Contains-dedup_nat _ n (Contains-permutation _ _ n moved (subst (λ (z : List ℕ). Contains z n) (sym same) h))))
    (λ n h. subst (λ (z : List ℕ). Contains z n) same (Contains-permutation _ _ n (IsPermutation-sym _ _ moved) (Contains-from_dedup _ _ n (rw is at h))))
    (c.in_ok-named.ensures.items_if_clones_equal (λ y e. e) ∙ ap (λ (n : ℕ). replicate n false) (c.len.ensures ∙ c.dedup.new.self.ok.0))
