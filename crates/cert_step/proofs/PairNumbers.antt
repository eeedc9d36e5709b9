-- The pairs of the numbers of a problem.
use Rattle.std.specs.Prelude.{◌≡◌, ◌<◌, ℕ, List, [], ◌∷◌, length, map, Some, refl}
use Rattle.std.specs.List.{AllByRecursion}
use Rattle.std.proofs.lemmas.List.Elements.{recursion_from_All}
use Rattle.pair_theory.specs.DependencyPair.{DependencyPair, dependency_pairs}
use Rattle.dp_graph.specs.dp_core.Numbered.{ArePairsOf}
use Rattle.cert_step.specs.Laws.{ProblemsHavePairs, PairsAreOne}
use Rattle.trs_defs.proofs.ListItems.{item_there}

-- the item that stands at a number

pairs_there : (all : List DependencyPair) (numbers : List ℕ) → AllByRecursion (λ n. n < length all) numbers
    → (pairs : List DependencyPair) × ArePairsOf all numbers pairs
pairs_there all [] h = ([], refl)
pairs_there all (n ∷ numbers) h =
    let first = item_there all n h.0 in
    let rest = pairs_there all numbers h.1 in
    (first.0 ∷ rest.0, cc (first.1, rest.1))

pub problems_have_pairs : ProblemsHavePairs
problems_have_pairs system numbers h =
    let all = dependency_pairs system.rules in
    pairs_there all numbers (recursion_from_All (λ n. n < length all) numbers h.1)

same_items : {A : Type 0} (xs ys : List A) → map (λ x. Some x) xs ≡ map (λ y. Some y) ys → xs ≡ ys
same_items [] [] e = refl
same_items [] (y ∷ ys) e = absurd cc
same_items (x ∷ xs) [] e = absurd cc
same_items (x ∷ xs) (y ∷ ys) e = let rest = same_items xs ys cc in cc

pub pairs_are_one : PairsAreOne
pairs_are_one all numbers pairs others h k = same_items pairs others cc
