-- The steps of nodes in order, one by one.
use Rattle.std.proofs.Common.{◌≡◌, ℕ, zero, suc, ◌<◌, ◌≤◌, ◌+◌, List, [], ◌∷◌, ◌++◌, length, map, take, Option, Some, None, slice_get, refl, sym, ap, ◌∙◌, arith}
use Rattle.std.specs.Option.{option_map}
use Rattle.std.proofs.lemmas.List.{append_assoc, append-nil, length-map, length-take-le}
use Rattle.tree_definitions.specs.cert_step.ProofStep.{ProofStep, ProofNodeStep}
use Rattle.tree_state.specs.declared.node.Node.{Node}
use Rattle.tree_state.specs.declared.node.Decision.{Decision}
use Rattle.tree_definitions.specs.History.{HistoryEntry}
use Rattle.tree_definitions.specs.States.{TreeNode, Decided}
use Rattle.tree_definitions.specs.Reports.{steps_from, with_step, decision_at, numbers}
use Rattle.tree_state.specs.Seen.{node_of, decided_of}
use Rattle.tree_state.specs.Ascending.{own_kids, IsAscending, AreAscending, step_list, step_at, step_of_decision}
use Rattle.tree_definitions.proofs.Lookups.{take_there}
use Rattle.trs_defs.proofs.ListItems.{image_item}

one_step : (i : ℕ) (d : Option Decided) (more : List ProofNodeStep) → with_step i d more ≡ step_list i (step_of_decision d) ++ more
one_step i None more = refl
one_step i (Some d) more = refl

steps_more : (nodes : List TreeNode) (i : ℕ) (order : List ℕ) (n k : ℕ) → k ≡ i + length order
    → steps_from nodes i (order ++ n ∷ []) ≡ steps_from nodes i order ++ step_list k (step_at nodes n)
steps_more nodes i [] n k e = let same : i ≡ k = omega (arith, e) in one_step i (decision_at (slice_get nodes n)) [] ∙ append-nil (step_list i (step_at nodes n)) ∙ ap (λ j. step_list j (step_at nodes n)) same
steps_more nodes i (m ∷ order) n k e =
    one_step i (decision_at (slice_get nodes m)) (steps_from nodes (i + 1) (order ++ n ∷ []))
    ∙ ap (λ ss. step_list i (step_at nodes m) ++ ss) (steps_more nodes (i + 1) order n k (omega (arith, e)))
    ∙ sym (append_assoc (step_list i (step_at nodes m)) (steps_from nodes (i + 1) order) (step_list k (step_at nodes n)))
    ∙ ap (λ ss. ss ++ step_list k (step_at nodes n)) (sym (one_step i (decision_at (slice_get nodes m)) (steps_from nodes (i + 1) order)))

pub steps_next : (nodes : List TreeNode) (order : List ℕ) (i n : ℕ) (steps next : List ProofNodeStep) (step : Option ProofStep) → slice_get order i ≡ Some n → i < length order
    → steps ≡ steps_from nodes 0 (take i order) → step ≡ step_at nodes n → next ≡ steps ++ step_list i step → next ≡ steps_from nodes 0 (take (i + 1) order)
steps_next nodes order i n steps next step there lt so_far is more =
    let e : suc i ≡ i + 1 = omega arith in
    let k : i ≡ 0 + length (take i order) = omega (arith, length-take-le i order (omega (arith, lt))) in
    more ∙ ap (λ s. steps ++ step_list i s) is ∙ ap (λ ss. ss ++ step_list i (step_at nodes n)) so_far ∙ sym (steps_more nodes 0 (take i order) n i k)
    ∙ ap (steps_from nodes 0) (sym (take_there order i n there)) ∙ ap (λ j. steps_from nodes 0 (take j order)) e

numbers_range : (first count k c : ℕ) → slice_get (numbers first count) k ≡ Some c → (first ≤ c) × (c < first + count)
numbers_range first zero k c there = absurd cc
numbers_range first (suc count) zero c there = let same : first ≡ c = cc in (omega (arith, same), omega (arith, same))
numbers_range first (suc count) (suc k) c there = let r = numbers_range (first + 1) count k c there in (omega (arith, r.0), omega (arith, r.1))

pub own_ascending : (h : List HistoryEntry) (nodes : List Node) → AreAscending (map (node_of h) nodes) → IsAscending nodes
own_ascending h nodes asc n node there k c at = go node.decision refl at
  where
    go : (d : Option Decision) → node.decision ≡ d → slice_get (own_kids d) k ≡ Some c → (n < c) × (c < length nodes)
    go None e at = absurd cc
    go (Some d) e at =
        let dec : (node_of h node).decision ≡ Some (decided_of h d) = ap (option_map (decided_of h)) e in
        let a = asc n (node_of h node) (decided_of h d) (image_item (node_of h) nodes n node there) dec c (numbers_range d.first d.count k c at) in
        (a.0, omega (arith, a.1, length-map nodes (node_of h)))
