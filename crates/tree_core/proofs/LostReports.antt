-- Where each goal of a tree is lost, there is a true report of its goals.
use Rattle.std.proofs.Common.{◌≡◌, ℕ, zero, suc, ◌<◌, ◌≤◌, ◌+◌, List, [], ◌∷◌, ◌++◌, map, length, Option, Some, None, slice_get, inl, inr, refl, sym, subst, arith}
use Rattle.std.proofs.lemmas.List.{length-append}
use Rattle.trs_defs.specs.System.{System}
use Rattle.trs_defs.specs.Member.{In, in_first, in_rest}
use Rattle.trs_defs.proofs.Members.{each_of_both}
use Rattle.trs_defs.proofs.ListItems.{item_there}
use Rattle.tree_state.specs.cert_step.ProofProblem.{ProofProblem}
use Rattle.tree_state.specs.strategies.Kinds.{strategies_for}
use Rattle.tree_state.specs.tree_definitions.declared.question.Question.{Question}
use Rattle.tree_state.specs.tree_definitions.Questions.{roots, goal_count}
use Rattle.tree_state.specs.tree_definitions.States.{TreeNode, Decided}
use Rattle.tree_state.specs.tree_definitions.Verdicts.{AllLost}
use Rattle.tree_state.specs.tree_definitions.Reports.{Walks, ends, numbers, decision_at, steps_from, Part, failed_of, IsTruePart, IsTrueReport}
use Rattle.tree_state.specs.Ascending.{AreAscending}
use Rattle.tree_state.specs.Parts.{Parts}
use Rattle.tree_state.specs.Stuck.{failures}
use Rattle.tree_state.proofs.tree_definitions.Lookups.{more_cases}
use Rattle.tree_state.proofs.tree_definitions.Weights.{kids, kids_of, sum_of, weight, walk_falls, walk_on}
use Rattle.tree_core.specs.Invariant.{IsTree}
use Rattle.tree_core.proofs.Accepted.{ascending, goal_within}
use Rattle.tree_core.proofs.Lost.{stuck_walked, stuck_part}

in_range : (first count c : ℕ) → In c (numbers first count) → (first ≤ c) × (c < first + count)
in_range first zero c i = elim i [ ]
in_range first (suc count) _ in_first = (omega arith, omega arith)
in_range first (suc count) c (in_rest i) = let r = in_range (first + 1) count c i in (omega (arith, r.0), omega (arith, r.1))

module _ (nodes : List TreeNode) (grows : AreAscending nodes) where
  kids_there : (n : ℕ) (node : TreeNode) → slice_get nodes n ≡ Some node → (c : ℕ) → In c (kids nodes n) → c < length nodes
  kids_there n node there c i = go node.decision refl (subst (λ (o : Option TreeNode). In c (kids_of (decision_at o))) there i)
    where
      go : (o : Option Decided) → node.decision ≡ o → In c (kids_of o) → c < length nodes
      go None e j = elim j [ ]
      go (Some d) e j = (grows n node d there e c (in_range d.first d.count c j)).1

  -- the nodes that wait have a walk
  walk_there : (fuel : ℕ) (waiting : List ℕ) → sum_of (weight nodes (length nodes)) waiting ≤ fuel → ((n : ℕ) → In n waiting → n < length nodes)
      → (order : List ℕ) × Walks nodes waiting order
  walk_there fuel [] le low = ([], ends)
  walk_there zero (n ∷ rest) le low =
      let falls = walk_falls nodes (λ m node d there dec c child. (grows m node d there dec c child).0) n rest in absurd (omega (arith, le, falls))
  walk_there (suc fuel) (n ∷ rest) le low =
      let falls = walk_falls nodes (λ m node d there dec c child. (grows m node d there dec c child).0) n rest in
      let node = item_there nodes n (low n in_first) in
      let all_low = each_of_both (λ (m : ℕ). m < length nodes) rest (kids nodes n) (λ m i. low m (in_rest i)) (kids_there n node.0 node.1) in
      let more = walk_there fuel (rest ++ kids nodes n) (omega (arith, le, falls)) all_low in
      (n ∷ more.0, walk_on nodes n node.0 rest more.0 node.1 more.1)

only : (P : ℕ → Type 0) (g : ℕ) → P g → (n : ℕ) → In n (g ∷ []) → P n
only P g h _ in_first = h
only P g h n (in_rest i) = elim i [ ]

module _ (question : Question) (system : System) (budget : ℕ) (p : Parts) (tree : IsTree question system budget p)
    (lost : AllLost (goal_count question) p.state.nodes) where
  -- the part is true of the goal's root
  abbrev IsPart : ℕ → Part → Type 0
  IsPart g part = (root : ProofProblem) → slice_get (roots question) g ≡ Some root → (part.goal ≡ g) × IsTruePart system budget root part

  part_there : (g : ℕ) → g < goal_count question → (part : Part) × IsPart g part
  part_there g low =
      let nodes = p.state.nodes in
      let stuck = lost g low in
      let root = only (λ (n : ℕ). n < length nodes) g (goal_within question system budget p tree g low) in
      let walk = walk_there nodes (ascending question system budget p tree) (sum_of (weight nodes (length nodes)) (g ∷ [])) (g ∷ []) (omega arith) root in
      let at = stuck_walked question system budget p tree g low walk.0 walk.1 stuck in (
        record {
          goal = g;
          steps = steps_from nodes 0 walk.0;
          node = at.0;
          problem = stuck.node.problem;
          failed = map failed_of (failures (strategies_for stuck.node.problem) stuck.node.marks);
        },
        λ r is. (refl, stuck_part question system budget p tree g low walk.0 walk.1 at.0 stuck.n stuck.node at.1 stuck.there stuck.stuck r is),
      )

  parts_there : (k : ℕ) → k ≤ goal_count question
      → (parts : List Part) × (length parts ≡ k) × ((g : ℕ) (part : Part) → slice_get parts g ≡ Some part → IsPart g part)
  parts_there zero le = ([], refl, λ g part there. absurd cc)
  parts_there (suc k) le =
      let before = parts_there k (omega (arith, le)) in
      let next = part_there k (omega (arith, le)) in
      let count = length-append before.0 (next.0 ∷ []) in (
        before.0 ++ next.0 ∷ [],
        omega (arith, count, before.1),
        λ g part there.
            elim (more_cases before.0 next.0 g part there) [
              | inl old ↦ before.2 g part old
              | inr new ↦
                  let g_is : k ≡ g = omega (arith, new.0, before.1) in
                  subst (λ (x : Part). IsPart g x) (sym new.1) (subst (λ (n : ℕ). IsPart n next.0) g_is next.1)
            ],
      )

  pub lost_report : (parts : List Part) × IsTrueReport system question budget parts
  lost_report =
      let all = parts_there (goal_count question) (omega arith) in
      (all.0, record { count = all.1; each = λ g root part is there. all.2 g part there root is })
