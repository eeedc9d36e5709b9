-- What is reported of a goal that is lost.
use Rattle.std.proofs.Common.{◌≡◌, inl, inr, ℕ, ◌<◌, ◌+◌, true, List, [], ◌∷◌, ◌++◌, map, length, position, Option, Some, None, slice_get, refl, sym, ap, ◌∙◌, subst, arith}
use Rattle.std.specs.Option.{is_none}
use Rattle.std.specs.Prelude.{All}
use Rattle.std.specs.List.{list_all}
use Rattle.std.proofs.lemmas.Bool.{and_parts}
use Rattle.std.proofs.lemmas.List.{length-append, length-map, map-append}
use Rattle.std.proofs.lemmas.List.Elements.{All-from_recursion}
use Rattle.std.proofs.lemmas.Option.{slice_get_within}
use Rattle.trs_defs.specs.System.{System}
use Rattle.tree_state.specs.cert_step.ProofProblem.{problem_of}
use Rattle.tree_state.specs.cert_step.ProofStep.{ProofNodeStep, node_step_of, IsWellMade}
use Rattle.tree_state.specs.strategies.Kinds.{strategies_for}
use Rattle.tree_state.specs.tree_definitions.declared.question.Question.{Question}
use Rattle.tree_state.specs.tree_definitions.declared.report.GoalReport.{GoalReport}
use Rattle.tree_state.specs.tree_definitions.Marks.{has_failed}
use Rattle.tree_state.specs.tree_definitions.Questions.{goal_count}
use Rattle.tree_state.specs.tree_definitions.States.{TreeNode}
use Rattle.tree_state.specs.tree_definitions.Verdicts.{IsLost, IsStuck}
use Rattle.tree_state.specs.tree_definitions.Reports.{Walks, steps_from, Part, failed_of, part_of, IsTruePart, ArePartsOf, IsTrueReport}
use Rattle.tree_state.specs.tree_definitions.Trees.{ProofTree}
use Rattle.tree_state.specs.Parts.{Parts, all_failed}
use Rattle.tree_state.specs.Stuck.{is_stuck, is_stuck_at, failures}
use Rattle.tree_state.proofs.Idle.{IsFirstAt, first_position, no_position}
use Rattle.tree_state.proofs.tree_definitions.Lookups.{none_of, one_value, more_cases}
use Rattle.tree_core.specs.Invariant.{IsTree}
use Rattle.tree_core.specs.Reported.{IsReported}
use Rattle.tree_core.proofs.Flags.{all_at, all_true}
use Rattle.tree_core.proofs.Failing.{failed_is}
use Rattle.tree_core.proofs.Accepted.{steps_well_made}
use Rattle.tree_core.proofs.Lost.{stuck_walked, stuck_part}
use Rattle.tree_core.proofs.Trees.{tree_of}

read_stuck : (o : Option TreeNode) → is_stuck o ≡ true → (node : TreeNode) × (o ≡ Some node) × IsStuck node
read_stuck None e = absurd cc
read_stuck (Some node) e =
    let b = and_parts (is_none node.decision) (all_failed node.marks) e in
    (node, refl, record { is_open = none_of node.decision b.0; failed = λ place mark at. failed_is mark (all_at has_failed node.marks b.1 place mark at) })

stuck_seen : (o : Option TreeNode) (node : TreeNode) → o ≡ Some node → IsStuck node → is_stuck o ≡ true
stuck_seen o node there stuck =
    let open_is : is_none node.decision ≡ true = rw stuck.is_open refl in
    let all : list_all has_failed node.marks ≡ true = all_true has_failed node.marks (λ k m at. rw (stuck.failed k m at).1 refl) in
    ap is_stuck there ∙ rw (open_is, all) refl

pub stuck_within : (nodes : List TreeNode) (n : ℕ) → is_stuck_at nodes n ≡ true → n < length nodes
stuck_within nodes n e = let s = read_stuck (slice_get nodes n) e in slice_get_within nodes n s.0 s.1

-- the place of the first stuck node, as it is read from the order
pub record Placed (nodes : List TreeNode) (order : List ℕ) (place n : ℕ) : Type 0 where
  pub first : IsFirstAt (is_stuck_at nodes) order place
  pub is : first.x ≡ n

pub placed : (nodes : List TreeNode) (order : List ℕ) (place n : ℕ) → position (is_stuck_at nodes) order ≡ Some place
    → (place < length order → slice_get order place ≡ Some n) → Placed nodes order place n
placed nodes order place n e read =
    let first = first_position (is_stuck_at nodes) order place e in
    let there = read (slice_get_within order place first.x first.there) in
    record { first = first; is = one_value (slice_get order place) first.x n first.there there }

module _ (question : Question) (system : System) (budget : ℕ) (p : Parts) (tree : IsTree question system budget p) (g : ℕ) (low : g < goal_count question)
    (order : List ℕ) (w : Walks p.state.nodes (g ∷ []) order) where
  -- some node of the walk is stuck
  pub some_stuck : IsLost p.state.nodes g → position (is_stuck_at p.state.nodes) order ≡ None → ⊥
  some_stuck lost none =
      let k = stuck_walked question system budget p tree g low order w lost in
      let no = no_position (is_stuck_at p.state.nodes) order none k.0 lost.n k.1 in
      let is = stuck_seen (slice_get p.state.nodes lost.n) lost.node lost.there lost.stuck in
      absurd cc

  -- the report names the first of them
  pub reported : (r : GoalReport) → r.goal ≡ g → map node_step_of r.steps.items ≡ steps_from p.state.nodes 0 order
      → (first : IsFirstAt (is_stuck_at p.state.nodes) order r.node)
      → ((node : TreeNode) → slice_get p.state.nodes first.x ≡ Some node → problem_of r.problem ≡ node.problem)
      → ((node : TreeNode) → slice_get p.state.nodes first.x ≡ Some node → r.failed.items ≡ failures (strategies_for node.problem) node.marks)
      → IsReported (tree_of question system budget p) g (part_of r)
  reported r goal_is steps first problem failed =
      let s = read_stuck (slice_get p.state.nodes first.x) first.passes in
      let node = s.0 in
      let part : Part = record { goal = g; steps = steps_from p.state.nodes 0 order; node = r.node; problem = node.problem; failed = map failed_of (failures (strategies_for node.problem) node.marks) } in
      let same : part ≡ part_of r =
      λ i. record { goal = sym goal_is i; steps = sym steps i; node = r.node; problem = sym (problem node s.1) i; failed = map failed_of (sym (failed node s.1) i) } in
      record {
        of_tree = record {
          goal_is = goal_is;
          order = order;
          walks = w;
          steps_are = steps;
          n = first.x;
          there = first.there;
          stuck = record { node = node; there = s.1; stuck = s.2 };
          problem_is = problem node s.1;
          least = λ k m lt at st.
              let no = first.first k m lt at in
              let is = stuck_seen (slice_get p.state.nodes m) st.node st.there st.stuck in
              absurd cc;
        };
        well_made = All-from_recursion (λ (t : ProofNodeStep). IsWellMade system t.step) (map node_step_of r.steps.items) (steps_well_made question system budget p tree order (map node_step_of r.steps.items) steps);
        is_true = λ root is. (goal_is, subst (IsTruePart system budget root) same (stuck_part question system budget p tree g low order w r.node first.x node first.there s.1 s.2 root is));
      }

-- ---- the parts of all goals

-- one more part
pub parts_more : (tree : ProofTree) (rs rs' : List GoalReport) (goal : ℕ) (r : GoalReport) → length rs ≡ goal
    → ((g : ℕ) (part : Part) → slice_get (map part_of rs) g ≡ Some part → IsReported tree g part) → rs' ≡ rs ++ r ∷ [] → IsReported tree goal (part_of r)
    → (length rs' ≡ goal + 1) × ((g : ℕ) (part : Part) → slice_get (map part_of rs') g ≡ Some part → IsReported tree g part)
parts_more tree rs rs' goal r len each more is = (
  (let a = ap length more ∙ length-append rs (r ∷ []) in omega (arith, a, len)),
  λ g part there.
      let seen : slice_get (map part_of rs ++ part_of r ∷ []) g ≡ Some part =
      subst (λ ps. slice_get ps g ≡ Some part) (ap (map part_of) more ∙ map-append part_of rs (r ∷ [])) there in
      elim (more_cases (map part_of rs) (part_of r) g part seen) [
        | inl old ↦ each g part old
        | inr new ↦
            let g_is : goal ≡ g = sym (new.0 ∙ (length-map rs part_of ∙ len)) in
            subst (λ (k : ℕ). IsReported tree k part) g_is (subst (IsReported tree goal) (sym new.1) is)
      ],
)

module _ (tree : ProofTree) (parts : List Part) (count : length parts ≡ goal_count tree.question)
    (each : (g : ℕ) (part : Part) → slice_get parts g ≡ Some part → IsReported tree g part) where
  pub parts_of_tree : ArePartsOf tree.state.nodes parts
  parts_of_tree g part there = (each g part there).of_tree

  pub parts_well_made : (g : ℕ) (part : Part) → slice_get parts g ≡ Some part → All (λ s. IsWellMade tree.system s.step) part.steps
  parts_well_made g part there = (each g part there).well_made

  pub parts_true : IsTrueReport tree.system tree.question tree.budget parts
  parts_true = record { count = count; each = λ g root part is there. (each g part there).is_true root is }
