-- The steps of a goal that is lost, in the order of the walk, and its stuck node make a true part of a report.
use Rattle.std.proofs.Common.{◌≡◌, ℕ, zero, suc, ◌<◌, ◌≤◌, ◌+◌, List, [], ◌∷◌, ◌++◌, length, map, Option, Some, None, slice_get, refl, sym, ap, ◌∙◌, subst, arith}
use Rattle.std.specs.Option.{is_none}
use native.Mathlib.Decide.{dec_le}
use mathlib.Core.Logic.{dite}
use Rattle.trs_defs.specs.System.{System}
use Rattle.trs_defs.specs.Member.{In, in_first, in_rest}
use Rattle.trs_defs.proofs.ListItems.{image_item}
use Rattle.tree_state.specs.cert_step.ProofProblem.{ProofProblem}
use Rattle.tree_state.specs.cert_step.ProofStep.{ProofStep}
use Rattle.tree_state.specs.cert_step.Applies.{Applies}
use Rattle.tree_state.specs.cert_step.Nodes as cert
use Rattle.tree_state.specs.cert_step.Nodes.{Makes, open_node}
use Rattle.tree_state.specs.strategies.declared.failure.Failure.{Failure}
use Rattle.tree_state.specs.strategies.declared.failure.Failure.TheVariants.{NotThere, Spent}
use Rattle.tree_state.specs.strategies.declared.strategy.Strategy.{Strategy}
use Rattle.tree_state.specs.strategies.Kinds.{strategies_for}
use Rattle.tree_state.specs.strategies.Conditions.{Fails}
use Rattle.tree_state.specs.tree_definitions.declared.question.Question.{Question}
use Rattle.tree_state.specs.tree_definitions.declared.mark.Mark.{Mark}
use Rattle.tree_state.specs.tree_definitions.declared.mark.Mark.TheVariants.{Failed}
use Rattle.tree_state.specs.tree_definitions.Questions.{roots, goal_count}
use Rattle.tree_state.specs.tree_definitions.States.{TreeNode, Decided, IsChild}
use Rattle.tree_state.specs.tree_definitions.Legal.{Carries}
use Rattle.tree_state.specs.tree_definitions.Verdicts.{IsLost, IsStuck, HasFailed}
use Rattle.tree_state.specs.Parts.{Parts}
use Rattle.tree_state.specs.Stuck.{is_spent, failures}
use Rattle.tree_core.specs.Invariant.{IsTree}
use Rattle.tree_state.specs.tree_definitions.Reports.{Walks, ends, stays, goes_on, steps_from, decision_at, numbers, children_of, failure_by, failed_of, AllFail, IsTruePart}
use Rattle.tree_state.proofs.tree_definitions.Lookups.{one_value}
use Rattle.tree_core.proofs.Walks.{walk_makes, walked, waits, problem_in}

in_left : {A : Type 0} (x : A) (xs ys : List A) → In x xs → In x (xs ++ ys)
in_left x _ ys in_first = in_first
in_left x (y ∷ xs) ys (in_rest h) = in_rest (in_left x xs ys h)

in_right : {A : Type 0} (x : A) (xs ys : List A) → In x ys → In x (xs ++ ys)
in_right x [] ys h = h
in_right x (y ∷ xs) ys h = in_rest (in_right x xs ys h)

in_numbers : (first count c : ℕ) → first ≤ c → c < first + count → In c (numbers first count)
in_numbers first zero c le lt = absurd (omega (arith, le, lt))
in_numbers first (suc count) c le lt = dite (dec_le (first + 1) c)
    (λ more. in_rest (in_numbers (first + 1) count c more (omega (arith, lt))))
    (λ same. let e : first ≡ c = omega (arith, le, same) in subst (λ n. In n (numbers first (suc count))) e in_first)

-- what waits is walked
waits_walked : (nodes : List TreeNode) (waiting order : List ℕ) → Walks nodes waiting order → (n : ℕ) → In n waiting → In n order
waits_walked nodes _ _ ends n h = elim h [ ]
waits_walked nodes _ _ (stays m node rest order there is_open w) n in_first = in_first
waits_walked nodes _ _ (stays m node rest order there is_open w) n (in_rest h) = in_rest (waits_walked nodes rest order w n h)
waits_walked nodes _ _ (goes_on m node d rest order there dec w) n in_first = in_first
waits_walked nodes _ _ (goes_on m node d rest order there dec w) n (in_rest h) = in_rest (waits_walked nodes (rest ++ children_of d) order w n (in_left n rest (children_of d) h))

-- the children of what is walked are walked
children_walked : (nodes : List TreeNode) (waiting order : List ℕ) → Walks nodes waiting order → (n : ℕ) (node : TreeNode) (d : Decided) → slice_get nodes n ≡ Some node
    → node.decision ≡ Some d → (c : ℕ) → IsChild d c → In n order → In c order
children_walked nodes _ _ ends n node d there dec c child h = elim h [ ]
children_walked nodes _ _ (stays m other rest order at is_open w) _ node d there dec c child in_first =
    let same = one_value (slice_get nodes m) other node at there in
    let none : node.decision ≡ None = ap (λ (x : TreeNode). x.decision) (sym same) ∙ is_open in absurd cc
children_walked nodes _ _ (stays m other rest order at is_open w) n node d there dec c child (in_rest h) = in_rest (children_walked nodes rest order w n node d there dec c child h)
children_walked nodes _ _ (goes_on m other e rest order at dec_m w) _ node d there dec c child in_first =
    let same = one_value (slice_get nodes m) other node at there in
    let dec_node : node.decision ≡ Some e = ap (λ (x : TreeNode). x.decision) (sym same) ∙ dec_m in
    let ed = one_value node.decision d e dec dec_node in
    let child_e = subst (λ (z : Decided). IsChild z c) ed child in
    in_rest (waits_walked nodes (rest ++ children_of e) order w c (in_right c rest (children_of e) (in_numbers e.first e.count c child_e.0 child_e.1)))
children_walked nodes _ _ (goes_on m other e rest order at dec_m w) n node d there dec c child (in_rest h) =
    in_rest (children_walked nodes (rest ++ children_of e) order w n node d there dec c child h)

place_of : {A : Type 0} (x : A) (xs : List A) → In x xs → (k : ℕ) × (slice_get xs k ≡ Some x)
place_of x _ in_first = (0, refl)
place_of x (y ∷ xs) (in_rest h) = let k = place_of x xs h in (suc k.0, k.1)

failure_of_spent : (failure : Failure) → failure_by (is_spent (Failed failure)) ≡ failure
failure_of_spent NotThere = refl
failure_of_spent Spent = refl

all_fail : (system : System) (budget : ℕ) (p : ProofProblem) (ss : List Strategy) (ms : List Mark) → length ms ≡ length ss
    → ((k : ℕ) (m : Mark) → slice_get ms k ≡ Some m → HasFailed m)
    → ((k : ℕ) (failure : Failure) → slice_get ms k ≡ Some (Failed failure) → (st : Strategy) × (slice_get ss k ≡ Some st) × Fails system budget st p failure)
    → AllFail system budget p ss (map failed_of (failures ss ms))
all_fail system budget p [] ms e failed truth = tt
all_fail system budget p (s ∷ ss) [] e failed truth = absurd (omega (arith, e))
all_fail system budget p (s ∷ ss) (m ∷ ms) e failed truth =
    let f = failed 0 m refl in
    let t = truth 0 f.0 (ap (λ x. Some x) f.1) in
    let same : t.0 ≡ s = one_value (Some s) t.0 s t.1 refl in
    let reason : f.0 ≡ failure_by (is_spent m) = sym (ap (λ x. failure_by (is_spent x)) f.1 ∙ failure_of_spent f.0) in
    let fails = subst (λ st. Fails system budget st p f.0) same t.2 in
    (refl, subst (λ b. Fails system budget s p b) reason fails, all_fail system budget p ss ms (omega (arith, e)) (λ k. failed (suc k)) (λ k. truth (suc k)))

map_id : {A : Type 0} (xs : List A) → xs ≡ map (λ x. x) xs
map_id [] = refl
map_id (x ∷ xs) = ap (λ ys. x ∷ ys) (map_id xs)

module _ (question : Question) (system : System) (budget : ℕ) (p : Parts) (tree : IsTree question system budget p) (g : ℕ) (low : g < goal_count question)
    (order : List ℕ) (w : Walks p.state.nodes (g ∷ []) order) where
  -- each node of the goal is walked
  pub all_walked : (fuel n : ℕ) (node : TreeNode) → n < fuel → slice_get p.state.nodes n ≡ Some node → node.goal ≡ g → In n order
  all_walked zero n node lt there goal = absurd (omega (arith, lt))
  all_walked (suc fuel) n node lt there goal = dite (dec_le (goal_count question) n)
      (λ le.
      let b = tree.legal.born n node le there in
      let after = tree.shaped.later b.0 b.1.parent b.1.d b.1.there b.1.decided n b.1.child in
      let parent = all_walked fuel b.0 b.1.parent (omega (arith, after.0, lt)) b.1.there (b.2 ∙ goal) in
      children_walked p.state.nodes (g ∷ []) order w b.0 b.1.parent b.1.d b.1.there b.1.decided n b.1.child parent)
      (λ small.
      let root = tree.shaped.root n (omega (arith, small)) in
      let same = one_value (slice_get p.state.nodes n) root.node node root.there there in
      let at : node.goal ≡ n = subst (λ (y : TreeNode). y.goal ≡ n) same root.goal_is in
      let n_is : g ≡ n = sym goal ∙ at in
      waits_walked p.state.nodes (g ∷ []) order w n (subst (λ k. In k (g ∷ [])) n_is in_first))

  -- the stuck node is walked
  pub stuck_walked : (lost : IsLost p.state.nodes g) → (k : ℕ) × (slice_get order k ≡ Some lost.n)
  stuck_walked lost = place_of lost.n order (all_walked (lost.n + 1) lost.n lost.node (omega arith) lost.there lost.goal)

  -- the part with a stuck node of the walk is true
  pub stuck_part : (k n : ℕ) (node : TreeNode) → slice_get order k ≡ Some n → slice_get p.state.nodes n ≡ Some node → IsStuck node → (root : ProofProblem)
      → slice_get (roots question) g ≡ Some root → IsTruePart system budget root (record {
        goal = g;
        steps = steps_from p.state.nodes 0 order;
        node = k;
        problem = node.problem;
        failed = map failed_of (failures (strategies_for node.problem) node.marks);
      })
  stuck_part k n node at there stuck root is =
      let nodes = p.state.nodes in
      let keeps : (q : ProofProblem) (s : ProofStep) (left : List ProofProblem) → Applies system q s left → Applies system q s (map (λ x. x) left) =
      λ q s left a. subst (Applies system q s) (map_id left) a in
      let legal : (m : ℕ) (x : TreeNode) (d : Decided) → slice_get nodes m ≡ Some x → x.decision ≡ Some d
      → (left : List ProofProblem) × Applies system x.problem d.step left × (d.count ≡ length left)
      × ((j : ℕ) (q : ProofProblem) → slice_get left j ≡ Some q → Carries nodes (d.first + j) x.goal q) =
      λ m x d h dec. let l = tree.legal.decided m x d h dec in (l.left, l.applies, l.count, l.children) in
      let view : ProofProblem → ProofProblem = λ q. q in
      let r = tree.rooted g root is in
      let first : waits system nodes view keeps root legal g ≡ open_node root =
      ap (λ (o : Option TreeNode). open_node (problem_in system nodes view keeps root legal o)) r.there ∙ ap (λ (q : ProofProblem). open_node q) r.problem_is in
      let here : walked system nodes view keeps root legal n ≡ open_node node.problem =
      ap (λ (o : Option TreeNode). record { problem = problem_in system nodes view keeps root legal o; is_open = is_none (decision_at o) }) there
      ∙ ap (λ (d : Option Decided). record { problem = node.problem; is_open = is_none d }) stuck.is_open in
      record {
        nodes = map (walked system nodes view keeps root legal) order;
        makes = subst (λ (x : cert.Node). Makes system (x ∷ []) (steps_from nodes 0 order) (map (walked system nodes view keeps root legal) order)) first
            (walk_makes system nodes view keeps root legal (g ∷ []) order w []);
        there = image_item (walked system nodes view keeps root legal) order k n at ∙ ap (λ (x : cert.Node). Some x) here;
        failed = all_fail system budget node.problem (strategies_for node.problem) node.marks (tree.shaped.fits n node there)
            stuck.failed (λ j failure f. tree.legal.failed n j node failure there f);
      }
