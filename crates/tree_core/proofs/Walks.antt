-- The steps of a goal, in the order of the walk, are made one after another; those of a goal that was won are a proof.
use Rattle.std.proofs.Common.{◌≡◌, ℕ, zero, suc, ◌<◌, ◌≤◌, ◌+◌, false, List, [], ◌∷◌, ◌++◌, length, map, set, Option, Some, None, slice_get, refl, sym, ap, ◌∙◌, subst, arith}
use Rattle.std.specs.Option.{is_none}
use Rattle.std.proofs.lemmas.List.{length-append, map-append}
use Rattle.trs_defs.specs.System.{System}
use Rattle.tree_state.specs.cert_step.ProofProblem.{ProofProblem, root_of}
use Rattle.tree_state.specs.cert_step.PlainProblem.{plain}
use Rattle.tree_state.specs.cert_step.ProofStep.{ProofStep, ProofNodeStep}
use Rattle.tree_state.specs.cert_step.Applies.{Applies}
use Rattle.tree_state.specs.cert_step.Nodes as cert
use Rattle.tree_state.specs.cert_step.Nodes.{Makes, IsAccepted, open_node, nodes_after, AreDecided, first_nodes}
use Rattle.tree_state.specs.cert_step.declared.claim.Claim.{Claim}
use Rattle.tree_state.specs.tree_definitions.States.{TreeNode, Decided}
use Rattle.tree_state.specs.tree_definitions.Verdicts.{IsClosed, closed, IsWon}
use Rattle.tree_state.specs.tree_definitions.Legal.{Carries}
use Rattle.tree_state.specs.tree_definitions.Reports.{Walks, ends, stays, goes_on, steps_from, with_step, decision_at, numbers, children_of}
use Rattle.tree_core.proofs.Won.{closed_decided, closed_child}

-- problems are seen in the certificate by a function that keeps what steps do
module _ (system : System) (nodes : List TreeNode) (view : ProofProblem → ProofProblem)
    (keeps : (p : ProofProblem) (s : ProofStep) (left : List ProofProblem) → Applies system p s left → Applies system (view p) s (map view left)) (any : ProofProblem)
    (legal : (n : ℕ) (node : TreeNode) (d : Decided) → slice_get nodes n ≡ Some node → node.decision ≡ Some d
    → (left : List ProofProblem) × Applies system node.problem d.step left × (d.count ≡ length left)
    × ((k : ℕ) (q : ProofProblem) → slice_get left k ≡ Some q → Carries nodes (d.first + k) node.goal q)) where
  abbrev pub problem_in : Option TreeNode → ProofProblem
  problem_in None = any
  problem_in (Some node) = view node.problem

  -- the problem of node n
  abbrev pub problem_at : ℕ → ProofProblem
  problem_at n = problem_in (slice_get nodes n)

  abbrev pub waits : ℕ → cert.Node
  waits n = open_node (problem_at n)

  abbrev pub walked : ℕ → cert.Node
  walked n = record { problem = problem_at n; is_open = is_none (decision_at (slice_get nodes n)) }

  problem_is : (n : ℕ) (node : TreeNode) → slice_get nodes n ≡ Some node → problem_at n ≡ view node.problem
  problem_is n node there = rw there refl

  -- what a step leaves is what the children carry
  children_carry : (first goal : ℕ) (left : List ProofProblem) → ((k : ℕ) (q : ProofProblem) → slice_get left k ≡ Some q → Carries nodes (first + k) goal q)
      → map waits (numbers first (length left)) ≡ map open_node (map view left)
  children_carry first goal [] h = refl
  children_carry first goal (q ∷ left) h =
      let c = h 0 q refl in
      let zero_k : first + 0 ≡ first = omega arith in
      let there = subst (λ (n : ℕ). slice_get nodes n ≡ Some c.node) zero_k c.there in
      let here : problem_at first ≡ view q = problem_is first c.node there ∙ ap view c.problem_is in
      let rest = children_carry (first + 1) goal left (λ k r t.
      let next : first + suc k ≡ first + 1 + k = omega arith in
      subst (λ (n : ℕ). Carries nodes n goal r) next (h (suc k) r t)) in
      λ i. open_node (here i) ∷ rest i

  middle : (before : List cert.Node) (x : cert.Node) (after : List cert.Node) → slice_get (before ++ x ∷ after) (length before) ≡ Some x
  middle [] x after = refl
  middle (y ∷ before) x after = middle before x after

  set_middle : (before : List cert.Node) (x y : cert.Node) (after : List cert.Node) → set (before ++ x ∷ after) (length before) y ≡ before ++ y ∷ after
  set_middle [] x y after = refl
  set_middle (z ∷ before) x y after = ap (λ zs. z ∷ zs) (set_middle before x y after)

  assoc : (xs : List cert.Node) (y : cert.Node) (ys : List cert.Node) → (xs ++ y ∷ []) ++ ys ≡ xs ++ y ∷ ys
  assoc [] y ys = refl
  assoc (x ∷ xs) y ys = ap (λ zs. x ∷ zs) (assoc xs y ys)

  assoc_all : (xs ys zs : List cert.Node) → (xs ++ ys) ++ zs ≡ xs ++ (ys ++ zs)
  assoc_all [] ys zs = refl
  assoc_all (x ∷ xs) ys zs = ap (λ ws. x ∷ ws) (assoc_all xs ys zs)

  -- the steps lead from the nodes that wait to the same nodes, walked
  pub walk_makes : (waiting order : List ℕ) → Walks nodes waiting order → (before : List cert.Node)
      → Makes system (before ++ map waits waiting) (steps_from nodes (length before) order) (before ++ map walked order)
  walk_makes _ _ ends before = refl
  walk_makes _ _ (stays n node rest order there is_open w) before =
      let len : length (before ++ waits n ∷ []) ≡ length before + 1 = length-append before (waits n ∷ []) in
      let ih = walk_makes rest order w (before ++ waits n ∷ []) in
      let none : decision_at (slice_get nodes n) ≡ None = ap decision_at there ∙ is_open in
      let same : walked n ≡ waits n = ap (λ (d : Option Decided). record { problem = problem_at n; is_open = is_none d }) none in
      let steps : steps_from nodes (length before) (n ∷ order) ≡ steps_from nodes (length (before ++ waits n ∷ [])) order =
      ap (λ (d : Option Decided). with_step (length before) d (steps_from nodes (length before + 1) order)) none ∙ ap (λ (i : ℕ). steps_from nodes i order) (sym len) in
      let last : (before ++ waits n ∷ []) ++ map walked order ≡ before ++ walked n ∷ map walked order =
      assoc before (waits n) (map walked order) ∙ ap (λ x. before ++ x ∷ map walked order) (sym same) in
      subst (λ (ss : List ProofNodeStep). Makes system (before ++ waits n ∷ map waits rest) ss (before ++ walked n ∷ map walked order)) (sym steps)
      (subst (λ (l : List cert.Node). Makes system (before ++ waits n ∷ map waits rest) (steps_from nodes (length (before ++ waits n ∷ [])) order) l) last
      (subst (λ (f : List cert.Node). Makes system f (steps_from nodes (length (before ++ waits n ∷ [])) order) ((before ++ waits n ∷ []) ++ map walked order))
      (assoc before (waits n) (map waits rest)) ih))
  walk_makes _ _ (goes_on n node d rest order there decided w) before =
      let l = legal n node d there decided in
      let left = l.0 in
      let p = problem_at n in
      let shut : cert.Node = record { problem = p; is_open = false } in
      let len : length (before ++ shut ∷ []) ≡ length before + 1 = length-append before (shut ∷ []) in
      let ih = walk_makes (rest ++ children_of d) order w (before ++ shut ∷ []) in
      let some : decision_at (slice_get nodes n) ≡ Some d = ap decision_at there ∙ decided in
      let same : walked n ≡ shut = ap (λ (o : Option Decided). record { problem = p; is_open = is_none o }) some in
      let s : ProofNodeStep = record { node = length before; step = d.step } in
      let steps : steps_from nodes (length before) (n ∷ order) ≡ s ∷ steps_from nodes (length (before ++ shut ∷ [])) order =
      ap (λ (o : Option Decided). with_step (length before) o (steps_from nodes (length before + 1) order)) some ∙ ap (λ (i : ℕ). s ∷ steps_from nodes i order) (sym len) in
      let last : (before ++ shut ∷ []) ++ map walked order ≡ before ++ walked n ∷ map walked order =
      assoc before shut (map walked order) ∙ ap (λ x. before ++ x ∷ map walked order) (sym same) in
      let applies : Applies system p d.step (map view left) = rw there (keeps node.problem d.step left l.1) in
      let kids : map waits (children_of d) ≡ map open_node (map view left) = ap (λ (k : ℕ). map waits (numbers d.first k)) l.2 ∙ children_carry d.first node.goal left l.3 in
      let after : nodes_after (before ++ waits n ∷ map waits rest) (length before) p (map view left) ≡ (before ++ shut ∷ []) ++ map waits (rest ++ children_of d) =
      ap (λ xs. xs ++ map open_node (map view left)) (set_middle before (waits n) shut (map waits rest))
      ∙ assoc_all before (shut ∷ map waits rest) (map open_node (map view left))
      ∙ ap (λ ys. before ++ shut ∷ (map waits rest ++ ys)) (sym kids)
      ∙ ap (λ ys. before ++ shut ∷ ys) (sym (map-append waits rest (children_of d)))
      ∙ sym (assoc before shut (map waits (rest ++ children_of d))) in
      let rest_makes = subst (λ (f : List cert.Node). Makes system f (steps_from nodes (length (before ++ shut ∷ [])) order) (before ++ walked n ∷ map walked order)) (sym after)
      (subst (λ (l : List cert.Node). Makes system ((before ++ shut ∷ []) ++ map waits (rest ++ children_of d)) (steps_from nodes (length (before ++ shut ∷ [])) order) l) last ih) in
      subst (λ (ss : List ProofNodeStep). Makes system (before ++ waits n ∷ map waits rest) ss (before ++ walked n ∷ map walked order)) (sym steps)
      (p, map view left, middle before (waits n) (map waits rest), applies, rest_makes)

-- each node of the walk of closed nodes is decided
pub data AllClosed (nodes : List TreeNode) : List ℕ → Type 0 where
  none : AllClosed nodes []
  and : (n : ℕ) (ns : List ℕ) → IsClosed nodes n → AllClosed nodes ns → AllClosed nodes (n ∷ ns)

closed_append : (nodes : List TreeNode) (xs ys : List ℕ) → AllClosed nodes xs → AllClosed nodes ys → AllClosed nodes (xs ++ ys)
closed_append nodes _ ys none b = b
closed_append nodes _ ys (and n ns c a) b = and n (ns ++ ys) c (closed_append nodes ns ys a b)

closed_numbers : (nodes : List TreeNode) (first count : ℕ) → ((c : ℕ) → first ≤ c → c < first + count → IsClosed nodes c) → AllClosed nodes (numbers first count)
closed_numbers nodes first zero h = none
closed_numbers nodes first (suc count) h =
    and first (numbers (first + 1) count) (h first (omega arith) (omega arith)) (closed_numbers nodes (first + 1) count (λ c le lt. h c (omega (arith, le)) (omega (arith, lt))))

pub walk_closed : (nodes : List TreeNode) (waiting order : List ℕ) → Walks nodes waiting order → AllClosed nodes waiting → AllClosed nodes order
walk_closed nodes _ _ ends all = none
walk_closed nodes _ _ (stays n node rest order there is_open w) (and _ _ c all) =
    let d = closed_decided nodes n c node there in let e = d.1 in absurd cc
walk_closed nodes _ _ (goes_on n node d rest order there decided w) (and _ _ c all) =
    and n order c (walk_closed nodes (rest ++ children_of d) order w
    (closed_append nodes rest (children_of d) all (closed_numbers nodes d.first d.count (λ k le lt. closed_child nodes n c node d there decided k (le, lt)))))

decided_all : (nodes : List TreeNode) (walked : ℕ → cert.Node) (closed_shut : (n : ℕ) → IsClosed nodes n → (walked n).is_open ≡ false) (order : List ℕ) → AllClosed nodes order
    → (k : ℕ) (x : cert.Node) → slice_get (map walked order) k ≡ Some x → x.is_open ≡ false
decided_all nodes walked shut _ none k x there = absurd cc
decided_all nodes walked shut _ (and n ns c all) zero x there = let same : walked n ≡ x = cc in rw (← same) (shut n c)
decided_all nodes walked shut _ (and n ns c all) (suc k) x there = decided_all nodes walked shut ns all k x there

-- The steps of a goal that was won are a proof of its claim.
pub won_accepted : (system : System) (nodes : List TreeNode)
    → ((p : ProofProblem) (s : ProofStep) (left : List ProofProblem) → Applies system p s left → Applies system (plain p) s (map plain left))
    → ((n : ℕ) (node : TreeNode) (d : Decided) → slice_get nodes n ≡ Some node → node.decision ≡ Some d
    → (left : List ProofProblem) × Applies system node.problem d.step left × (d.count ≡ length left)
    × ((k : ℕ) (q : ProofProblem) → slice_get left k ≡ Some q → Carries nodes (d.first + k) node.goal q))
    → (g : ℕ) (root : TreeNode) → slice_get nodes g ≡ Some root → (claim : Claim) → plain root.problem ≡ root_of claim
    → IsWon nodes g → (order : List ℕ) → Walks nodes (g ∷ []) order → IsAccepted system claim (steps_from nodes 0 order)
won_accepted system nodes keeps legal g root there claim fits won order w =
    let m = walk_makes system nodes plain keeps root.problem legal (g ∷ []) order w [] in
    let first : waits system nodes plain keeps root.problem legal g ≡ open_node (root_of claim) = ap (λ (o : Option TreeNode). open_node (problem_in system nodes plain keeps root.problem legal o)) there ∙ ap open_node fits in
    record {
      nodes = map (walked system nodes plain keeps root.problem legal) order;
      makes = subst (λ (x : cert.Node). Makes system (x ∷ []) (steps_from nodes 0 order) (map (walked system nodes plain keeps root.problem legal) order)) first m;
      decided = λ k x at. decided_all nodes (walked system nodes plain keeps root.problem legal) shut order (walk_closed nodes (g ∷ []) order w (and g [] won none)) k x at;
    }
  where
    get : (n : ℕ) (o : Option TreeNode) → slice_get nodes n ≡ o → IsClosed nodes n → is_none (decision_at o) ≡ false
    get n None e c = absurd (no_node n e c)
      where
        no_node : (n : ℕ) → slice_get nodes n ≡ None → IsClosed nodes n → ⊥
        no_node _ e (closed n node d there dec kids) = absurd cc
    get n (Some node) e c = let d = closed_decided nodes n c node e in rw d.1 refl

    shut : (n : ℕ) → IsClosed nodes n → is_none (decision_at (slice_get nodes n)) ≡ false
    shut n c = get n (slice_get nodes n) refl c
