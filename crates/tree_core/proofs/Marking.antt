-- A node's mark is written: nothing else changes.
use Rattle.std.proofs.Common.{◌≡◌, ◌≢◌, ◌⊎◌, inl, inr, ℕ, zero, suc, ◌+◌, Bool, true, List, [], ◌∷◌, length, set, Option, Some, slice_get, refl, sym, ◌∙◌, subst, arith}
use native.Mathlib.Decide.{ℕ_discrete}
use mathlib.Core.Logic.{dite}
use Rattle.trs_defs.specs.System.{System}
use Rattle.tree_state.specs.cert_step.ProofProblem.{ProofProblem}
use Rattle.tree_state.specs.strategies.Kinds.{strategies_for}
use Rattle.tree_state.specs.tree_definitions.declared.mark.Mark.{Mark}
use Rattle.tree_state.specs.tree_definitions.declared.mark.Mark.TheVariants.{Idle, Running}
use Rattle.tree_state.specs.tree_definitions.declared.ticket.Ticket.{Ticket}
use Rattle.tree_state.specs.tree_definitions.States.{TreeNode, State, Decided, marked}
use Rattle.tree_state.specs.tree_definitions.Verdicts.{IsClosed, closed, IsLost, IsStuck, HasFailed}
use Rattle.tree_state.specs.tree_definitions.Legal.{Carries, IsLegallyDecided, IsChildOf}
use Rattle.tree_core.specs.Invariant.{IsOf, IsHeld, IsRunningAt, IsShaped, opens}
use Rattle.tree_state.proofs.tree_definitions.Lookups.{get_set, length_set}
use Rattle.tree_state.proofs.tree_definitions.Lookups.{one_value, set_cases, set_there}

-- two nodes but for their marks
pub record Alike (x y : TreeNode) : Type 0 where
  pub goal : y.goal ≡ x.goal
  pub problem : y.problem ≡ x.problem
  pub decision : y.decision ≡ x.decision

alike_refl : (x : TreeNode) → Alike x x
alike_refl x = record { goal = refl; problem = refl; decision = refl }

-- each node of the first list stands in the second, but for its marks
abbrev pub Same : List TreeNode → List TreeNode → Type 0
Same xs ys = (k : ℕ) (x : TreeNode) → slice_get xs k ≡ Some x → (y : TreeNode) × (slice_get ys k ≡ Some y) × Alike x y

pub of_same : (xs ys : List TreeNode) → Same xs ys → (n g : ℕ) → IsOf xs n g → IsOf ys n g
of_same xs ys same n g h =
    let y = same n h.node h.there in
    record { node = y.0; there = y.1; goal_is = y.2.goal ∙ h.goal_is }

pub closed_same : (xs ys : List TreeNode) → Same xs ys → (n : ℕ) → IsClosed xs n → IsClosed ys n
closed_same xs ys same _ (closed n node d there dec children) =
    let y = same n node there in
    closed n y.0 d y.1 (y.2.decision ∙ dec) (λ c child. closed_same xs ys same c (children c child))

pub carries_same : (xs ys : List TreeNode) → Same xs ys → (n g : ℕ) (p : ProofProblem) → Carries xs n g p → Carries ys n g p
carries_same xs ys same n g p h =
    let y = same n h.node h.there in
    record { node = y.0; there = y.1; goal_is = y.2.goal ∙ h.goal_is; problem_is = y.2.problem ∙ h.problem_is }

pub legal_same : (system : System) (budget : ℕ) (xs ys : List TreeNode) → Same xs ys → (x y : TreeNode) (d : Decided) → Alike x y
    → IsLegallyDecided system budget xs x d → IsLegallyDecided system budget ys y d
legal_same system budget xs ys same x y d alike h =
    let p = sym alike.problem in
    let g = sym alike.goal in
    record {
      strategy = h.strategy;
      kind = rw alike.problem h.kind;
      finds = rw alike.problem h.finds;
      left = h.left;
      applies = rw alike.problem h.applies;
      well_made = h.well_made;
      count = h.count;
      children = λ k q there. rw alike.goal (carries_same xs ys same (d.first + k) x.goal q (h.children k q there));
    }

pub child_same : (xs ys : List TreeNode) → Same xs ys → (n m : ℕ) → IsChildOf xs n m → IsChildOf ys n m
child_same xs ys same n m h =
    let y = same m h.parent h.there in
    record { parent = y.0; d = h.d; there = y.1; decided = y.2.decision ∙ h.decided; child = h.child }

module _ (nodes : List TreeNode) (n place : ℕ) (node : TreeNode) (mark : Mark) (there : slice_get nodes n ≡ Some node) where
  abbrev pub later : List TreeNode
  later = set nodes n (marked node place mark)

  pub there_marked : slice_get later n ≡ Some (marked node place mark)
  there_marked = get_set nodes n (marked node place mark) node there

  pub same_later : Same nodes later
  same_later k x here = dite (ℕ_discrete k n)
      (λ at.
      let is : x ≡ node = one_value (slice_get nodes n) x node (subst (λ (j : ℕ). slice_get nodes j ≡ Some x) at here) there in (
        marked node place mark,
        subst (λ (j : ℕ). slice_get later j ≡ Some (marked node place mark)) (sym at) there_marked,
        subst (λ (z : TreeNode). Alike z (marked node place mark)) (sym is) (record { goal = refl; problem = refl; decision = refl }),
      ))
      (λ other. (x, set_there nodes n k (marked node place mark) x (λ e. other e) here, alike_refl x))

  -- what stands there was there before, but for the mark
  pub before : (k : ℕ) (y : TreeNode) → slice_get later k ≡ Some y → (x : TreeNode) × (slice_get nodes k ≡ Some x) × Alike x y
      × (((k ≡ n) × (y ≡ marked node place mark)) ⊎ ((k ≢ n) × (y ≡ x)))
  before k y here = elim (set_cases nodes n k node (marked node place mark) y there here) [
    | inl w ↦ (
      node,
      subst (λ (j : ℕ). slice_get nodes j ≡ Some node) (sym w.0) there,
      subst (λ (z : TreeNode). Alike node z) (sym w.1) (record { goal = refl; problem = refl; decision = refl }),
      inl (w.0, w.1),
    )
    | inr w ↦ (y, w.1, alike_refl y, inr (w.0, refl))
  ]

  pub same_before : Same later nodes
  same_before k y here =
      let b = before k y here in
      (b.0, b.1, record { goal = sym b.2.goal; problem = sym b.2.problem; decision = sym b.2.decision })

  pub length_later : length later ≡ length nodes
  length_later = length_set nodes n (marked node place mark)

  -- a goal is lost as before, where neither the old mark nor the new one is a failure
  module _ (old : Mark) (was : slice_get node.marks place ≡ Some old) (old_ok : HasFailed old → ⊥) (new_ok : HasFailed mark → ⊥) where
    pub lost_later : (g : ℕ) → IsLost nodes g → IsLost later g
    lost_later g h = dite (ℕ_discrete h.n n)
        (λ at.
        let is : h.node ≡ node = one_value (slice_get nodes n) h.node node (subst (λ (j : ℕ). slice_get nodes j ≡ Some h.node) at h.there) there in
        let stuck = subst IsStuck is h.stuck in
        absurd (old_ok (stuck.failed place old was)))
        (λ other. record { n = h.n; node = h.node; there = set_there nodes n h.n (marked node place mark) h.node (λ e. other e) h.there; goal = h.goal; stuck = h.stuck })

    pub lost_before : (g : ℕ) → IsLost later g → IsLost nodes g
    lost_before g h = elim (set_cases nodes n h.n node (marked node place mark) h.node there h.there) [
      | inl w ↦
          let stuck = subst IsStuck w.1 h.stuck in
          absurd (new_ok (stuck.failed place mark (get_set node.marks place mark old was)))
      | inr w ↦ record { n = h.n; node = h.node; there = w.1; goal = h.goal; stuck = h.stuck }
    ]

-- nodes keep their problems
pub problems_marked : (nodes : List TreeNode) (n place : ℕ) (node : TreeNode) (mark : Mark) → slice_get nodes n ≡ Some node
    → (k : ℕ) (x : TreeNode) → slice_get nodes k ≡ Some x → (y : TreeNode) × (slice_get (set nodes n (marked node place mark)) k ≡ Some y) × (y.problem ≡ x.problem)
problems_marked nodes n place node mark there k x here = let y = same_later nodes n place node mark there k x here in (y.0, y.1, y.2.problem)

pub opens_marked : (g : ℕ) (nodes : List TreeNode) (n place : ℕ) (node : TreeNode) (mark : Mark) → slice_get nodes n ≡ Some node
    → opens g (set nodes n (marked node place mark)) ≡ opens g nodes
opens_marked g [] n place node mark there = refl
opens_marked g (x ∷ nodes) zero place node mark there = let same : x ≡ node = cc in rw same refl
opens_marked g (x ∷ nodes) (suc n) place node mark there = omega (arith, opens_marked g nodes n place node mark there)

pub not_failed_idle : HasFailed Idle → ⊥
not_failed_idle h = let e = h.1 in absurd cc

pub not_failed_running : HasFailed Running → ⊥
not_failed_running h = let e = h.1 in absurd cc

-- ---- the shape of a tree when a mark was written; the tickets are those of the new state

module _ (goals : ℕ) (s : State) (shaped : IsShaped goals s) (n place : ℕ) (node : TreeNode) (mark : Mark) (there : slice_get s.nodes n ≡ Some node)
    (old : Mark) (was : slice_get node.marks place ≡ Some old) where
  abbrev pub marked_nodes : List TreeNode
  marked_nodes = set s.nodes n (marked node place mark)

  -- another mark is as before
  pub mark_kept : (k j : ℕ) (h : IsRunningAt s.nodes k j) → ((k ≡ n) → (j ≡ place) → ⊥) → IsRunningAt marked_nodes k j
  mark_kept k j h other = dite (ℕ_discrete k n)
      (λ at.
      let is : h.node ≡ node = one_value (slice_get s.nodes n) h.node node (subst (λ (i : ℕ). slice_get s.nodes i ≡ Some h.node) at h.there) there in
      let here = subst (λ (x : TreeNode). slice_get x.marks j ≡ Some Running) is h.mark in
      record {
        node = marked node place mark;
        there = subst (λ (i : ℕ). slice_get marked_nodes i ≡ Some (marked node place mark)) (sym at) (there_marked s.nodes n place node mark there);
        mark = set_there node.marks place j mark Running (λ e. other at e) here;
      })
      (λ ne. record { node = h.node; there = set_there s.nodes n k (marked node place mark) h.node (λ e. ne e) h.there; mark = h.mark })

  -- a mark that says that its strategy runs is as before, or the one that was written
  pub mark_was : (k j : ℕ) → IsRunningAt marked_nodes k j → (IsRunningAt s.nodes k j × ((k ≡ n) → (j ≡ place) → ⊥)) ⊎ ((k ≡ n) × (j ≡ place) × (mark ≡ Running))
  mark_was k j h = elim (set_cases s.nodes n k node (marked node place mark) h.node there h.there) [
    | inl w ↦
        let here = subst (λ (x : TreeNode). slice_get x.marks j ≡ Some Running) w.1 h.mark in
        elim (set_cases node.marks place j old mark Running was here) [
          | inl v ↦ inr (w.0, v.0, sym v.1)
          | inr v ↦ inl (record { node = node; there = subst (λ (i : ℕ). slice_get s.nodes i ≡ Some node) (sym w.0) there; mark = v.1 }, λ a b. v.0 b)
        ]
    | inr w ↦ inl (record { node = h.node; there = w.1; mark = h.mark }, λ a b. w.0 a)
  ]

  -- what is said of the nodes alone
  pub shape_marked : (tickets : List Ticket) (winner : Option ℕ) (aborted : Bool)
      → ((number : ℕ) (t : Ticket) → slice_get tickets number ≡ Some t → t.is_running ≡ true → IsRunningAt marked_nodes t.node t.place)
      → ((k j : ℕ) → IsRunningAt marked_nodes k j → IsHeld tickets k j)
      → IsShaped goals (record { nodes = marked_nodes; tickets = tickets; winner = winner; is_aborted = aborted })
  shape_marked tickets winner aborted runs held = record {
    root = λ g lt. of_same s.nodes marked_nodes (same_later s.nodes n place node mark there) g g (shaped.root g lt);
    range = λ k y here.
        let b = before s.nodes n place node mark there k y here in
        rw b.2.goal (shaped.range k b.0 b.1);
    fits = λ k y here.
        let b = before s.nodes n place node mark there k y here in
        let old_fits = shaped.fits k b.0 b.1 in
        elim b.3 [
          | inl w ↦
              let is : b.0 ≡ node = one_value (slice_get s.nodes n) b.0 node (subst (λ (i : ℕ). slice_get s.nodes i ≡ Some b.0) w.0 b.1) there in
              let fits_node = subst (λ (x : TreeNode). length x.marks ≡ length (strategies_for x.problem)) is old_fits in
              subst (λ (x : TreeNode). length x.marks ≡ length (strategies_for x.problem)) (sym w.1) (length_set node.marks place mark ∙ fits_node)
          | inr w ↦ subst (λ (x : TreeNode). length x.marks ≡ length (strategies_for x.problem)) (sym w.1) old_fits
        ];
    later = λ m y d here dec c child.
        let b = before s.nodes n place node mark there m y here in
        let after = shaped.later m b.0 d b.1 (sym b.2.decision ∙ dec) c child in
        (after.0, rw b.2.goal (of_same s.nodes marked_nodes (same_later s.nodes n place node mark there) c b.0.goal after.1));
    runs = runs;
    held = held;
  }
