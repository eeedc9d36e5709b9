-- A step decides an open node: the tree keeps its shape and stays legal.
use Rattle.std.proofs.Common.{◌≡◌, ◌≢◌, ◌⊎◌, inl, inr, ℕ, zero, suc, ◌<◌, ◌≤◌, ◌+◌, ◌-◌, cond, List, [], ◌∷◌, ◌++◌, length, map, set, Option, Some, None, slice_get, refl, sym, ap, ◌∙◌, subst, arith}
use Rattle.std.proofs.lemmas.List.{length-map, length-append}
use Rattle.std.proofs.lemmas.Option.{slice_get_within}
use native.Mathlib.Decide.{ℕ_discrete}
use mathlib.Core.Logic.{dite}
use Rattle.trs_defs.specs.System.{System}
use Rattle.trs_defs.specs.Member.{In}
use Rattle.trs_defs.proofs.ListItems.{kept_item, image_item, item_there}
use Rattle.tree_state.specs.cert_step.ProofProblem.{ProofProblem, IsWellMadeProblem}
use Rattle.tree_state.specs.cert_step.ProofStep.{ProofStep, IsWellMade}
use Rattle.tree_state.specs.cert_step.Applies.{Applies}
use Rattle.tree_state.specs.strategies.declared.failure.Failure.{Failure}
use Rattle.tree_state.specs.strategies.declared.strategy.Strategy.{Strategy}
use Rattle.tree_state.specs.strategies.Kinds.{strategies_for}
use Rattle.tree_state.specs.strategies.Conditions.{Finds, Fails}
use Rattle.tree_state.specs.tree_definitions.declared.mark.Mark.{Mark}
use Rattle.tree_state.specs.tree_definitions.declared.mark.Mark.TheVariants.{Idle, Running, Failed}
use Rattle.tree_state.specs.tree_definitions.States.{TreeNode, State, Decided, IsChild, new_node}
use Rattle.tree_state.specs.tree_definitions.Verdicts.{IsLost, IsStuck}
use Rattle.tree_state.specs.tree_definitions.Legal.{Carries, IsLegallyDecided, IsChildOf, IsLegal}
use Rattle.tree_core.specs.Invariant.{IsOf, IsRunningAt, IsShaped, opens}
use Rattle.tree_state.proofs.tree_definitions.Lookups.{get_set, length_set}
use Rattle.tree_state.proofs.tree_definitions.Lookups.{one_value, set_cases, set_there, append_right, append_cases, map_cases}
use Rattle.tree_core.proofs.Opening.{idle_marks, some_strategy}
use Rattle.tree_core.proofs.Won.{is_open_of, open_of, other_of}

opens_append : (g : ℕ) (xs ys : List TreeNode) → opens g (xs ++ ys) ≡ opens g xs + opens g ys
opens_append g [] ys = omega arith
opens_append g (x ∷ xs) ys = omega (arith, opens_append g xs ys)

opens_new : (g : ℕ) (left : List ProofProblem) → opens g (map (new_node g) left) ≡ length left
opens_new g [] = refl
opens_new g (q ∷ left) = let one : ◌≡◌ {A = ℕ} (cond (is_open_of g (new_node g q)) 1 0) 1 = rw (open_of g (new_node g q) refl refl) refl in omega (arith, one, opens_new g left)

opens_other : (h g : ℕ) (left : List ProofProblem) → g ≢ h → opens h (map (new_node g) left) ≡ 0
opens_other h g [] ne = refl
opens_other h g (q ∷ left) ne = let none : ◌≡◌ {A = ℕ} (cond (is_open_of h (new_node g q)) 1 0) 0 = rw (other_of h (new_node g q) ne) refl in omega (arith, none, opens_other h g left ne)

opens_set : (h : ℕ) (nodes : List TreeNode) (n : ℕ) (x y : TreeNode) → slice_get nodes n ≡ Some x → opens h (set nodes n y) + cond (is_open_of h x) 1 0 ≡ opens h nodes + cond (is_open_of h y) 1 0
opens_set h [] n x y there = absurd cc
opens_set h (z ∷ nodes) zero x y there = let same : z ≡ x = cc in rw same (omega arith)
opens_set h (z ∷ nodes) (suc n) x y there = omega (arith, opens_set h nodes n x y there)

module _ (goals : ℕ) (system : System) (budget : ℕ) (s : State) (shaped : IsShaped goals s) (legal : IsLegal goals system budget s)
    (n : ℕ) (node : TreeNode) (there : slice_get s.nodes n ≡ Some node) (is_open : node.decision ≡ None) (step : ProofStep) (left : List ProofProblem) where
  abbrev pub decision : Decided
  decision = record { step = step; first = length s.nodes; count = length left }

  abbrev pub shut_node : TreeNode
  shut_node = record node { decision = Some decision }

  abbrev pub later : List TreeNode
  later = set s.nodes n shut_node ++ map (new_node node.goal) left

  len : length (set s.nodes n shut_node) ≡ length s.nodes
  len = length_set s.nodes n shut_node

  pub data At (k : ℕ) (y : TreeNode) : Type 0 where
    old : k ≢ n → slice_get s.nodes k ≡ Some y → At k y
    here : k ≡ n → y ≡ shut_node → At k y
    new : (j : ℕ) (q : ProofProblem) → k ≡ length s.nodes + j → slice_get left j ≡ Some q → y ≡ new_node node.goal q → At k y

  pub at_cases : (k : ℕ) (y : TreeNode) → slice_get later k ≡ Some y → At k y
  at_cases k y at = elim (append_cases (set s.nodes n shut_node) (map (new_node node.goal) left) k y at) [
    | inl w ↦ elim (set_cases s.nodes n k node shut_node y there w) [ inl v ↦ here v.0 v.1 | inr v ↦ old v.0 v.1 ]
    | inr w ↦ let m = map_cases (new_node node.goal) left w.0 y w.2 in new w.0 m.0 (omega (arith, w.1, len)) m.1 m.2
  ]

  there_old : (k : ℕ) (x : TreeNode) → k ≢ n → slice_get s.nodes k ≡ Some x → slice_get later k ≡ Some x
  there_old k x ne at = kept_item (set s.nodes n shut_node) (map (new_node node.goal) left) k x (set_there s.nodes n k shut_node x ne at)

  pub there_shut : slice_get later n ≡ Some shut_node
  there_shut = kept_item (set s.nodes n shut_node) (map (new_node node.goal) left) n shut_node (get_set s.nodes n shut_node node there)

  there_new : (j : ℕ) (q : ProofProblem) → slice_get left j ≡ Some q → slice_get later (length s.nodes + j) ≡ Some (new_node node.goal q)
  there_new j q at = append_right (set s.nodes n shut_node) (map (new_node node.goal) left) j (length s.nodes + j) (new_node node.goal q) (omega (arith, len)) (image_item (new_node node.goal) left j q at)

  -- each node stands there as before, but for its decision
  pub still : (k : ℕ) (x : TreeNode) → slice_get s.nodes k ≡ Some x → (y : TreeNode) × (slice_get later k ≡ Some y) × (y.goal ≡ x.goal) × (y.problem ≡ x.problem) × (y.marks ≡ x.marks)
  still k x at = dite (ℕ_discrete k n)
      (λ same.
      let is : x ≡ node = one_value (slice_get s.nodes n) x node (subst (λ (j : ℕ). slice_get s.nodes j ≡ Some x) same at) there in
      (shut_node, subst (λ (j : ℕ). slice_get later j ≡ Some shut_node) (sym same) there_shut, ap (λ (z : TreeNode). z.goal) (sym is), ap (λ (z : TreeNode). z.problem) (sym is), ap (λ (z : TreeNode). z.marks) (sym is)))
      (λ other. (x, there_old k x (λ e. other e) at, refl, refl, refl))

  of_still : (k g : ℕ) → IsOf s.nodes k g → IsOf later k g
  of_still k g h = let y = still k h.node h.there in record { node = y.0; there = y.1; goal_is = y.2 ∙ h.goal_is }

  pub carries_still : (k g : ℕ) (q : ProofProblem) → Carries s.nodes k g q → Carries later k g q
  carries_still k g q h = let y = still k h.node h.there in record { node = y.0; there = y.1; goal_is = y.2 ∙ h.goal_is; problem_is = y.3 ∙ h.problem_is }

  decided_old : (k : ℕ) (x : TreeNode) (d : Decided) → slice_get s.nodes k ≡ Some x → x.decision ≡ Some d → k ≢ n
  decided_old k x d at dec e =
      let is : x ≡ node = one_value (slice_get s.nodes n) x node (subst (λ (j : ℕ). slice_get s.nodes j ≡ Some x) e at) there in
      let none : x.decision ≡ None = ap (λ (z : TreeNode). z.decision) is ∙ is_open in absurd cc

  pub decide_shape : (winner : Option ℕ) → IsShaped goals (record s { nodes = later; winner = winner })
  decide_shape winner = record {
    root = λ g lt. of_still g g (shaped.root g lt);
    range = λ k y at. range_at k y (at_cases k y at);
    fits = λ k y at. fits_at k y (at_cases k y at);
    later = λ m y d at dec c child. later_at m y d dec c child (at_cases m y at);
    runs = λ i u at run.
        let h = shaped.runs i u at run in
        let y = still u.node h.node h.there in
        record { node = y.0; there = y.1; mark = ap (λ (ms : List Mark). slice_get ms u.place) y.4 ∙ h.mark };
    held = λ k j h. shaped.held k j (held_at k j h (at_cases k h.node h.there));
  }
    where
      range_at : (k : ℕ) (y : TreeNode) → At k y → y.goal < goals
      range_at k y (old ne at) = shaped.range k y at
      range_at k y (here e is) = rw is (shaped.range n node there)
      range_at k y (new j q e at is) = rw is (shaped.range n node there)

      fits_at : (k : ℕ) (y : TreeNode) → At k y → length y.marks ≡ length (strategies_for y.problem)
      fits_at k y (old ne at) = shaped.fits k y at
      fits_at k y (here e is) = rw is (shaped.fits n node there)
      fits_at k y (new j q e at is) = rw is (length-map (strategies_for q) (λ _. Idle))

      later_at : (m : ℕ) (y : TreeNode) (d : Decided) → y.decision ≡ Some d → (c : ℕ) → IsChild d c → At m y → (m < c) × IsOf later c y.goal
      later_at m y d dec c child (old ne at) = let a = shaped.later m y d at dec c child in (a.0, of_still c y.goal a.1)
      later_at m y d dec c child (here e is) =
          let d_is : Some decision ≡ Some d = sym (ap (λ (z : TreeNode). z.decision) is) ∙ dec in
          let same : decision ≡ d = cc in
          let range = subst (λ (z : Decided). IsChild z c) (sym same) child in
          let lt = slice_get_within s.nodes n node there in
          let q = item_there left (c - length s.nodes) (omega (arith, range.0, range.1)) in
          let at = there_new (c - length s.nodes) q.0 q.1 in
          let c_is : length s.nodes + (c - length s.nodes) ≡ c = omega (arith, range.0) in
          (omega (arith, lt, range.0, e), record { node = new_node node.goal q.0; there = subst (λ (k : ℕ). slice_get later k ≡ Some (new_node node.goal q.0)) c_is at; goal_is = ap (λ (z : TreeNode). z.goal) (sym is) })
      later_at m y d dec c child (new j q e at is) = let none : y.decision ≡ None = ap (λ (z : TreeNode). z.decision) is in absurd cc

      held_at : (k j : ℕ) (h : IsRunningAt later k j) → At k h.node → IsRunningAt s.nodes k j
      held_at k j h (old ne at) = record { node = h.node; there = at; mark = h.mark }
      held_at k j h (here e is) =
          record { node = node; there = subst (λ (i : ℕ). slice_get s.nodes i ≡ Some node) (sym e) there; mark = subst (λ (z : TreeNode). slice_get z.marks j ≡ Some Running) is h.mark }
      held_at k j h (new i q e at is) =
          let idle = idle_marks q j Running (subst (λ (z : TreeNode). slice_get z.marks j ≡ Some Running) is h.mark) in absurd cc

  -- the decision is legal
  module _ (strategy : Strategy) (kind : In strategy (strategies_for node.problem)) (finds : Finds system budget strategy node.problem step) (applies : Applies system node.problem step left) (well_made : IsWellMade system step) where
    legal_here : IsLegallyDecided system budget later node decision
    legal_here = record {
      strategy = strategy;
      kind = kind;
      finds = finds;
      left = left;
      applies = applies;
      well_made = well_made;
      count = refl;
      children = λ k q at. record { node = new_node node.goal q; there = there_new k q at; goal_is = refl; problem_is = refl };
    }

    parent_cases : (k m : ℕ) → IsChildOf later k m → IsChildOf s.nodes k m ⊎ ((m ≡ n) × (length s.nodes ≤ k))
    parent_cases k m h = go (at_cases m h.parent h.there)
      where
        go : At m h.parent → IsChildOf s.nodes k m ⊎ ((m ≡ n) × (length s.nodes ≤ k))
        go (old ne at) = inl (record { parent = h.parent; d = h.d; there = at; decided = h.decided; child = h.child })
        go (here e is) =
            let d_is : Some decision ≡ Some h.d = sym (ap (λ (z : TreeNode). z.decision) is) ∙ h.decided in
            let same : decision ≡ h.d = cc in
            inr (e, (subst (λ (z : Decided). IsChild z k) (sym same) h.child).0)
        go (new j q e at is) = let none : h.parent.decision ≡ None = ap (λ (z : TreeNode). z.decision) is in let some = h.decided in absurd cc

    child_low : (k m : ℕ) → IsChildOf s.nodes k m → k < length s.nodes
    child_low k m h = let a = shaped.later m h.parent h.d h.there h.decided k h.child in slice_get_within s.nodes k a.1.node a.1.there

    pub decide_legal : (winner : Option ℕ) → IsLegal goals system budget (record s { nodes = later; winner = winner })
    decide_legal winner = record {
      decided = λ k y d at dec. decided_at k y d dec (at_cases k y at);
      failed = λ k place y failure at f. failed_at k place y failure f (at_cases k y at);
      born = λ k y le at. born_at k y le (at_cases k y at);
      once = λ k m i a b. once_at k m i (parent_cases k m a) (parent_cases k i b);
      named = λ i u at run.
          let x = legal.named i u at run in
          let y = still u.node x.node x.there in
          record { node = y.0; there = y.1; strategy = x.strategy; kind = rw y.3 x.kind };
      alone = legal.alone;
    }
      where
        decided_at : (k : ℕ) (y : TreeNode) (d : Decided) → y.decision ≡ Some d → At k y → IsLegallyDecided system budget later y d
        decided_at k y d dec (old ne at) =
            let h = legal.decided k y d at dec in
            record { strategy = h.strategy; kind = h.kind; finds = h.finds; left = h.left; applies = h.applies; well_made = h.well_made; count = h.count; children = λ j q t. carries_still (d.first + j) y.goal q (h.children j q t) }
        decided_at k y d dec (here e is) =
            let d_is : Some decision ≡ Some d = sym (ap (λ (z : TreeNode). z.decision) is) ∙ dec in
            let same : decision ≡ d = cc in
            let l = legal_here in
            let at_shut : IsLegallyDecided system budget later shut_node decision =
            record { strategy = l.strategy; kind = l.kind; finds = l.finds; left = l.left; applies = l.applies; well_made = l.well_made; count = l.count; children = l.children } in
            subst (λ (z : Decided). IsLegallyDecided system budget later y z) same (subst (λ (z : TreeNode). IsLegallyDecided system budget later z decision) (sym is) at_shut)
        decided_at k y d dec (new j q e at is) = let none : y.decision ≡ None = ap (λ (z : TreeNode). z.decision) is in absurd cc

        failed_at : (k place : ℕ) (y : TreeNode) (failure : Failure) → slice_get y.marks place ≡ Some (Failed failure) → At k y
            → (st : Strategy) × (slice_get (strategies_for y.problem) place ≡ Some st) × Fails system budget st y.problem failure
        failed_at k place y failure f (old ne at) = legal.failed k place y failure at f
        failed_at k place y failure f (here e is) =
            let r = legal.failed n place node failure there (subst (λ (z : TreeNode). slice_get z.marks place ≡ Some (Failed failure)) is f) in
            subst (λ (z : TreeNode). (st : Strategy) × (slice_get (strategies_for z.problem) place ≡ Some st) × Fails system budget st z.problem failure) (sym is) r
        failed_at k place y failure f (new j q e at is) =
            let idle = idle_marks q place (Failed failure) (subst (λ (z : TreeNode). slice_get z.marks place ≡ Some (Failed failure)) is f) in absurd cc

        lift : (k m : ℕ) (c : IsChildOf s.nodes k m) → (e : IsChildOf later k m) × (e.parent.goal ≡ c.parent.goal)
        lift k m c = (record { parent = c.parent; d = c.d; there = there_old m c.parent (decided_old m c.parent c.d c.there c.decided) c.there; decided = c.decided; child = c.child }, refl)

        born_at : (k : ℕ) (y : TreeNode) → goals ≤ k → At k y → (m : ℕ) × (c : IsChildOf later k m) × (c.parent.goal ≡ y.goal)
        born_at k y le (old ne at) = let b = legal.born k y le at in let l = lift k b.0 b.1 in (b.0, l.0, l.1 ∙ b.2)
        born_at k y le (here e is) =
            let b = legal.born k node le (subst (λ (i : ℕ). slice_get s.nodes i ≡ Some node) (sym e) there) in
            let l = lift k b.0 b.1 in
            (b.0, l.0, l.1 ∙ (b.2 ∙ ap (λ (z : TreeNode). z.goal) (sym is)))
        born_at k y le (new j q e at is) =
            let lt = slice_get_within left j q at in
            (n, record { parent = shut_node; d = decision; there = there_shut; decided = refl; child = (omega (arith, e), omega (arith, e, lt)) }, ap (λ (z : TreeNode). z.goal) (sym is))

        once_at : (k m i : ℕ) → IsChildOf s.nodes k m ⊎ ((m ≡ n) × (length s.nodes ≤ k)) → IsChildOf s.nodes k i ⊎ ((i ≡ n) × (length s.nodes ≤ k)) → m ≡ i
        once_at k m i (inl a) (inl b) = legal.once k m i a b
        once_at k m i (inl a) (inr b) = let lt = child_low k m a in absurd (omega (arith, lt, b.1))
        once_at k m i (inr a) (inl b) = let lt = child_low k i b in absurd (omega (arith, lt, a.1))
        once_at k m i (inr a) (inr b) = a.0 ∙ sym b.0

  pub well_made_later : ((k : ℕ) (x : TreeNode) → slice_get s.nodes k ≡ Some x → IsWellMadeProblem system x.problem)
      → ((j : ℕ) (q : ProofProblem) → slice_get left j ≡ Some q → IsWellMadeProblem system q)
      → (k : ℕ) (y : TreeNode) → slice_get later k ≡ Some y → IsWellMadeProblem system y.problem
  well_made_later well fresh k y at = go (at_cases k y at)
    where
      go : At k y → IsWellMadeProblem system y.problem
      go (old ne t) = well k y t
      go (here e is) = rw is (well n node there)
      go (new j q e t is) = rw is (fresh j q t)

  -- the open nodes of the goal are one less and so many more; those of other goals are as before
  pub opens_here : opens node.goal later + 1 ≡ opens node.goal s.nodes + length left
  opens_here =
      let a = opens_append node.goal (set s.nodes n shut_node) (map (new_node node.goal) left) in
      let b = opens_set node.goal s.nodes n node shut_node there in
      let c : ◌≡◌ {A = ℕ} (cond (is_open_of node.goal node) 1 0) 1 = rw (open_of node.goal node refl is_open) refl in
      let d : ◌≡◌ {A = ℕ} (cond (is_open_of node.goal shut_node) 1 0) 0 = refl in
      omega (arith, a, b, c, d, opens_new node.goal left)

  pub opens_there : (h : ℕ) → node.goal ≢ h → opens h later ≡ opens h s.nodes
  opens_there h ne =
      let a = opens_append h (set s.nodes n shut_node) (map (new_node node.goal) left) in
      let b = opens_set h s.nodes n node shut_node there in
      let c : ◌≡◌ {A = ℕ} (cond (is_open_of h node) 1 0) 0 = rw (other_of h node ne) refl in
      let d : ◌≡◌ {A = ℕ} (cond (is_open_of h shut_node) 1 0) 0 = refl in
      omega (arith, a, b, c, d, opens_other h node.goal left ne)

  -- the same goals are lost
  module _ (place : ℕ) (idle : slice_get node.marks place ≡ Some Idle) where
    pub lost_still : (g : ℕ) → IsLost s.nodes g → IsLost later g
    lost_still g h = dite (ℕ_discrete h.n n)
        (λ at.
        let is : h.node ≡ node = one_value (slice_get s.nodes n) h.node node (subst (λ (j : ℕ). slice_get s.nodes j ≡ Some h.node) at h.there) there in
        let st = subst IsStuck is h.stuck in
        let f = (st.failed place Idle idle).1 in absurd cc)
        (λ other. record { n = h.n; node = h.node; there = there_old h.n h.node (λ e. other e) h.there; goal = h.goal; stuck = h.stuck })

    pub lost_was : (g : ℕ) → IsLost later g → IsLost s.nodes g
    lost_was g h = go (at_cases h.n h.node h.there)
      where
        go : At h.n h.node → IsLost s.nodes g
        go (old ne at) = record { n = h.n; node = h.node; there = at; goal = h.goal; stuck = h.stuck }
        go (here e is) = let some : h.node.decision ≡ Some decision = ap (λ (z : TreeNode). z.decision) is in let none = h.stuck.is_open in absurd cc
        go (new j q e at is) =
            let st = subst IsStuck is h.stuck in
            let f = (st.failed 0 Idle (some_strategy q)).1 in absurd cc

  -- the node was one of the open ones
  pub opens_some : 0 < opens node.goal s.nodes
  opens_some =
      let b = opens_set node.goal s.nodes n node shut_node there in
      let c : ◌≡◌ {A = ℕ} (cond (is_open_of node.goal node) 1 0) 1 = rw (open_of node.goal node refl is_open) refl in
      let d : ◌≡◌ {A = ℕ} (cond (is_open_of node.goal shut_node) 1 0) 0 = refl in
      omega (arith, b, c, d)

  pub later_length : length later ≡ length s.nodes + length left
  later_length = let a = length-append (set s.nodes n shut_node) (map (new_node node.goal) left) in let b = length-map left (new_node node.goal) in omega (arith, a, b, len)
