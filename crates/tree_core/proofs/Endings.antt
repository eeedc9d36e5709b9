-- A ticket ends, and its strategy gets another mark: the tree keeps its shape and stays legal.
use Rattle.std.proofs.Common.{◌≡◌, ◌≢◌, inl, inr, ℕ, zero, suc, ◌≤◌, ◌+◌, Bool, true, false, cond, List, [], ◌∷◌, ◌++◌, length, set, Option, Some, slice_get, refl, sym, ap, ◌∙◌, subst, arith}
use Rattle.trs_defs.specs.System.{System}
use Rattle.tree_state.specs.cert_step.ProofProblem.{ProofProblem, IsWellMadeProblem}
use Rattle.tree_state.specs.strategies.declared.failure.Failure.{Failure}
use Rattle.tree_state.specs.strategies.declared.strategy.Strategy.{Strategy}
use Rattle.tree_state.specs.strategies.Kinds.{strategies_for}
use Rattle.tree_state.specs.strategies.Conditions.{Fails}
use Rattle.tree_state.specs.tree_definitions.declared.mark.Mark.{Mark}
use Rattle.tree_state.specs.tree_definitions.declared.mark.Mark.TheVariants.{Running, Failed}
use Rattle.tree_state.specs.tree_definitions.declared.ticket.Ticket.{Ticket}
use Rattle.tree_state.specs.tree_definitions.States.{TreeNode, State, marked}
use Rattle.tree_state.specs.tree_definitions.Events.{ended, without}
use Rattle.tree_state.specs.tree_definitions.Legal.{IsLegal}
use Rattle.tree_core.specs.Invariant.{IsShaped, count_running}
use Rattle.tree_state.proofs.tree_definitions.Lookups.{one_value, set_cases, set_there}
use Rattle.tree_core.proofs.Marking.{same_later, same_before, before, legal_same, child_same, mark_kept, mark_was, shape_marked}

-- what a failure says of its strategy
abbrev pub IsFailure : System → ℕ → TreeNode → ℕ → Failure → Type 0
IsFailure system budget node place failure =
    (strategy : Strategy) × (slice_get (strategies_for node.problem) place ≡ Some strategy) × Fails system budget strategy node.problem failure

pub count_ended : (tickets : List Ticket) (number : ℕ) (t : Ticket) → slice_get tickets number ≡ Some t → t.is_running ≡ true
    → count_running (set tickets number (record t { is_running = false })) + 1 ≡ count_running tickets
count_ended [] number t there runs = absurd cc
count_ended (u ∷ tickets) zero t there runs =
    let same : u ≡ t = cc in
    let one : ◌≡◌ {A = ℕ} (cond u.is_running 1 0) 1 = rw (same, runs) refl in
    omega (arith, one)
count_ended (u ∷ tickets) (suc number) t there runs = omega (arith, count_ended tickets number t there runs)

pub count_le : (tickets : List Ticket) → count_running tickets ≤ length tickets
count_le [] = omega arith
count_le (t ∷ tickets) = let one : cond t.is_running 1 0 ≤ 1 = elim t.is_running as (λ b. cond b 1 0 ≤ 1) [ true ↦ omega arith | false ↦ omega arith ] in omega (arith, one, count_le tickets)

pub count_more : (tickets : List Ticket) (t : Ticket) → t.is_running ≡ true → count_running (tickets ++ t ∷ []) ≡ count_running tickets + 1
count_more [] t runs = let one : ◌≡◌ {A = ℕ} (cond t.is_running 1 0) 1 = rw runs refl in omega (arith, one)
count_more (u ∷ tickets) t runs = omega (arith, count_more tickets t runs)

module _ (goals : ℕ) (system : System) (budget : ℕ) (s : State) (shaped : IsShaped goals s) (legal : IsLegal goals system budget s)
    (number : ℕ) (t : Ticket) (there : slice_get s.tickets number ≡ Some t) (runs : t.is_running ≡ true)
    (node : TreeNode) (made : slice_get s.nodes t.node ≡ Some node) (mark : Mark) where
  -- the strategy's mark says that it runs
  pub was_running : slice_get node.marks t.place ≡ Some Running
  was_running =
      let h = shaped.runs number t there runs in
      subst (λ (x : TreeNode). slice_get x.marks t.place ≡ Some Running) (one_value (slice_get s.nodes t.node) h.node node h.there made) h.mark

  stopped : Ticket
  stopped = record t { is_running = false }

  not_this : (u : Ticket) → u ≡ record t { is_running = false } → u.is_running ≡ true → ⊥
  not_this u e r = let f : u.is_running ≡ false = ap (λ (x : Ticket). x.is_running) e in cc

  module _ (idle : mark ≡ Running → ⊥) where
    pub shape_ended : (winner : Option ℕ) (aborted : Bool) → IsShaped goals (record (ended s number t node mark) { winner = winner; is_aborted = aborted })
    shape_ended winner aborted = shape_marked goals s shaped t.node t.place node mark made Running was_running (without s.tickets number t) winner aborted
        (λ i u here r. elim (set_cases s.tickets number i t (record t { is_running = false }) u there here) [
          | inl w ↦ absurd (not_this u w.1 r)
          | inr w ↦ mark_kept goals s shaped t.node t.place node mark made Running was_running u.node u.place (shaped.runs i u w.1 r)
              (λ a b. w.0 (legal.alone i number u t w.1 there r runs a b))
        ])
        (λ k j h. elim (mark_was goals s shaped t.node t.place node mark made Running was_running k j h) [
          | inl w ↦
              let x = shaped.held k j w.0 in
              let other : x.number ≢ number = λ e.
              let is : x.ticket ≡ t = one_value (slice_get s.tickets number) x.ticket t (subst (λ (i : ℕ). slice_get s.tickets i ≡ Some x.ticket) e x.there) there in
              w.1 (sym x.node_is ∙ ap (λ (y : Ticket). y.node) is) (sym x.place_is ∙ ap (λ (y : Ticket). y.place) is) in
              record { number = x.number; ticket = x.ticket; there = set_there s.tickets number x.number (record t { is_running = false }) x.ticket other x.there; runs = x.runs; node_is = x.node_is; place_is = x.place_is }
          | inr w ↦ absurd (idle w.2)
        ])

    pub legal_ended : (winner : Option ℕ) (aborted : Bool) → ((failure : Failure) → mark ≡ Failed failure → IsFailure system budget node t.place failure)
        → IsLegal goals system budget (record (ended s number t node mark) { winner = winner; is_aborted = aborted })
    legal_ended winner aborted fails =
        let nodes : List TreeNode = set s.nodes t.node (marked node t.place mark) in
        let forth = same_later s.nodes t.node t.place node mark made in
        let back = same_before s.nodes t.node t.place node mark made in
        record {
          decided = λ n y d here dec.
              let b = before s.nodes t.node t.place node mark made n y here in
              legal_same system budget s.nodes nodes forth b.0 y d b.2 (legal.decided n b.0 d b.1 (sym b.2.decision ∙ dec));
          failed = λ n place y failure here f.
              let b = before s.nodes t.node t.place node mark made n y here in
              let old : slice_get b.0.marks place ≡ Some (Failed failure) → IsFailure system budget y place failure =
              λ g. subst (λ (p : ProofProblem). (strategy : Strategy) × (slice_get (strategies_for p) place ≡ Some strategy) × Fails system budget strategy p failure) (sym b.2.problem)
              (legal.failed n place b.0 failure b.1 g) in
              elim b.3 [
                | inl w ↦
                    let here_f = subst (λ (x : TreeNode). slice_get x.marks place ≡ Some (Failed failure)) w.1 f in
                    let is : b.0 ≡ node = one_value (slice_get s.nodes t.node) b.0 node (subst (λ (i : ℕ). slice_get s.nodes i ≡ Some b.0) w.0 b.1) made in
                    elim (set_cases node.marks t.place place Running mark (Failed failure) was_running here_f) [
                      | inl v ↦
                          let fail = fails failure (sym v.1) in
                          let at = subst (λ (j : ℕ). IsFailure system budget node j failure) (sym v.0) fail in
                          subst (λ (x : TreeNode). IsFailure system budget x place failure) (sym w.1) at
                      | inr v ↦ old (subst (λ (x : TreeNode). slice_get x.marks place ≡ Some (Failed failure)) (sym is) v.1)
                    ]
                | inr w ↦ old (subst (λ (x : TreeNode). slice_get x.marks place ≡ Some (Failed failure)) w.1 f)
              ];
          born = λ n y le here.
              let b = before s.nodes t.node t.place node mark made n y here in
              let p = legal.born n b.0 le b.1 in
              let q = forth p.0 p.1.parent p.1.there in
              (p.0, record { parent = q.0; d = p.1.d; there = q.1; decided = q.2.decision ∙ p.1.decided; child = p.1.child }, q.2.goal ∙ (p.2 ∙ sym b.2.goal));
          once = λ n m k a b. legal.once n m k (child_same nodes s.nodes back n m a) (child_same nodes s.nodes back n k b);
          named = λ i u here r. elim (set_cases s.tickets number i t (record t { is_running = false }) u there here) [
            | inl w ↦ absurd (not_this u w.1 r)
            | inr w ↦
                let x = legal.named i u w.1 r in
                let y = forth u.node x.node x.there in
                record { node = y.0; there = y.1; strategy = x.strategy; kind = rw y.2.problem x.kind }
          ];
          alone = λ i j u v a b ru rv same_node same_place. elim (set_cases s.tickets number i t (record t { is_running = false }) u there a) [
            | inl w ↦ absurd (not_this u w.1 ru)
            | inr w ↦ elim (set_cases s.tickets number j t (record t { is_running = false }) v there b) [
              | inl z ↦ absurd (not_this v z.1 rv)
              | inr z ↦ legal.alone i j u v w.1 z.1 ru rv same_node same_place
            ]
          ];
        }

pub well_made_ended : (system : System) (nodes : List TreeNode) (n place : ℕ) (node : TreeNode) (mark : Mark) → slice_get nodes n ≡ Some node
    → ((k : ℕ) (x : TreeNode) → slice_get nodes k ≡ Some x → IsWellMadeProblem system x.problem)
    → (k : ℕ) (y : TreeNode) → slice_get (set nodes n (marked node place mark)) k ≡ Some y → IsWellMadeProblem system y.problem
well_made_ended system nodes n place node mark there well k y here =
    let b = before nodes n place node mark there k y here in
    rw b.2.problem (well k b.0 b.1)
