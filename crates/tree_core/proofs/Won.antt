-- A goal is won exactly where none of its nodes is open.
use Rattle.std.proofs.Common.{◌≡◌, ◌≢◌, ◌⊎◌, inl, inr, ℕ, zero, suc, ◌<◌, ◌≤◌, ◌+◌, ◌&&◌, Bool, true, false, cond, eqb, eq-eqb, ne_eqb, List, [], ◌∷◌, length, Option, Some, None, slice_get, refl, sym, ◌∙◌, subst, arith}
use Rattle.std.specs.Option.{is_none}
use Rattle.std.proofs.lemmas.Option.{slice_get_within}
use native.Mathlib.Decide.{ℕ_discrete, dec_le}
use mathlib.Core.Logic.{dite}
use Rattle.tree_state.specs.tree_definitions.States.{TreeNode, State, Decided, IsChild}
use Rattle.tree_state.specs.tree_definitions.Verdicts.{IsClosed, closed, IsWon}
use Rattle.tree_state.specs.tree_definitions.Legal.{IsChildOf}
use Rattle.tree_core.specs.Invariant.{IsShaped, opens}
use Rattle.tree_state.proofs.tree_definitions.Lookups.{one_value}

-- the node is of the goal and open
abbrev pub is_open_of : ℕ → TreeNode → Bool
is_open_of g n = is_none n.decision && eqb n.goal g

none_is : (o : Option Decided) → o ≡ None → is_none o ≡ true
none_is None e = refl
none_is (Some d) e = absurd cc

some_is : (o : Option Decided) (d : Decided) → o ≡ Some d → is_none o ≡ false
some_is None d e = absurd cc
some_is (Some x) d e = refl

pub decided_or_open : (o : Option Decided) → ((d : Decided) × (o ≡ Some d)) ⊎ (o ≡ None)
decided_or_open None = inr refl
decided_or_open (Some d) = inl (d, refl)

pub open_of : (g : ℕ) (n : TreeNode) → n.goal ≡ g → n.decision ≡ None → is_open_of g n ≡ true
open_of g n goal none = rw (none_is n.decision none, eq-eqb n.goal g goal) refl

pub not_open_of : (g : ℕ) (n : TreeNode) (d : Decided) → n.decision ≡ Some d → is_open_of g n ≡ false
not_open_of g n d some = rw (some_is n.decision d some) refl

pub other_of : (g : ℕ) (n : TreeNode) → n.goal ≢ g → is_open_of g n ≡ false
other_of g n other = rw (ne_eqb n.goal g other) (elim (is_none n.decision) as (λ b. (b && false) ≡ false) [ true ↦ refl | false ↦ refl ])

-- no node of the goal is open where their number is 0
pub none_open : (g : ℕ) (nodes : List TreeNode) → opens g nodes ≡ 0 → (n : ℕ) (node : TreeNode) → slice_get nodes n ≡ Some node → is_open_of g node ≡ true → ⊥
none_open g [] e n node there is = absurd cc
none_open g (x ∷ nodes) e zero node there is =
    let same : x ≡ node = cc in
    let x_is : is_open_of g x ≡ true = rw same is in
    let one : ◌≡◌ {A = ℕ} (cond (is_open_of g x) 1 0) 1 = rw x_is refl in
    omega (arith, e, one)
none_open g (x ∷ nodes) e (suc n) node there is = none_open g nodes (omega (arith, e)) n node there is

pub all_decided : (g : ℕ) (nodes : List TreeNode) → ((n : ℕ) (node : TreeNode) → slice_get nodes n ≡ Some node → is_open_of g node ≡ true → ⊥) → opens g nodes ≡ 0
all_decided g [] h = refl
all_decided g (x ∷ nodes) h =
    let rest = all_decided g nodes (λ n node there is. h (suc n) node there is) in
    go (is_open_of g x) refl rest
  where
    go : (b : Bool) → is_open_of g x ≡ b → opens g nodes ≡ 0 → cond (is_open_of g x) 1 0 + opens g nodes ≡ 0
    go true is rest = absurd (h 0 x refl is)
    go false is rest = rw is (omega (arith, rest))

pub closed_decided : (nodes : List TreeNode) (n : ℕ) → IsClosed nodes n → (node : TreeNode) → slice_get nodes n ≡ Some node → (d : Decided) × (node.decision ≡ Some d)
closed_decided nodes _ (closed n x d there dec children) node here =
    let same = one_value (slice_get nodes n) x node there here in
    (d, subst (λ (y : TreeNode). y.decision ≡ Some d) same dec)

pub closed_child : (nodes : List TreeNode) (n : ℕ) → IsClosed nodes n → (node : TreeNode) (d : Decided) → slice_get nodes n ≡ Some node → node.decision ≡ Some d
    → (c : ℕ) → IsChild d c → IsClosed nodes c
closed_child nodes _ (closed n x e there dec children) node d here is c child =
    let same = one_value (slice_get nodes n) x node there here in
    let dec_node : node.decision ≡ Some e = subst (λ (y : TreeNode). y.decision ≡ Some e) same dec in
    let ed : d ≡ e = one_value node.decision d e is dec_node in
    children c (subst (λ (z : Decided). IsChild z c) ed child)

module _ (goals : ℕ) (s : State) (shaped : IsShaped goals s)
    (born : (n : ℕ) (node : TreeNode) → goals ≤ n → slice_get s.nodes n ≡ Some node → (m : ℕ) × (c : IsChildOf s.nodes n m) × (c.parent.goal ≡ node.goal)) where
  -- each node of a won goal is closed
  all_closed : (g : ℕ) → IsWon s.nodes g → (fuel n : ℕ) (node : TreeNode) → n < fuel → slice_get s.nodes n ≡ Some node → node.goal ≡ g → IsClosed s.nodes n
  all_closed g won zero n node lt there goal = absurd (omega (arith, lt))
  all_closed g won (suc fuel) n node lt there goal = dite (dec_le goals n)
      (λ le.
      let b = born n node le there in
      let after = shaped.later b.0 b.1.parent b.1.d b.1.there b.1.decided n b.1.child in
      let parent = all_closed g won fuel b.0 b.1.parent (omega (arith, after.0, lt)) b.1.there (b.2 ∙ goal) in
      closed_child s.nodes b.0 parent b.1.parent b.1.d b.1.there b.1.decided n b.1.child)
      (λ small.
      let root = shaped.root n (omega (arith, small)) in
      let same = one_value (slice_get s.nodes n) root.node node root.there there in
      let at : node.goal ≡ n = subst (λ (y : TreeNode). y.goal ≡ n) same root.goal_is in
      let n_is : g ≡ n = sym goal ∙ at in
      subst (IsClosed s.nodes) n_is won)

  pub won_none_open : (g : ℕ) → IsWon s.nodes g → opens g s.nodes ≡ 0
  won_none_open g won = all_decided g s.nodes (λ n node there is. go n node there is)
    where
      go : (n : ℕ) (node : TreeNode) → slice_get s.nodes n ≡ Some node → is_open_of g node ≡ true → ⊥
      go n node there is = dite (ℕ_discrete node.goal g)
          (λ goal.
          let c = all_closed g won (n + 1) n node (omega arith) there goal in
          let d = closed_decided s.nodes n c node there in
          let shut = not_open_of g node d.0 d.1 in cc)
          (λ other. let no = other_of g node (λ e. other e) in cc)

  -- each node of a goal without open nodes is closed
  closes : (g : ℕ) → opens g s.nodes ≡ 0 → (fuel n : ℕ) (node : TreeNode) → length s.nodes ≤ n + fuel → slice_get s.nodes n ≡ Some node → node.goal ≡ g → IsClosed s.nodes n
  closes g none zero n node le there goal = let lt = slice_get_within s.nodes n node there in absurd (omega (arith, le, lt))
  closes g none (suc fuel) n node le there goal =
      elim (decided_or_open node.decision) [
        | inl w ↦ closed n node w.0 there w.1 (λ c child.
            let after = shaped.later n node w.0 there w.1 c child in
            closes g none fuel c after.1.node (omega (arith, le, after.0)) after.1.there (after.1.goal_is ∙ goal))
        | inr w ↦ absurd (none_open g s.nodes none n node there (open_of g node goal w))
      ]

  pub none_open_won : (g : ℕ) → g < goals → opens g s.nodes ≡ 0 → IsWon s.nodes g
  none_open_won g lt none =
      let root = shaped.root g lt in
      closes g none (length s.nodes) g root.node (omega arith) root.there root.goal_is
