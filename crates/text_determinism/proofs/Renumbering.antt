-- A tree whose steps are renumbered: what is closed, stuck, won, lost, over and free is as before.
use Rattle.std.proofs.Common.{◌≡◌, inl, inr, ℕ, List, map, Option, Some, None, slice_get, refl, sym, ap, ◌∙◌, subst}
use Rattle.std.specs.Option.{option_map}
use Rattle.conclusion.specs.tree_definitions.States.{TreeNode, State, Decided, IsChild}
use Rattle.conclusion.specs.tree_definitions.Verdicts.{IsClosed, closed, IsStuck, IsLost, HasVerdict, IsDone, IsFirstWinner}
use Rattle.conclusion.specs.tree_definitions.Events.{IsFree, IsOver, decided, lost, done}
use Rattle.conclusion.proofs.tree_definitions.Lookups.{map_cases}
use Rattle.text_determinism.specs.AnswerLaws.{renumbered}
use Rattle.trs_defs.proofs.ListItems.{image_item}

abbrev pub renumbered_decided : Decided → Decided
renumbered_decided d = record { step = renumbered d.step; first = d.first; count = d.count }

abbrev pub renumbered_decision : Option Decided → Option Decided
renumbered_decision d = option_map renumbered_decided d

abbrev pub renumbered_node : TreeNode → TreeNode
renumbered_node node = record { goal = node.goal; problem = node.problem; decision = renumbered_decision node.decision; marks = node.marks }

abbrev pub renumbered_nodes : List TreeNode → List TreeNode
renumbered_nodes nodes = map renumbered_node nodes

abbrev pub renumbered_state : State → State
renumbered_state s = record { nodes = renumbered_nodes s.nodes; tickets = s.tickets; winner = s.winner; is_aborted = s.is_aborted }

-- ---- decisions

pub none_before : (o : Option Decided) → renumbered_decision o ≡ None → o ≡ None
none_before None e = refl
none_before (Some d) e = absurd cc

pub some_before : (o : Option Decided) (d : Decided) → renumbered_decision o ≡ Some d → (c : Decided) × (o ≡ Some c) × (d ≡ renumbered_decided c)
some_before None d e = absurd cc
some_before (Some c) d e = (c, refl, cc)

module _ (nodes : List TreeNode) where
  pub there_again : (n : ℕ) (node : TreeNode) → slice_get nodes n ≡ Some node → slice_get (renumbered_nodes nodes) n ≡ Some (renumbered_node node)
  there_again n node there = image_item renumbered_node nodes n node there

  pub there_before : (n : ℕ) (node : TreeNode) → slice_get (renumbered_nodes nodes) n ≡ Some node
      → (x : TreeNode) × (slice_get nodes n ≡ Some x) × (node ≡ renumbered_node x)
  there_before n node there = map_cases renumbered_node nodes n node there

  -- ---- closed nodes

  pub closed_again : (n : ℕ) → IsClosed nodes n → IsClosed (renumbered_nodes nodes) n
  closed_again _ (closed n node d there dec kids) =
      closed n (renumbered_node node) (renumbered_decided d) (there_again n node there) (ap renumbered_decision dec)
      (λ c child. closed_again c (kids c child))

  pub closed_before : (n : ℕ) → IsClosed (renumbered_nodes nodes) n → IsClosed nodes n
  closed_before _ (closed n node d there dec kids) =
      let x = there_before n node there in
      let c = some_before x.0.decision d (sym (ap (λ (y : TreeNode). y.decision) x.2) ∙ dec) in
      closed n x.0 c.0 x.1 c.1 (λ k child. closed_before k (kids k (subst (λ (z : Decided). IsChild z k) (sym c.2) child)))

-- ---- stuck nodes, and goals that are lost

pub stuck_again : (node : TreeNode) → IsStuck node → IsStuck (renumbered_node node)
stuck_again node s = record { is_open = ap renumbered_decision s.is_open; failed = s.failed }

pub stuck_before : (node : TreeNode) → IsStuck (renumbered_node node) → IsStuck node
stuck_before node s = record { is_open = none_before node.decision s.is_open; failed = s.failed }

pub lost_again : (nodes : List TreeNode) (g : ℕ) → IsLost nodes g → IsLost (renumbered_nodes nodes) g
lost_again nodes g l = record {
  n = l.n;
  node = renumbered_node l.node;
  there = there_again nodes l.n l.node l.there;
  goal = l.goal;
  stuck = stuck_again l.node l.stuck;
}

pub lost_before : (nodes : List TreeNode) (g : ℕ) → IsLost (renumbered_nodes nodes) g → IsLost nodes g
lost_before nodes g l =
    let x = there_before nodes l.n l.node l.there in
    let goal = sym (ap (λ (y : TreeNode). y.goal) x.2) ∙ l.goal in
    record { n = l.n; node = x.0; there = x.1; goal = goal; stuck = stuck_before x.0 (subst IsStuck x.2 l.stuck) }

-- ---- verdicts

module _ (goals : ℕ) (s : State) where
  pub verdict_again : HasVerdict goals s → HasVerdict goals (renumbered_state s)
  verdict_again (inl w) = inl w
  verdict_again (inr all) = inr (λ g lt. lost_again s.nodes g (all g lt))

  pub verdict_before : HasVerdict goals (renumbered_state s) → HasVerdict goals s
  verdict_before (inl w) = inl w
  verdict_before (inr all) = inr (λ g lt. lost_before s.nodes g (all g lt))

  pub done_again : IsDone goals s → IsDone goals (renumbered_state s)
  done_again (inl v) = inl (verdict_again v)
  done_again (inr a) = inr a

  pub done_before : IsDone goals (renumbered_state s) → IsDone goals s
  done_before (inl v) = inl (verdict_before v)
  done_before (inr a) = inr a

  pub over_again : (node : TreeNode) → IsOver goals s node → IsOver goals (renumbered_state s) (renumbered_node node)
  over_again node (decided d e) = decided (renumbered_decided d) (ap renumbered_decision e)
  over_again node (lost l) = lost (lost_again s.nodes node.goal l)
  over_again node (done d) = done (done_again d)

  pub over_before : (node : TreeNode) → IsOver goals (renumbered_state s) (renumbered_node node) → IsOver goals s node
  over_before node (decided d e) = let c = some_before node.decision d e in decided c.0 c.1
  over_before node (lost l) = lost (lost_before s.nodes node.goal l)
  over_before node (done d) = done (done_before d)

pub first_again : (goals : ℕ) (nodes : List TreeNode) (winner : Option ℕ) → IsFirstWinner goals nodes winner
    → IsFirstWinner goals (renumbered_nodes nodes) winner
first_again goals nodes (Some g) w = (w.0, closed_again nodes g w.1)
first_again goals nodes None none = λ g lt won. none g lt (closed_before nodes g won)

-- ---- strategies that can be claimed

pub free_again : (s : State) (n place : ℕ) (node : TreeNode) → IsFree s n place node → IsFree (renumbered_state s) n place (renumbered_node node)
free_again s n place node f = record {
  there = there_again s.nodes n node f.there;
  is_open = ap renumbered_decision f.is_open;
  not_won = λ w. f.not_won (closed_before s.nodes node.goal w);
  not_lost = λ l. f.not_lost (lost_before s.nodes node.goal l);
  idle = f.idle;
  first = f.first;
}

pub free_before : (s : State) (n place : ℕ) (node : TreeNode) → slice_get s.nodes n ≡ Some node
    → IsFree (renumbered_state s) n place (renumbered_node node)
    → IsFree s n place node
free_before s n place node there f = record {
  there = there;
  is_open = none_before node.decision f.is_open;
  not_won = λ w. f.not_won (closed_again s.nodes node.goal w);
  not_lost = λ l. f.not_lost (lost_again s.nodes node.goal l);
  idle = f.idle;
  first = f.first;
}

pub some_free_before : (s : State) (n place : ℕ) (node : TreeNode) → IsFree (renumbered_state s) n place node → (x : TreeNode) × IsFree s n place x
some_free_before s n place node f =
    let x = there_before s.nodes n node f.there in
    (x.0, free_before s n place x.0 x.1 (subst (IsFree (renumbered_state s) n place) x.2 f))
