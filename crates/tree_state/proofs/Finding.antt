-- The search for the first node with a strategy that can be claimed.
use Rattle.std.proofs.Common.{◌≡◌, ◌<◌, ◌≤◌, ◌+◌, ◌==◌, ℕ, Bool, false, true, Option, None, Some, List, map, length, slice_get, get_or, refl, sym, ap, ◌∙◌, arith, subst}
use Rattle.std.specs.Option.{is_some, MatchOption, option_map}
use Rattle.std.proofs.lemmas.Bool.{eqb-true, eqb-false}
use Rattle.std.proofs.lemmas.Option.{slice_get-map, slice_get-get_or}
use Rattle.tree_state.specs.declared.goal_state.GoalState.{GoalState}
use Rattle.tree_state.specs.declared.node.Node.{Node}
use Rattle.tree_definitions.specs.History.{HistoryEntry}
use Rattle.tree_definitions.specs.States.{TreeNode}
use Rattle.tree_definitions.proofs.Lookups.{not_some}
use Rattle.tree_state.specs.Seen.{node_of}
use Rattle.tree_state.specs.Parts.{free_place}
use Rattle.tree_state.proofs.SeenNodes.{seen_at}

there_at : (h : List HistoryEntry) (nodes : List Node) (k : ℕ) (x : Node) → k < length nodes → x ≡ get_or nodes k x → slice_get (map (node_of h) nodes) k ≡ Some (node_of h x)
there_at h nodes k x lt is =
    slice_get-map (node_of h) nodes k ∙ ap (λ o. option_map (node_of h) o) (slice_get-get_or nodes k x lt ∙ ap (λ y. Some y) (sym is))

pub found_there : (goals : List GoalState) (nodes : List Node) (k : ℕ) (x : Node) (place : Option ℕ) → k < length nodes → x ≡ get_or nodes k x
    → ((h : List HistoryEntry) → place ≡ free_place goals (node_of h x)) → is_some place ≡ true
    → MatchOption place (length nodes ≤ k) (λ p. (h : List HistoryEntry) → (node : TreeNode) × (slice_get (map (node_of h) nodes) k ≡ Some node) × (free_place goals node ≡ Some p))
found_there goals nodes k x None lt is free some = absurd cc
found_there goals nodes k x (Some p) lt is free some = λ h. (node_of h x, there_at h nodes k x lt is, sym (free h))

pub none_there : (goals : List GoalState) (nodes : List Node) (k : ℕ) (x : Node) (place : Option ℕ) → x ≡ get_or nodes k x
    → ((h : List HistoryEntry) → place ≡ free_place goals (node_of h x)) → is_some place ≡ false
    → (h : List HistoryEntry) (j : ℕ) (node : TreeNode) → j < k + 1 → slice_get (map (node_of h) nodes) j ≡ Some node
    → (j < k → slice_get (map (node_of h) nodes) j ≡ Some node → free_place goals node ≡ None) → free_place goals node ≡ None
none_there goals nodes k x place is free none h j node below there before = go (j == k) refl
  where
    go : (b : Bool) → (j == k) ≡ b → free_place goals node ≡ None
    go true e =
        let at : j ≡ k = eqb-true j k e in
        let here : slice_get (map (node_of h) nodes) k ≡ Some node = rw (← at) there in
        let same = seen_at h nodes k x node is here in
        subst (λ (y : TreeNode). free_place goals y ≡ None) same (sym (free h) ∙ not_some place none)
    go false e = let ne = eqb-false j k e in before (omega (arith, below, ne)) there

pub match_option : {A : Type 0} {P P' : Type 0} {Q Q' : A → Type 0} (o : Option A) → (P → P') → ((x : A) → Q x → Q' x) → MatchOption o P Q → MatchOption o P' Q'
match_option None f g h = f h
match_option (Some x) f g h = g x h
