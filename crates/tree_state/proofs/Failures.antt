-- What is reported of stuck nodes.
use Rattle.std.proofs.Common.{◌≡◌, ℕ, zero, suc, ◌+◌, ◌<◌, Bool, false, not, List, [], ◌∷◌, ◌++◌, map, take, length, cond, position, Option, Some, None, slice_get, get_or, refl, sym, ap, ◌∙◌}
use Rattle.std.specs.Prelude.{Vec, Result, Ok, Err, IfOk}
use Rattle.std.specs.declared.alloc.Global.{Global}
use Rattle.std.specs.List.{position_from}
use Rattle.std.proofs.lemmas.Option.{slice_get-map, slice_get-get_or}
use Rattle.std.specs.Option.{option_map, is_none, is_some}
use Rattle.std.proofs.lemmas.Iterator.Adapters.{position_from-zero}
use Rattle.tree_definitions.specs.cert_step.ProofProblem.{problem_of}
use Rattle.tree_definitions.specs.strategies.declared.strategy.Strategy.{Strategy}
use Rattle.tree_definitions.specs.strategies.Kinds.{strategies_for}
use Rattle.tree_definitions.specs.declared.mark.Mark.{Mark}
use Rattle.tree_definitions.specs.History.{HistoryEntry}
use Rattle.tree_definitions.specs.States.{TreeNode}
use Rattle.tree_state.specs.declared.node.Node.{Node}
use Rattle.tree_state.specs.declared.node.Decision.{Decision}
use Rattle.tree_state.specs.Seen.{node_of, decided_of}
use Rattle.tree_state.specs.Stuck.{is_stuck, is_stuck_at, is_spent, failures}
use Rattle.tree_state.proofs.SeenNodes.{seen_at}
use Rattle.trs_defs.proofs.ListItems.{image_item}

position_from_same : {A : Type 0} (p q : A → Bool) → ((x : A) → p x ≡ q x) → (i : ℕ) (xs : List A) → position_from p i xs ≡ position_from q i xs
position_from_same p q e i [] = refl
position_from_same p q e i (x ∷ xs) =
    ap (λ b. cond b (Some i) (position_from p (i + 1) xs)) (e x) ∙ ap (λ o. cond (q x) (Some i) o) (position_from_same p q e (i + 1) xs)

pub position_same : {A : Type 0} (p q : A → Bool) → ((x : A) → p x ≡ q x) → (xs : List A) → position p xs ≡ position q xs
position_same p q e xs = position_from-zero p xs ∙ position_from_same p q e 0 xs ∙ sym (position_from-zero q xs)

none_alike : (a b : List HistoryEntry) (d : Option Decision) → is_none (option_map (decided_of a) d) ≡ is_none (option_map (decided_of b) d)
none_alike a b None = refl
none_alike a b (Some d) = refl

-- whether a node is stuck does not depend on the steps of decided nodes
pub stuck_alike : (a b : List HistoryEntry) (nodes : List Node) (n : ℕ) → is_stuck_at (map (node_of a) nodes) n ≡ is_stuck_at (map (node_of b) nodes) n
stuck_alike a b [] n = refl
stuck_alike a b (x ∷ nodes) zero = rw (none_alike a b x.decision) refl
stuck_alike a b (x ∷ nodes) (suc n) = stuck_alike a b nodes n

pub failures_next : (strategies : List Strategy) (marks : List Mark) (i : ℕ) (s : Strategy) (m : Mark) → slice_get strategies i ≡ Some s → slice_get marks i ≡ Some m
    → failures (take (suc i) strategies) marks ≡ failures (take i strategies) marks ++ (s, is_spent m) ∷ []
failures_next [] marks i s m a b = absurd cc
failures_next (x ∷ strategies) [] i s m a b = absurd cc
failures_next (x ∷ strategies) (y ∷ marks) zero s m a b = let e : x ≡ s = cc in let f : y ≡ m = cc in rw (e, f) refl
failures_next (x ∷ strategies) (y ∷ marks) (suc i) s m a b = ap (λ fs. (x, is_spent y) ∷ fs) (failures_next strategies marks i s m a b)

pub stuck_there : (nodes : List Node) (n : ℕ) (x : Node) → slice_get nodes n ≡ Some x → is_stuck_at (map (node_of []) nodes) n ≡ is_stuck (Some (node_of [] x))
stuck_there nodes n x there = ap is_stuck (image_item (node_of []) nodes n x there)

pub no_stuck_there : (nodes : List Node) (n : ℕ) → slice_get nodes n ≡ None → is_stuck_at (map (node_of []) nodes) n ≡ false
no_stuck_there nodes n none = ap is_stuck (slice_get-map (node_of []) nodes n ∙ ap (option_map (node_of [])) none)

pub is_none_map : {A B : Type 0} (f : A → B) (o : Option A) → is_none (option_map f o) ≡ is_none o
is_none_map f None = refl
is_none_map f (Some x) = refl

-- what is reported of the node that is read
pub failures_seen : {E : Type 0} (r : Result (Vec (Strategy × Bool) Global) E) (h : List HistoryEntry) (nodes : List Node) (n : ℕ) (x : Node) → x ≡ get_or nodes n x
    → IfOk r (λ failed. failed.items ≡ failures (strategies_for (problem_of x.problem)) (node_of [] x).marks)
    → IfOk r (λ failed. (node : TreeNode) → slice_get (map (node_of h) nodes) n ≡ Some node → failed.items ≡ failures (strategies_for node.problem) node.marks)
failures_seen (Ok failed) h nodes n x is e = λ node there. e ∙ ap (λ (y : TreeNode). failures (strategies_for y.problem) y.marks) (seen_at h nodes n x node is there)
failures_seen (Err fault) h nodes n x is e = tt

pub not_some : {A : Type 0} (o : Option A) → not (is_some o) ≡ is_none o
not_some None = refl
not_some (Some x) = refl

-- a node that is read
pub read_there : (nodes : List Node) (n : ℕ) (x : Node) → n < length nodes → x ≡ get_or nodes n x → slice_get nodes n ≡ Some x
read_there nodes n x lt e = slice_get-get_or nodes n x lt ∙ ap (λ y. Some y) (sym e)
