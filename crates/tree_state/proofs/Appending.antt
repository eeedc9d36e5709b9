-- Nodes that are appended.
use Rattle.std.proofs.Common.{◌≡◌, ◌++◌, ◌∷◌, [], ℕ, List, map, None, refl, sym, ap, ◌∙◌, subst}
use Rattle.std.proofs.lemmas.List.{map-append}
use Rattle.tree_definitions.specs.cert_step.ProofProblem.{problem_of}
use Rattle.tree_definitions.specs.cert_step.declared.problem.Problem.{Problem}
use Rattle.tree_state.specs.declared.node.Node.{Node}
use Rattle.tree_definitions.specs.History.{HistoryEntry}
use Rattle.tree_definitions.specs.States.{TreeNode, new_node}
use Rattle.tree_state.specs.Seen.{node_of, IsDecidedBefore, AreWithin}

within_both : (bound : ℕ) (xs ys : List Node) → AreWithin bound xs → AreWithin bound ys → AreWithin bound (xs ++ ys)
within_both bound [] ys w v = v
within_both bound (x ∷ xs) ys w v = (w.0, within_both bound xs ys w.1 v)

pub append_within : (bound : ℕ) (nodes more : List Node) (x : Node) → more ≡ nodes ++ x ∷ [] → x.decision ≡ None → AreWithin bound nodes → AreWithin bound more
append_within bound nodes more x is is_open w = rw is (within_both bound nodes (x ∷ []) w (subst (IsDecidedBefore bound) (sym is_open) tt, tt))

assoc : {A : Type 0} (xs : List A) (y : A) (ys : List A) → (xs ++ y ∷ []) ++ ys ≡ xs ++ y ∷ ys
assoc [] y ys = refl
assoc (x ∷ xs) y ys = ap (λ zs. x ∷ zs) (assoc xs y ys)

pub seen_more : (h : List HistoryEntry) (nodes more : List Node) (x : Node) (node : TreeNode) → more ≡ nodes ++ x ∷ [] → node_of h x ≡ node
    → map (node_of h) more ≡ map (node_of h) nodes ++ node ∷ []
seen_more h nodes more x node is seen = ap (map (node_of h)) is ∙ map-append (node_of h) nodes (x ∷ []) ∙ ap (λ y. map (node_of h) nodes ++ y ∷ []) seen

pub append_step : (h : List HistoryEntry) (nodes more : List Node) (x : Node) (goal : ℕ) (p : Problem) (rest before : List Problem) (all : List TreeNode)
    → more ≡ nodes ++ x ∷ [] → node_of h x ≡ new_node goal (problem_of p) → before ≡ p ∷ rest
    → map (node_of h) nodes ++ map (new_node goal) (map problem_of before) ≡ all
    → map (node_of h) more ++ map (new_node goal) (map problem_of rest) ≡ all
append_step h nodes more x goal p rest before all is seen was e =
    ap (λ xs. xs ++ map (new_node goal) (map problem_of rest)) (seen_more h nodes more x (new_node goal (problem_of p)) is seen)
    ∙ assoc (map (node_of h) nodes) (new_node goal (problem_of p)) (map (new_node goal) (map problem_of rest))
    ∙ ap (λ ps. map (node_of h) nodes ++ map (new_node goal) (map problem_of ps)) (sym was) ∙ e
