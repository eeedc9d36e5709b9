-- The roots of a tree, made one after another.
use Rattle.std.proofs.Common.{◌≡◌, ℕ, suc, ◌+◌, ◌<◌, ◌≤◌, false, List, [], ◌∷◌, ◌++◌, length, map, take, get_or, refl, sym, ap, ◌∙◌, arith}
use Rattle.std.proofs.lemmas.List.{length-map, map-append, take_all}
use Rattle.std.proofs.Math.Seq.{take-suc}
use Rattle.tree_definitions.specs.cert_step.ProofProblem.{ProofProblem}
use Rattle.tree_definitions.specs.declared.goal.Goal.{Goal}
use Rattle.tree_definitions.specs.declared.question.Question.{Question}
use Rattle.tree_definitions.specs.Goals.{goal_root}
use Rattle.tree_definitions.specs.Questions.{goals_for, roots}
use Rattle.tree_definitions.specs.States.{TreeNode, new_node, roots_from}
use Rattle.tree_definitions.proofs.Lookups.{length_take}
use Rattle.tree_definitions.proofs.Roots.{few_goals}
use Rattle.tree_state.specs.declared.goal_state.GoalState.{GoalState}
use Rattle.tree_state.specs.Parts.{fresh_goals}

-- the roots of the first goals
abbrev pub first_roots : List Goal → ℕ → List ProofProblem
first_roots goals i = map goal_root (take i goals)

pub one_root_more : (goals : List Goal) (i : ℕ) (d : Goal) → i < length goals
    → first_roots goals (i + 1) ≡ first_roots goals i ++ goal_root (get_or goals i d) ∷ []
one_root_more goals i d low =
    let e : i + 1 ≡ suc i = omega arith in
    ap (first_roots goals) e ∙ ap (map goal_root) (take-suc goals i d low) ∙ map-append goal_root (take i goals) (get_or goals i d ∷ [])

pub length_fresh : (ps : List ProofProblem) → length (fresh_goals ps) ≡ length ps
length_fresh [] = refl
length_fresh (p ∷ ps) = ap suc (length_fresh ps)

fresh_more : (ps : List ProofProblem) (p : ProofProblem) → fresh_goals (ps ++ p ∷ []) ≡ fresh_goals ps ++ record { open_nodes = 1; is_lost = false } ∷ []
fresh_more [] p = refl
fresh_more (q ∷ ps) p = ap (λ gs. record { open_nodes = 1; is_lost = false } ∷ gs) (fresh_more ps p)

roots_more : (h k : ℕ) (ps : List ProofProblem) (p : ProofProblem) → k ≡ h + length ps → roots_from h (ps ++ p ∷ []) ≡ roots_from h ps ++ new_node k p ∷ []
roots_more h k [] p e = let same : h ≡ k = omega (arith, e) in ap (λ n. new_node n p ∷ []) same
roots_more h k (q ∷ ps) p e = ap (λ ns. new_node h q ∷ ns) (roots_more (h + 1) k ps p (omega (arith, e)))

-- where so many goals have their roots, they are numbered from 0
pub few_roots : (question : Question) (goals : List Goal) (i : ℕ) (states : List GoalState) → goals ≡ goals_for question
    → states ≡ fresh_goals (first_roots goals i) → length states ≤ 3
few_roots question goals i states all so_far =
    let a = ap length so_far ∙ length_fresh (first_roots goals i) in
    let b = length-map (take i goals) goal_root in
    let c = length_take i goals in
    let d = ap length all in
    let e = few_goals question in
    omega (arith, a, b, c, d, e)

pub goals_next : (goals : List Goal) (i : ℕ) (d : Goal) (old new : List GoalState) → i < length goals
    → old ≡ fresh_goals (first_roots goals i) → new ≡ old ++ record { open_nodes = 1; is_lost = false } ∷ [] → new ≡ fresh_goals (first_roots goals (i + 1))
goals_next goals i d old new low so_far more =
    more ∙ ap (λ gs. gs ++ record { open_nodes = 1; is_lost = false } ∷ []) so_far ∙ sym (fresh_more (first_roots goals i) (goal_root (get_or goals i d)))
    ∙ ap fresh_goals (sym (one_root_more goals i d low))

pub roots_next : (goals : List Goal) (i : ℕ) (d : Goal) (states : List GoalState) (old new : List TreeNode) → i < length goals
    → states ≡ fresh_goals (first_roots goals i) → old ≡ roots_from 0 (first_roots goals i) → new ≡ old ++ new_node (length states) (goal_root (get_or goals i d)) ∷ []
    → new ≡ roots_from 0 (first_roots goals (i + 1))
roots_next goals i d states old new low so_far before more =
    let k : length states ≡ 0 + length (first_roots goals i) = let a = ap length so_far ∙ length_fresh (first_roots goals i) in omega (arith, a) in
    more ∙ ap (λ ns. ns ++ new_node (length states) (goal_root (get_or goals i d)) ∷ []) before ∙ sym (roots_more 0 (length states) (first_roots goals i) (goal_root (get_or goals i d)) k)
    ∙ ap (roots_from 0) (sym (one_root_more goals i d low))

-- behind the last goal
pub all_roots : (question : Question) (goals : List Goal) (i : ℕ) → goals ≡ goals_for question → length goals ≤ i → first_roots goals i ≡ roots question
all_roots question goals i all behind = ap (map goal_root) (take_all i goals behind ∙ all)
