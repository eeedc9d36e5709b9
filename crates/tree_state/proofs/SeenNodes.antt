-- Lists of nodes, as the code has them.
use Rattle.std.proofs.Common.{◌≡◌, ◌≢◌, ℕ, zero, suc, ◌<◌, ◌≤◌, List, [], ◌∷◌, ◌++◌, map, take, length, Option, Some, None, slice_get, get_or, set, refl, ap, ◌∙◌, arith, subst}
use Rattle.std.specs.Option.{option_map, is_some}
use Rattle.std.proofs.lemmas.List.{map-set, map-append, length-map}
use Rattle.std.proofs.lemmas.Option.{slice_get_within}
use Rattle.tree_definitions.specs.cert_step.ProofProblem as problem
use Rattle.tree_definitions.specs.cert_step.ProofProblem.{ProofProblem, problem_of}
use Rattle.tree_definitions.specs.strategies.declared.strategy.TheConstants.{MOST_STRATEGIES}
use Rattle.tree_definitions.specs.strategies.Kinds.{strategies_for}
use Rattle.tree_state.specs.declared.node.Node.{Node}
use Rattle.tree_definitions.specs.declared.mark.Mark.{Mark}
use Rattle.tree_state.specs.declared.node.Decision.{Decision}
use Rattle.tree_definitions.specs.History.{HistoryEntry}
use Rattle.tree_definitions.specs.States.{TreeNode, Decided, State}
use Rattle.tree_state.specs.Parts.{Parts}
use Rattle.tree_definitions.proofs.Lookups.{get_kept, take_set, length_take_le}
use Rattle.tree_state.specs.declared.entry.Entry.{Entry as OwnedEntry}
use Rattle.tree_state.specs.Seen.{entry_of, node_of, decided_of, step_in, IsDecidedBefore, AreWithin}

-- entries that come later do not change the step of a decision
decision_kept : (h more : List HistoryEntry) (d : Option Decision) → IsDecidedBefore (length h) d
    → option_map (decided_of (h ++ more)) d ≡ option_map (decided_of h) d
decision_kept h more None w = refl
decision_kept h more (Some d) w =
    ap (λ e. Some (record { step = step_in e; first = d.first; count = d.count })) (get_kept h more d.entry w)

pub node_kept : (h more : List HistoryEntry) (n : Node) → IsDecidedBefore (length h) n.decision → node_of (h ++ more) n ≡ node_of h n
node_kept h more n w = ap (λ (d : Option Decided). record (node_of h n) { decision = d }) (decision_kept h more n.decision w)

pub nodes_kept : (h more : List HistoryEntry) (nodes : List Node) → AreWithin (length h) nodes → map (node_of (h ++ more)) nodes ≡ map (node_of h) nodes
nodes_kept h more [] w = refl
nodes_kept h more (n ∷ nodes) w = cc (node_kept h more n w.0, nodes_kept h more nodes w.1)

-- the node at a number, as it is seen
pub seen_at : (h : List HistoryEntry) (nodes : List Node) (n : ℕ) (x : Node) (node : TreeNode) → x ≡ get_or nodes n x
    → slice_get (map (node_of h) nodes) n ≡ Some node → node_of h x ≡ node
seen_at h [] n x node is there = absurd cc
seen_at h (y ∷ nodes) zero x node is there = cc
seen_at h (y ∷ nodes) (suc n) x node is there = seen_at h nodes n x node is there

pub within_set : (bound : ℕ) (nodes : List Node) (n : ℕ) (x : Node) → AreWithin bound nodes → IsDecidedBefore bound x.decision → AreWithin bound (set nodes n x)
within_set bound [] n x w v = tt
within_set bound (y ∷ nodes) zero x w v = (v, w.1)
within_set bound (y ∷ nodes) (suc n) x w v = (w.0, within_set bound nodes n x w.1 v)

pub within_at : (bound : ℕ) (nodes : List Node) (n : ℕ) (x : Node) → n < length nodes → x ≡ get_or nodes n x → AreWithin bound nodes → IsDecidedBefore bound x.decision
within_at bound [] n x lt is w = absurd (omega (arith, lt))
within_at bound (y ∷ nodes) zero x lt is w = rw is w.0
within_at bound (y ∷ nodes) (suc n) x lt is w = within_at bound nodes n x (omega (arith, lt)) is w.1

-- a node whose mark is written
pub set_marked : (h : List HistoryEntry) (nodes : List Node) (n place : ℕ) (x : Node) (node : TreeNode) (mark : Mark) → x ≡ get_or nodes n x
    → slice_get (map (node_of h) nodes) n ≡ Some node
    → map (node_of h) (set nodes n (record x { marks = set x.marks place mark })) ≡ set (map (node_of h) nodes) n (record node { marks = set node.marks place mark })
set_marked h nodes n place x node mark is there =
    let same = seen_at h nodes n x node is there in
    let marks = take_set (length (strategies_for (problem_of x.problem))) x.marks place mark in
    let new : node_of h (record x { marks = set x.marks place mark }) ≡ record node { marks = set node.marks place mark } =
    ap (λ ms. record (node_of h x) { marks = ms }) marks ∙ ap (λ (y : TreeNode). record y { marks = set y.marks place mark }) same in
    map-set (node_of h) nodes n (record x { marks = set x.marks place mark }) ∙ ap (λ y. set (map (node_of h) nodes) n y) new

-- a node that is decided
pub set_decided : (h : List HistoryEntry) (nodes : List Node) (n : ℕ) (x : Node) (node : TreeNode) (d : Decision) → x ≡ get_or nodes n x
    → slice_get (map (node_of h) nodes) n ≡ Some node
    → map (node_of h) (set nodes n (record x { decision = Some d })) ≡ set (map (node_of h) nodes) n (record node { decision = Some (decided_of h d) })
set_decided h nodes n x node d is there =
    let same = seen_at h nodes n x node is there in
    let new : node_of h (record x { decision = Some d }) ≡ record node { decision = Some (decided_of h d) } =
    ap (λ (y : TreeNode). record y { decision = Some (decided_of h d) }) same in
    map-set (node_of h) nodes n (record x { decision = Some d }) ∙ ap (λ y. set (map (node_of h) nodes) n y) new

few_strategies : (p : ProofProblem) → length (strategies_for p) ≤ MOST_STRATEGIES
few_strategies problem.sn = omega arith
few_strategies (problem.dp pairs) = omega arith
few_strategies problem.loop = omega arith
few_strategies problem.cr = omega arith
few_strategies problem.cr_newman = omega arith
few_strategies problem.fork = omega arith
few_strategies problem.unr = omega arith
few_strategies problem.unr_newman = omega arith
few_strategies problem.split = omega arith

few_marks : (h : List HistoryEntry) (x : Node) → length (node_of h x).marks ≤ MOST_STRATEGIES
few_marks h x = omega (arith, length_take_le (length (strategies_for (problem_of x.problem))) x.marks, few_strategies (problem_of x.problem))

-- a place among the marks of a node is one of those that each node has
pub place_fits : (h : List HistoryEntry) (nodes : List Node) (n place : ℕ) (node : TreeNode) → slice_get (map (node_of h) nodes) n ≡ Some node
    → place < length node.marks → place < MOST_STRATEGIES
place_fits h [] n place node there lt = absurd cc
place_fits h (x ∷ nodes) zero place node there lt =
    let same : node_of h x ≡ node = cc in
    let few : length node.marks ≤ MOST_STRATEGIES = subst (λ (y : TreeNode). length y.marks ≤ MOST_STRATEGIES) same (few_marks h x) in
    omega (arith, few, lt)
place_fits h (x ∷ nodes) (suc n) place node there lt = place_fits h nodes n place node there lt

pub within_more : (bound more : ℕ) (nodes : List Node) → bound ≤ more → AreWithin bound nodes → AreWithin more nodes
within_more bound more [] le w = tt
within_more bound more (x ∷ nodes) le w = (go x.decision w.0, within_more bound more nodes le w.1)
  where
    go : (d : Option Decision) → IsDecidedBefore bound d → IsDecidedBefore more d
    go None w = tt
    go (Some d) w = omega (arith, w, le)

-- ---- parts that are seen alike

pub parts_is : (p q : Parts) → p.history ≡ q.history → p.state ≡ q.state → p.goals ≡ q.goals → p.running ≡ q.running → p.room ≡ q.room
    → p.node_room ≡ q.node_room → p.cursor ≡ q.cursor → p ≡ q
parts_is p q a b c d e f g = λ i. record { history = a i; state = b i; goals = c i; running = d i; room = e i; node_room = f i; cursor = g i }

pub state_is : (s t : State) → s.nodes ≡ t.nodes → s.tickets ≡ t.tickets → s.winner ≡ t.winner → s.is_aborted ≡ t.is_aborted → s ≡ t
state_is s t a b c d = λ i. record { nodes = a i; tickets = b i; winner = c i; is_aborted = d i }

pub node_within : (h : List HistoryEntry) (nodes : List Node) (n : ℕ) (node : TreeNode) → slice_get (map (node_of h) nodes) n ≡ Some node → n < length nodes
node_within h nodes n node there = rw (← length-map nodes (node_of h)) (slice_get_within (map (node_of h) nodes) n node there)

pub is_some_map : {A B : Type 0} (f : A → B) (o : Option A) → is_some (option_map f o) ≡ is_some o
is_some_map f None = refl
is_some_map f (Some x) = refl

-- the history when an entry was made
pub one_more : (es es' : List OwnedEntry) (e : OwnedEntry) (seen : HistoryEntry) → es' ≡ es ++ e ∷ [] → entry_of e ≡ seen
    → map entry_of es' ≡ map entry_of es ++ seen ∷ []
one_more es es' e seen more is = ap (map entry_of) more ∙ map-append entry_of es (e ∷ []) ∙ ap (λ x. map entry_of es ++ x ∷ []) is

-- the nodes, as they are seen with one more entry
pub nodes_seen : (h h' : List HistoryEntry) (e : HistoryEntry) (nodes : List Node) → h' ≡ h ++ e ∷ [] → AreWithin (length h) nodes
    → map (node_of h') nodes ≡ map (node_of h) nodes
nodes_seen h h' e nodes more w = ap (λ x. map (node_of x) nodes) more ∙ nodes_kept h (e ∷ []) nodes w
