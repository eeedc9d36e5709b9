-- An accepted claim is true.
use Rattle.std.proofs.Common.{◌≡◌, ℕ, ◌==◌, Bool, true, false, List, [], ◌∷◌, map, Some, slice_get, set, refl, ap, subst}
use Rattle.std.specs.List.{AllByRecursion}
use Rattle.std.proofs.lemmas.Bool.{eqb-true, eqb-false}
use Rattle.trs_defs.specs.System.{System, IsSystem}
use Rattle.cert_step.specs.declared.claim.Claim.{Claim}
use Rattle.cert_step.specs.declared.claim.Claim.TheVariants.{Terminating, Nonterminating, Confluent, Nonconfluent, Unique, Nonunique}
use Rattle.cert_step.specs.ProofProblem.{ProofProblem, Holds, Says, root_of}
use Rattle.cert_step.specs.ProofStep.{ProofNodeStep, IsWellMade}
use Rattle.cert_step.proofs.Soundness.{sound_step}
use Rattle.cert_step.specs.Nodes.{Node, open_node, nodes_after, Makes, AreDecided, IsAccepted}
use Rattle.cert_step.proofs.NodeLists.{other_kept, subproblems_hold}

-- what each open node says is true
abbrev OpenHold : System → List Node → Type 0
OpenHold system nodes = (k : ℕ) (q : ProofProblem) → slice_get nodes k ≡ Some (open_node q) → Holds system q

closed_not_open : (nodes : List Node) (k : ℕ) (q : ProofProblem) → AreDecided nodes → slice_get nodes k ≡ Some (open_node q) → ⊥
closed_not_open nodes k q decided e = let closed = decided k (open_node q) e in cc

pub same_problem : (nodes : List Node) (k : ℕ) (p q : ProofProblem) → slice_get nodes k ≡ Some (open_node p) → slice_get nodes k ≡ Some (open_node q) → p ≡ q
same_problem nodes k p q e f = let same : open_node p ≡ open_node q = cc in ap (λ (n : Node). n.problem) same

before_step : (system : System) (nodes : List Node) (s : ProofNodeStep) (p : ProofProblem) (subproblems : List ProofProblem) → Holds system p
    → slice_get nodes s.node ≡ Some (open_node p) → OpenHold system (nodes_after nodes s.node p subproblems) → OpenHold system nodes
before_step system nodes s p subproblems holds there later k q e = go (k == s.node) refl
  where
    go : (b : Bool) → (k == s.node) ≡ b → Holds system q
    go true is =
        let at : k ≡ s.node = eqb-true k s.node is in
        let here : slice_get nodes s.node ≡ Some (open_node q) = rw at at e in
        subst (Holds system) (same_problem nodes s.node p q there here) holds
    go false is = later k q (other_kept nodes (map open_node subproblems) s.node k (record { problem = p; is_open = false }) (open_node q) (eqb-false k s.node is) e)

pub open_nodes_hold : (system : System) (steps : List ProofNodeStep) (nodes last : List Node) → IsSystem system → AllByRecursion (λ s. IsWellMade system s.step) steps
    → Makes system nodes steps last → AreDecided last → OpenHold system nodes
open_nodes_hold system [] nodes last valid made makes decided = λ k q e. absurd (closed_not_open last k q decided (rw makes at e))
open_nodes_hold system (s ∷ steps) nodes last valid made makes decided =
    let p = makes.0 in
    let subproblems = makes.1 in
    let later = open_nodes_hold system steps (nodes_after nodes s.node p subproblems) last valid made.1 makes.4 decided in
    let all_hold = subproblems_hold system (set nodes s.node (record { problem = p; is_open = false })) subproblems later in
    before_step system nodes s p subproblems (sound_step system p s.step subproblems valid made.0 makes.3 all_hold) makes.2 later

pub root_says : (system : System) (claim : Claim) → Holds system (root_of claim) → Says system claim
root_says system Terminating h = h
root_says system Nonterminating h = h
root_says system Confluent h = h
root_says system Nonconfluent h = h
root_says system Unique h = h
root_says system Nonunique h = h

pub true_claim : (system : System) (claim : Claim) (steps : List ProofNodeStep) → IsSystem system → AllByRecursion (λ s. IsWellMade system s.step) steps → IsAccepted system claim steps → Says system claim
true_claim system claim steps valid made h =
    root_says system claim (open_nodes_hold system steps (open_node (root_of claim) ∷ []) h.nodes valid made h.makes h.decided 0 (root_of claim) refl)
