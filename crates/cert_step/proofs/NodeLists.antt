-- Lists of nodes as steps are made on them.
use Rattle.std.proofs.Common.{◌≡◌, ◌≢◌, ℕ, zero, suc, List, [], ◌∷◌, ◌++◌, map, Some, slice_get, set, refl}
use Rattle.trs_defs.specs.System.{System}
use Rattle.cert_step.specs.ProofProblem.{ProofProblem, Holds}
use Rattle.cert_step.specs.Subproblems.{AllHold}
use Rattle.cert_step.specs.Nodes.{Node, open_node}

-- ---- other nodes stay

kept_before : (nodes more : List Node) (k : ℕ) (y : Node) → slice_get nodes k ≡ Some y → slice_get (nodes ++ more) k ≡ Some y
kept_before [] more k y e = absurd cc
kept_before (x ∷ nodes) more zero y e = e
kept_before (x ∷ nodes) more (suc k) y e = kept_before nodes more k y e

pub other_kept : (nodes more : List Node) (n k : ℕ) (x y : Node) → k ≢ n → slice_get nodes k ≡ Some y → slice_get (set nodes n x ++ more) k ≡ Some y
other_kept [] more n k x y ne e = absurd cc
other_kept (z ∷ nodes) more zero zero x y ne e = absurd (ne refl)
other_kept (z ∷ nodes) more zero (suc k) x y ne e = kept_before nodes more k y e
other_kept (z ∷ nodes) more (suc n) zero x y ne e = e
other_kept (z ∷ nodes) more (suc n) (suc k) x y ne e =
    let other : k ≢ n = λ same. ne cc in
    other_kept nodes more n k x y other e

-- ---- the nodes of subproblems

opened_hold : (system : System) (subproblems : List ProofProblem) → ((k : ℕ) (q : ProofProblem) → slice_get (map open_node subproblems) k ≡ Some (open_node q) → Holds system q) → AllHold system subproblems
opened_hold system [] h = tt
opened_hold system (p ∷ subproblems) h = (h 0 p refl, opened_hold system subproblems (λ k q e. h (suc k) q e))

pub subproblems_hold : (system : System) (before : List Node) (subproblems : List ProofProblem)
    → ((k : ℕ) (q : ProofProblem) → slice_get (before ++ map open_node subproblems) k ≡ Some (open_node q) → Holds system q) → AllHold system subproblems
subproblems_hold system [] subproblems h = opened_hold system subproblems h
subproblems_hold system (x ∷ before) subproblems h = subproblems_hold system before subproblems (λ k q e. h (suc k) q e)
