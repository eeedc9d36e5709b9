-- Groups of numbered pairs along a graph: where each group is done, the problem is finite.
use Rattle.std.proofs.Common.{◌≡◌, ℕ, ◌≤◌, ◌<◌, sym, ap, arith, ◌∙◌, List, Bool, Some, IsTrue, slice_get}
use native.Mathlib.Decide.{dec_lt}
use Rattle.pair_theory.specs.Accessible.{Acc, acc}
use Rattle.trs_defs.specs.Member.{In}
use Rattle.trs_defs.specs.Tree.{Tree, Trees}
use Rattle.trs_defs.specs.Substitution.{apply_all}
use Rattle.trs_defs.specs.Cap.{Caps, EachFits}
use Rattle.trs_defs.specs.System.{System, IsSystem, Among}
use Rattle.pair_theory.specs.Marked.{Marked}
use Rattle.pair_theory.specs.DependencyPair.{DependencyPair}
use Rattle.pair_theory.specs.Chain.{ChainStep, link}
use Rattle.pair_theory.specs.PairProblem.{PairAmong, IsFiniteProblem, IsPair}
use Rattle.pair_theory.specs.PairGraph.{PairNumbered, CoversSteps, IsCapEstimate, GroupEnds, by_problem, by_no_edge, IsGrouped}
use Rattle.trs_defs.proofs.Members.{get_of_in, in_of_get}
use Rattle.pair_theory.proofs.Caps.{Edge, edge_root, edge_covers}
use Rattle.pair_theory.proofs.Chains.{pair_of_chain, groups, All, OfGroup}
use Rattle.pair_theory.proofs.Problems.{Ready, chain_ready, fewer}

numbered_pair : (pairs : List DependencyPair) (i : ℕ) {rule : _} {u v : Marked} → ChainStep rule (PairNumbered pairs i) u v → (p : DependencyPair) × (slice_get pairs i ≡ Some p)
numbered_pair pairs i c = let h : (l : Marked) × (r : Marked) × PairNumbered pairs i l r = pair_of_chain c in (record { from = h.0; to = h.1 }, h.2)

same_pair : {p q : DependencyPair} → Some p ≡ Some q → p ≡ q
same_pair e = cc

to_of : {l r : Marked} {p : DependencyPair} → Some (record { from = l; to = r }) ≡ Some p → r ≡ p.to
to_of e = ap (λ q. q.to) (same_pair e)

from_of : {l r : Marked} {p : DependencyPair} → Some (record { from = l; to = r }) ≡ Some p → l ≡ p.from
from_of e = ap (λ q. q.from) (same_pair e)

module _ (system : System) (ok : IsSystem system) (pairs : List DependencyPair) (good : (p : DependencyPair) → In p pairs → IsPair system.arities p)
    (edge : ℕ → ℕ → Bool) (covers : CoversSteps system pairs edge) (group : ℕ → ℕ) (number : ℕ)
    (grouped : IsGrouped system pairs edge group number) where
  abbrev Step : (Marked → Marked → Type 0) → Marked → Marked → Type 0
  Step = ChainStep (Among system.rules)

  keeps : (i : ℕ) (u v : Marked) → Ready system u → Step (PairNumbered pairs i) u v → Ready system v
  keeps i = chain_ready system ok (PairNumbered pairs i) (λ l r e. good _ (in_of_get pairs i _ e))

  onward : (i j : ℕ) (u v w : Marked) → Step (PairNumbered pairs i) u v → Step (PairNumbered pairs j) v w → group i ≤ group j
  onward i j u v w c c' =
      let p : (p : DependencyPair) × (slice_get pairs i ≡ Some p) = numbered_pair pairs i c in
      let q : (p : DependencyPair) × (slice_get pairs j ≡ Some p) = numbered_pair pairs j c' in
      grouped.onward i j p.0 q.0 p.1 q.1 (covers i j u v w c c')

  below : (i : ℕ) (u v : Marked) → Step (PairNumbered pairs i) u v → group i < number
  below i u v c = let p : (p : DependencyPair) × (slice_get pairs i ≡ Some p) = numbered_pair pairs i c in grouped.numbers i p.0 p.1

  abbrev Member : ℕ → Marked → Marked → Type 0
  Member = OfGroup (Among system.rules) (Ready system) (PairNumbered pairs) group keeps onward

  of_member : {k : ℕ} {u v : Marked} → Step (Member k) u v → (i : ℕ) × (group i ≡ k) × Step (PairNumbered pairs i) u v
  of_member (link l r σ h e reach to small) = (h.0, h.1, link l r σ h.2 e reach to small)

  part : (k : ℕ) → GroupEnds system pairs edge group k → (u : Marked) → Ready system u → Acc (Step (Member k)) u
  part k (by_problem members has ends) u ready =
      fewer (Among system.rules) (Member k) (PairAmong members) (λ l r m. has m.0 _ m.2 m.1) (ends u ready.0 ready.1)
  part k (by_no_edge none) u ready = acc (λ v c. acc (λ w c'. absurd (
      let m : (i : ℕ) × (group i ≡ k) × Step (PairNumbered pairs i) u v = of_member c in
      let n : (i : ℕ) × (group i ≡ k) × Step (PairNumbered pairs i) v w = of_member c' in
      let p : (p : DependencyPair) × (slice_get pairs m.0 ≡ Some p) = numbered_pair pairs m.0 m.2 in
      let q : (p : DependencyPair) × (slice_get pairs n.0 ≡ Some p) = numbered_pair pairs n.0 n.2 in
      none m.0 n.0 p.0 q.0 p.1 q.1 m.1 n.1 (covers m.0 n.0 u v w m.2 n.2))))

  parts : (k : ℕ) (u : Marked) → Ready system u → Acc (Step (Member k)) u
  parts k u ready = go (dec_lt k number)
    where
      go : Dec (k < number) → Acc (Step (Member k)) u
      go (yes lt) = part k (grouped.done k lt) u ready
      go (no not) = acc (λ v c. absurd (
          let m : (i : ℕ) × (group i ≡ k) × Step (PairNumbered pairs i) u v = of_member c in
          let h : group m.0 < number = below m.0 u v m.2 in
          let e : group m.0 ≡ k = m.1 in not (omega arith)))

  pub groups_theorem : IsFiniteProblem system pairs
  groups_theorem u w small =
      fewer (Among system.rules) (PairAmong pairs) (All (Among system.rules) (Ready system) (PairNumbered pairs) group keeps onward)
      (λ l r i. get_of_in i)
      (groups (Among system.rules) (Ready system) (PairNumbered pairs) group keeps onward number below parts u (w, small))

-- the estimate by caps covers
pub cap_estimate_covers : (system : System) (pairs : List DependencyPair) (edge : ℕ → ℕ → Bool) → IsCapEstimate system pairs edge → CoversSteps system pairs edge
cap_estimate_covers system pairs edge estimate i j u v w c c' =
    let p : (p : DependencyPair) × (slice_get pairs i ≡ Some p) = numbered_pair pairs i c in
    let q : (q : DependencyPair) × (slice_get pairs j ≡ Some q) = numbered_pair pairs j c' in
    let same_root : p.0.to.symbol ≡ q.0.from.symbol = edge_root (Among system.rules) (PairNumbered pairs i) (PairNumbered pairs j) p.0.to q.0.from
    (λ l r e. to_of (sym e ∙ p.1)) (λ l r e. from_of (sym e ∙ q.1)) u v w c c' in
    let e : (cs : Trees) × Caps (Among system.rules) p.0.to.args cs × ((σ : ℕ → Tree) → EachFits cs (apply_all σ q.0.from.args) → IsTrue (edge i j)) =
    estimate i j p.0 q.0 p.1 q.1 same_root in
    let fits : Edge (Among system.rules) p.0.to q.0.from e.0 = edge_covers (Among system.rules) (PairNumbered pairs i) (PairNumbered pairs j) p.0.to q.0.from e.0 e.1
    (λ l r m. to_of (sym m ∙ p.1)) (λ l r m. from_of (sym m ∙ q.1)) u v w c c' in
    e.2 fits.1 fits.2
