-- The subterm criterion, on problems of listed pairs.
use Rattle.std.proofs.Common.{◌≡◌, ℕ, zero, suc, ◌-◌, ◌<◌, sym, subst, arith, ◌⊎◌, inl, inr, List, Some, slice_get}
use Rattle.trs_defs.specs.Member.{In}
use Rattle.trs_defs.specs.Tree.{Tree, Trees, var, nil, cons, count, items}
use Rattle.trs_defs.specs.Position.{argument_at}
use Rattle.trs_defs.specs.System.{System, IsSystem, Among}
use Rattle.pair_theory.specs.Subterm.{ProperSubterm}
use Rattle.pair_theory.specs.Marked.{Marked, plain}
use Rattle.pair_theory.specs.DependencyPair.{DependencyPair}
use Rattle.pair_theory.specs.ItemOr.{item_or}
use Rattle.pair_theory.specs.PairProblem.{PairAmong, IsFiniteProblem, IsPair}
use Rattle.pair_theory.specs.SubtermCriterion.{Projects}
use Rattle.pair_theory.proofs.PairTheorem.{var_normal}
use Rattle.pair_theory.proofs.Termination.{decide_defined}
use Rattle.pair_theory.proofs.Systems.{left_rooted, no_new_variables}
use Rattle.pair_theory.proofs.SubtermCriterion.{projected, criterion}
use Rattle.pair_theory.proofs.Problems.{Ready, chain_ready, fewer}

item_there : (ts : Trees) (i : ℕ) (t d : Tree) → slice_get (items ts) i ≡ Some t → (i < count ts) × (item_or i ts d ≡ t)
item_there nil i t d e = absurd cc
item_there (cons u ts) zero t d e = let same : u ≡ t = cc in (omega arith, same)
item_there (cons u ts) (suc i) t d e = let h : (i < count ts) × (item_or i ts d ≡ t) = item_there ts i t d e in
    let lt : i < count ts = h.0 in (omega arith, h.1)

argument_there : (m : Marked) (place : ℕ) (t d : Tree) → argument_at (plain m) place ≡ Some t → (place - 1 < count m.args) × (item_or (place - 1) m.args d ≡ t)
argument_there m zero t d e = absurd cc
argument_there m (suc i) t d e = let same : suc i - 1 ≡ i = omega arith in rw same (item_there m.args i t d e)

module _ (system : System) (ok : IsSystem system) (pairs stays : List DependencyPair)
    (good : (p : DependencyPair) → In p pairs → IsPair system.arities p) (place : ℕ → ℕ)
    (class : (p : DependencyPair) → In p pairs → (In p stays × Projects place (λ s t. s ≡ t) p) ⊎ Projects place ProperSubterm p) where
  abbrev index : ℕ → ℕ
  index f = place f - 1

  abbrev Rule : Tree → Tree → Type 0
  Rule = Among system.rules

  abbrev Looks : (Tree → Tree → Type 0) → Marked → Marked → Type 0
  Looks related l r = (index l.symbol < count l.args) × (index r.symbol < count r.args) × related (projected Rule index l) (projected Rule index r)

  looks : (related : Tree → Tree → Type 0) (p : DependencyPair) → Projects place related p → Looks related p.from p.to
  looks related p h =
      let l : (place p.from.symbol - 1 < count p.from.args) × (item_or (place p.from.symbol - 1) p.from.args (var 0) ≡ h.left) = argument_there p.from (place p.from.symbol) h.left (var 0) h.left_there in
      let r : (place p.to.symbol - 1 < count p.to.args) × (item_or (place p.to.symbol - 1) p.to.args (var 0) ≡ h.right) = argument_there p.to (place p.to.symbol) h.right (var 0) h.right_there in
      (l.0, r.0, subst (λ z. related z (projected Rule index p.to)) (sym l.1) (subst (related h.left) (sym r.1) h.relation))

  abbrev Stay : Marked → Marked → Type 0
  Stay l r = PairAmong pairs l r × PairAmong stays l r × Looks (λ s t. s ≡ t) l r

  abbrev Shrink : Marked → Marked → Type 0
  Shrink l r = PairAmong pairs l r × Looks ProperSubterm l r

  either : (l r : Marked) → PairAmong pairs l r → Stay l r ⊎ Shrink l r
  either l r i = elim (class (record { from = l; to = r }) i) [
    | inl h ↦ inl (i, h.0, looks (λ s t. s ≡ t) (record { from = l; to = r }) h.1)
    | inr h ↦ inr (i, looks ProperSubterm (record { from = l; to = r }) h)
  ]

  among : (l r : Marked) → Stay l r ⊎ Shrink l r → PairAmong pairs l r
  among l r (inl h) = h.0
  among l r (inr h) = h.0

  pub criterion_theorem : IsFiniteProblem system stays → IsFiniteProblem system pairs
  criterion_theorem rest u w small =
      fewer Rule (PairAmong pairs) (λ l r. Stay l r ⊎ Shrink l r) either
      (criterion Rule index Stay Shrink (λ l r h. h.2) (λ l r h. h.1) (Ready system)
      (chain_ready system ok (λ l r. Stay l r ⊎ Shrink l r) (λ l r h. good _ (among l r h)))
      (λ u ready. ready.1)
      (var_normal Rule (left_rooted system ok) (no_new_variables system ok) (decide_defined system.rules) 0)
      (λ u ready. fewer Rule Stay (PairAmong stays) (λ l r h. h.1) (rest u ready.0 ready.1))
      u (w, small))
