-- Weak and strict moves, and what "well-founded" says of an order in finite form.
use Rattle.std.specs.Prelude.{ℕ, ◌≤◌, List}
use Rattle.std.proofs.Common.{suc}
use Rattle.trs_defs.specs.Member.{In}
use Rattle.trs_defs.specs.Tree.{Tree, var}
use Rattle.trs_defs.specs.System.{RewriteRule, Among}
use Rattle.trs_defs.specs.Step.{RootStep, Step}
use Rattle.pair_theory.specs.Subterm.{Sub}

-- n strict moves, at the root, among weak moves anywhere
pub data Moves (weaks stricts : List RewriteRule) : ℕ → Tree → Tree → Type 0 where
  no_moves : {t : Tree} → Moves weaks stricts 0 t t
  weakly : {n : ℕ} {s t u : Tree} → Step weaks s t → Moves weaks stricts n t u → Moves weaks stricts n s u
  strictly : {n : ℕ} {s t u : Tree} → RootStep (Among stricts) s t → Moves weaks stricts n t u → Moves weaks stricts (suc n) s u

-- at most n strict moves leave t
abbrev pub MovesAtMost : List RewriteRule → List RewriteRule → ℕ → Tree → Type 0
MovesAtMost weaks stricts n t = (m : ℕ) (u : Tree) → Moves weaks stricts m t u → m ≤ n

-- both sides are terms of which the order speaks, it orders them, and the right side has no new variable
pub record IsOrdered (speaks_of : Tree → Type 0) (order : Tree → Tree → Type 0) (p : RewriteRule) : Type 0 where
  pub left_spoken : speaks_of p.left
  pub right_spoken : speaks_of p.right
  pub ordered : order p.left p.right
  pub variables : (v : ℕ) → Sub (var v) p.right → Sub (var v) p.left

-- for each two finite lists of pairs that are ordered, and each term: some number bounds the strict moves
abbrev pub IsWellFounded : (Tree → Tree → Type 0) → (Tree → Tree → Type 0) → (Tree → Type 0) → Type 0
IsWellFounded weak strict speaks_of =
    (weaks stricts : List RewriteRule) → ((p : RewriteRule) → In p weaks → IsOrdered speaks_of weak p)
    → ((p : RewriteRule) → In p stricts → IsOrdered speaks_of strict p)
    → (t : Tree) → speaks_of t → (n : ℕ) × MovesAtMost weaks stricts n t
