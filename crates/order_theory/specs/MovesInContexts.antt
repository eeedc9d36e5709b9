-- Weak and strict moves in any context, and what "well-founded" says of an order where strict moves are made so.
use Rattle.std.specs.Prelude.{ℕ, ◌≤◌, List}
use Rattle.std.proofs.Common.{suc}
use Rattle.trs_defs.specs.Member.{In}
use Rattle.trs_defs.specs.Tree.{Tree}
use Rattle.trs_defs.specs.System.{RewriteRule}
use Rattle.trs_defs.specs.Step.{Step}
use Rattle.pair_theory.specs.Moves.{IsOrdered}

-- n strict moves among weak moves, all of them anywhere
pub data MovesInContexts (weaks stricts : List RewriteRule) : ℕ → Tree → Tree → Type 0 where
  no_moves : {t : Tree} → MovesInContexts weaks stricts 0 t t
  weakly : {n : ℕ} {s t u : Tree} → Step weaks s t → MovesInContexts weaks stricts n t u → MovesInContexts weaks stricts n s u
  strictly : {n : ℕ} {s t u : Tree} → Step stricts s t → MovesInContexts weaks stricts n t u → MovesInContexts weaks stricts (suc n) s u

-- for each two finite lists of pairs that are ordered, and each term: some number bounds the strict moves
abbrev pub IsWellFoundedInContexts : (Tree → Tree → Type 0) → (Tree → Tree → Type 0) → (Tree → Type 0) → Type 0
IsWellFoundedInContexts weak strict speaks_of =
    (weaks stricts : List RewriteRule) → ((p : RewriteRule) → In p weaks → IsOrdered speaks_of weak p)
    → ((p : RewriteRule) → In p stricts → IsOrdered speaks_of strict p)
    → (t : Tree) → speaks_of t → (n : ℕ) × ((m : ℕ) (u : Tree) → MovesInContexts weaks stricts m t u → m ≤ n)
