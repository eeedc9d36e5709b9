-- The terms of an arity table whose symbols have entries.
use Rattle.std.specs.Prelude.{ℕ, List, Bool}
use Rattle.trs_defs.specs.Tree.{Tree}
use Rattle.trs_defs.specs.WellFormed.{IsWellFormed}
use Rattle.trs_defs.specs.System.{RewriteRule}
use Rattle.pair_theory.specs.Erased.{HasEntries}
use Rattle.pair_theory.specs.Marked.{Marked, plain, mark}

-- the orders speak of the well-formed terms, plain and marked, whose symbols have entries
pub record SpeaksWithEntries (arities : List ℕ) (entry : ℕ → Bool) (speaks_of : Tree → Type 0) : Type 0 where
  pub of_terms : (t : Tree) → IsWellFormed arities t → HasEntries entry t → speaks_of t
  pub of_marked : (u : Marked) → IsWellFormed arities (plain u) → HasEntries entry (mark u) → speaks_of (mark u)

-- each symbol of both sides has an entry
pub record HasSideEntries (entry : ℕ → Bool) (r : RewriteRule) : Type 0 where
  pub left : HasEntries entry r.left
  pub right : HasEntries entry r.right
