-- Ids whose terms are known to have no redex.
use Rattle.std.specs.Prelude.{ℕ, List, IsTrue}
use Rattle.std.specs.Ordering.{nat_cmp}
use Rattle.std.specs.BTreeSet.{BTreeSet, contains}
use Rattle.trs_defs.specs.Tree.{Tree}
use Rattle.trs_defs.specs.System.{RewriteRule}
use Rattle.term_pool.specs.Pooled.{tree_at}
use Rattle.term_pool.specs.Redex.{HasRedex}

-- no id of the set has a term with a redex
abbrev pub HaveNoRedex : List RewriteRule → List Tree → BTreeSet ℕ → Type 0
HaveNoRedex rules pool ids = (id : ℕ) → IsTrue (contains nat_cmp ids id) → HasRedex rules (tree_at pool id) → ⊥
