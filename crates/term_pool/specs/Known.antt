-- What is known of rules and of ids.
use Rattle.std.specs.Prelude.{◌≡◌, ◌<◌, ◌-◌, ◌^◌, ℕ, min, List, [], Some, length, slice_get}
use Rattle.std.specs.Ordering.{nat_cmp, ordering_then}
use Rattle.std.specs.declared.cmp.Ordering.{Ordering}
use Rattle.std.specs.BTreeMap.{get}
use Rattle.trs_defs.specs.Tree.{Tree}
use Rattle.trs_defs.specs.Size.{size_of}
use Rattle.trs_defs.specs.System.{RewriteRule}
use Rattle.trs_defs.specs.Position.{subterm_at}
use Rattle.trs_defs.specs.Path.{PlacedRule, StepsAt}
use Rattle.term_pool.specs.Pooled.{tree_at}
use Rattle.term_pool.specs.Passed.{HaveNoRedex}
use Rattle.term_pool.specs.Reached.{AreBelow}
use Rattle.term_pool.specs.declared.known.Known.{Known}

-- pairs of numbers are ordered by the first, and where that is one, by the second
abbrev pub pair_cmp : ℕ × ℕ → ℕ × ℕ → Ordering
pair_cmp x y = ordering_then (nat_cmp x.0 y.0) (nat_cmp x.1 y.1)

-- both ids are there, and the rule of this number leads from the one's term to the other's at the root
pub record IsContractum (rules : List RewriteRule) (pool : List Tree) (id k by : ℕ) : Type 0 where
  pub from : id < length pool
  pub to : by < length pool
  pub steps : StepsAt rules [] k (tree_at pool id) (tree_at pool by)

-- left sides have the sizes that are noted, each at most 2^32 - 1; normal ids have no redex; and contracta are such
pub record IsKnown (rules : List RewriteRule) (pool : List Tree) (known : Known) : Type 0 where
  pub sizes : (k n : ℕ) (r : RewriteRule) → get nat_cmp known.left_sizes k ≡ Some n → slice_get rules k ≡ Some r → n ≡ min (size_of r.left) (2 ^ 32 - 1)
  pub below : AreBelow (length pool) known.normal
  pub normal : HaveNoRedex rules pool known.normal
  pub contracta : (id k by : ℕ) → get pair_cmp known.contracta (id, k) ≡ Some by → IsContractum rules pool id k by

-- the rule of a step leads from what stands at its place in the term to the term of the id, at the root
pub record IsContractumAt (rules : List RewriteRule) (pool : List Tree) (t : Tree) (s : PlacedRule) (by : ℕ) : Type 0 where
  pub there : by < length pool
  pub part : Tree
  pub place : subterm_at s.place t ≡ Some part
  pub steps : StepsAt rules [] s.rule part (tree_at pool by)
