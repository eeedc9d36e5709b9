-- The rules that are noted for left sides, by the roots of these.
use Rattle.std.specs.Prelude.{ℕ, List, Option, Some, None, Vec}
use Rattle.std.specs.declared.alloc.Global.{Global}
use Rattle.std.specs.Ordering.{nat_cmp}
use Rattle.std.specs.BTreeMap.{BTreeMap, get}
use Rattle.trs_defs.specs.Member.{In}
use Rattle.trs_defs.specs.System.{RewriteRule}
use Rattle.term_pool.specs.Roots.{with_root}
use Rattle.dp_graph.specs.SameLefts.{IsNoted}

abbrev pub Lists : Type 0
Lists = BTreeMap ℕ (Vec ℕ Global)

-- the numbers in the list of a root, or all if it has none
abbrev pub listed_or : List ℕ → Option (Vec ℕ Global) → List ℕ
listed_or all None = all
listed_or all (Some listed) = listed.items

-- the rules that are looked at for a root
abbrev pub noted_at : List RewriteRule → Lists → ℕ → List ℕ
noted_at rules lists f = listed_or (with_root f rules) (get nat_cmp lists f)

-- a rule with this root is looked at, if it is noted for its left side
abbrev pub HasNoted : List RewriteRule → List (Option ℕ) → Lists → ℕ → Type 0
HasNoted rules lefts lists f = (k : ℕ) → In k (with_root f rules) → IsNoted lefts k k → In k (noted_at rules lists f)

abbrev pub HaveAllNoted : List RewriteRule → List (Option ℕ) → Lists → Type 0
HaveAllNoted rules lefts lists = (f : ℕ) → HasNoted rules lefts lists f
