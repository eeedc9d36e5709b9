-- Whether the caps of two terms clash, as it is found out.
use Rattle.std.specs.Prelude.{◌≡◌, ℕ, Bool, true, List, []}
use Rattle.trs_defs.specs.Tree.{Tree, Trees, app}
use Rattle.trs_defs.specs.System.{RewriteRule}
use Rattle.term_pool.specs.Roots.{with_root}
use Rattle.trs_caps.specs.HoledTree.{HoledTree}
use Rattle.trs_caps.specs.HoledCap.{IsHoledCap}
use Rattle.trs_caps.specs.Clash.{clash}

-- the answer is whether the caps of the terms clash, their variables read as constants
abbrev pub TellsClash : List RewriteRule → Tree → Tree → Bool → Type 0
TellsClash rules a b answer = (c d : HoledTree) → IsHoledCap rules true a c → IsHoledCap rules true b d → answer ≡ clash c d

-- the root of the term is f, and no left side has this root
pub record HasKeptRoot (rules : List RewriteRule) (t : Tree) (f : ℕ) : Type 0 where
  pub args : Trees
  pub term : t ≡ app f args
  pub kept : with_root f rules ≡ []
