-- The limits on a system.
use Rattle.std.specs.Prelude.{◌≡◌, ◌<◌, ◌≤◌, ℕ, ◌+◌, List, [], ◌∷◌, Some, length, slice_get, All, IsTrue}
use Rattle.trs_defs.specs.Tree.{Tree}
use Rattle.trs_defs.specs.Size.{size_of, depth_of}
use Rattle.trs_defs.specs.Variable.{has_var}
use Rattle.trs_defs.specs.System.{RewriteRule, System}

-- the number of nodes of all sides together
abbrev pub nodes_of : List RewriteRule → ℕ
nodes_of [] = 0
nodes_of (r ∷ rules) = size_of r.left + size_of r.right + nodes_of rules

-- no side is deeper than 1,024
abbrev pub IsShallow : RewriteRule → Type 0
IsShallow r = (depth_of r.left ≤ 1024) × (depth_of r.right ≤ 1024)

-- at most 4,095 symbols, 4,095 rules and 65,536 nodes of all sides together, and no side is deeper than 1,024
pub record IsWithinLimits (system : System) : Type 0 where
  pub symbols : length system.arities ≤ 4095
  pub rules : length system.rules ≤ 4095
  pub nodes : nodes_of system.rules ≤ 65536
  pub shallow : All IsShallow system.rules

-- the number of arguments of each symbol is a byte
abbrev pub AreBytes : List ℕ → Type 0
AreBytes arities = (f n : ℕ) → slice_get arities f ≡ Some n → n < 256

-- each variable of the term has a number below 65,536
abbrev pub HasSmallVariables : Tree → Type 0
HasSmallVariables t = (v : ℕ) → IsTrue (has_var v t) → v < 65536

-- each variable of the rules has a number below 65,536
abbrev pub HaveSmallVariables : List RewriteRule → Type 0
HaveSmallVariables rules = All (λ r. HasSmallVariables r.left × HasSmallVariables r.right) rules
