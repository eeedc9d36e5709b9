-- Loops: a derivation from a term to a term that holds an instance of it. (Baader and Nipkow, section 5.1.)
use Rattle.std.specs.Prelude.{◌≡◌, ◌≢◌, ℕ, List, [], Some}
use Rattle.trs_defs.specs.Tree.{Tree}
use Rattle.trs_defs.specs.Substitution.{IsInstance}
use Rattle.trs_defs.specs.Position.{subterm_at}
use Rattle.trs_defs.specs.System.{RewriteRule}
use Rattle.trs_defs.specs.Path.{PlacedRule, Follows}

-- the path has a step, and leads from the start to a term that holds an instance of the start at the position
pub record IsLoop (rules : List RewriteRule) (start : Tree) (path : List PlacedRule) (place : List ℕ) : Type 0 where
  pub steps : path ≢ []
  pub end : Tree
  pub follows : Follows rules path start end
  pub part : Tree
  pub there : subterm_at place end ≡ Some part
  pub instance : IsInstance start part
