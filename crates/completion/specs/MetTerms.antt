-- Terms that were met on the way to normal forms.
use Rattle.std.specs.Prelude.{◌≡◌, ◌≤◌, List, length, take}
use Rattle.trs_defs.specs.System.{RewriteRule}
use Rattle.term_pool.specs.Pooled.{Extends}
use Rattle.completion.specs.declared.met.Met.{Met}
use Rattle.completion.specs.Searching.{ArePassed, AreGroundSides}

-- what is noted of the terms is true by these rules; ids of left sides are below the base
pub record IsMet (rules : List RewriteRule) (met : Met) : Type 0 where
  pub within : met.base ≤ length met.pool
  pub passed : ArePassed rules met.pool met.passed
  pub sides : AreGroundSides rules (take met.base met.pool) met.sides.items

-- the base is the old one, and the ids below it keep their terms
pub record KeepsBase (old new : Met) : Type 0 where
  pub base : new.base ≡ old.base
  pub kept : Extends (take old.base old.pool) new.pool
