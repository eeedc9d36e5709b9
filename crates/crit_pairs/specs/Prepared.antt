-- Rules with what their overlaps are looked for by.
use Rattle.std.specs.Prelude.{◌≡◌, List, ◌++◌, length, map}
use Rattle.trs_defs.specs.System.{RewriteRule}
use Rattle.trs_core.specs.View.{tree}
use Rattle.crit_pairs.specs.Apart.{AreApartLefts, HaveSkeletons, HaveRoots}
use Rattle.crit_pairs.specs.EqualRules.{NameEqual}
use Rattle.crit_pairs.specs.declared.prepared.PreparedRules.{PreparedRules}

-- each rule has the number of an equal one, and its left side a copy that is renamed apart, a skeleton and the root of this
pub record ArePrepared (rules : List RewriteRule) (prepared : PreparedRules) : Type 0 where
  pub apart_lefts : AreApartLefts rules (map tree prepared.apart_lefts.items)
  pub skeletons : HaveSkeletons rules prepared.skeletons.items
  pub roots : HaveRoots rules prepared.roots.items
  pub numbered : length prepared.equal.firsts.items ≡ length rules
  pub equal : NameEqual rules prepared.equal.firsts.items

-- the first of the rules are prepared
pub record PreparesFirst (rules : List RewriteRule) (prepared : PreparedRules) : Type 0 where
  pub first : List RewriteRule
  pub more : List RewriteRule
  pub are : rules ≡ first ++ more
  pub prepared_first : ArePrepared first prepared
