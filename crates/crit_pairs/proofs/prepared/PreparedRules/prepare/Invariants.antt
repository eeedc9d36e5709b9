use Rattle.std.proofs.Common.{map, take}
use Rattle.trs_core.specs.View.{tree}
use Rattle.crit_pairs.specs.Apart.{AreApartLefts, HaveSkeletons, HaveRoots}
use Rattle.crit_pairs.proofs.prepared.PreparedRules.prepare.Given as goal

abbrev pub invariant-loop-k : goal.invariant-loop-k
invariant-loop-k l = record {
  apart_lefts : AreApartLefts (take l.k l.rules) (map tree l.apart_lefts.items);
  skeletons : HaveSkeletons (take l.k l.rules) l.skeletons.items;
  roots : HaveRoots (take l.k l.rules) l.roots.items;
}
