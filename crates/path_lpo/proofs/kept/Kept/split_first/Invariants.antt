use Rattle.std.proofs.Common.{◌≡◌, drop}
use Rattle.trs_core.specs.View.{forest}
use Rattle.order_theory.specs.ArgumentFilter.{select}
use Rattle.path_lpo.specs.Kept.{kept_of}
use Rattle.path_lpo.proofs.kept.Kept.split_first.Given as goal

abbrev pub invariant-loop-k : goal.invariant-loop-k
invariant-loop-k l = select (drop l.k l.self.places.now) (forest l.self.args.now) ≡ kept_of l.self
