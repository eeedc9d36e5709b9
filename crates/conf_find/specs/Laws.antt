-- What the finders find meets the conditions of its kind of step.
use Rattle.std.specs.Prelude.{◌≡◌, List, Ok}
use Rattle.trs_defs.specs.System.{System, IsSystem}
use Rattle.rewrite_core.specs.PlacedPeak.{PlacedPeak}
use Rattle.rewrite_core.specs.declared.checks.forks.ForkTest.TheVariants.{Normal}
use Rattle.join_find.specs.crit_pairs.PeakList.{ListsPeaks}
use Rattle.cert_step.specs.ForkKind.{fork_kind, fork_conditions}
use Rattle.conf_find.specs.Fork.{Fork}
use Rattle.conf_find.specs.ForkRows.{FindsFork, FindsSplit}

-- the fork is well-made for the system, and meets the conditions of a step
pub record IsForkStep (system : System) (fork : Fork) : Type 0 where
  pub well_made : (fork_kind fork.start fork.left fork.right fork.test).is_well_made system
  pub conditions : fork_conditions system.rules fork.start fork.left fork.right fork.test (Ok tt)

abbrev pub FoundForksApply : Type 0
FoundForksApply = (system : System) (peaks : List PlacedPeak) (fork : Fork) → IsSystem system → ListsPeaks system.rules (Ok peaks)
    → FindsFork system.rules peaks fork → IsForkStep system fork

abbrev pub FoundSplitsApply : Type 0
FoundSplitsApply = (system : System) (peaks : List PlacedPeak) (fork : Fork) → IsSystem system → ListsPeaks system.rules (Ok peaks)
    → FindsSplit system.rules peaks fork → IsForkStep system fork × (fork.test ≡ Normal)
