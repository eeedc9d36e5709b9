use Rattle.std.proofs.Common.{◌≡◌, find, not, drop}
use Rattle.trs_core.specs.VariableSet.{holds}
use Rattle.trs_core.specs.Occurrences.{occurring_in, occurring_in_all}
use Rattle.trs_core.specs.View.{tree, forest}
use Rattle.trs_core.proofs.extra.+first_unknown.Given as goal

abbrev pub invariant-loop-arg : goal.invariant-loop-arg
invariant-loop-arg l =
    find (λ v. not (holds l.known v)) (occurring_in_all (forest (drop l.arg-index l.arg-items)))
    ≡ find (λ v. not (holds l.known v)) (occurring_in (tree l.t))
