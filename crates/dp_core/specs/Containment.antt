-- How a term stands in another one.
use Rattle.std.specs.Prelude.{◌≡◌}
use Rattle.trs_defs.specs.Tree.{Tree}
use Rattle.pair_theory.specs.Subterm.{Sub, ProperSubterm}
use Rattle.dp_core.specs.declared.contained.Containment.{Containment}
use Rattle.dp_core.specs.declared.contained.Containment.TheVariants.{Equal, Proper, Missing}

-- how t stands in s: it is s, or a proper subterm of s, or no subterm
abbrev pub IsContainment : Tree → Tree → Containment → Type 0
IsContainment s t Equal = s ≡ t
IsContainment s t Proper = ProperSubterm s t
IsContainment s t Missing = Sub t s → ⊥
