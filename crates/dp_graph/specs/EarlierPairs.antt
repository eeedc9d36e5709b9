-- The pairs of earlier items, by the roots of their left sides.
use Rattle.std.specs.Prelude.{◌≡◌, ℕ, List, Option, Some, None, Vec, Result, Ok, Err, slice_get}
use Rattle.std.specs.declared.alloc.Global.{Global}
use Rattle.std.specs.BTreeMap.{BTreeMap}
use Rattle.trs_defs.specs.Member.{In}
use Rattle.trs_defs.specs.System.{System}
use Rattle.pair_theory.specs.DependencyPair.{DependencyPair, dependency_pairs}
use Rattle.rewrite_core.specs.declared.checks.refusals.StepRefused.{StepRefused}
use Rattle.rewrite_core.specs.declared.checks.refusals.StepRefused.TheVariants.{EdgeBack}
use Rattle.rewrite_core.specs.Check.{Check}
use Rattle.dp_core.specs.PlacedPairs.{IsOfRule}
use Rattle.dp_graph.specs.ByRoot.{items_at}
use Rattle.dp_graph.specs.FlagRows.{IsSet}
use Rattle.dp_graph.specs.GraphConditions.{leads_to_none}
use Rattle.dp_graph.specs.declared.earlier.Earlier.{Earlier}

-- no edge leads from pair number m to one of these pairs
abbrev pub leads_to_none_of : System → ℕ → List ℕ → Check (Unit {0})
leads_to_none_of system m ns = leads_to_none system.rules (dependency_pairs system.rules) m ns

-- what is answered where the first of the pairs to which an edge leads is this one, or there is none
abbrev pub first_led_to : ℕ → Option ℕ → Result (Unit {0}) StepRefused
first_led_to m None = Ok tt
first_led_to m (Some n) = Err (EdgeBack m n)

-- pair number n is there, is of rule number r, and stands at its root
pub record IsKept (system : System) (by_root : BTreeMap ℕ (Vec ℕ Global)) (r : ℕ) : Type 0 where
  pub number : ℕ
  pub pair : DependencyPair
  pub numbered : slice_get (dependency_pairs system.rules) number ≡ Some pair
  pub of_rule : IsOfRule system.rules r pair
  pub kept : In number (items_at by_root pair.from.symbol)

-- What is answered of the pairs at the root of a pair's right side is answered of all members; of each rule that was seen a
-- pair is kept.
pub record IsEarlier (system : System) (members : List ℕ) (earlier : Earlier) : Type 0 where
  pub alike : (m : ℕ) (p : DependencyPair) (answer : Result (Unit {0}) StepRefused) → slice_get (dependency_pairs system.rules) m ≡ Some p
      → leads_to_none_of system m (items_at earlier.by_root p.to.symbol) answer → leads_to_none_of system m members answer
  pub seen : (r : ℕ) → IsSet earlier.rules.items r → IsKept system earlier.by_root r
