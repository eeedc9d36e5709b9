-- What the strategies look for that are no finite search: the components of the graph, and what is asked of critical peaks.
use Rattle.std.specs.Prelude.{◌≢◌, ℕ, List, [], ◌∷◌, Ok, Err}
use Rattle.trs_defs.specs.System.{System}
use Rattle.pair_theory.specs.DependencyPair.{dependency_pairs}
use Rattle.rewrite_core.specs.PlacedPeak.{PlacedPeak}
use Rattle.loop_find.specs.crit_pairs.PeakList.{ListsPeaks}
use Rattle.loop_find.specs.crit_pairs.declared.faults.PeakFault.{PeakFault}
use Rattle.cert_step.specs.dp_graph.GroupOrSingle.{GroupOrSingle, group}
use Rattle.cert_step.specs.dp_graph.Components.{AreComponents}

-- the components of the graph on the problem of these pairs
abbrev pub AreComponentsOf : System → List ℕ → List GroupOrSingle → Type 0
AreComponentsOf system numbers items = AreComponents system.rules (dependency_pairs system.rules) numbers items

-- the components, where they are not one group of all pairs
pub record FindsGraph (system : System) (numbers : List ℕ) (items : List GroupOrSingle) : Type 0 where
  pub components : AreComponentsOf system numbers items
  pub split : items ≢ group numbers ∷ []

-- there is one component, a group of all pairs
abbrev pub FailsGraph : System → List ℕ → Type 0
FailsGraph system numbers = AreComponentsOf system numbers (group numbers ∷ [])

-- the list of the critical peaks finds the step
pub record FindsOnPeaks (system : System) (finds : List PlacedPeak → Type 0) : Type 0 where
  pub peaks : List PlacedPeak
  pub listed : ListsPeaks system.rules (Ok peaks)
  pub found : finds peaks

-- the critical peaks pass a limit, or their list fails
pub data FailsOnPeaks (system : System) (fails : List PlacedPeak → Type 0) : Type 0 where
  peaks_pass_limit : (fault : PeakFault) → ListsPeaks system.rules (Err fault) → FailsOnPeaks system fails
  peaks_fail : (peaks : List PlacedPeak) → ListsPeaks system.rules (Ok peaks) → fails peaks → FailsOnPeaks system fails
