-- Peaks that are joined or closed show confluence, and their conditions have one answer.
use Rattle.std.specs.Prelude.{List, Ok, map}
use Rattle.trs_defs.specs.System.{System, IsSystem}
use Rattle.trs_defs.specs.Path.{PlacedRule}
use Rattle.trs_defs.specs.Claims.{IsTerminating, IsConfluent}
use Rattle.confluence_theory.specs.Peak.{Covers}
use Rattle.rewrite_core.specs.PlacedPeak.{PlacedPeak}
use Rattle.rewrite_core.specs.PathsOfJoin.{PathsOfJoin}
use Rattle.rewrite_core.specs.Check.{HasOneAnswer}
use Rattle.crit_pairs.specs.PlainPeak.{plain}
use Rattle.closed_pairs.specs.Joined.{are_joined, newman_conditions}
use Rattle.closed_pairs.specs.ParallelClosed.{parallel_conditions_on, parallel_conditions}
use Rattle.closed_pairs.specs.StronglyClosed.{FourPaths, strong_conditions_on, strong_conditions}

-- a terminating system is confluent if each critical peak is joined
abbrev pub JoinedPeaksConclude : Type 0
JoinedPeaksConclude = (system : System) (items : List PathsOfJoin) → IsSystem system → newman_conditions system items (Ok tt) → IsTerminating system → IsConfluent system

-- a left-linear system is confluent if each critical peak is closed by a parallel step
abbrev pub ParallelClosedPeaksConclude : Type 0
ParallelClosedPeaksConclude = (system : System) (items : List (List PlacedRule)) → IsSystem system → parallel_conditions system items (Ok tt) → IsConfluent system

-- a linear system is confluent if each critical peak is joined strongly
abbrev pub StronglyClosedPeaksConclude : Type 0
StronglyClosedPeaksConclude = (system : System) (items : List FourPaths) → IsSystem system → strong_conditions system items (Ok tt) → IsConfluent system

-- ---- any list of peaks that covers the system

-- it is confluent if it terminates and the peaks are joined
abbrev pub JoinedListConcludes : System → Type 0
JoinedListConcludes system = (peaks : List PlacedPeak) (items : List PathsOfJoin) → Covers system.rules (map plain peaks)
    → are_joined system.rules peaks items (Ok tt) → IsTerminating system → IsConfluent system

-- it is confluent if it is left-linear and the peaks are closed by parallel steps
abbrev pub ParallelListConcludes : System → Type 0
ParallelListConcludes system = (peaks : List PlacedPeak) (items : List (List PlacedRule)) → Covers system.rules (map plain peaks)
    → parallel_conditions_on system.rules peaks items (Ok tt) → IsConfluent system

-- it is confluent if it is linear and the peaks are joined strongly
abbrev pub StrongListConcludes : System → Type 0
StrongListConcludes system = (peaks : List PlacedPeak) (items : List FourPaths) → Covers system.rules (map plain peaks)
    → strong_conditions_on system.rules peaks items (Ok tt) → IsConfluent system

-- ---- one answer

abbrev pub JoinsAnswerOnce : Type 0
JoinsAnswerOnce = (system : System) (items : List PathsOfJoin) → IsSystem system → HasOneAnswer (newman_conditions system items)

abbrev pub ParallelStepsAnswerOnce : Type 0
ParallelStepsAnswerOnce = (system : System) (items : List (List PlacedRule)) → IsSystem system → HasOneAnswer (parallel_conditions system items)

abbrev pub StrongJoinsAnswerOnce : Type 0
StrongJoinsAnswerOnce = (system : System) (items : List FourPaths) → IsSystem system → HasOneAnswer (strong_conditions system items)

-- the same, of whatever peaks are handed in
abbrev pub GivenJoinsAnswerOnce : Type 0
GivenJoinsAnswerOnce = (system : System) (peaks : List PlacedPeak) (items : List PathsOfJoin) → IsSystem system → HasOneAnswer (are_joined system.rules peaks items)

abbrev pub GivenParallelStepsAnswerOnce : Type 0
GivenParallelStepsAnswerOnce = (system : System) (peaks : List PlacedPeak) (items : List (List PlacedRule)) → IsSystem system
    → HasOneAnswer (parallel_conditions_on system.rules peaks items)

abbrev pub GivenStrongJoinsAnswerOnce : Type 0
GivenStrongJoinsAnswerOnce = (system : System) (peaks : List PlacedPeak) (items : List FourPaths) → IsSystem system
    → HasOneAnswer (strong_conditions_on system.rules peaks items)
