-- Peaks that are decreasing show confluence, and their conditions have one answer.
use Rattle.std.specs.Prelude.{ℕ, List, Ok, map}
use Rattle.trs_defs.specs.System.{System, IsSystem}
use Rattle.trs_defs.specs.Claims.{IsConfluent}
use Rattle.confluence_theory.specs.Peak.{Covers}
use Rattle.rewrite_core.specs.PlacedPeak.{PlacedPeak}
use Rattle.rewrite_core.specs.PathsOfJoin.{PathsOfJoin}
use Rattle.rewrite_core.specs.Check.{HasOneAnswer}
use Rattle.closed_pairs.specs.crit_pairs.PlainPeak.{plain}
use Rattle.rule_label.specs.Labelled.{label_conditions_on, label_conditions}

-- a linear system is confluent if each critical peak is decreasing by some ranks of its rules
abbrev pub DecreasingPeaksConclude : Type 0
DecreasingPeaksConclude = (system : System) (ranks : List ℕ) (items : List PathsOfJoin) → IsSystem system → label_conditions system ranks items (Ok tt) → IsConfluent system

-- the same, of any list of peaks that covers the system
abbrev pub DecreasingListConcludes : System → Type 0
DecreasingListConcludes system = (peaks : List PlacedPeak) (ranks : List ℕ) (items : List PathsOfJoin) → Covers system.rules (map plain peaks)
    → label_conditions_on system.rules peaks ranks items (Ok tt) → IsConfluent system

abbrev pub LabelsAnswerOnce : Type 0
LabelsAnswerOnce = (system : System) (ranks : List ℕ) (items : List PathsOfJoin) → IsSystem system → HasOneAnswer (label_conditions system ranks items)

-- the same, of whatever peaks are handed in
abbrev pub GivenLabelsAnswerOnce : Type 0
GivenLabelsAnswerOnce = (system : System) (peaks : List PlacedPeak) (ranks : List ℕ) (items : List PathsOfJoin) → IsSystem system
    → HasOneAnswer (label_conditions_on system.rules peaks ranks items)
