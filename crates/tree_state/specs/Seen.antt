-- What is seen of the nodes and entries of a tree.
use Rattle.std.specs.Prelude.{◌<◌, ℕ, List, take, length, Option, Some, None, slice_get}
use Rattle.std.specs.Option.{option_map}
use Rattle.std.specs.List.{AllByRecursion}
use Rattle.tree_definitions.specs.cert_step.ProofProblem.{problem_of}
use Rattle.tree_definitions.specs.cert_step.ProofStep.{ProofStep, step_of, dp}
use Rattle.tree_definitions.specs.strategies.Kinds.{strategies_for}
use Rattle.tree_state.specs.declared.entry.Entry.{Entry as OwnedEntry}
use Rattle.tree_state.specs.declared.entry.Event.{Event as OwnedEvent}
use Rattle.tree_state.specs.declared.entry.Event.TheVariants as own
use Rattle.tree_state.specs.declared.node.Node.{Node}
use Rattle.tree_state.specs.declared.node.Decision.{Decision}
use Rattle.tree_definitions.specs.History.{HistoryEntry, Event, claimed, found, failed, cancelled, aborted}
use Rattle.tree_definitions.specs.States.{TreeNode, Decided}

abbrev pub event_of : OwnedEvent → Event
event_of (own.Claimed problem strategy) = claimed (problem_of problem) strategy
event_of (own.Found step) = found (step_of step)
event_of (own.Failed failure) = failed failure
event_of own.Cancelled = cancelled
event_of own.Aborted = aborted

abbrev pub entry_of : OwnedEntry → HistoryEntry
entry_of e = record { seat = e.seat; ticket = e.ticket; event = event_of e.event }

-- the step that an event found; one that found none does not decide a node
abbrev pub step_of_event : Event → ProofStep
step_of_event (found step) = step
step_of_event _ = dp

abbrev pub step_in : Option HistoryEntry → ProofStep
step_in None = dp
step_in (Some e) = step_of_event e.event

abbrev pub decided_of : List HistoryEntry → Decision → Decided
decided_of history d = record { step = step_in (slice_get history d.entry); first = d.first; count = d.count }

abbrev pub node_of : List HistoryEntry → Node → TreeNode
node_of history n = record {
  goal = n.goal;
  problem = problem_of n.problem;
  decision = option_map (decided_of history) n.decision;
  marks = take (length (strategies_for (problem_of n.problem))) n.marks;
}

abbrev pub IsDecidedBefore : ℕ → Option Decision → Type 0
IsDecidedBefore length None = Unit {0}
IsDecidedBefore length (Some d) = d.entry < length

-- the entries that decided nodes are among so many
abbrev pub AreWithin : ℕ → List Node → Type 0
AreWithin length nodes = AllByRecursion (λ (n : Node). IsDecidedBefore length n.decision) nodes
