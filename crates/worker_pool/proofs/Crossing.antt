-- The shared tree and seats may go to other threads, and threads may share the lock and the tables.
use denote.Ref.{NamedLft}
use denote.Param.Send.{IsSend, IsSync, sendable, shr_send}
use denote.Param.SendFields.{declared_send, as_row_send}
use Rattle.std.proofs.Crossing.{crosses}
use Rattle.trs_core.proofs.terms.Args.TheLaws.TheKnot as terms
use Rattle.trs_core.proofs.positions.Position.TheSendSync as position
use Rattle.trs_core.specs.contracts.rules.Trs as Trs
use Rattle.tree_core.below.term_pool.proofs.paths.PathStep.TheSendSync as path_step
use Rattle.tree_core.below.rewrite_core.proofs.checks.joins.Join.TheSendSync as join
use Rattle.tree_core.below.closed_pairs.proofs.strong.Four.TheSendSync as four
use Rattle.tree_core.below.dp_graph.proofs.items.GraphItem.TheSendSync as item
use Rattle.tree_core.below.poly_lin.proofs.table.LinTable.TheSendSync as table
use Rattle.tree_core.below.cert_step.proofs.problem.Problem.TheSendSync as problem
use Rattle.tree_core.below.tree_state.proofs.node.Node.TheSendSync as node
use Rattle.tree_core.below.tree_definitions.proofs.question.Question.TheSendSync as question
use Rattle.tree_core.below.strategies.proofs.outcome.Limits.TheSendSync as limits
use Rattle.tree_core.below.strategies.specs.contracts.peaks.KnownPeaks as KnownPeaks
use Rattle.tree_core.below.strategies.specs.contracts.tables.Tables as Tables
use Rattle.tree_core.below.crit_pairs.proofs.peak_pairs.PeakPairs.TheSendSync as pairs
use Rattle.tree_core.below.cert_step.specs.contracts.step.Step as Step
use Rattle.tree_core.below.tree_state.specs.contracts.entry.Event as Event
use Rattle.tree_core.below.tree_state.specs.contracts.board.Board as Board
use Rattle.tree_core.specs.contracts.tree.Tree as Tree
use Rattle.turn_lock.proofs.lock.Seat.TheSendSync as seat
use Rattle.turn_lock.proofs.lock.TurnLock.TheSendSync as lock
use Rattle.turn_lock.specs.contracts.lock.Seat as Seat
use Rattle.turn_lock.specs.contracts.lock.TurnLock as TurnLock
use Rattle.worker_pool.specs.contracts.entry.Entry as Entry
use Rattle.worker_pool.specs.contracts.shared.SharedTree as SharedTree
use Rattle.worker_pool.specs.contracts.shared.SharedTreeChronicle.TheImpl.{ghosts}
use Rattle.worker_pool.specs.contracts.worker.Worker as Worker

-- what a step holds, and then what holds it, from within outwards
step_parts_send : IsSend Step.the_field.row
step_parts_send = search (position.the_send, path_step.the_send, join.the_send, four.the_send, item.the_send, table.the_send, crosses, terms.crosses, sendable) depth 60 fits 20000

event_parts_send : IsSend Event.the_field.row
event_parts_send = search (step_parts_send, problem.the_field_send, sendable) depth 60 fits 20000

board_send : IsSend Board.the_row
board_send = search (event_parts_send, node.the_send, crosses, sendable) depth 60 fits 20000

system_sync : IsSync Trs.the_row
system_sync = search (crosses, terms.crosses, sendable) depth 60 fits 20000

-- what strategies look up in the system is lent to all workers
peaks_sync : (a : NamedLft) → IsSync (KnownPeaks.the_row a)
peaks_sync a = search (pairs.the_sync, position.the_sync, crosses, terms.crosses, sendable) depth 60 fits 20000

tables_sync : (a : NamedLft) → IsSync (Tables.the_row a)
tables_sync a = search (peaks_sync, system_sync, position.the_sync, crosses, terms.crosses, sendable) depth 60 fits 20000

tree_send : (a : NamedLft) → IsSend (Tree.the_row a)
tree_send a = search (board_send, system_sync, crosses, sendable) depth 60 fits 20000

shared_send : (a : NamedLft) → IsSend (SharedTree.the_row a)
shared_send a = search (tree_send, sendable) depth 60 fits 20000

pub seat_send : (a : NamedLft) → IsSend (Seat.the_row (SharedTree.the_row a) Entry.the_row ghosts)
seat_send a = seat.the_send (SharedTree.the_row a) Entry.the_row ghosts (shared_send a)

lock_sync : (a : NamedLft) → IsSync (TurnLock.the_row (SharedTree.the_row a) Entry.the_row ghosts)
lock_sync a = search (lock.the_sync, shared_send) depth 60 fits 20000

pub worker_send : (l a : NamedLft) → IsSend (Worker.the_row l a)
worker_send l a =
    declared_send (Worker.the_type l a)
    (search (lock_sync, as_row_send, shr_send), (seat_send a, (question.the_send, (search (tables_sync, as_row_send, shr_send), (limits.the_send, tt)))))
