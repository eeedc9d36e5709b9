-- What is true of a search that a seat watches.
use Rattle.std.specs.Prelude.{◌≡◌, ◌<◌, ℕ, Option, Some}
use Rattle.atomic_table.specs.Seated.{TableId}
use Rattle.tree_core.specs.tree_definitions.History.{Runs}
use Rattle.turn_lock.specs.declared.sitting.Sitting.{Sitting}
use Rattle.turn_lock.specs.Seats.{After}
use Rattle.worker_pool.specs.declared.entry.Entry.{Entry}
use Rattle.worker_pool.specs.declared.watching.Watching.{Watching}
use Rattle.worker_pool.specs.Shared.{tree_entries, HasEnded}

-- The seat is there, and is the one with which the search began, later. While no poll has told the search to stop, the seat has
-- made no entry, and its ticket runs; then the ticket has ended.
pub record IsWatched (lock : TableId) (first : Sitting Entry) (ticket stops : ℕ) (seat : Option (Sitting Entry)) : Type 0 where
  pub now : Sitting Entry
  pub there : seat ≡ Some now
  pub here : now.lock ≡ lock
  pub after : After first now
  pub same : stops ≡ 0 → now.mine ≡ first.mine
  pub runs : Runs ticket (tree_entries first.mine)
  pub ended : 0 < stops → HasEnded ticket now.mine

-- what no poll changes: the seat with which the search began, and the ticket
abbrev pub kept_of : Watching → Sitting Entry × ℕ
kept_of w = (w.first, w.ticket)
