use Rattle.std.proofs.Common.{ℕ, Vec, Global}
use Rattle.program_edge.specs.Fetching.{unfetched_status, unfetched_line}
use Rattle.io_edge.proofs.AskingAgain.{once_again}
use Rattle.trsbatch.proofs.FromLists.{missing_list, read_ok, touched_list, touched_both}
use Rattle.trsbatch.proofs.listed.fetch_list.Goals as goal

pub returns-in_err-name_fault-in-Err-clause-untouched :
    goal.returns-in_err-name_fault-in-Err-clause-untouched
returns-in_err-name_fault-in-Err-clause-untouched g c =
    touched_list c.args.list.now (g.S.Shelf.means c.args.shelf.now) (g.S.Shelf.means c.fetch.new.self) c.in-Err.ensures.faults c.in-Err.ensures.read

pub returns-in-Ok-clause-listed : goal.returns-in-Ok-clause-listed
returns-in-Ok-clause-listed g c =
    read_ok c.args.list.now c.in-Ok.text.items c.deref.result.now (g.S.Shelf.means c.args.shelf.now) (g.S.Shelf.means c.fetch.new.self) _ c.read_and_fetch.result
    (once_again (g.S.Shelf.means c.args.shelf.now) (g.S.Shelf.means c.fetch.new.self) c.args.list.now c.in-Ok.ensures.told c.in-Ok.ensures.faults c.in-Ok.ensures.read)
    c.in-Ok.ensures.whole c.in-Ok.ensures.bound c.deref.ensures.value c.read_and_fetch.ensures.read

pub returns-in-Ok-clause-untouched : goal.returns-in-Ok-clause-untouched
returns-in-Ok-clause-untouched g c =
    touched_both c.args.list.now c.in-Ok.text.items c.deref.result.now (g.S.Shelf.means c.args.shelf.now) (g.S.Shelf.means c.fetch.new.self) (g.S.Shelf.means c.read_and_fetch.new.shelf)
    c.in-Ok.ensures.faults c.in-Ok.ensures.read c.in-Ok.ensures.whole c.in-Ok.ensures.bound c.deref.ensures.value c.read_and_fetch.ensures.untouched

pub returns-in_ok-name_fault-in-Err-clause-listed :
    goal.returns-in_ok-name_fault-in-Err-clause-listed
returns-in_ok-name_fault-in-Err-clause-listed g c =
    missing_list (Vec ℕ Global) c.in-Err.fault (g.S.Shelf.means c.args.shelf.now) (g.S.Shelf.means c.fetch.new.self) c.args.list.now
    (unfetched_status c.in_ok-name_fault-in-Err.field-0) (unfetched_line c.in_ok-name_fault-in-Err.field-0) c.in_ok-name_fault-in-Err.ensures
    c.in-Err.ensures.counted c.in-Err.ensures.too_long c.in-Err.ensures.long

pub returns-in_ok-name_fault-in-Err-clause-untouched :
    goal.returns-in_ok-name_fault-in-Err-clause-untouched
returns-in_ok-name_fault-in-Err-clause-untouched g c =
    touched_list c.args.list.now (g.S.Shelf.means c.args.shelf.now) (g.S.Shelf.means c.fetch.new.self) c.in-Err.ensures.faults c.in-Err.ensures.read
