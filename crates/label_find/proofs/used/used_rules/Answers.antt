use Rattle.std.proofs.Common.{[], sym, subst}
use Rattle.label_find.specs.Lists.{IsWith}
use Rattle.label_find.proofs.RuleLists.{with_none, with_entry, with_all_entries}
use Rattle.label_find.proofs.used.used_rules.Goals as goal

pub loop-entry-init : goal.loop-entry-init
loop-entry-init c = subst (IsWith [] []) (sym c.new-used.ensures.items) (with_none [])

pub loop-entry-preserved : goal.loop-entry-preserved
loop-entry-preserved c =
    with_entry [] c.args.entries.now c.loop-entry.entry-index c.entry-item.result c.loop-entry.used.items c.use_path.new.used.items c.loop-entry-test.true c.entry-item.is
    c.loop-entry.invariant (rw c.deref.ensures.value at c.in_ok-use_path.ensures)

pub returns : goal.returns
returns c = with_all_entries [] c.args.entries.now c.loop-entry.entry-index c.loop-entry.used.items c.loop-entry-test.false c.loop-entry.invariant
