use Rattle.std.proofs.Common.{refl}
use Rattle.std.specs.Vec.{with_item}
use Rattle.dp_graph.proofs.ListPlaces.{lists_set, row_at}
use Rattle.dp_graph.proofs.WaitingLaws.{looked_at, looked_at_itself}
use Rattle.dp_graph.proofs.waiting.Waiting.look_at.Goals as goal

pub returns-then-l-v : goal.returns-then-l-v
returns-then-l-v c = looked_at_itself c.args.self.now c.args.l c.args.v c.if-l-v.true

pub returns : goal.returns
returns c =
    let old = c.args.self.now in
    looked_at old (record { blockers = with_item old.blockers c.args.l c.trim.new.list; out = old.out; ready = c.add_if.new.set }) c.args.l c.args.v c.index_mut.result.now.items
    c.trim.new.list.items c.in_ok-free.free c.requires (row_at old.blockers.items c.args.l c.index_mut.result.now c.requires c.index_mut.ensures.value) refl
    (lists_set old.blockers.items c.args.l c.trim.new.list) (rw c.deref.ensures.value at c.in_ok-free.ensures) c.if-l-v.false c.in_ok-add_if.ensures
