use Rattle.std.proofs.Common.{◌≡◌}
use Rattle.join_find.specs.CommonIds.{Reached}
use Rattle.join_find.proofs.Firsts.{first_read, none_further}
use Rattle.join_find.proofs.SharedIds.{id_nowhere}
use Rattle.join_find.proofs.common.path_of.Goals as goal

pub returns-then-entry-id : goal.returns-then-entry-id
returns-then-entry-id c = record {
  entry = c.entry-item.result;
  first = first_read (λ (e : Reached). e.0 ≡ c.args.id) c.args.entries.now c.loop-entry.entry-index c.entry-item.result c.loop-entry-test.true c.entry-item.is c.if-entry-id.true c.loop-entry.invariant;
  is = c.as_slice.ensures.value;
}

pub loop-entry-preserved : goal.loop-entry-preserved
loop-entry-preserved c =
    none_further (λ (e : Reached). e.0 ≡ c.args.id) c.args.entries.now c.loop-entry.entry-index c.entry-item.result c.loop-entry-test.true c.entry-item.is c.if-entry-id.false c.loop-entry.invariant

pub returns : goal.returns
returns c = id_nowhere c.args.entries.now c.args.id c.loop-entry.entry-index c.loop-entry-test.false c.loop-entry.invariant
