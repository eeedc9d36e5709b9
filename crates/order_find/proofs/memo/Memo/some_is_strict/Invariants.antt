use Rattle.std.proofs.Common.{◌≡◌, drop}
use Rattle.order_search.specs.Slots.{table_of}
use Rattle.order_find.specs.SubtermSpace.{some_passes, subterm_slots}
use Rattle.order_find.specs.Remembered.{AreTrueOf}
use Rattle.order_find.proofs.memo.Memo.some_is_strict.Given as goal

abbrev pub invariant-loop-number : goal.invariant-loop-number
invariant-loop-number l = record {
  known : AreTrueOf l.space.pairs.now l.self.known.items;
  rest : some_passes (table_of (subterm_slots l.space.roots.now) l.values) (drop l.number l.space.pairs.now)
      ≡ some_passes (table_of (subterm_slots l.space.roots.now) l.values) l.space.pairs.now;
}
