use Rattle.std.proofs.Common.{◌≡◌, ℕ, map, take, get_or, subst, sym, ap, ◌∙◌, Some, slice_get}
use Rattle.std.proofs.lemmas.Option.{slice_get-get_or}
use Rattle.std.proofs.lemmas.Result.{err_from_is_err_and}
use Rattle.pair_order.proofs.Making.{made_more, first_fault, no_fault}
use Rattle.kbo_order.specs.declared.entries.KboEntry.{KboEntry}
use Rattle.kbo_order.specs.declared.faults.KboFault.{KboFault}
use Rattle.kbo_order.specs.Table.{symbol_of}
use Rattle.kbo_order.specs.Faults.{IsEntryFault, IsTopFault, IsOnTop, IsFaultless, HasFaultAt, HasTopFaultAt, number}
use Rattle.kbo_order.proofs.Admitting.{admissible, next_symbols, top_made, first_of_top, as_first, whole_index}
use Rattle.kbo_order.proofs.table.Kbo.new.Goals as goal

no_entry : KboEntry
no_entry = record { symbol = 0; arity = 0; weight = 0; rank = 0 }

pub returns-in_err-add_entry-clause-fault : goal.returns-in_err-add_entry-clause-fault
unfolding no_entry
returns-in_err-add_entry-clause-fault c =
    let p = err_from_is_err_and c.from_residual.result c.from_residual.ensures.1 in
    let items = c.deref-entry-items.result.now in
    let e : KboEntry = get_or items c.loop-entry.entry-index no_entry in
    rw (p.1, p.2, ← c.deref-entry-items.ensures.value)
    (λ some. as_first items c.in_err-add_entry.field-0.0 (first_fault symbol_of IsEntryFault items number c.loop-entry.entry-index c.loop-entry.symbols e c.in_err-add_entry.field-0.0
    c.loop-entry.invariant (slice_get-get_or items c.loop-entry.entry-index no_entry c.loop-entry-test.true) (c.in_err-add_entry.ensures.fault some)))

pub loop-entry-preserved : goal.loop-entry-preserved
unfolding no_entry
loop-entry-preserved c =
    let items = c.deref-entry-items.result.now in
    made_more symbol_of IsEntryFault items c.loop-entry.entry-index c.loop-entry.symbols c.add_entry.new.symbols (get_or items c.loop-entry.entry-index no_entry)
    c.loop-entry.invariant (slice_get-get_or items c.loop-entry.entry-index no_entry c.loop-entry-test.true)
    c.in_ok-add_entry.ensures.symbols c.in_ok-add_entry.ensures.faultless

pub returns-then-not-is_on_top-clause-fault : goal.returns-then-not-is_on_top-clause-fault
unfolding no_entry
returns-then-not-is_on_top-clause-fault c = λ some.
    let items = c.deref-entry-items-2.result.now in
    let same : c.deref.result.now ≡ items = c.deref.ensures.value ∙ sym c.deref-entry-items-2.ensures.value in
    let e : KboEntry = get_or items c.loop-entry-2.entry-index no_entry in (
      subst (λ es. (k : ℕ) (fault : KboFault) → HasFaultAt es k fault → ⊥) c.deref-entry-items.ensures.value
          (no_fault symbol_of IsEntryFault c.deref-entry-items.result.now c.loop-entry.entry-index c.loop-entry.symbols c.loop-entry.invariant c.loop-entry-test.false),
      rw (← c.deref-entry-items-2.ensures.value)
          (first_fault symbol_of (IsTopFault items) items number c.loop-entry-2.entry-index (map symbol_of (take c.loop-entry-2.entry-index items)) e _ c.loop-entry-2.invariant
          (slice_get-get_or items c.loop-entry-2.entry-index no_entry c.loop-entry-2-test.true)
          (first_of_top items _ e (λ top. absurd (cc (c.is_on_top.ensures.1 (subst (λ es. IsOnTop es e) (sym same) top), c.if-not-is_on_top.true))))),
    )

pub loop-entry-2-preserved : goal.loop-entry-2-preserved
unfolding no_entry
loop-entry-2-preserved c =
    let items = c.deref-entry-items-2.result.now in
    let same : c.deref.result.now ≡ items = c.deref.ensures.value ∙ sym c.deref-entry-items-2.ensures.value in
    let i = c.loop-entry-2.entry-index in
    let e : KboEntry = get_or items i no_entry in
    let there : slice_get items i ≡ Some e = slice_get-get_or items i no_entry c.loop-entry-2-test.true in
    made_more symbol_of (IsTopFault items) items i (map symbol_of (take i items)) _ e c.loop-entry-2.invariant there (next_symbols items i e there)
    (top_made items i e (subst (λ es. IsOnTop es e) same (c.is_on_top.ensures.0 c.if-not-is_on_top.false)))

pub returns-clause-faultless : goal.returns-clause-faultless
returns-clause-faultless c =
    let first = c.deref-entry-items.result.now in
    let second = c.deref-entry-items-2.result.now in
    record {
      none = subst (λ es. (k : ℕ) (fault : KboFault) → HasFaultAt es k fault → ⊥) c.deref-entry-items.ensures.value
          (no_fault symbol_of IsEntryFault first c.loop-entry.entry-index c.loop-entry.symbols c.loop-entry.invariant c.loop-entry-test.false);
      none_on_top = subst (λ es. (k : ℕ) (fault : KboFault) → HasTopFaultAt es k fault → ⊥) c.deref-entry-items-2.ensures.value
          (no_fault symbol_of (IsTopFault second) second c.loop-entry-2.entry-index _ c.loop-entry-2.invariant c.loop-entry-2-test.false);
    }

pub invariant_of-result : goal.invariant_of-result
invariant_of-result c =
    let first = c.deref-entry-items.result.now in
    let second = c.deref-entry-items-2.result.now in
    let faultless : IsFaultless c.args.entries.items = record {
      none = subst (λ es. (k : ℕ) (fault : KboFault) → HasFaultAt es k fault → ⊥) c.deref-entry-items.ensures.value
          (no_fault symbol_of IsEntryFault first c.loop-entry.entry-index c.loop-entry.symbols c.loop-entry.invariant c.loop-entry-test.false);
      none_on_top = subst (λ es. (k : ℕ) (fault : KboFault) → HasTopFaultAt es k fault → ⊥) c.deref-entry-items-2.ensures.value
          (no_fault symbol_of (IsTopFault second) second c.loop-entry-2.entry-index _ c.loop-entry-2.invariant c.loop-entry-2-test.false);
    } in
    record {
      indexed = whole_index first c.loop-entry.entry-index c.loop-entry.symbols c.loop-entry-test.false c.loop-entry.invariant.symbols_are ∙ ap (map symbol_of) c.deref-entry-items.ensures.value;
      admissible = admissible c.args.entries.items faultless;
    }
