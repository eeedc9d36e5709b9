use Rattle.std.proofs.Common.{sym, subst}
use Rattle.std.proofs.lemmas.List.{take_all}
use Rattle.std.proofs.lemmas.List.Elements.{All-nil, All-more, All-weaker}
use Rattle.join_find.specs.CommonIds.{Reached}
use Rattle.join_find.specs.ReachedSides.{IsNarrowAt}
use Rattle.conf_find.specs.Marks.{AreMarkedIds}
use Rattle.conf_find.proofs.marks.mark_all.Goals as goal

pub loop-entry-init : goal.loop-entry-init
loop-entry-init g c = record { marked = All-nil (λ (e : Reached). g.M.Marks.has_mark c.args.marks.now e.0); still = λ i h. h; marks = c.requires.marks }

pub mark-requires-clause-narrow : goal.mark-requires-clause-narrow
mark-requires-clause-narrow g c =
    subst (λ (e : Reached). IsNarrowAt c.args.pool.now e.0) (sym c.entry-item.is) (c.requires.narrow c.loop-entry.entry-index c.entry-item.result c.loop-entry-test.true)

pub loop-entry-preserved : goal.loop-entry-preserved
loop-entry-preserved g c =
    let entries = c.args.entries.now in
    let has_mark = g.M.Marks.has_mark in
    let before = All-weaker (λ (e : Reached). has_mark c.loop-entry.marks e.0) (λ (e : Reached). has_mark c.mark.new.self e.0) (λ x k. c.in_ok-mark.ensures.still x.0 k) _ c.loop-entry.invariant.marked in
    record {
      marked = All-more (λ (e : Reached). has_mark c.mark.new.self e.0) entries c.loop-entry.entry-index c.entry-item.result c.loop-entry-test.true before
          (subst (λ (e : Reached). has_mark c.mark.new.self e.0) c.entry-item.is c.in_ok-mark.ensures.marked);
      still = λ i h. c.in_ok-mark.ensures.still i (c.loop-entry.invariant.still i h);
      marks = c.in_ok-mark.ensures.marks;
    }

pub returns-clause-marked : goal.returns-clause-marked
returns-clause-marked g c = subst (λ es. AreMarkedIds g.M.Marks.has_mark c.loop-entry.marks es) (take_all c.loop-entry.entry-index c.args.entries.now c.loop-entry-test.false) c.loop-entry.invariant.marked
