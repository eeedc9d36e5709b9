use Rattle.std.proofs.Common.{◌≡◌, not, ap, refl, sym, ◌∙◌}
use Rattle.trs_defs.specs.Tree.{app}
use Rattle.trs_defs.specs.System.{is_defined}
use Rattle.trs_core.specs.View.{tree, forest}
use Rattle.dp_core.proofs.DefinedSymbols.{defined_by}
use Rattle.dp_graph.proofs.CapRowLaws.{ends_of_variable, no_more_ends, more_ends, ends_below}
use Rattle.dp_graph.proofs.cap_rows.CapRows.+add_ends.Goals as goal

pub returns-in_default-clause-ends : goal.returns-in_default-clause-ends
returns-in_default-clause-ends t c = λ all are.
    ends_of_variable c.args.by_root.now.rules c.args.lefts.now c.args.self.now all (tree c.args.t.now) c.in_default.field-0 c.args.ends.now.items are (ap tree c.in_default.is)

pub loop-arg-init : goal.loop-arg-init
loop-arg-init t c = record {
  ends = λ all are. no_more_ends c.args.by_root.now.rules c.args.lefts.now c.args.self.now all c.deref-arg-items.result.now c.args.ends.now.items are;
  kept = λ n words h. h;
}

pub loop-arg-preserved : goal.loop-arg-preserved
loop-arg-preserved t c = record {
  ends = λ all are.
      let so_far = c.loop-arg.invariant.ends all are in
      more_ends c.args.by_root.now.rules c.args.lefts.now c.loop-arg.self c.add_ends.new.self all c.deref-arg-items.result.now c.loop-arg.arg-index c.arg-item.result c.args.ends.now.items c.loop-arg.ends.items c.add_ends.new.ends.items
      c.loop-arg-test.true c.arg-item.is so_far (c.in_ok-add_ends.ensures.ends so_far.0 so_far.2);
  kept = λ n words h. c.in_ok-add_ends.ensures.kept n words (c.loop-arg.invariant.kept n words h);
}

pub returns-then-is_empty-clause-ends : goal.returns-then-is_empty-clause-ends
returns-then-is_empty-clause-ends t c = λ all are.
    let args = c.deref-arg-items.result.now in
    let is : tree c.args.t.now ≡ app c.in-App.f (forest args) = rw (c.in-App.is, ← c.args-2.view_is, c.deref-arg-items.ensures.value) refl in
    let defined : not c.is_empty.result ≡ is_defined c.args.by_root.now.rules c.in-App.f = rw (c.is_empty.ensures, c.with_root.ensures.numbers) (defined_by c.in-App.f c.args.by_root.now.rules) in
    ends_below c.args.by_root.now.rules c.args.lefts.now c.loop-arg.self all (tree c.args.t.now) c.in-App.f args c.loop-arg.arg-index c.args.ends.now.items c.loop-arg.ends.items
    is (sym defined ∙ ap not c.if-is_empty.true) c.loop-arg-test.false (c.loop-arg.invariant.ends all are)
