use Rattle.std.proofs.Common.{◌≡◌, ap, arith, refl, map}
use Rattle.std.proofs.lemmas.List.{drop_all}
use Rattle.trs_defs.specs.Tree.{app}
use Rattle.trs_defs.proofs.ArgumentLists.{cell}
use Rattle.trs_core.specs.View.{tree, forest}
use Rattle.trs_unify.proofs.Rooms.{argument_smaller}
use Rattle.trs_unify.proofs.NewNames.{renaming_begins, renaming_goes_on, renaming_ends, built_more}
use Rattle.crit_pairs.proofs.solved.+number_variables.Goals as goal

pub number_variables-requires : goal.number_variables-requires
number_variables-requires t c =
    let is : tree c.args.t.now ≡ app c.in-App.f (forest c.deref-arg-items.result.now) = rw (c.in-App.is, ← c.args-in-App.view_is, c.deref-arg-items.ensures.value) refl in
    let smaller = argument_smaller c.in-App.f (tree c.args.t.now) c.deref-arg-items.result.now c.loop-arg.arg-index c.arg-item.result is c.loop-arg-test.true c.arg-item.is in
    (omega (arith, smaller, c.decreases), c.loop-arg.invariant.distinct)

pub loop-arg-init : goal.loop-arg-init
loop-arg-init t c =
    let is : tree c.args.t.now ≡ app c.in-App.f (forest c.deref-arg-items.result.now) = rw (c.in-App.is, ← c.args-in-App.view_is, c.deref-arg-items.ensures.value) refl in
    record {
      distinct = c.requires;
      renaming = renaming_begins c.args.names.now.order.items c.in-App.f _ _ (forest c.deref-arg-items.result.now) (ap (map tree) c.in_ok-built-in-App.ensures.items) is;
    }

pub loop-arg-preserved : goal.loop-arg-preserved
loop-arg-preserved t c = record {
  distinct = c.in_ok-number_variables-in-App.ensures.distinct;
  renaming = renaming_goes_on c.args.names.now.order.items c.loop-arg.names.order.items c.number_variables.new.names.order.items c.in-App.f _ _ _ _ _ _ _
      (ap forest (cell c.deref-arg-items.result.now c.loop-arg.arg-index c.arg-item.result c.loop-arg-test.true c.arg-item.is))
      (built_more c.loop-arg.built.items c.push.new.self.items c.in_ok-number_variables-in-App.field-0 c.in_ok-push-in-App.ensures.items)
      c.loop-arg.invariant.renaming c.in_ok-number_variables-in-App.ensures.renamed;
}

pub returns-after-loop-arg-clause-renamed : goal.returns-after-loop-arg-clause-renamed
returns-after-loop-arg-clause-renamed t c =
    renaming_ends c.args.names.now.order.items c.loop-arg.names.order.items c.in-App.f _ _ _
    (ap forest (drop_all c.loop-arg.arg-index c.deref-arg-items.result.now c.loop-arg-test.false)) c.loop-arg.invariant.renaming
