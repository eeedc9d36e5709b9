use Rattle.std.proofs.Common.{map, sym, ◌∙◌, subst, arith, get_or, IfOk}
use Rattle.std.proofs.lemmas.List.{length-map}
use Rattle.std.proofs.lemmas.Option.{slice_get-get_or}
use Rattle.trs_defs.specs.Tree.{Tree}
use Rattle.trs_defs.proofs.ListItems.{image_item}
use Rattle.term_pool.specs.Pooled.{StandsFor, tree_at}
use Rattle.term_pool.proofs.PoolPlaces.{id_tree, id_variable}
use Rattle.term_pool.proofs.TakenArguments.{one_taken, all_taken}
use Rattle.term_pool.proofs.pools.Pool.+take_over.Goals as goal

pub loop-arg-preserved : goal.loop-arg-preserved
loop-arg-preserved t c =
    let f = tree_at c.args.from.now in
    let args = c.as_slice-arg-items.result.now in
    let k = c.loop-arg.arg-index in
    let there = image_item f args k (get_or args k 0) (slice_get-get_or args k 0 c.loop-arg-test.true) in
    let done = c.in_ok-take_over-in-App.ensures in
    rw c.in_ok-push-in-App.ensures.ok (record {
      taken = one_taken (map f args) c.args.self.now c.loop-arg.self c.take_over.new.self c.loop-arg.ids.items k c.in_ok-take_over-in-App.field-0 (f (get_or args k 0)) there c.loop-arg.invariant.taken
          done.kept done.id;
      known = done.known;
    })

pub returns-in-Var-clause-id : goal.returns-in-Var-clause-id
returns-in-Var-clause-id t c =
    let P : Tree → Type 0 = λ z. IfOk c.add_known.result (λ own. StandsFor c.add_known.new.self own z) in
    subst P (sym (id_variable c.args.from.now c.args.id c.in-Var.v c.node.result.now c.node.ensures.is c.in-Var.is)) c.add_known.ensures.id

pub returns-after-loop-arg-clause-id : goal.returns-after-loop-arg-clause-id
returns-after-loop-arg-clause-id t c =
    let P : Tree → Type 0 = λ z. IfOk c.add_known-in-App.result (λ own. StandsFor c.add_known-in-App.new.self own z) in
    let from = c.args.from.now in
    let args = c.as_slice-arg-items.result.now in
    let us = map (tree_at from) args in
    let whole = id_tree from c.args.id c.in-App.f c.node.result.now c.in-App.args args c.node.ensures.is c.in-App.is c.as_slice-arg-items.ensures in
    subst P (all_taken us c.args.self.now c.loop-arg.self c.loop-arg.ids.items c.loop-arg.arg-index c.in-App.f c.loop-arg.invariant.taken
    (omega (arith, length-map args (tree_at from), c.loop-arg-test.false)) ∙ sym whole) c.add_known-in-App.ensures.id
