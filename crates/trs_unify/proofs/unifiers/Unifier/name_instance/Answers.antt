use Rattle.std.proofs.Common.{◌≡◌, ◌∙◌, length, get_or, take, drop, ◌++◌, ap, sym, unwrap_or, arith, rules}
use Rattle.trs_defs.specs.Tree.{var}
use Rattle.trs_defs.specs.Variable.{with_variables}
use Rattle.trs_defs.specs.Substitution.{bound}
use Rattle.trs_core.specs.View.{tree}
use Rattle.trs_unify.specs.Shared.{shared_trees, tree_at}
use Rattle.trs_unify.proofs.BoundTerms.{not_there, found}
use Rattle.trs_unify.proofs.InOrder.{refilled}
use Rattle.trs_unify.proofs.ListedVariables.{instance_variables, added_under}
use Rattle.trs_unify.proofs.WalkedNodes.{none_walked, walked_still}
use Rattle.trs_unify.proofs.unifiers.Unifier.name_instance.Goals as goal

pub loop-v-init : goal.loop-v-init
loop-v-init c =
    let long : length c.in_ok-marks.marks.items ≡ length c.self.inside.nodes.items = omega (arith, c.in_ok-marks.ensures.len, c.in_ok-marks.marks.ok, c.len.ensures, c.self.inside.nodes.ok) in
    record {
      names = c.requires;
      walked = none_walked c.self.inside.nodes.items c.in_ok-marks.marks.items c.args.names.now.order.items c.len.result (c.in_ok-marks.ensures.items_if_clones_equal (search rules)) long;
      order = rw (c.deref-v-items.ensures.value, c.in_ok-vars.ensures) (instance_variables (bound c.args.self.now) (tree c.args.t.now) c.args.names.now.order.items);
    }

pub loop-v-preserved-in_default : goal.loop-v-preserved-in_default
loop-v-preserved-in_default c =
    let σ = bound c.args.self.now in
    let vs = c.deref-v-items.result.now in
    let known = c.loop-v.names.order.items in
    let new = c.number_of.new.names.order.items in
    let v = get_or vs c.loop-v.v-index 0 in
    let free : σ v ≡ var v = ap (λ o. unwrap_or o (var v)) (not_there _ _ _ _ _ c.self.invariant _ c.self.view_is v c.in_default.ensures.value) in
    record {
      names = c.in_ok-number_of.ensures.names;
      walked = walked_still c.self.inside.nodes.items c.loop-v.marks.items known c.loop-v.invariant.walked (var v) new c.in_ok-number_of.ensures.order;
      order = added_under σ known new vs _ c.loop-v.v-index c.loop-v-test.true (c.in_ok-number_of.ensures.order ∙ ap (with_variables known) (sym free)) c.loop-v.invariant.order;
    }

pub loop-v-preserved : goal.loop-v-preserved
loop-v-preserved c =
    let σ = bound c.args.self.now in
    let nodes = c.self.inside.nodes.items in
    let vs = c.deref-v-items.result.now in
    let known = c.loop-v.names.order.items in
    let new = c.name_node.new.names.order.items in
    let v = get_or vs c.loop-v.v-index 0 in
    let there : σ v ≡ tree_at (shared_trees nodes) c.index.result.now =
    ap (λ o. unwrap_or o (var v)) (found _ _ _ _ _ c.self.invariant _ c.self.view_is v _ _ c.in-Some.ensures.value c.index.ensures) in
    let marks : take c.loop-v.marks.len (c.name_node.new.marks ++ drop (length c.name_node.new.marks) c.loop-v.marks.items) ≡ c.name_node.new.marks =
    refilled _ _ _ (omega (arith, c.name_node.auto.marks, c.deref_mut.ensures.len, c.loop-v.marks.ok)) (omega (arith, c.loop-v.marks.ok)) in
    let order : new ≡ with_variables known (tree_at (shared_trees nodes) c.index.result.now) = rw c.deref.ensures.value at c.in_ok-name_node.ensures.order in
    record {
      names = c.in_ok-name_node.ensures.names;
      walked = rw marks (rw c.deref.ensures.value at c.in_ok-name_node.ensures.walked);
      order = added_under σ known new vs _ c.loop-v.v-index c.loop-v-test.true (order ∙ ap (with_variables known) (sym there)) c.loop-v.invariant.order;
    }
