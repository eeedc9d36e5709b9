use Rattle.std.proofs.Common.{◌≡◌, ap, sym, subst, ◌∙◌, IfOk, arith}
use Rattle.std.proofs.lemmas.Result.{on_ok_weaker}
use Rattle.trs_defs.specs.Tree.{Tree}
use Rattle.trs_defs.specs.Substitution.{apply}
use Rattle.trs_core.specs.View.{tree}
use Rattle.term_pool.specs.Pooled.{Extends, tree_at}
use Rattle.term_pool.proofs.Extending.{extends_on}
use Rattle.crit_pairs.specs.Meeting.{solution}
use Rattle.crit_pairs.specs.Numbered.{AreNamed, IsNumbered}
use Rattle.crit_pairs.specs.PooledSide.{IsPooledSide, side_instance, value_of}
use Rattle.term_pool.proofs.InstanceLaws.{ground_on, instances_on}
use Rattle.crit_pairs.proofs.PooledRuleLaws.{left_read, left_number, left_small, pooled_instance, pooled_with_left}
use Rattle.crit_pairs.proofs.VariableIds.{variable_ids_on}
use Rattle.crit_pairs.proofs.PooledSides.{of_own_tree, own_instance_is, side_still}
use Rattle.crit_pairs.proofs.pooled_rules.PooledRules.outer_left.Goals.{After-deref, In-Some, In_ok-side}
use Rattle.crit_pairs.proofs.pooled_rules.PooledRules.outer_left.Goals as goal

-- the side that was there, and the one that is made
known_side : (c : In-Some) → IsPooledSide c.args.pool.now c.requires.left.1.left c.in-Some.side
known_side c =
    left_read c.requires.left.0 c.args.pool.now c.args.self.now c.args.k c.requires.left.1 c.requires.left.2 c.requires.left.3 c.index.result.now c.in-Some.side c.index.ensures c.in-Some.is

new_side : (c : In_ok-side) → IsPooledSide c.of.new.pool c.requires.left.1.left c.in_ok-side.side
new_side c = subst (λ t. IsPooledSide c.of.new.pool t c.in_ok-side.side) (sym c.requires.left.4) c.in_ok-side.ensures.side

known_instance : (c : In-Some) → side_instance c.args.bindings.now 0 c.args.pool.now c.in-Some.side ≡ apply (solution c.args.bindings.now) (tree c.args.left.now)
known_instance c = own_instance_is c.args.bindings.now c.args.pool.now _ c.in-Some.side (known_side c) ∙ ap (apply (solution c.args.bindings.now)) c.requires.left.4

new_instance : (c : In_ok-side) → side_instance c.args.bindings.now 0 c.of.new.pool c.in_ok-side.side ≡ apply (solution c.args.bindings.now) (tree c.args.left.now)
new_instance c = own_instance_is c.args.bindings.now c.of.new.pool _ c.in_ok-side.side c.in_ok-side.ensures.side

pub instance-requires-clause-side : goal.instance-requires-clause-side
instance-requires-clause-side c = of_own_tree c.args.pool.now _ c.in-Some.side (known_side (goal.at.instance-requires-clause-side c).In-Some)

pub instance-requires-clause-small : goal.instance-requires-clause-small
instance-requires-clause-small c =
    left_small c.requires.left.0 c.args.pool.now c.args.self.now c.args.k c.requires.left.1 c.requires.left.2 c.requires.left.3 c.args.pool.now c.in-Some.side
    (known_side (goal.at.instance-requires-clause-small c).In-Some)

pub instance-requires-clause-named : goal.instance-requires-clause-named
instance-requires-clause-named c =
    subst (AreNamed c.args.names.now.order.items) (sym (known_instance (goal.at.instance-requires-clause-named c).In-Some)) c.requires.named

pub returns-in-Some-clause-numbered : goal.returns-in-Some-clause-numbered
returns-in-Some-clause-numbered c =
    let N : Tree → Type 0 = λ t. IfOk c.instance.result (λ id. IsNumbered c.args.names.now.order.items t (tree_at c.instance.new.pool id)) in
    subst N (known_instance (goal.at.returns-in-Some-clause-numbered c).In-Some) c.instance.ensures.numbered

pub returns-in-Some-clause-pooled : goal.returns-in-Some-clause-pooled
returns-in-Some-clause-pooled c = λ rules r pooled numbered is.
    let sides = c.instance.new in
    on_ok_weaker c.instance.result
    (pooled_instance rules c.args.pool.now sides.pool c.args.self.now sides.made c.args.self.now.inner sides.numbered c.instance.ensures.kept pooled) c.instance.ensures.ids

pub instance-requires-2-clause-side : goal.instance-requires-2-clause-side
instance-requires-2-clause-side c = of_own_tree c.of.new.pool _ c.in_ok-side.side c.in_ok-side.ensures.side

pub instance-requires-2-clause-small : goal.instance-requires-2-clause-small
instance-requires-2-clause-small c =
    left_small c.requires.left.0 c.args.pool.now c.args.self.now c.args.k c.requires.left.1 c.requires.left.2 c.requires.left.3 c.of.new.pool c.in_ok-side.side
    (new_side (goal.at.instance-requires-2-clause-small c).In_ok-side)

pub instance-requires-2-clause-named : goal.instance-requires-2-clause-named
instance-requires-2-clause-named c =
    subst (AreNamed c.args.names.now.order.items) (sym (new_instance (goal.at.instance-requires-2-clause-named c).In_ok-side)) c.requires.named

pub instance-requires-2-clause-ground : goal.instance-requires-2-clause-ground
instance-requires-2-clause-ground c =
    rw c.deref-2.ensures.value (ground_on c.args.pool.now c.of.new.pool c.args.self.now.ground.items c.in_ok-side.ensures.kept c.requires.left.2.ground)

pub index_mut-requires : goal.index_mut-requires
index_mut-requires c =
    let within = left_number c.requires.left.0 c.args.pool.now c.args.self.now c.args.k c.requires.left.1 c.requires.left.2 c.requires.left.3 in
    omega (arith, within, c.args.self.now.lefts.ok.0)

pub returns-clause-numbered : goal.returns-clause-numbered
returns-clause-numbered c =
    let N : Tree → Type 0 = λ t. IsNumbered c.args.names.now.order.items t (tree_at c.instance-2.new.pool c.in_ok-id.id) in
    subst N (new_instance (goal.at.returns-clause-numbered c).In_ok-side) c.in_ok-id.ensures.numbered

pub returns-clause-pooled : goal.returns-clause-pooled
returns-clause-pooled c = λ rules r pooled numbered is.
    let more : Extends c.args.pool.now c.instance-2.new.pool = extends_on c.args.pool.now c.of.new.pool c.instance-2.new.pool c.in_ok-side.ensures.kept c.in_ok-id.ensures.kept in
    let here : IsPooledSide c.of.new.pool r.left c.in_ok-side.side = subst (λ t. IsPooledSide c.of.new.pool t c.in_ok-side.side) (sym is) c.in_ok-side.ensures.side in
    pooled_with_left rules c.args.pool.now c.instance-2.new.pool c.args.self.now c.instance-2.new.made c.args.self.now.inner c.instance-2.new.numbered more pooled c.in_ok-id.ensures.ids c.args.k c.in_ok-side.side r numbered
    (side_still c.of.new.pool c.instance-2.new.pool r.left c.in_ok-side.side c.in_ok-id.ensures.kept here)

pub instance-requires-2-clause-ids : goal.instance-requires-2-clause-ids
instance-requires-2-clause-ids c =
    variable_ids_on c.args.pool.now c.of.new.pool c.args.self.now.numbered c.in_ok-side.ensures.kept c.requires.left.2.numbered

pub instance-requires-2-clause-made : goal.instance-requires-2-clause-made
instance-requires-2-clause-made c =
    instances_on (value_of c.args.bindings.now 0 c.args.names.now.order.items) c.args.pool.now c.of.new.pool c.args.self.now.outer c.in_ok-side.ensures.kept c.requires.outer
