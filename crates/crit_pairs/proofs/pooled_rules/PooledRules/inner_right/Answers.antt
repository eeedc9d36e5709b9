use Rattle.std.proofs.Common.{IfOk, sym, subst}
use Rattle.std.proofs.lemmas.Result.{on_ok_weaker}
use Rattle.trs_defs.specs.Tree.{Tree}
use Rattle.term_pool.specs.Pooled.{tree_at}
use Rattle.crit_pairs.specs.Numbered.{AreNamed, IsNumbered}
use Rattle.crit_pairs.specs.PooledSide.{IsPooledSide}
use Rattle.crit_pairs.specs.PooledSide.{value_of}
use Rattle.crit_pairs.proofs.PooledRuleLaws.{right_read, right_small, pooled_instance}
use Rattle.crit_pairs.proofs.PooledSides.{of_own_tree, side_instance_is}
use Rattle.crit_pairs.proofs.pooled_rules.PooledRules.inner_right.Goals.{After-index-side}
use Rattle.crit_pairs.proofs.pooled_rules.PooledRules.inner_right.Goals as goal

side_read : (c : After-index-side) → IsPooledSide c.args.pool.now c.requires.named.1.right c.index-side.result.now
side_read c = right_read c.requires.named.0 c.args.pool.now c.args.self.now c.args.k c.requires.named.1 c.requires.named.2 c.requires.named.3 c.index-side.result.now c.index-side.ensures

pub instance-requires-clause-side : goal.instance-requires-clause-side
instance-requires-clause-side c = of_own_tree c.args.pool.now c.requires.named.1.right c.index-side.result.now (side_read (goal.at.instance-requires-clause-side c).After-index-side)

pub instance-requires-clause-small : goal.instance-requires-clause-small
instance-requires-clause-small c =
    right_small c.requires.named.0 c.args.pool.now c.args.self.now c.args.k c.requires.named.1 c.requires.named.2 c.requires.named.3 c.index-side.result.now
    (side_read (goal.at.instance-requires-clause-small c).After-index-side)

pub instance-requires-clause-named : goal.instance-requires-clause-named
instance-requires-clause-named c =
    subst (AreNamed c.args.names.now.order.items)
    (sym (side_instance_is c.args.bindings.now 65536 c.args.pool.now c.requires.named.1.right c.index-side.result.now (side_read (goal.at.instance-requires-clause-named c).After-index-side)))
    c.requires.named.4

pub returns-clause-numbered : goal.returns-clause-numbered
returns-clause-numbered c = λ rules r pooled numbered.
    let names = c.args.names.now.order.items in
    let N : Tree → Type 0 = λ t. IfOk c.instance.result (λ id. IsNumbered names t (tree_at c.instance.new.pool id)) in
    subst N (side_instance_is c.args.bindings.now 65536 c.args.pool.now r.right c.index-side.result.now
    (right_read rules c.args.pool.now c.args.self.now c.args.k r pooled numbered c.index-side.result.now c.index-side.ensures)) c.instance.ensures.numbered

pub returns-clause-pooled : goal.returns-clause-pooled
returns-clause-pooled c = λ rules pooled.
    let sides = c.instance.new in
    on_ok_weaker c.instance.result
    (pooled_instance rules c.args.pool.now sides.pool c.args.self.now c.args.self.now.outer sides.made sides.numbered c.instance.ensures.kept pooled) c.instance.ensures.ids

pub instance-requires-clause-made : goal.instance-requires-clause-made
instance-requires-clause-made c = c.clear.ensures (value_of c.args.bindings.now 65536 c.args.names.now.order.items) c.args.pool.now
