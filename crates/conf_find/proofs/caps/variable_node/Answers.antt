use Rattle.std.proofs.Common.{ap, ◌∙◌, refl}
use Rattle.trs_core.specs.View.{tree}
use Rattle.term_pool.proofs.PoolTrees.{stands_at}
use Rattle.conf_find.proofs.NumberedCaps.{no_symbol}
use Rattle.conf_find.proofs.caps.variable_node.Goals as goal

pub returns : goal.returns
returns c = (c.in-Var.v, stands_at c.args.pool.now c.args.id (tree c.in_ok-term.term) c.in_ok-term.ensures ∙ ap tree c.in-Var.is, refl)

pub unreachable-requires : goal.unreachable-requires
unreachable-requires c =
    no_symbol c.args.pool.now c.args.id c.requires.variable _ _ (stands_at c.args.pool.now c.args.id (tree c.in_ok-term.term) c.in_ok-term.ensures ∙ ap tree c.in-App.is)
