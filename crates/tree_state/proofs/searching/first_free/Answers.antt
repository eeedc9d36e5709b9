use Rattle.std.proofs.Common.{sym, ◌∙◌, arith}
use Rattle.tree_state.proofs.Finding.{found_there, none_there}
use Rattle.tree_state.proofs.searching.first_free.Goals as goal

pub returns-then-is_some-clause-found : goal.returns-then-is_some-clause-found
returns-then-is_some-clause-found c =
    found_there c.args.goals.now c.args.nodes.now c.loop-k.k c.index-nodes-k.result c.place_of-place.result c.loop-k-test.true c.index-nodes-k.is c.place_of-place.ensures
    (sym c.is_some.ensures ∙ c.if-is_some.true)

pub loop-k-preserved : goal.loop-k-preserved
loop-k-preserved c = (
  omega (arith, c.loop-k.invariant.0),
  (λ h. omega (arith, c.loop-k-test.true)),
  λ history j node from below there.
      none_there c.args.goals.now c.args.nodes.now c.loop-k.k c.index-nodes-k.result c.place_of-place.result c.index-nodes-k.is c.place_of-place.ensures
      (sym c.is_some.ensures ∙ c.if-is_some.false) history j node below there (c.loop-k.invariant.2 history j node from),
)
