use Rattle.std.proofs.Common.{◌≡◌, arith, refl, true}
use Rattle.std.proofs.lemmas.List.Elements.{All-from_get_or}
use Rattle.assign_search.proofs.testing.Tester.all_hold.Goals as goal

pub holds-requires-clause-constraint : goal.holds-requires-clause-constraint
holds-requires-clause-constraint g c = c.requires.constraints c.loop-c.c-index 0 c.loop-c-test.true

pub holds-requires-clause-covers : goal.holds-requires-clause-covers
holds-requires-clause-covers g c = c.requires.covers c.loop-c.c-index 0 c.loop-c-test.true

pub returns-clause-truth : goal.returns-clause-truth
returns-clause-truth g c = (
  λ _. All-from_get_or (λ d. (g.S.Space.puzzle c.args.space.now).truth d c.args.values.now ≡ true) c.args.constraints.now 0 (λ k l. c.loop-c.invariant.true_so_far k (omega (arith, l, c.loop-c-test.false))),
  λ _. refl,
)
