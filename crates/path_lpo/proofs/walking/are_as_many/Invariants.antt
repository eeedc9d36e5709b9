use Rattle.std.proofs.Common.{◌≡◌, ◌↔◌}
use Rattle.trs_defs.specs.Tree.{count}
use Rattle.path_lpo.proofs.walking.are_as_many.Given as goal

abbrev pub invariant-loop-more : goal.invariant-loop-more
invariant-loop-more g l =
    (count ((g.T.Terms.walked l.terms).trees l.left) ≡ count ((g.T.Terms.walked l.terms).trees l.right))
    ↔ (count ((g.T.Terms.walked l.terms).trees l.fn.us) ≡ count ((g.T.Terms.walked l.terms).trees l.fn.vs))

abbrev pub decreases-loop-more : goal.decreases-loop-more
decreases-loop-more g l = (g.T.Terms.walked l.terms).most l.left
