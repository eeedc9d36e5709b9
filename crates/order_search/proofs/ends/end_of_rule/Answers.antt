use Rattle.std.proofs.Common.{◌≡◌, ◌||◌, subst}
use Rattle.trs_defs.specs.System.{RewriteRule}
use Rattle.trs_core.specs.View.{tree}
use Rattle.order_search.specs.Ends.{end_among}
use Rattle.order_search.specs.OrderSpace.{occurs_in}
use Rattle.order_search.proofs.LastPlaces.{either_end}
use Rattle.order_search.proofs.ends.end_of_rule.Goals as goal

pub returns : goal.returns
returns c =
    subst (λ (r : RewriteRule). c.later.result ≡ end_among (λ f. occurs_in f r.left || occurs_in f r.right) c.args.places.now) c.rule.view_is
    (either_end (λ f. occurs_in f (tree c.rule.inside.left.now)) (λ f. occurs_in f (tree c.rule.inside.right.now)) c.args.places.now c.end_of_term.result c.end_of_term-2.result c.later.result
    c.end_of_term.ensures c.end_of_term-2.ensures c.later.ensures)
