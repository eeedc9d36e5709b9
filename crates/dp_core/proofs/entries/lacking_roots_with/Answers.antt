use Rattle.std.proofs.Common.{◌≡◌, ◌+◌, ◌<◌, ap, sym, subst, ◌∙◌}
use Rattle.pair_theory.specs.DependencyPair.{DependencyPair}
use Rattle.dp_core.specs.LeastLacking.{lacking_with}
use Rattle.dp_core.proofs.entries.lacking_roots_with.Goals as goal

pub lacking_mark-left-requires : goal.lacking_mark-left-requires
lacking_mark-left-requires g c = subst (λ (q : DependencyPair). q.from.symbol < 4096) (sym c.sides.view_is) c.requires.from

pub lacking_mark-requires : goal.lacking_mark-requires
lacking_mark-requires g c = subst (λ (q : DependencyPair). q.to.symbol < 4096) (sym c.sides.view_is) c.requires.to

pub returns : goal.returns
returns g c =
    subst (λ (q : DependencyPair). c.lacking_mark.result ≡ lacking_with (λ f. g.O.ReductionPair.has c.args.order.now (f + 4096))
    (lacking_with (λ f. g.O.ReductionPair.has c.args.order.now (f + 4096)) c.args.least q.from.symbol) q.to.symbol) c.sides.view_is
    (c.lacking_mark.ensures ∙ ap (λ o. lacking_with (λ f. g.O.ReductionPair.has c.args.order.now (f + 4096)) o c.sides.inside.to.symbol) c.lacking_mark-left.ensures)
