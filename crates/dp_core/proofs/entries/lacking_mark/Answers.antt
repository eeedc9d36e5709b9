use Rattle.std.proofs.Common.{◌≡◌, ◌+◌, ap, subst}
use Rattle.pair_theory.specs.Marked.{Marked}
use Rattle.dp_core.specs.LeastLacking.{lacking_with}
use Rattle.dp_core.proofs.entries.lacking_mark.Goals as goal

pub returns : goal.returns
returns g c =
    subst (λ f. c.lacking_with.result ≡ lacking_with (λ k. g.O.ReductionPair.has c.args.order.now (k + 4096)) c.args.least f) (ap (λ (m : Marked). m.symbol) c.side.view_is)
    (c.lacking_with.ensures (λ k. g.O.ReductionPair.has c.args.order.now (k + 4096)) c.has_entry.ensures)
