use Rattle.std.proofs.Common.{inl, subst}
use Rattle.std.specs.Prelude.{IfOk}
use Rattle.trs_core.specs.View.{tree}
use Rattle.kbo_order.specs.Seen.{IsWeight}
use Rattle.kbo_order.specs.Profiles.{AreOccurrences}
use Rattle.kbo_order.proofs.Viewers.{big_of}
use Rattle.kbo_order.proofs.profiles.decrease_from.Goals as goal

pub returns-in-Err : goal.returns-in-Err
returns-in-Err g c =
    let w = g.W.Weighting.weights c.args.order.now in
    let s = tree c.args.s.now in
    inl (big_of w s (subst (IsWeight w s) c.in-Err.is c.requires.weighed))

pub weighed_decrease-requires : goal.weighed_decrease-requires
weighed_decrease-requires g c =
    let w = g.W.Weighting.weights c.args.order.now in
    let s = tree c.args.s.now in
    record {
      weight = subst (IsWeight w s) c.in-Ok.is c.requires.weighed;
      occurrences = subst (λ r. IfOk r (λ m. AreOccurrences 64 0 s c.args.profile.now.occurrences)) c.in-Ok.is c.requires.counted;
    }
