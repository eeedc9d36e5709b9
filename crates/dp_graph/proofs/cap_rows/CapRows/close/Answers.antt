use Rattle.std.proofs.Common.{refl}
use Rattle.trs_caps.specs.View.{holed_all}
use Rattle.dp_graph.proofs.CapRowLaws.{kept_after, opened_after}
use Rattle.dp_graph.proofs.cap_rows.CapRows.close.Goals as goal

pub returns-then-is_kept-clause-cap : goal.returns-then-is_kept-clause-cap
returns-then-is_kept-clause-cap c = λ all t are whole key.
    kept_after c.args.by_root.now.rules c.args.lefts.now c.number_of.new.self all t c.args.f (holed_all c.args.parts.items) c.in_ok-number.number c.is_kept.result _ c.requires whole
    (c.in_ok-number.ensures.number all are key) c.is_kept.ensures c.if-is_kept.true refl refl refl

pub returns-clause-cap : goal.returns-clause-cap
returns-clause-cap c = λ all t are whole key.
    opened_after c.args.by_root.now.rules c.args.lefts.now c.number_of.new.self all t c.args.f (holed_all c.args.parts.items) c.in_ok-number.number c.is_kept.result _ c.requires whole
    (c.in_ok-number.ensures.number all are key) c.is_kept.ensures c.if-is_kept.false refl refl refl
