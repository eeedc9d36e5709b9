use Rattle.std.proofs.Common.{◌≡◌, ◌∙◌, map, ap, sym}
use Rattle.std.proofs.lemmas.List.{take_all}
use Rattle.term_pool.proofs.ArgumentIds.{one_more_value}
use Rattle.trs_caps.specs.HoledTree.{symbol, holed_trees}
use Rattle.trs_caps.specs.View.{holed}
use Rattle.conf_find.specs.SharedCaps.{cap_at, node_cap}
use Rattle.conf_find.proofs.shared_caps.SharedCaps.+cap.Goals as goal

pub returns-in-Open : goal.returns-in-Open
returns-in-Open t c = sym (c.node.ensures.is ∙ ap (node_cap c.args.self.now) c.in-Open.is)

pub returns-in-Own : goal.returns-in-Own
returns-in-Own t c = sym (c.node.ensures.is ∙ ap (node_cap c.args.self.now) c.in-Own.is)

pub loop-part-init : goal.loop-part-init
loop-part-init t c = ap (map holed) c.in_ok-items-in-Symbol.ensures.items

pub loop-part-preserved : goal.loop-part-preserved
loop-part-preserved t c =
    rw c.in_ok-push-in-Symbol.ensures.items (one_more_value holed (cap_at c.args.self.now) c.loop-part.items.items c.as_slice-part-items.result.now c.loop-part.part-index c.in_ok-cap-in-Symbol.field-0 0
    c.loop-part-test.true c.loop-part.invariant c.in_ok-cap-in-Symbol.ensures)

pub returns-after-loop-part : goal.returns-after-loop-part
returns-after-loop-part t c =
    let all = take_all c.loop-part.part-index c.as_slice-part-items.result.now c.loop-part-test.false in
    let same : map holed c.loop-part.items.items ≡ map (cap_at c.args.self.now) c.in-Symbol.parts.items =
    c.loop-part.invariant ∙ (ap (map (cap_at c.args.self.now)) all ∙ ap (map (cap_at c.args.self.now)) c.as_slice-part-items.ensures.value) in
    ap (λ cs. symbol c.in-Symbol.f (holed_trees cs)) same ∙ sym (c.node.ensures.is ∙ ap (node_cap c.args.self.now) c.in-Symbol.is)
