use Rattle.std.proofs.lemmas.Result.{on_ok_weaker}
use Rattle.trs_core.specs.View.{tree}
use Rattle.trs_caps.proofs.CapLaws.{term_reaches, instances_reach}
use Rattle.trs_caps.proofs.knowing.KnownCaps.cap.Goals as goal

pub cap_of-requires-clause-known : goal.cap_of-requires-clause-known
cap_of-requires-clause-known c = (c.in_ok-id.ensures.known c.args.by_root.now.rules c.args.fixed c.requires).opens

pub cap_of-requires-clause-sizes : goal.cap_of-requires-clause-sizes
cap_of-requires-clause-sizes c = rw c.as_slice-sizes.ensures.value (c.in_ok-id.ensures.known c.args.by_root.now.rules c.args.fixed c.requires).sizes

pub returns-clause-term : goal.returns-clause-term
returns-clause-term c = term_reaches c.args.by_root.now c.in_ok-id.ensures.system c.args.fixed (tree c.args.t.now) c.cap_of.result c.cap_of.ensures.cap

pub returns-clause-instances : goal.returns-clause-instances
returns-clause-instances c = instances_reach c.args.by_root.now c.in_ok-id.ensures.system c.args.fixed (tree c.args.t.now) c.cap_of.result c.cap_of.ensures.cap

pub returns-clause-known : goal.returns-clause-known
returns-clause-known c =
    on_ok_weaker c.cap_of.result (λ opens. record { opens = opens; sizes = (c.in_ok-id.ensures.known c.args.by_root.now.rules c.args.fixed c.requires).sizes }) c.cap_of.ensures.known
