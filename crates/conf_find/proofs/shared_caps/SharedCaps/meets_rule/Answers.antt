use Rattle.std.proofs.Common.{◌↔◌, IsTrue, IfOk, subst}
use Rattle.trs_defs.specs.System.{RewriteRule}
use Rattle.trs_caps.specs.HoledCap.{MeetsLeft}
use Rattle.conf_find.specs.SharedCaps.{cap_at}
use Rattle.conf_find.proofs.shared_caps.SharedCaps.meets_rule.Goals as goal

pub returns : goal.returns
returns c =
    let P : RewriteRule → Type 0 = λ r. IfOk c.meets.result (λ yes. IsTrue yes ↔ MeetsLeft (cap_at c.args.self.now c.args.k) r.left) in
    subst P c.rule.view_is c.meets.ensures
