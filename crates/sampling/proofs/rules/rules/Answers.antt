use Rattle.std.proofs.Common.{◌≡◌, ℕ, ◌+◌, List, [], ◌∷◌, ◌++◌, append_assoc, refl, ◌∙◌, add-one}
use Rattle.trs_defs.specs.System.{RewriteRule}
use Rattle.sampling.specs.Family.{base_rule, step_rule, rules_to}
use Rattle.sampling.proofs.rules.rules.Goals as goal

two_more : (n : ℕ) (before between after : List RewriteRule) (base step : RewriteRule) → before ≡ rules_to n → base ≡ base_rule n → step ≡ step_rule n
    → between ≡ before ++ base ∷ [] → after ≡ between ++ step ∷ [] → after ≡ rules_to (n + 1)
two_more n before between after base step b p q d e =
    e ∙ rw (d, b, p, q, append_assoc, add-one) refl

pub loop-i-preserved : goal.loop-i-preserved
loop-i-preserved c =
    two_more c.loop-i.i c.loop-i.rules.items c.push.new.self.items c.push-in-loop-i.new.self.items c.in_ok-base_rule.field-0 c.in_ok-step_rule.field-0
    c.loop-i.invariant c.in_ok-base_rule.ensures c.in_ok-step_rule.ensures c.in_ok-push.ensures.items c.in_ok-push-2.ensures.items
