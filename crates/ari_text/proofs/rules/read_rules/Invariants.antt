use Rattle.std.proofs.Common.{◌≡◌, drop}
use Rattle.sexp_core.specs.Items.{views}
use Rattle.term_text.specs.Checked.{judged}
use Rattle.term_text.specs.Viewed.{viewed}
use Rattle.ari_text.specs.Least.{lesser}
use Rattle.ari_text.specs.Faults.{ari_fault}
use Rattle.ari_text.specs.Rules.{rules_of}
use Rattle.ari_text.proofs.RuleSteps.{together}
use Rattle.ari_text.proofs.rules.read_rules.Given as goal

abbrev pub invariant-loop-item : goal.invariant-loop-item
invariant-loop-item l =
    together ari_fault lesser (viewed (λ v. v.items) l.rules) (judged ari_fault lesser (rules_of l.symbols (views (drop l.item-index l.items))))
    ≡ judged ari_fault lesser (rules_of l.symbols (views l.items))
