use Rattle.std.proofs.Common.{rules, ◌≡◌, ◌∙◌, ap₂, codes}
use Rattle.clap.specs.Words.{app_of, rule_of, new_rule, with_rule}
use Rattle.command_line.specs.Request.{command_app, plain_app, required_rule, option_rule}
use Rattle.command_line.proofs.command.Goals as goal

pub returns : goal.returns
unfolding command_app
returns c =
    let action : rule_of c.required-action.result ≡ required_rule (codes "action") = search (rules, c.new.ensures.rule, c.required-action.ensures) in
    let problem : rule_of c.required-problem.result ≡ required_rule (codes "problem") = search rules in
    let certificate : rule_of c.new-certificate.result ≡ new_rule (codes "certificate") = search rules in
    let workers : rule_of c.long-workers.result ≡ option_rule (codes "workers") = search rules in
    let budget : rule_of c.long-budget.result ≡ option_rule (codes "budget") = search rules in
    let plain : app_of c.disable_version_flag-plain.result ≡ plain_app = search rules in
    c.in_ok-fifth.ensures.shape (search rules)
    ∙ ap₂ with_rule (c.in_ok-fourth.ensures.shape (search rules)
    ∙ ap₂ with_rule (c.in_ok-third.ensures.shape (search rules)
    ∙ ap₂ with_rule (c.in_ok-second.ensures.shape (search rules)
    ∙ ap₂ with_rule (c.in_ok-first.ensures.shape (search rules)
    ∙ ap₂ with_rule plain action) problem) certificate) workers) budget
