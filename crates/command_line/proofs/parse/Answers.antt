use Rattle.std.proofs.Common.{◌∙◌, ap, map}
use Rattle.clap.specs.Words.{app_of, is_simple_and_free, is_simple, kind_of}
use Rattle.command_line.proofs.Refusing.{simple, is_asked, is_refused, plain_simple}
use Rattle.command_line.proofs.parse.Goals as goal

pub returns-in-Some-clause-answer : goal.returns-in-Some-clause-answer
returns-in-Some-clause-answer c =
    let e = c.in_ok-command.ensures in
    is_asked _ _ _ _ e (c.in-Ok.ensures.kinds (ap is_simple_and_free e ∙ simple)) (c.in-Ok.ensures.matches (ap is_simple e ∙ plain_simple)).0 c.in-Some.ensures.request

pub returns-in-Ok-clause-answer : goal.returns-in-Ok-clause-answer
returns-in-Ok-clause-answer c =
    let e = c.in_ok-command.ensures in
    is_asked _ _ _ _ e (c.in-Ok.ensures.kinds (ap is_simple_and_free e ∙ simple)) (c.in-Ok.ensures.matches (ap is_simple e ∙ plain_simple)).0 c.in-None.ensures.request

pub returns-clause-answer : goal.returns-clause-answer
returns-clause-answer c =
    let e = c.in_ok-command.ensures in
    is_refused (app_of c.in_ok-command.command) (map (λ w. w.now) c.args.words.now) (kind_of c.in-Err.error) c.refusal.result e (λ h. c.refusal.ensures.memory (c.kind.ensures ∙ h)) (c.in-Err.ensures.kinds (ap is_simple_and_free e ∙ simple))
