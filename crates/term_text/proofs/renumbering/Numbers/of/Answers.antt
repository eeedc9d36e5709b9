use Rattle.std.proofs.Common.{length, unwrap_or, ap, ◌∙◌}
use Rattle.term_text.proofs.NumberKeys.{number_at}
use Rattle.term_text.proofs.renumbering.Numbers.of.Goals as goal

pub returns-in-Some : goal.returns-in-Some
returns-in-Some c =
    let keys = c.self.inside.variables.keys in
    rw (← c.self.view_is) (ap (λ o. unwrap_or o (length keys)) c.in-Some.ensures.index ∙ number_at c.args.variable keys)

pub returns-in-None : goal.returns-in-None
returns-in-None c =
    let keys = c.self.inside.variables.keys in
    rw (← c.self.view_is)
    (c.len.ensures.len ∙ ap (λ o. unwrap_or o (length keys)) c.in-None.ensures.index ∙ number_at c.args.variable keys)
