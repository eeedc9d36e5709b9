use Rattle.std.proofs.Common.{◌≡◌, ◌∙◌, ap, sym, rules}
use Rattle.sexp_core.specs.Items.{view, views}
use Rattle.ari_text.specs.Entries.{three, ended}
use Rattle.ari_text.proofs.EntrySteps.{entry_of_three}
use Rattle.ari_text.proofs.entry.read_list.Goals as goal

pub returns : goal.returns
returns c =
    let head = c.in-Some-Word-default.head in
    let word : c.deref.result.now ≡ head.bytes.now = search rules in
    c.read_end.ensures ∙ ap (λ s. ended s (views c.in-Some-split_first.more.now)) (c.read_three.ensures ∙ ap (λ w. three w (view c.in-Some.x.now) (view c.in-Some-split_first.y.now)) word)
    ∙ sym (entry_of_three c.args.members.now c.in-Some-Word-default.rest.now c.in-Some.rest.now c.in-Some-split_first.more.now c.in-Some-Word-default.field-0-0.now
    c.in-Some.x.now c.in-Some-split_first.y.now head c.in-Some-Word-default.field-0-0-0 c.in-Some-Word-default.ensures.cases.0 c.in-Some-Word-default.field-0-0-is c.in-Some.ensures.cases.0
    c.in-Some-split_first.ensures.cases.0)
