use Rattle.std.proofs.Common.{◌<◌, ◌∙◌, List, length, ap, subst, sym}
use Rattle.names_text.specs.Names.{number_among}
use Rattle.names_text.proofs.NameKeys.{Key, texts}
use Rattle.names_text.proofs.NameLists.{number_below}
use Rattle.names_text.proofs.names.Names.find.Goals as goal

pub returns-clause-within : goal.returns-clause-within
returns-clause-within c =
    let name = c.args.name.now in
    let number = c.in_ok-number.number in
    subst (λ names. number < length names) c.self.view_is
    (number_below (texts c.self.inside.names.items) name number
    (ap (λ (l : List Key). number_among (texts l) name) (sym c.deref.ensures.value) ∙ sym c.in_ok-number.ensures))
