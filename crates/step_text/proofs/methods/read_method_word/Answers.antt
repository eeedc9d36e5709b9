use Rattle.std.proofs.Common.{◌≡◌, ap, ◌∙◌, rules}
use Rattle.sexp_core.specs.declared.sexp.Sexp.{the_lemmas}
use Rattle.sexp_core.specs.Items.{a_word, view}
use Rattle.text_reading.specs.Reading.{word}
use Rattle.step_text.specs.Steps.{forms}
use Rattle.step_text.proofs.methods.read_method_word.Goals as goal

pub returns-in-Word : goal.returns-in-Word
returns-in-Word c = λ named sharing.
    let shape : view c.args.item.now ≡ a_word c.as_slice.result.now c.in-Word.at = search (rules, the_lemmas, c.in-Word.is, c.as_slice.ensures) in
    ap (word (forms named sharing)) shape ∙ c.method_by.ensures named sharing
