use Rattle.std.proofs.Common.{ap, sym, ◌∙◌}
use Rattle.sexp_core.specs.Items.{views}
use Rattle.text_reading.specs.Seen.{seen}
use Rattle.text_reading.proofs.Members.{list_seen}
use Rattle.step_text.specs.MethodForms.{form_of}
use Rattle.step_text.proofs.MethodSeen.{method_seen}
use Rattle.step_text.proofs.steps.read_method.Goals as goal

pub returns-in-Ok-clause-read : goal.returns-in-Ok-clause-read
returns-in-Ok-clause-read c =
    let named = c.args.system.now in
    let sharing = c.args.sharing.now in
    let shape = list_seen c.args.item.now c.in-List.at c.in-List.members _ c.in-List.is (ap views c.in-Some.ensures.cases.0) in
    let finds = c.read_method_word.ensures named sharing ∙ ap (seen (form_of named sharing)) c.in-Ok.is in
    rw (method_seen named sharing _ _ _ _ _ shape finds) c.read_form.ensures.read

pub returns-in-Err-clause-read : goal.returns-in-Err-clause-read
returns-in-Err-clause-read c =
    let named = c.args.system.now in
    let sharing = c.args.sharing.now in
    let shape = list_seen c.args.item.now c.in-List.at c.in-List.members _ c.in-List.is (ap views c.in-Some.ensures.cases.0) in
    let finds = c.read_method_word.ensures named sharing ∙ ap (seen (form_of named sharing)) c.in-Err.is in
    sym (method_seen named sharing _ _ _ _ _ shape finds)
