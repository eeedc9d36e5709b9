use Rattle.std.proofs.Common.{◌≡◌, ◌∙◌, sym, Some, None, Ok, Err, rules}
use Rattle.sexp_core.specs.Items.{views}
use Rattle.ari_text.specs.Least.{noted}
use Rattle.ari_text.specs.Faults.{faults_of}
use Rattle.ari_text.specs.Rules.{rules_of}
use Rattle.ari_text.specs.Unless.{unless_noted}
use Rattle.ari_text.proofs.Leasts.{answer_is, no_answer, noted_of}
use Rattle.ari_text.proofs.checking.check.Goals as goal

pub returns-in_err-rules-clause-fault : goal.returns-in_err-rules-clause-fault
returns-in_err-rules-clause-fault c =
    let items = views c.args.items.now in
    let d = c.in_ok-symbols.field-0 in
    let least = c.note_all_sides.new.least in
    let answer : unless_noted c.in_ok-read_rules.field-0 least ≡ Err c.in_err-rules.field-0.0 = sym c.unless.ensures ∙ c.in_err-rules.was in
    let fault : noted None (faults_of items) ≡ Some c.in_err-rules.field-0.0 =
    noted_of items d.symbols d.least least (Some c.in_err-rules.field-0.0) c.in_ok-symbols.ensures.symbols c.in_ok-symbols.ensures.least c.note_all_sides.ensures
    (answer_is (λ v. v.items) c.in_ok-read_rules.field-0 (rules_of d.symbols items) least c.in_err-rules.field-0.0 c.in_ok-read_rules.ensures answer) in
    search rules

pub returns-clause-faultless : goal.returns-clause-faultless
returns-clause-faultless c =
    let items = views c.args.items.now in
    let d = c.in_ok-symbols.field-0 in
    let least = c.note_all_sides.new.least in
    let answer : unless_noted c.in_ok-read_rules.field-0 least ≡ Ok c.in_ok-rules.rules = sym c.unless.ensures ∙ c.in_ok-rules.was in
    noted_of items d.symbols d.least least None c.in_ok-symbols.ensures.symbols c.in_ok-symbols.ensures.least c.note_all_sides.ensures
    (no_answer (λ v. v.items) c.in_ok-read_rules.field-0 (rules_of d.symbols items) least c.in_ok-rules.rules c.in_ok-read_rules.ensures answer)
