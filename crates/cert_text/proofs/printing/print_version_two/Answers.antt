use Rattle.std.proofs.Common.{List, [], ℕ, map, sym, subst}
use Rattle.sexp_core.specs.Items.{items_of}
use Rattle.text_reading.specs.Printed.{word_item}
use Rattle.cert_text.specs.ProofText.{proof_text_of}
use Rattle.cert_text.specs.Head.{headline_word, head_item}
use Rattle.cert_text.specs.CertificateText.{SaysCertificate, shared_lines}
use Rattle.cert_text.specs.Renumbered.{renumbered}
use Rattle.cert_text.proofs.NumberRanges.{steps_made}
use Rattle.cert_text.proofs.WrittenLines.{start_and_lines}
use Rattle.cert_text.proofs.PrintedAgain.{says_two, says_no_other_two}
use Rattle.cert_text.proofs.printing.print_version_two.Goals as goal

pub returns-clause-text : goal.returns-clause-text
returns-clause-text c =
    let named = c.args.system.now in
    let says = proof_text_of c.args.certificate.now in
    start_and_lines (word_item (headline_word says.headline)) (head_item 2 says.claim) (items_of (shared_lines named says.steps)) _ _ _
    c.new-out.ensures.items c.in_ok-put_start.ensures (rw c.deref.ensures.value at c.in_ok-put_shared_steps.ensures.text)

pub returns-clause-read : goal.returns-clause-read
returns-clause-read c =
    let named = c.args.system.now in
    let says = proof_text_of c.args.certificate.now in
    let made = steps_made named.system c.args.certificate.now.steps.items c.requires.printable (rw c.deref.ensures.value at c.in_ok-put_shared_steps.ensures.range) in
    subst (λ (text : List ℕ). SaysCertificate named text (renumbered 2 says)) (sym (returns-clause-text c)) (says_two named c.underscores.ensures.named says made c.requires.fits)

pub returns-clause-alone : goal.returns-clause-alone
returns-clause-alone c = λ other h.
    let named = c.args.system.now in
    let says = proof_text_of c.args.certificate.now in
    let made = steps_made named.system c.args.certificate.now.steps.items c.requires.printable (rw c.deref.ensures.value at c.in_ok-put_shared_steps.ensures.range) in
    says_no_other_two named c.underscores.ensures.named says made c.requires.fits other
    (subst (λ (text : List ℕ). SaysCertificate named text other) (returns-clause-text c) h)
