-- What a text says is said by what is printed of it: the variables of its terms are numbered in order already.
use Rattle.std.proofs.Common.{◌≡◌, ℕ, true, List, ap, subst}
use Rattle.names_text.specs.Named.{NamedSystem, IsNamed}
use Rattle.cert_text.specs.ProofText.{ProofText, in_version}
use Rattle.cert_text.specs.CertificateText.{says_of, version_two_text, fits_two, SaysCertificate}
use Rattle.cert_text.specs.Renumbered.{renumbered}
use Rattle.cert_text.proofs.WellMadeSteps.{steps_in_range, steps_in_order}
use Rattle.cert_text.proofs.PrintedAgain.{says_two}

pub two_says_the_same : (named : NamedSystem) (text : List ℕ) (says : ProofText) → IsNamed named → SaysCertificate named text says → fits_two says ≡ true
    → SaysCertificate named (version_two_text named says) (in_version 2 says)
two_says_the_same named text says is h fits =
    let same : renumbered 2 says ≡ in_version 2 says = ap (says_of 2 says.headline says.claim) (steps_in_order named text says is h) in
    subst (SaysCertificate named (version_two_text named says)) same (says_two named is says (steps_in_range named text says is h) fits)
