-- What is printed in version 2 of a certificate that is accepted.
use Rattle.std.specs.Prelude.{◌≡◌, ℕ, true, List}
use Rattle.names_text.specs.Named.{NamedSystem}
use Rattle.cert_text.specs.ProofText.{ProofText, in_version}
use Rattle.cert_text.specs.CertificateText.{version_two_text, fits_two}
use Rattle.certifier.specs.Acceptance.{IsAcceptedAs}

-- where a certificate text is accepted for a problem text, and what it says fits version 2, the text that is printed of it in
-- version 2 is accepted too: it says the same claim and the same steps
abbrev pub UpgradeIsAccepted : Type 0
UpgradeIsAccepted =
    (problem certificate : List ℕ) (named : NamedSystem) (says : ProofText) → IsAcceptedAs problem certificate named says
    → fits_two says ≡ true → IsAcceptedAs problem (version_two_text named says) named (in_version 2 says)
