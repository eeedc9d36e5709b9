-- What is printed in version 2 of a certificate that is accepted is accepted.
use Rattle.std.proofs.Common.{◌∙◌, ap, subst, sym, refl}
use Rattle.cert_text.specs.cert_step.Nodes.{IsAccepted}
use Rattle.cert_text.specs.ProofText.{ProofText, in_version}
use Rattle.cert_text.specs.CertificateText.{SaysCertificate}
use Rattle.cert_text.proofs.PrintedAsRead.{two_says_the_same}
use Rattle.certifier.specs.Upgraded.{UpgradeIsAccepted}
use Rattle.certifier.proofs.OneAnswer.{is_named}

pub upgrade_accepted : UpgradeIsAccepted
upgrade_accepted problem certificate named says h fits =
    let a = h.acceptance in
    let said : SaysCertificate named certificate says = subst (SaysCertificate named certificate) h.said a.read.certificate_says in
    record {
      acceptance = record {
        says = in_version 2 says;
        read = record {
          problem_says = a.read.problem_says;
          certificate_says = two_says_the_same named certificate says (is_named problem named a.read.problem_says) said fits;
        };
        claimed = refl;
        headline = ap (λ (s : ProofText). s.headline) (sym h.said) ∙ a.headline;
        accepted = subst (λ (s : ProofText). IsAccepted named.system says.claim s.steps) h.said a.accepted;
      };
      said = refl;
    }
