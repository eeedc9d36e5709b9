use Rattle.std.proofs.Common.{sym, subst}
use Rattle.program_edge.specs.conclusion.cert_text.ProofText.{proof_text_of}
use Rattle.command_line.specs.declared.Wanted.TheVariants as want
use Rattle.program_edge.specs.declared.status.Status.TheVariants as status
use Rattle.trsprove.specs.Verdicts.{IsWritten, in_version_two}
use Rattle.trsprove.proofs.certifying.print_proof.Goals as goal

pub returns-in-Ok : goal.returns-in-Ok
returns-in-Ok c =
    subst (IsWritten c.args.proof.now.system (proof_text_of c.args.proof.now.certificate) want.VersionTwo status.Answered) (sym c.in-Ok.ensures.text)
    (in_version_two c.requires.fits)
