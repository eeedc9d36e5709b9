-- Problems without the way in which they are to be shown, which a certificate does not say.
use Rattle.cert_step.specs.ProofProblem.{ProofProblem, cr, cr_newman, unr, unr_newman}

abbrev pub plain : ProofProblem → ProofProblem
plain cr_newman = cr
plain unr_newman = unr
plain p = p
