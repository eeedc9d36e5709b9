-- What is written is true.
use Rattle.std.specs.Prelude.{◌≡◌, ℕ, List, Option, Some}
use Rattle.io_edge.specs.Shelf.{ShelfMeaning, MayBe}
use Rattle.io_edge.specs.Sink.{SinkMeaning, AppendsTo}
use Rattle.trs_defs.specs.Member.{In}
use Rattle.program_edge.specs.names_text.Named.{NamedSystem}
use Rattle.ari_text.specs.Problem.{SaysSystem}
use Rattle.program_edge.specs.conclusion.cert_step.declared.claim.Claim.{Claim}
use Rattle.program_edge.specs.conclusion.cert_step.ProofProblem.{Says}
use Rattle.program_edge.specs.conclusion.cert_text.ProofText.{ProofText, in_version}
use Rattle.program_edge.specs.conclusion.cert_text.CertificateText.{version_two_text}
use Rattle.certifier.specs.Acceptance.{IsAcceptance, IsAcceptedAs}
use Rattle.program_edge.specs.conclusion.tree_definitions.Questions.{claims}
use Rattle.program_edge.specs.conclusion.tree_definitions.Reports.{Part, IsTrueReport}
use Rattle.program_edge.specs.conclusion.Concludes.{maybe_text}
use Rattle.sampling.specs.Line.{IsSampleLine}
use Rattle.command_line.specs.Request.{Asked, samples}
use Rattle.command_line.specs.declared.Question.{Question}
use Rattle.command_line.specs.declared.Wanted.{Wanted}
use Rattle.command_line.specs.declared.Wanted.TheVariants as want
use Rattle.program_edge.specs.Conclusions.{question_of}
use Rattle.trsprove.specs.Lines.{accepted_line}
use Rattle.completion_text.specs.completion.Endings.{Ending, IsRightEnding}
use Rattle.completion_text.specs.completion.GreaterBy.{GreaterBy}
use Rattle.completion_text.specs.path_lpo.Table.{PathEntry}
use Rattle.completion_text.specs.OrderText.{SaysOrder}
use Rattle.completion_text.specs.CompletionText.{ending_text}
use Rattle.trsprove.specs.Output.{AreFetched, IsAsked, AreEquations}

-- what is written of a certificate that is accepted
abbrev pub accepted_text : Wanted → NamedSystem → ProofText → List ℕ
accepted_text want.Claim named says = accepted_line says.claim
accepted_text want.VersionTwo named says = version_two_text named says

-- a certificate was accepted, and its claim is true of the system that the problem text says; what was written of it in version 2
-- is itself a certificate that is accepted for the problem text, of the same claim and with the same steps
pub record IsTrueAcceptance (request : Option Asked) (before : ShelfMeaning) (taken later : SinkMeaning) : Type 0 where
  pub wanted : Wanted
  pub problem : List ℕ
  pub certificate : List ℕ
  pub named : NamedSystem
  pub says : ProofText
  pub fetched : AreFetched request wanted (MayBe before) problem certificate
  pub acceptance : IsAcceptedAs problem certificate named says
  pub truth : Says named.system says.claim
  pub upgraded : wanted ≡ want.VersionTwo → IsAcceptedAs problem (accepted_text wanted named says) named (in_version 2 says)
  pub written : AppendsTo taken (accepted_text wanted named says) later

-- what was written is a certificate that is accepted for the problem text, of a claim that a goal of the question has, and the
-- claim is true of the system
pub record IsTrueProof (request : Option Asked) (before : ShelfMeaning) (taken later : SinkMeaning) : Type 0 where
  pub question : Question
  pub budget : ℕ
  pub problem : List ℕ
  pub text : List ℕ
  pub named : NamedSystem
  pub claim : Claim
  pub asked : IsAsked request question budget (MayBe before) problem
  pub goal : In claim (claims (question_of question))
  pub acceptance : IsAcceptance problem text claim named
  pub truth : Says named.system claim
  pub written : AppendsTo taken text later

-- a report was written, and it is true of the system that the problem text says
pub record IsTrueMaybe (request : Option Asked) (before : ShelfMeaning) (taken later : SinkMeaning) : Type 0 where
  pub question : Question
  pub budget : ℕ
  pub problem : List ℕ
  pub named : NamedSystem
  pub parts : List Part
  pub asked : IsAsked request question budget (MayBe before) problem
  pub problem_says : SaysSystem problem named
  pub truth : IsTrueReport named.system (question_of question) budget parts
  pub written : AppendsTo taken (maybe_text named (question_of question) parts) later

-- how completion ends was written, and the ending is right: a system that is written is convergent, with the conversions of the
-- equations that the problem text says; two terms that are written are converted by them, and neither is greater by the order
pub record IsTrueEnding (request : Option Asked) (before : ShelfMeaning) (taken later : SinkMeaning) : Type 0 where
  pub budget : ℕ
  pub problem : List ℕ
  pub order_text : List ℕ
  pub named : NamedSystem
  pub order : List PathEntry
  pub ending : Ending
  pub equations : AreEquations request budget (MayBe before) problem order_text
  pub problem_says : SaysSystem problem named
  pub order_says : SaysOrder named order_text order
  pub truth : IsRightEnding named.system (GreaterBy order) ending
  pub written : AppendsTo taken (ending_text named ending) later

-- the line of a sample system was written, and it is true of that system
pub record IsTrueSample (request : Option Asked) (taken later : SinkMeaning) : Type 0 where
  pub size : ℕ
  pub workers : ℕ
  pub budget : ℕ
  pub line : List ℕ
  pub asked : request ≡ Some (samples size workers budget)
  pub truth : IsSampleLine size budget line
  pub written : AppendsTo taken line later

-- what was written is true
pub data IsTrueAnswer (request : Option Asked) (before : ShelfMeaning) (taken later : SinkMeaning) : Type 0 where
  by_certificate : IsTrueAcceptance request before taken later → IsTrueAnswer request before taken later
  by_proof : IsTrueProof request before taken later → IsTrueAnswer request before taken later
  by_report : IsTrueMaybe request before taken later → IsTrueAnswer request before taken later
  by_completion : IsTrueEnding request before taken later → IsTrueAnswer request before taken later
  by_sample : IsTrueSample request taken later → IsTrueAnswer request before taken later
