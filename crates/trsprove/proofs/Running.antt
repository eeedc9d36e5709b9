-- What a run writes, by what the program knew before it wrote.
use Rattle.std.proofs.Common.{◌≡◌, ℕ, List, Option, inl, inr, refl, sym, subst, arith}
use Rattle.io_edge.specs.Edge.{Rose}
use Rattle.io_edge.specs.Shelf.{ShelfMeaning, MayBe, CanAskAgain}
use Rattle.io_edge.specs.Sink.{SinkMeaning, AppendsTo, AppendsPrefix, NoSinkCountFell}
use Rattle.ari_text.specs.Problem.{SaysSystem}
use Rattle.program_edge.specs.conclusion.ProofOf.{Proves}
use Rattle.program_edge.specs.conclusion.Concludes.{Concludes, proved, maybe, proof_lines}
use Rattle.command_line.specs.declared.Question.{Question}
use Rattle.certifier.specs.Acceptance.{IsAcceptance, IsAcceptedAs}
use Rattle.certifier.proofs.OneAnswer.{says_of_acceptance}
use Rattle.certifier.proofs.Upgraded.{upgrade_accepted}
use Rattle.program_edge.specs.conclusion.cert_step.declared.claim.Claim.{Claim}
use Rattle.program_edge.specs.conclusion.cert_text.ProofText.{ProofText}
use Rattle.program_edge.specs.names_text.Named.{NamedSystem}
use Rattle.command_line.specs.Request.{Asked}
use Rattle.command_line.specs.declared.Wanted.{Wanted}
use Rattle.program_edge.specs.declared.status.Status.{Status}
use Rattle.program_edge.specs.declared.status.Status.TheVariants as status
use Rattle.program_edge.specs.LinePuts.{lines_of, ArePut, IsFrontPut}
use Rattle.trsprove.specs.Output.{Output, usage, too_long, decided, answered, completed, sampled, AreFetched, IsAsked, AreEquations, IsAnswer, AnswersOnly, TouchesOnlyNeeded, GivesVerdict, Writes}
use Rattle.trsprove.specs.Verdicts.{IsWritten, with_claim, in_version_two, too_heavy, Verdict, refused, rejected, accepted}
use Rattle.trsprove.specs.Truth.{IsTrueAnswer, by_certificate, by_proof, by_report, by_completion, by_sample}
use Rattle.trsprove.specs.Completions.{IsCompletion, no_equations, no_order, ended}
use Rattle.trsprove.specs.Run.{IsRun}
use Rattle.program_edge.specs.Conclusions.{IsConclusion, no_system, concluded, question_of}
use Rattle.trsprove.proofs.Absence.{no_absence, no_write, no_memory}
use Rattle.trsprove.proofs.Completeness.{complete_answer, complete_without_memory}

module _ (request : Option Asked) (before now : ShelfMeaning) where
  output_of : (s : Status) (text : List ℕ) → IsAnswer request before now s text → GivesVerdict s → Output request (MayBe before) s text
  output_of s text h (inl e) = subst (λ z. Output request (MayBe before) z text) (sym e) (subst (λ z. IsAnswer request before now z text) e h)
  output_of s text h (inr e) = subst (λ z. Output request (MayBe before) z text) (sym e) (subst (λ z. IsAnswer request before now z text) e h)

  module _ (taken later : SinkMeaning) where
    -- ---- what is written

    whole_text : (s : Status) (text : List ℕ) → IsAnswer request before now s text → AppendsTo taken text later
        → (GivesVerdict s → ArePut taken (lines_of text) later) → Writes request before now s taken later
    whole_text status.Answered text h a p = (text, h, a, p)
    whole_text status.Rejected text h a p = (text, h, a, p)
    whole_text status.Usage text h a p = (text, h, a, p)
    whole_text status.Refused text h a p = (text, h, a, p)
    whole_text status.ReadFault text h a p = (text, h, a, p)
    whole_text status.WriteFault text h a p = absurd h
    whole_text status.OutOfMemory text h a p = absurd h
    whole_text status.TooLong text h a p = (text, h, a, p)

    -- ---- a claim that is written is true

    true_written : (wanted : Wanted) (problem certificate : List ℕ) (named : NamedSystem) (says : ProofText) (s : Status) (text : List ℕ)
        → AreFetched request wanted (MayBe before) problem certificate → IsAcceptedAs problem certificate named says → IsWritten named says wanted s text
        → s ≡ status.Answered → AppendsTo taken text later → IsTrueAnswer request before taken later
    true_written wanted problem certificate named says s text fetched acceptance with_claim e w =
        by_certificate (record {
          wanted = wanted;
          problem = problem;
          certificate = certificate;
          named = named;
          says = says;
          fetched = fetched;
          acceptance = acceptance;
          truth = says_of_acceptance problem certificate says.claim named acceptance.acceptance;
          upgraded = λ two. absurd cc;
          written = w;
        })
    true_written wanted problem certificate named says s text fetched acceptance (in_version_two fits) e w =
        by_certificate (record {
          wanted = wanted;
          problem = problem;
          certificate = certificate;
          named = named;
          says = says;
          fetched = fetched;
          acceptance = acceptance;
          truth = says_of_acceptance problem certificate says.claim named acceptance.acceptance;
          upgraded = λ two. upgrade_accepted problem certificate named says acceptance fits;
          written = w;
        })
    true_written wanted problem certificate named says s text fetched acceptance (too_heavy heavy) e w = absurd cc

    true_verdict : (wanted : Wanted) (problem certificate : List ℕ) (s : Status) (text : List ℕ) → AreFetched request wanted (MayBe before) problem certificate
        → Verdict problem certificate wanted s text → s ≡ status.Answered → AppendsTo taken text later → IsTrueAnswer request before taken later
    true_verdict wanted problem certificate s text fetched (refused fault h m) e w = absurd cc
    true_verdict wanted problem certificate s text fetched (rejected reason h p m) e w = absurd cc
    true_verdict wanted problem certificate s text fetched (accepted named says a written) e w =
        true_written wanted problem certificate named says s text fetched a written e w

    -- ---- what answers a question is true

    proof_accepted : (problem text : List ℕ) (named : NamedSystem) (claim : Claim) → SaysSystem problem named → Proves named claim text → IsAcceptance problem text claim named
    proof_accepted problem text named claim says h = record {
      says = h.says;
      read = record { problem_says = says; certificate_says = h.said };
      claimed = h.claimed;
      headline = h.headline;
      accepted = h.accepted;
    }

    true_concluded : (question : Question) (budget : ℕ) (problem : List ℕ) (named : NamedSystem) (text : List ℕ) → IsAsked request question budget (MayBe before) problem
        → SaysSystem problem named → Concludes named (question_of question) budget text → AppendsTo taken text later → IsTrueAnswer request before taken later
    true_concluded question budget problem named text asked says (proved claim steps goal proves) w =
        let acceptance = proof_accepted problem (proof_lines named claim steps) named claim says proves in
        by_proof (record {
          question = question;
          budget = budget;
          problem = problem;
          text = proof_lines named claim steps;
          named = named;
          claim = claim;
          asked = asked;
          goal = goal;
          acceptance = acceptance;
          truth = says_of_acceptance problem (proof_lines named claim steps) claim named acceptance;
          written = w;
        })
    true_concluded question budget problem named text asked says (maybe parts is_true) w =
        by_report (record {
          question = question;
          budget = budget;
          problem = problem;
          named = named;
          parts = parts;
          asked = asked;
          problem_says = says;
          truth = is_true;
          written = w;
        })

    true_conclusion : (question : Question) (workers budget : ℕ) (problem : List ℕ) (s : Status) (text : List ℕ) → IsAsked request question budget (MayBe before) problem
        → IsConclusion problem question workers budget s text → s ≡ status.Answered → AppendsTo taken text later → IsTrueAnswer request before taken later
    true_conclusion question workers budget problem s text asked (no_system fault h m) e w = absurd cc
    true_conclusion question workers budget problem s text asked (concluded named says by) e w = true_concluded question budget problem named text asked says by.concludes w

    -- ---- how completion ends is right

    true_completion : (budget : ℕ) (problem order : List ℕ) (s : Status) (text : List ℕ) → AreEquations request budget (MayBe before) problem order
        → IsCompletion problem order budget s text → s ≡ status.Answered → AppendsTo taken text later → IsTrueAnswer request before taken later
    true_completion budget problem order s text f (no_equations fault h m) e w = absurd cc
    true_completion budget problem order s text f (no_order named at says h) e w = absurd cc
    true_completion budget problem order s text f (ended named says c) e w =
        by_completion (record {
          budget = budget;
          problem = problem;
          order_text = order;
          named = named;
          order = c.order;
          ending = c.completion.ending;
          equations = f;
          problem_says = says;
          order_says = c.says;
          truth = c.completion.right;
          written = subst (λ z. AppendsTo taken z later) c.completion.written w;
        })

    true_output : (s : Status) (text : List ℕ) → Output request (MayBe before) s text → s ≡ status.Answered → AppendsTo taken text later → IsTrueAnswer request before taken later
    true_output s text (usage none) e w = absurd cc
    true_output s text (too_long name limit needed long) e w = absurd cc
    true_output s text (sampled size workers budget asks by) e w =
        by_sample (record { size = size; workers = workers; budget = budget; line = text; asked = asks; truth = by.is_true; written = w })
    true_output s text (completed budget problem order f completion) e w = true_completion budget problem order s text f completion e w
    true_output s text (decided wanted problem certificate fetched verdict) e w = true_verdict wanted problem certificate s text fetched verdict e w
    true_output s text (answered question budget problem asked conclusion) e w = true_conclusion question asked.workers budget problem s text asked conclusion e w

    answered_truly : (s : Status) (text : List ℕ) → IsAnswer request before now s text → AppendsTo taken text later → s ≡ status.Answered
        → IsTrueAnswer request before taken later
    answered_truly s text h w e = true_output s text (output_of s text h (inl e)) e w

    -- ---- how a run ends

    -- the text of an answer was written
    pub whole_run : (s : Status) (text : List ℕ) → IsAnswer request before now s text → AnswersOnly request before s → TouchesOnlyNeeded request before now
        → CanAskAgain before now → AppendsTo taken text later × NoSinkCountFell taken later → (GivesVerdict s → ArePut taken (lines_of text) later)
        → IsRun request before now s taken later
    whole_run s text h only untouched again wrote lines = record {
      output = whole_text s text h wrote.0 lines;
      write = λ e. absurd (subst (λ z. IsAnswer request before now z text) e h);
      only = only;
      truth = answered_truly s text h wrote.0;
      untouched = untouched;
      absent = no_absence request before now s text h;
      complete = λ none. complete_answer request before now s text h none.reading;
      again = (again, wrote.1);
    }

    -- a front of it was
    pub front_run : (s : Status) (text : List ℕ) → IsAnswer request before now s text → TouchesOnlyNeeded request before now → CanAskAgain before now
        → AppendsPrefix taken text later × Rose taken.faults later.faults × NoSinkCountFell taken later → (GivesVerdict s → IsFrontPut taken (lines_of text) later)
        → IsRun request before now status.WriteFault taken later
    front_run s text h untouched again wrote lines = record {
      output = (s, text, h, wrote.0, lines);
      write = λ e. wrote.1;
      only = λ wanted defined o. tt;
      truth = λ e. absurd cc;
      untouched = untouched;
      absent = no_write request before;
      complete = λ none. absurd (none.writing wrote.1);
      again = (again, wrote.2);
    }

  -- memory did not suffice for an answer
  pub no_run : (sink : SinkMeaning) → TouchesOnlyNeeded request before now → CanAskAgain before now → IsRun request before now status.OutOfMemory sink sink
  no_run sink untouched again = record {
    output = refl;
    write = λ e. absurd cc;
    only = λ wanted defined o. tt;
    truth = λ e. absurd cc;
    untouched = untouched;
    absent = no_memory request before;
    complete = λ none. complete_without_memory request before;
    again = (again, (omega arith, omega arith));
  }
