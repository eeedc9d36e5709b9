-- One worker finds one text, and one line of a sample system.
use Rattle.std.proofs.Common.{◌≡◌, ℕ, [], ◌∷◌, Some, slice_get, refl, sym, ap, ◌∙◌, subst}
use Rattle.conclusion.specs.report_text.strategies.cert_step.declared.claim.Claim.{Claim}
use Rattle.conclusion.specs.tree_definitions.declared.question.Question.TheVariants.{Termination}
use Rattle.conclusion.specs.tree_definitions.Questions.{claims}
use Rattle.conclusion.specs.tree_definitions.States.{State}
use Rattle.conclusion.specs.tree_definitions.Reports.{Walks}
use Rattle.conclusion.proofs.tree_definitions.Lookups.{one_value}
use Rattle.conclusion.specs.Concludes.{proof_lines}
use Rattle.conclusion.specs.SerialText.{won, lost}
use Rattle.sampling.specs.Family.{sample}
use Rattle.sampling.proofs.SampleSystems.{sample_valid}
use Rattle.sampling.specs.declared.judgement.Judgement.{Judgement}
use Rattle.sampling.specs.declared.judgement.Judgement.TheVariants.{Proved, Refuted, Open}
use Rattle.sampling.specs.Judged.{IsJudgementOf}
use Rattle.sampling.specs.Line.{judged_alone, line_of}
use Rattle.text_determinism.specs.TextLaws.{SerialTextsAreOne, SampleLinesAreOne}
use Rattle.text_determinism.specs.AnswerLaws.{AnswersAreOne}
use Rattle.text_determinism.proofs.Renumbering.{renumbered_state}
use Rattle.text_determinism.proofs.OneEnd.{one_serial_end}
use Rattle.text_determinism.proofs.OneCertificate.{same_steps, same_lines}
use Rattle.text_determinism.proofs.OneReport.{same_report}

-- the goal that was won is one
same_winner : (u v : State) → renumbered_state u ≡ renumbered_state v → u.winner ≡ v.winner
same_winner u v same = ap (λ (s : State). s.winner) same

same_nodes : (u v : State) → renumbered_state u ≡ renumbered_state v → (renumbered_state u).nodes ≡ (renumbered_state v).nodes
same_nodes u v same = ap (λ (s : State). s.nodes) same

module _ (answers : AnswersAreOne) where
  pub one_serial_text : SerialTextsAreOne
  one_serial_text named question budget _ _ is (won u g claim steps end won_u at are) (won v h other others end' won_v at' are') =
      let same = one_serial_end answers named.system is.valid question budget u v end end' in
      let g_is : g ≡ h = let w = same_winner u v same in cc in
      let at_h = subst (λ (k : ℕ). slice_get (claims question) k ≡ Some claim) g_is at in
      let claim_is : claim ≡ other = one_value (slice_get (claims question) h) claim other at_h at' in
      let walks_v = subst (λ (k : ℕ). Walks v.nodes (k ∷ []) are'.order) (sym g_is) are'.walks in
      ap (λ (c : Claim). proof_lines named c steps) claim_is
      ∙ same_lines named other steps others
      (same_steps u.nodes v.nodes (same_nodes u v same) g are.order are'.order are.walks walks_v steps others are.steps_are are'.steps_are)
  one_serial_text named question budget _ _ is (won u g claim steps end won_u at are) (lost v parts end' none true_parts are') =
      let w = same_winner u v (one_serial_end answers named.system is.valid question budget u v end end') in absurd cc
  one_serial_text named question budget _ _ is (lost u parts end none true_parts are) (won v h other others end' won_v at' are') =
      let w = same_winner u v (one_serial_end answers named.system is.valid question budget u v end end') in absurd cc
  one_serial_text named question budget _ _ is (lost u parts end none_u true_u are) (lost v others end' none_v true_v are') =
      let same = one_serial_end answers named.system is.valid question budget u v end end' in
      same_report answers named.system is.valid budget named question u.nodes v.nodes (same_nodes u v same) parts others true_u true_v are are'

  one_judgement : (u v : State) (j k : Judgement) → u.winner ≡ v.winner → IsJudgementOf u j → IsJudgementOf v k → j ≡ k
  one_judgement u v Proved Proved w a b = refl
  one_judgement u v Proved Refuted w a b = absurd cc
  one_judgement u v Proved Open w a b = absurd cc
  one_judgement u v Refuted Proved w a b = absurd cc
  one_judgement u v Refuted Refuted w a b = refl
  one_judgement u v Refuted Open w a b = absurd cc
  one_judgement u v Open Proved w a b = absurd cc
  one_judgement u v Open Refuted w a b = absurd cc
  one_judgement u v Open Open w a b = refl

  pub one_sample_line : SampleLinesAreOne
  one_sample_line size budget _ _ small (judged_alone j a) (judged_alone k b) =
      let same = one_serial_end answers (sample size).system (sample_valid size small) Termination budget a.state b.state a.ends b.ends in
      ap (line_of (sample size).system) (one_judgement a.state b.state j k (same_winner a.state b.state same) a.judged b.judged)
