use Rattle.std.proofs.Common.{◌≡◌, ◌∙◌, ap, sym}
use Rattle.std.proofs.lemmas.Result.{IfOk-weaker}
use Rattle.trs_defs.specs.System.{System}
use Rattle.names_text.specs.Named.{NamedSystem}
use Rattle.sampling.specs.Family.{sample}
use Rattle.sampling.specs.Line.{IsSampleLine, IsSerialLine, line_of}
use Rattle.sampling.proofs.WonGoals.{line_judged, line_serial}
use Rattle.sampling.proofs.line.sample_line.Goals as goal

pub returns-clause-line : goal.returns-clause-line
returns-clause-line c =
    let size = c.args.size in
    let judgement = c.in_ok-judgement.judgement in
    let system = c.trs.result.now in
    let sampled : system ≡ (sample size).system = c.trs.ensures.trs ∙ ap (λ (s : NamedSystem). s.system) c.in_ok-sample.ensures in
    let again : c.trs-2.result.now ≡ system = c.trs-2.ensures.trs ∙ sym c.trs.ensures.trs in
    IfOk-weaker c.line_of.result _ (λ line. IsSampleLine size c.args.budget line.items)
    (λ line is. line_judged size c.args.budget system judgement line.items sampled (is ∙ ap (λ (s : System). line_of s judgement) again) c.in_ok-judgement.ensures.is_true)
    c.line_of.ensures

pub returns-clause-serial : goal.returns-clause-serial
returns-clause-serial c =
    let size = c.args.size in
    let judgement = c.in_ok-judgement.judgement in
    let system = c.trs.result.now in
    let sampled : system ≡ (sample size).system = c.trs.ensures.trs ∙ ap (λ (s : NamedSystem). s.system) c.in_ok-sample.ensures in
    let again : c.trs-2.result.now ≡ system = c.trs-2.ensures.trs ∙ sym c.trs.ensures.trs in
    IfOk-weaker c.line_of.result _ (λ line. IsSerialLine size c.args.budget line.items)
    (λ line is. line_serial size c.args.budget system judgement line.items sampled (is ∙ ap (λ (s : System). line_of s judgement) again) c.in_ok-judgement.ensures.serial)
    c.line_of.ensures
