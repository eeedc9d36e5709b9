use Rattle.std.proofs.Common.{◌≡◌, ◌∙◌, subst}
use Rattle.std.proofs.lemmas.Result.{IfOk-weaker}
use Rattle.trs_defs.specs.System.{System}
use Rattle.report_text.specs.tree_definitions.Trees.{ProofTree}
use Rattle.worker_pool.specs.Serial.{IsSerial}
use Rattle.worker_pool.proofs.SerialEnds.{serial_end}
use Rattle.conclusion.specs.Concludes.{Concludes}
use Rattle.conclusion.specs.SerialText.{IsSerialText}
use Rattle.conclusion.specs.TextOf.{IsTextOf}
use Rattle.conclusion.proofs.Texts.{answers, text_serial}
use Rattle.conclusion.proofs.answering.answer_question.Goals as goal

pub returns-clause-concludes : goal.returns-clause-concludes
returns-clause-concludes c =
    let named = c.args.system.now in
    let finished = c.in_ok-finished.finished in
    let same : c.tree.result.now ≡ finished = c.tree.ensures.tree in
    IfOk-weaker c.tree_text.result (λ text. IsTextOf named c.tree.result.now text.items) (λ text. Concludes named c.args.question c.args.budget text.items)
    (λ text h. answers named c.args.question c.args.budget finished text.items c.in_ok-finished.ensures.question c.in_ok-finished.ensures.budget
    (subst (λ (t : ProofTree). IsTextOf named t text.items) same h)) c.tree_text.ensures

pub returns-clause-serial : goal.returns-clause-serial
returns-clause-serial c =
    let named = c.args.system.now in
    let finished = c.in_ok-finished.finished in
    let same : c.tree.result.now ≡ finished = c.tree.ensures.tree in
    let serial : IsSerial named.system c.args.budget finished.history =
    subst (λ (s : System). IsSerial s c.args.budget finished.history) c.trs.ensures.trs c.in_ok-finished.ensures.serial in
    let end = serial_end named.system c.args.question c.args.budget finished (c.in_ok-finished.ensures.system ∙ c.trs.ensures.trs) c.in_ok-finished.ensures.question serial
    c.tree.ensures.replays c.tree.ensures.verdict in
    IfOk-weaker c.tree_text.result (λ text. IsTextOf named c.tree.result.now text.items) (λ text. IsSerialText named c.args.question c.args.budget text.items)
    (λ text h. text_serial named c.args.question c.args.budget finished text.items end c.in_ok-finished.ensures.question c.in_ok-finished.ensures.budget
    (subst (λ (t : ProofTree). IsTextOf named t text.items) same h)) c.tree_text.ensures
