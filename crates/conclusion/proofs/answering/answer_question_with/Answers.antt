use Rattle.std.proofs.Common.{◌≡◌, ◌∙◌, ap}
use Rattle.std.proofs.lemmas.Result.{IfOk-weaker}
use Rattle.report_text.specs.tree_definitions.Trees.{ProofTree}
use Rattle.conclusion.specs.Concludes.{Concludes}
use Rattle.conclusion.specs.TextOf.{IsTextOf}
use Rattle.conclusion.proofs.Texts.{answers}
use Rattle.conclusion.proofs.answering.answer_question_with.Goals as goal

pub returns : goal.returns
returns g c =
    let tree = c.tree.result.now in
    let same : tree ≡ c.in_ok-finished.finished = c.tree.ensures.tree in
    let asked : tree.question ≡ c.args.question = ap (λ (t : ProofTree). t.question) same ∙ c.in_ok-finished.ensures.question in
    let within : tree.budget ≡ c.args.budget = ap (λ (t : ProofTree). t.budget) same ∙ c.in_ok-finished.ensures.budget in
    record {
      concludes = IfOk-weaker c.tree_text.result (λ text. IsTextOf c.args.system.now tree text.items) (λ text. Concludes c.args.system.now c.args.question c.args.budget text.items)
          (λ text. answers c.args.system.now c.args.question c.args.budget tree text.items asked within) c.tree_text.ensures;
    }
