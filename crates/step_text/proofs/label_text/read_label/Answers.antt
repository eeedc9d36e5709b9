use Rattle.std.proofs.Common.{◌∙◌}
use Rattle.cert_step.specs.ProofStep.{step_of}
use Rattle.text_reading.proofs.SeenParts.{first, next}
use Rattle.path_text.proofs.InTurn.{if_read}
use Rattle.step_text.specs.LabelText.{label_step}
use Rattle.step_text.proofs.LabelLaws.{label_left}
use Rattle.step_text.proofs.label_text.read_label.Goals as goal

pub returns-clause-left : goal.returns-clause-left
returns-clause-left c =
    let ranks = first label_step (λ v. v.items) c.in_ok-ranks.ranks _ c.in_ok-ranks.ensures in
    let joins = next _ (λ v. v.items) c.in_ok-ranks.ranks c.in_ok-joins.joins c.both.result _ _ ranks c.in_ok-joins.ensures.read c.both.ensures in
    if_read step_of _ c.label_step.result _ (c.label_step.ensures ∙ joins)
    (λ v e. label_left c.args.sharing.now c.read_pairs.new.sharing _ c.in_ok-joins.joins _ v c.in_ok-joins.ensures.read c.in_ok-joins.ensures.left e)
