use Rattle.strategies.specs.Rows.{peaks_fail}
use Rattle.strategies.specs.Conditions.{label_is_not_there, label_is_spent}
use Rattle.strategies.proofs.Answering.{answers_for_label}
use Rattle.strategies.proofs.TrueRows.{label_true}
use Rattle.strategies.proofs.label.RanksSearchOnPeaks.find.Goals as goal

pub returns-clause-answer : goal.returns-clause-answer
returns-clause-answer g c =
    let system = c.args.trs.now in
    let peaks = c.args.peaks.now in
    let budget = c.args.budget in
    answers_for_label c.label_among.result system peaks budget _
    (λ it h. label_true system budget it.ranks.items it.joins.items c.found_labels_apply.ensures (record { peaks = peaks; listed = c.requires.peaks; found = h }))
    (λ h. label_is_not_there (peaks_fail peaks c.requires.peaks h)) (λ h. label_is_spent (record { peaks = peaks; listed = c.requires.peaks; found = h }))
    c.label_among.ensures.answer
