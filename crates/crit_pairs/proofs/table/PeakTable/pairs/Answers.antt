use Rattle.std.proofs.Common.{◌∙◌, List, ap, subst, sym}
use Rattle.std.proofs.lemmas.List.{take_all}
use Rattle.crit_pairs.specs.Table.{pairs_of, AreAllPairs}
use Rattle.crit_pairs.specs.declared.table.PeakPair.{PeakPair}
use Rattle.crit_pairs.proofs.TableLaws.{all_pairs}
use Rattle.crit_pairs.proofs.table.PeakTable.pairs.Goals as goal

pub returns : goal.returns
returns c = λ rules pool h.
    let items = c.deref-list-items.result.now in
    let same = c.loop-list.invariant ∙ (ap pairs_of (take_all c.loop-list.list-index items c.loop-list-test.false) ∙ ap pairs_of c.deref-list-items.ensures.value) in
    let P : List PeakPair → Type 0 = AreAllPairs rules pool in
    subst P (sym same) (all_pairs rules pool c.args.self.now h)
