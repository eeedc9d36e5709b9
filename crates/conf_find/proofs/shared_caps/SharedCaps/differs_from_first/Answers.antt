use Rattle.std.proofs.Common.{◌∙◌, sym, refl}
use Rattle.conf_find.proofs.CapMeets.{not_first, first_suffices, first_noted, noted_suffices, one_more_first}
use Rattle.conf_find.proofs.shared_caps.SharedCaps.differs_from_first.Goals.{then-firsts, else-firsts}
use Rattle.conf_find.proofs.shared_caps.SharedCaps.differs_from_first.Goals as goal

pub clashes-requires-clause-left : goal.clashes-requires-clause-left
clashes-requires-clause-left c = c.requires.firsts c.args.v c.in-Some.first.now (sym c.in-Some.ensures.value)

pub returns-in-Some-clause-fits : goal.returns-in-Some-clause-fits
returns-in-Some-clause-fits c =
    not_first c.args.self.now c.args.firsts.now _ c.args.v c.args.k c.in-Some.first.now (sym c.in-Some.ensures.value) refl c.clashes.result c.clashes.ensures

pub returns-in-Some-clause-suffices : goal.returns-in-Some-clause-suffices
returns-in-Some-clause-suffices c =
    first_suffices c.args.self.now c.args.firsts.now _ c.args.v c.args.k c.in-Some.first.now (sym c.in-Some.ensures.value) refl c.clashes.result (elim c.if-firsts.branch [
      | then-firsts w ↦ rw w.if-firsts.true w.firsts-is
      | else-firsts w ↦ rw w.if-firsts.false (w.firsts-is ∙ w.if-firsts.false)
    ])

pub returns-clause-fits : goal.returns-clause-fits
returns-clause-fits c = first_noted c.args.self.now c.args.firsts.now _ c.args.v c.args.k c.in_ok-insert.ensures.updates

pub returns-clause-firsts : goal.returns-clause-firsts
returns-clause-firsts c = one_more_first c.args.self.now c.args.firsts.now (record { numbers = c.insert.new.self; are_all = c.args.firsts.now.are_all }) c.args.v c.args.k c.in_ok-insert.ensures.updates c.requires.there c.requires.firsts

pub returns-clause-suffices : goal.returns-clause-suffices
returns-clause-suffices c = noted_suffices c.args.self.now c.args.firsts.now _ c.args.v c.args.k c.in_ok-insert.ensures.updates refl (sym c.in_default.ensures.value)
