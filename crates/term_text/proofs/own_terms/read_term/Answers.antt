use Rattle.sexp_core.specs.Items.{view}
use Rattle.term_text.proofs.OwnTermLaws.{written_well_formed, written_within}
use Rattle.term_text.proofs.own_terms.read_term.Goals as goal

pub returns-clause-well_formed : goal.returns-clause-well_formed
returns-clause-well_formed c =
    rw c.ok.ensures.value (written_well_formed c.args.system.now (view c.args.item.now) c.in_ok-read_own_term.field-0 c.in_ok-read_own_term.ensures)

pub returns-clause-limits : goal.returns-clause-limits
returns-clause-limits c =
    rw c.ok.ensures.value (written_within c.args.system.now (view c.args.item.now) c.in_ok-read_own_term.field-0 c.in_ok-read_own_term.ensures)
