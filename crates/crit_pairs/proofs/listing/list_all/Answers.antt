use Rattle.std.proofs.Common.{arith}
use Rattle.crit_pairs.proofs.Keeping.{all_found}
use Rattle.crit_pairs.proofs.listing.list_all.Goals as goal

pub returns-clause-peaks : goal.returns-clause-peaks
returns-clause-peaks g c = all_found c.args.trs.now.rules _ c.list_by.result (omega arith) c.list_by.ensures.peaks
