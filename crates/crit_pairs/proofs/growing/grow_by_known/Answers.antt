use Rattle.std.proofs.Common.{inl, refl}
use Rattle.term_pool.proofs.Extending.{extends_itself}
use Rattle.crit_pairs.specs.MadePairs.{spot}
use Rattle.crit_pairs.specs.Table.{no_peak, no_spot}
use Rattle.crit_pairs.proofs.growing.grow_by_known.Goals as goal

pub returns-in-Absent-clause-adds : goal.returns-in-Absent-clause-adds
returns-in-Absent-clause-adds c = inl (no_peak ((rw c.in-Absent.is at c.requires.known) c.args.i refl) no_spot, refl, refl, refl)

pub returns-in-Absent-clause-kept : goal.returns-in-Absent-clause-kept
returns-in-Absent-clause-kept c = extends_itself c.args.pool.now

pub returns-in_ok-add_again-in-Made-clause-adds : goal.returns-in_ok-add_again-in-Made-clause-adds
returns-in_ok-add_again-in-Made-clause-adds c =
    c.in_ok-add_again-in-Made.ensures.adds c.args.rules.now (spot c.args.j c.args.place.now c.args.i) c.args.pool.now ((rw c.in-Made.is at c.requires.known) c.args.i refl)

pub returns-in_ok-add_again-in-Made-clause-kept : goal.returns-in_ok-add_again-in-Made-clause-kept
returns-in_ok-add_again-in-Made-clause-kept c = extends_itself c.args.pool.now

pub returns-in_err-add_again-in-Made-clause-kept : goal.returns-in_err-add_again-in-Made-clause-kept
returns-in_err-add_again-in-Made-clause-kept c = extends_itself c.args.pool.now
