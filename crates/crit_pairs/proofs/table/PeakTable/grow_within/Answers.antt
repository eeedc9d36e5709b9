use Rattle.std.proofs.Common.{◌≡◌, List, Option, ap, refl, subst, sym, arith, length, length-append}
use Rattle.term_pool.proofs.Extending.{extends_itself, extends_on}
use Rattle.crit_pairs.specs.GroundSides.{AreGroundRights}
use Rattle.crit_pairs.specs.declared.ground_sides.GroundSide.{GroundSide}
use Rattle.crit_pairs.proofs.GroundRights.{rights_still}
use Rattle.crit_pairs.proofs.TableLaws.{has_still}
use Rattle.crit_pairs.proofs.GrowthLaws.{first_prepared, first_rights, known_rules, table_begins, whole_table}
use Rattle.crit_pairs.proofs.table.PeakTable.grow_within.Goals.{After-len-known}
use Rattle.crit_pairs.proofs.table.PeakTable.grow_within.Goals as goal

-- as many rules are known as the table has
known_first : (c : After-len-known) → c.len-known.result ≡ length c.requires.first.first
known_first c = omega (arith, c.len-known.ensures, c.args.self.prepared.apart_lefts.ok.0, known_rules c.requires.first.first c.args.self.prepared c.requires.first.has.prepared)

pub prepare-requires-clause-first : goal.prepare-requires-clause-first
prepare-requires-clause-first c = first_prepared c.args.rules.now c.args.pool.now c.args.self c.requires.first

pub returns-in_err-prepared-clause-kept : goal.returns-in_err-prepared-clause-kept
returns-in_err-prepared-clause-kept c = extends_itself c.args.pool.now

pub add_ground_rights-requires : goal.add_ground_rights-requires
add_ground_rights-requires c = first_rights c.args.rules.now c.args.pool.now c.args.self c.requires.first

pub grow_all-requires-clause-rights : goal.grow_all-requires-clause-rights
grow_all-requires-clause-rights c =
    let R : List (Option GroundSide) → Type 0 = AreGroundRights c.args.rules.now c.add_ground_rights.new.pool in
    subst R (sym c.deref.ensures.value) c.in_ok-rights.ensures.rights

pub grow_all-requires-clause-known : goal.grow_all-requires-clause-known
grow_all-requires-clause-known c =
    let count = known_first (goal.at.grow_all-requires-clause-known c).After-len-known in
    omega (arith, count, ap length c.requires.first.are, length-append c.requires.first.first c.requires.first.more)

pub returns-in-Ok-clause-peaks : goal.returns-in-Ok-clause-peaks
returns-in-Ok-clause-peaks c =
    let h = c.requires.first in
    let rules = c.args.rules.now in
    let count = known_first (goal.at.returns-in-Ok-clause-peaks c).After-len-known in
    let has = has_still h.first c.args.pool.now c.add_ground_rights.new.pool c.args.self c.in_ok-rights.ensures.kept h.has in
    let begun = table_begins rules h.first h.more c.len-known.result c.add_ground_rights.new.pool c.args.self _ h.are count has refl refl refl in
    whole_table rules c.grow_all.new.pool c.grow_all.new.growth _ c.in_ok-prepared.ensures (rights_still rules _ c.grow_all.new.pool _ c.grow_all.ensures.kept c.in_ok-rights.ensures.rights) refl refl (c.in-Ok.ensures.grows h.first h.more h.are count begun)

pub returns-clause-kept : goal.returns-clause-kept
returns-clause-kept c = extends_on c.args.pool.now c.add_ground_rights.new.pool c.grow_all.new.pool c.in_ok-rights.ensures.kept c.grow_all.ensures.kept
