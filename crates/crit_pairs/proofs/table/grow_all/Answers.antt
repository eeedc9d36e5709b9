use Rattle.std.proofs.Common.{◌++◌, [], ap, sym, refl, append-nil}
use Rattle.term_pool.proofs.Extending.{extends_on}
use Rattle.crit_pairs.specs.Table.{sites, sites_from}
use Rattle.crit_pairs.proofs.GroundRights.{rights_still}
use Rattle.crit_pairs.proofs.GrowthLaws.{grown_at, others_begin, others_left, ok_then}
use Rattle.crit_pairs.proofs.table.grow_all.Goals as goal

pub grow_rules-requires-2-clause-rights : goal.grow_rules-requires-2-clause-rights
grow_rules-requires-2-clause-rights c = rights_still c.args.rules.now c.args.pool.now c.grow_rules.new.pool c.args.rights.now c.in_ok-grow_rules.ensures.kept c.requires.rights

pub returns-clause-grows : goal.returns-clause-grows
returns-clause-grows c = ok_then c.grow_rules-2.result (λ grows first more are count h.
    let rules = c.args.rules.now in
    let after = sites_from c.args.known more in
    let mid = c.in_ok-grow_rules.ensures.grows first more are count [] after
    (grown_at rules c.args.known c.args.pool.now c.args.growth.now _ _ after (sym (append-nil (sites first))) h) in
    let next = others_begin rules c.args.known c.grow_rules.new.pool c.grow_rules.new.growth after mid in
    grows rules [] (sym (append-nil rules)) refl [] []
    (grown_at rules 0 c.grow_rules.new.pool c.grow_rules.new.growth _ _ [] (ap (λ rs. sites_from c.args.known rs ++ []) (sym (others_left rules first more c.args.known are count))) next))
    c.grow_rules-2.ensures.grows

pub returns-clause-kept : goal.returns-clause-kept
returns-clause-kept c = extends_on c.args.pool.now c.grow_rules.new.pool c.grow_rules-2.new.pool c.in_ok-grow_rules.ensures.kept c.grow_rules-2.ensures.kept
