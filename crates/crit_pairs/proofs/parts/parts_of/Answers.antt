use Rattle.trs_core.specs.View.{tree}
use Rattle.crit_pairs.proofs.PartLaws.{all_places, all_parts}
use Rattle.crit_pairs.proofs.parts.parts_of.Goals as goal

pub returns-clause-places : goal.returns-clause-places
returns-clause-places c = all_places c.args.rules.now.rules c.new-place.result.items (tree c.args.t.now) c.new-parts.result.items c.add_parts.new.parts.items c.new-place.ensures.items c.new-parts.ensures.items (c.in_ok-add_parts.ensures.places (tree c.args.t.now))

pub returns-clause-each : goal.returns-clause-each
returns-clause-each c = all_parts c.new-place.result.items (tree c.args.t.now) c.new-parts.result.items c.add_parts.new.parts.items c.new-place.ensures.items c.new-parts.ensures.items (c.in_ok-add_parts.ensures.each (tree c.args.t.now))
