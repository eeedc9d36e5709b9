use Rattle.label_find.proofs.side_rules.SideRules.new.Goals as goal

pub returns : goal.returns
returns c = record { groups = c.in_ok-groups.ensures.groups; few = c.in_ok-groups.ensures.few; used = c.in_ok-used.ensures }
