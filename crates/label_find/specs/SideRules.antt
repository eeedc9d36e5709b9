-- The rules along the paths from a side of peaks.
use Rattle.std.specs.Prelude.{◌≤◌, ℕ, List, [], Option, None, Some, length}
use Rattle.path_lists.specs.Adding.{Entry}
use Rattle.label_find.specs.declared.side_rules.SideRules.{SideRules}
use Rattle.label_find.specs.declared.rule_list.RuleList.{RuleList}
use Rattle.label_find.specs.Lists.{rules_in, IsWith}
use Rattle.label_find.specs.Grouping.{AreGroups, count_of, lists_at}

-- it has the lists of rules along these paths, by their ends, and all rules of them
pub record IsSideOf (entries : List Entry) (side : SideRules) : Type 0 where
  pub groups : AreGroups entries side.groups
  pub few : count_of side.groups ≤ length entries
  pub used : IsWith [] (rules_in entries) side.used.items

-- the lists of the group at a place, and the rules, of a side that may be there
abbrev pub lists_of_side : Option SideRules → ℕ → List RuleList
lists_of_side None = λ number. []
lists_of_side (Some side) = lists_at side.groups

abbrev pub rules_of_side : Option SideRules → List ℕ
rules_of_side None = []
rules_of_side (Some side) = side.used.items
