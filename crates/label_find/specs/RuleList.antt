-- The rules along a path of few steps.
use Rattle.std.specs.Prelude.{◌≤◌, ℕ, List, length, take}
use Rattle.std.specs.List.Sorted.{IsNonDecreasingBy}
use Rattle.trs_defs.specs.Member.{In}
use Rattle.path_lists.specs.Adding.{Entry}
use Rattle.label_find.specs.declared.rule_list.RuleList.{RuleList}
use Rattle.label_find.specs.declared.rule_list.RulesTo.{RulesTo}

-- the numbers of a list
abbrev pub rules_listed : RuleList → List ℕ
rules_listed l = take l.count l.rules

-- no path has more than 4 steps
abbrev pub AreShort : List Entry → Type 0
AreShort entries = (e : Entry) → In e entries → length e.1.items ≤ 4

-- no end is less than one before it
abbrev pub AreInOrder : List RulesTo → Type 0
AreInOrder lists = IsNonDecreasingBy (λ l. l.end) lists
