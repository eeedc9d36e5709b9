-- Lists of rules along paths, each list once.
use Rattle.std.specs.Prelude.{◌≡◌, ℕ, ◌+◌, max, List, [], ◌∷◌, ◌++◌}
use Rattle.trs_defs.specs.Member.{In}
use Rattle.trs_defs.specs.Variable.{is_listed}
use Rattle.join_find.specs.First.{Some_in}
use Rattle.path_lists.specs.Adding.{Entry}
use Rattle.label_find.specs.LabelRow.{rules_along}
use Rattle.label_find.specs.declared.rule_list.RuleList.{RuleList}
use Rattle.label_find.specs.RuleList.{rules_listed}

-- some list is of these rules
abbrev pub HasRules : List ℕ → List RuleList → Type 0
HasRules rules lists = Some_in (λ (l : RuleList). (rules_listed l) ≡ rules) lists

-- a path with this end has these rules
abbrev pub IsAlong : List Entry → ℕ → List ℕ → Type 0
IsAlong entries end rules = Some_in (λ (e : Entry). (e.0 ≡ end) × (rules ≡ rules_along e.1.items)) entries

-- the lists are those of the rules along the paths to this end
pub record AreListsTo (entries : List Entry) (end : ℕ) (lists : List RuleList) : Type 0 where
  pub sound : (l : RuleList) → In l lists → IsAlong entries end (rules_listed l)
  pub complete : (e : Entry) → In e entries → e.0 ≡ end → HasRules (rules_along e.1.items) lists

-- the rules along all of these paths
abbrev pub rules_in : List Entry → List ℕ
rules_in [] = []
rules_in (e ∷ es) = rules_along e.1.items ++ rules_in es

-- one more than the greatest number, or 0 where there is none
abbrev pub end_of : List ℕ → ℕ
end_of [] = 0
end_of (k ∷ ks) = max (k + 1) (end_of ks)

-- the new list has the numbers of the old one and these
pub record IsWith (old more new : List ℕ) : Type 0 where
  pub each : (k : ℕ) → is_listed k new ≡ is_listed k (old ++ more)
