-- Two paths that are to lead from the two sides of a peak to one term.
use Rattle.std.specs.Prelude.{List, refl}
use Rattle.std.specs.Coded.{Coded, code_by, coded×, coded_list}
use Rattle.trs_defs.specs.Path.{PlacedRule, placed_code}

pub record PathsOfJoin : Type 0 where
  pub left : List PlacedRule
  pub right : List PlacedRule

-- it is stored as the pair of its fields
abbrev pub join_code : Coded PathsOfJoin
join_code =
    code_by (List PlacedRule × List PlacedRule) (coded× (coded_list placed_code) (coded_list placed_code)) (λ j. (j.left, j.right))
    (λ p. record { left = p.0; right = p.1 }) (λ _. refl)
