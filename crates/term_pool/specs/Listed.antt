-- A term with a path that leads to it.
use Rattle.std.specs.Prelude.{List, refl}
use Rattle.std.specs.Coded.{Coded, code_by, coded×, coded_list}
use Rattle.trs_defs.specs.Member.{In}
use Rattle.trs_defs.specs.Tree.{Tree, tree_code}
use Rattle.trs_defs.specs.Path.{PlacedRule, placed_code}

pub record Listed : Type 0 where
  pub term : Tree
  pub path : List PlacedRule

-- the term is in the list, with some path
abbrev pub HasTerm : Tree → List Listed → Type 0
HasTerm u es = (path : List PlacedRule) × In (record { term = u; path = path }) es

-- it is stored as the pair of its fields
abbrev pub listed_code : Coded Listed
listed_code =
    code_by (Tree × List PlacedRule) (coded× tree_code (coded_list placed_code)) (λ e. (e.term, e.path))
    (λ p. record { term = p.0; path = p.1 }) (λ _. refl)
