-- The first term of one list that another list has, with the paths to it.
use Rattle.std.specs.Prelude.{◌≡◌, List}
use Rattle.trs_defs.specs.Tree.{Tree}
use Rattle.term_pool.specs.Listed.{Listed, HasTerm}
use Rattle.rewrite_core.specs.PathsOfJoin.{PathsOfJoin}
use Rattle.join_find.specs.First.{First, None_in}

-- the first term of the left list that the right list has, with its first path in each list
pub record IsFirstCommon (lefts rights : List Listed) (join : PathsOfJoin) : Type 0 where
  pub term : Tree
  pub first_left : First (λ (e : Listed). HasTerm e.term rights) lefts (record { term = term; path = join.left })
  pub first_right : First (λ (e : Listed). e.term ≡ term) rights (record { term = term; path = join.right })

-- no term is in both lists
pub record HasNoCommon (lefts rights : List Listed) : Type 0 where
  pub none : None_in (λ (e : Listed). HasTerm e.term rights) lefts
