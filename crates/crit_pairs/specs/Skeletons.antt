-- Skeletons of terms: a hole stands for each variable. What has no holes has a mark, a number by which it is told from most others.
use Rattle.std.specs.Prelude.{ℕ, ◌+◌, ◌*◌, ◌%◌, ◌^◌, Option, Some, None}
use Rattle.std.specs.Option.{option_and_then}
use Rattle.std.specs.Int.{w64, rotate_left}
use Rattle.trs_defs.specs.Tree.{Tree, Trees, var, app, nil, cons}
use Rattle.trs_caps.specs.HoledTree.{HoledTree, HoledTrees, hole, own, symbol, none, more}

-- the skeleton of a term
abbrev mutual
  pub opened : Tree → HoledTree
  opened (var v) = hole
  opened (app f ts) = symbol f (all_opened ts)

  pub all_opened : Trees → HoledTrees
  all_opened nil = none
  all_opened (cons t ts) = more (opened t) (all_opened ts)

-- the symbol at the root
abbrev pub root_symbol : HoledTree → Option ℕ
root_symbol hole = None
root_symbol (own v) = None
root_symbol (symbol f cs) = Some f

-- one number for two
abbrev pub mixed : ℕ → ℕ → ℕ
mixed m n = (((rotate_left w64 m 23 + n) % 2 ^ 64) * 5871781006564002453) % 2 ^ 64

abbrev mutual
  pub mark_of : HoledTree → Option ℕ
  mark_of hole = None
  mark_of (own v) = None
  mark_of (symbol f cs) = option_and_then (λ m. Some (mixed f m)) (mark_after 0 cs)

  -- of arguments, where those before them have this number
  pub mark_after : ℕ → HoledTrees → Option ℕ
  mark_after m none = Some m
  mark_after m (more c cs) = option_and_then (λ n. mark_after (mixed m n) cs) (mark_of c)
