-- Marked terms: a term f#(t1, .., tn) whose root f is marked, and no symbol below it.
-- (Arts and Giesl, Termination of term rewriting using dependency pairs, 2000.)
use Rattle.std.specs.Prelude.{ℕ, ◌+◌}
use Rattle.trs_defs.specs.Tree.{Tree, Trees, app}

-- the symbol that is marked, and the arguments
pub record Marked : Type 0 where
  pub symbol : ℕ
  pub args : Trees

abbrev pub marked : ℕ → Trees → Marked
marked f ts = record { symbol = f; args = ts }

-- the term without its mark
abbrev pub plain : Marked → Tree
plain m = app m.symbol m.args

-- the term as orders see it: the marked symbol f# has the number f + 4096
abbrev pub mark : Marked → Tree
mark m = app (m.symbol + 4096) m.args
