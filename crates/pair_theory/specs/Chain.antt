-- Chain steps. (Arts and Giesl, 2000; minimal chains: Hirokawa and Middeldorp, Giesl, Thiemann and
-- Schneider-Kamp, 2005.)
use Rattle.std.specs.Prelude.{◌≡◌, ℕ}
use Rattle.trs_defs.specs.Run.{Run}
use Rattle.trs_defs.specs.Tree.{Tree}
use Rattle.trs_defs.specs.Substitution.{apply_all}
use Rattle.trs_defs.specs.Every.{Every}
use Rattle.pair_theory.specs.Terminates.{Terminates, ArgumentStep}
use Rattle.pair_theory.specs.Marked.{Marked, marked}

-- the arguments of u go to those of an instance of a pair's left side, v is that instance of its right side, and the
-- arguments of v terminate
pub data ChainStep (rule : Tree → Tree → Type 0) (pair : Marked → Marked → Type 0) (u v : Marked) : Type 0 where
  link : (l r : Marked) (σ : ℕ → Tree) → pair l r → u.symbol ≡ l.symbol → Run (ArgumentStep rule) u.args (apply_all σ l.args)
      → v ≡ marked r.symbol (apply_all σ r.args) → Every (Terminates rule) v.args → ChainStep rule pair u v
