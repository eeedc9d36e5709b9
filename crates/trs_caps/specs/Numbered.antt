-- Terms with holes, their holes filled with fresh variables.
use Rattle.std.specs.Prelude.{ℕ, Bool}
use Rattle.std.proofs.Common.{suc}
use Rattle.trs_defs.specs.Tree.{Tree, Trees, var, app, nil, cons}
use Rattle.trs_caps.specs.Caps.{IsNext}
use Rattle.trs_caps.specs.HoledTree.{HoledTree, HoledTrees, hole, own, symbol, none, more}

-- each hole gives the next variable that is no own one, from n on; the next one after them is looked for from m on
mutual
  pub data IsNumbered (is_own : ℕ → Bool) : ℕ → HoledTree → Tree → ℕ → Type 0 where
    number_hole : {n w : ℕ} → IsNext is_own n w → IsNumbered is_own n hole (var w) (suc w)
    leave_own : {n v : ℕ} → IsNumbered is_own n (own v) (var v) n
    number_symbol : {n m f : ℕ} {cs : HoledTrees} {ts : Trees} → AreNumbered is_own n cs ts m → IsNumbered is_own n (symbol f cs) (app f ts) m

  pub data AreNumbered (is_own : ℕ → Bool) : ℕ → HoledTrees → Trees → ℕ → Type 0 where
    number_none : {n : ℕ} → AreNumbered is_own n none nil n
    number_more : {n m k : ℕ} {c : HoledTree} {t : Tree} {cs : HoledTrees} {ts : Trees} → IsNumbered is_own n c t m → AreNumbered is_own m cs ts k
        → AreNumbered is_own n (more c cs) (cons t ts) k
