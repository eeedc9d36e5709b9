-- Caps: what stays of a term whatever steps are made in its instances. (Arts and Giesl, Termination of term rewriting
-- using dependency pairs, 2000; Giesl, Thiemann and Schneider-Kamp, Proving and disproving termination of higher-order
-- functions, 2005, where the cap by unification is called TCAP.)
use Rattle.std.specs.Prelude.{ℕ, ◌+◌}
use Rattle.trs_defs.specs.Tree.{Tree, Trees, var, app, nil, cons}
use Rattle.trs_defs.specs.Substitution.{apply}

-- the cap has this term: each variable in it stands for any term, each time that it occurs
mutual
  pub data Fits : Tree → Tree → Type 0 where
    fits_variable : {v : ℕ} {t : Tree} → Fits (var v) t
    fits_symbol : {f : ℕ} {cs ts : Trees} → EachFits cs ts → Fits (app f cs) (app f ts)

  pub data EachFits : Trees → Trees → Type 0 where
    fits_nil : EachFits nil nil
    fits_cons : {c t : Tree} {cs ts : Trees} → Fits c t → EachFits cs ts → EachFits (cons c cs) (cons t ts)

-- a variable may have any variable for a cap, a symbol with its arguments too; or else it has its symbol with the caps of
-- the arguments, if that has no instance of a left side
mutual
  pub data Cap (rule : Tree → Tree → Type 0) : Tree → Tree → Type 0 where
    cap_variable : {v w : ℕ} → Cap rule (var v) (var w)
    cap_open : {f w : ℕ} {ts : Trees} → Cap rule (app f ts) (var w)
    cap_symbol : {f : ℕ} {ts cs : Trees} → Caps rule ts cs → ((l r : Tree) (σ : ℕ → Tree) → rule l r → Fits (app f cs) (apply σ l) → ⊥) → Cap rule (app f ts) (app f cs)

  pub data Caps (rule : Tree → Tree → Type 0) : Trees → Trees → Type 0 where
    caps_nil : Caps rule nil nil
    caps_cons : {t c : Tree} {ts cs : Trees} → Cap rule t c → Caps rule ts cs → Caps rule (cons t ts) (cons c cs)

-- each variable read as a constant of its own, whose symbols are those from k on
abbrev pub constants_from : ℕ → ℕ → Tree
constants_from k v = app (k + v) nil
