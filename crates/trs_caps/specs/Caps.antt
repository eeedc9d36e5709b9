-- The cap of a term by unification with left sides. (Giesl, Thiemann and Schneider-Kamp, Proving and disproving termination
-- of higher-order functions, 2005: the function TCAP.)
use Rattle.std.specs.Prelude.{◌≡◌, ◌≤◌, ◌<◌, ℕ, Bool, false, ◌&&◌, List, IsTrue}
use Rattle.std.proofs.Common.{suc}
use Rattle.trs_defs.specs.Tree.{Tree, Trees, var, app, nil, cons}
use Rattle.trs_defs.specs.Variable.{has_var}
use Rattle.trs_defs.specs.Substitution.{apply}
use Rattle.trs_defs.specs.System.{RewriteRule, Among}

-- the substitution leaves each variable that counts as a constant
abbrev pub Leaves : (ℕ → Bool) → (ℕ → Tree) → Type 0
Leaves own σ = (v : ℕ) → IsTrue (own v) → σ v ≡ var v

-- The cap unifies with the left side renamed apart: one substitution for each makes them equal. Own variables count as
-- constants.
abbrev pub Meets : (ℕ → Bool) → Tree → Tree → Type 0
Meets own c l = (σ : ℕ → Tree) × (τ : ℕ → Tree) × Leaves own σ × (apply σ c ≡ apply τ l)

-- w is the least number from n on that is no own variable
pub record IsNext (own : ℕ → Bool) (n w : ℕ) : Type 0 where
  pub from : n ≤ w
  pub fresh : own w ≡ false
  pub least : (v : ℕ) → n ≤ v → v < w → IsTrue (own v)

-- The cap c of the term t, where fresh variables have numbers from n on, passing over own variables; the next one is looked for
-- from m on. An own variable stays, another gives a fresh one. A symbol stays over the caps of its arguments, unless that meets
-- a left side: then the whole gives a fresh variable, and the numbers of the arguments' fresh ones are free again.
mutual
  pub data IsCapFrom (rules : List RewriteRule) (own : ℕ → Bool) : ℕ → Tree → Tree → ℕ → Type 0 where
    own_variable : {n v : ℕ} → IsTrue (own v) → IsCapFrom rules own n (var v) (var v) n
    fresh_variable : {n v w : ℕ} → own v ≡ false → IsNext own n w → IsCapFrom rules own n (var v) (var w) (suc w)
    kept : {n m f : ℕ} {ts cs : Trees} → AreCapsFrom rules own n ts cs m
        → ((l r : Tree) → Among rules l r → Meets own (app f cs) l → ⊥) → IsCapFrom rules own n (app f ts) (app f cs) m
    opened : {n m f w : ℕ} {ts cs : Trees} {l r : Tree} → AreCapsFrom rules own n ts cs m
        → Among rules l r → Meets own (app f cs) l → IsNext own n w → IsCapFrom rules own n (app f ts) (var w) (suc w)

  pub data AreCapsFrom (rules : List RewriteRule) (own : ℕ → Bool) : ℕ → Trees → Trees → ℕ → Type 0 where
    no_caps : {n : ℕ} → AreCapsFrom rules own n nil nil n
    cap_and_caps : {n m k : ℕ} {t c : Tree} {ts cs : Trees} → IsCapFrom rules own n t c m → AreCapsFrom rules own m ts cs k
        → AreCapsFrom rules own n (cons t ts) (cons c cs) k

-- the cap of a term in which these variables count as constants
abbrev pub IsCapWith : List RewriteRule → (ℕ → Bool) → Tree → Tree → Type 0
IsCapWith rules own t c = (m : ℕ) × IsCapFrom rules own 0 t c m

-- the term's variables, where they are fixed
abbrev pub own_variables : Bool → Tree → ℕ → Bool
own_variables fixed t v = fixed && has_var v t

-- the cap of a term, whose variables are fixed or not
abbrev pub IsCapOf : List RewriteRule → Bool → Tree → Tree → Type 0
IsCapOf rules fixed t c = IsCapWith rules (own_variables fixed t) t c
