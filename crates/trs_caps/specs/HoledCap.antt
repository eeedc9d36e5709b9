-- The cap of a term, as a term with holes.
use Rattle.std.specs.Prelude.{◌≡◌, ℕ, Bool, true, false, List}
use Rattle.trs_defs.specs.Tree.{Tree, Trees, var, app, nil, cons}
use Rattle.trs_defs.specs.Substitution.{apply}
use Rattle.trs_defs.specs.System.{RewriteRule, Among}
use Rattle.trs_caps.specs.HoledTree.{HoledTree, HoledTrees, hole, own, symbol, none, more, Fits}

-- some instance of the left side fits the cap: they unify, renamed apart
abbrev pub MeetsLeft : HoledTree → Tree → Type 0
MeetsLeft c l = (τ : ℕ → Tree) × Fits c (apply τ l)

-- A variable gives a hole, or stays where variables are fixed. A symbol stays over the caps of its arguments, unless that meets
-- a left side: then the whole gives a hole.
mutual
  pub data IsHoledCap (rules : List RewriteRule) (fixed : Bool) : Tree → HoledTree → Type 0 where
    fixed_variable : {v : ℕ} → fixed ≡ true → IsHoledCap rules fixed (var v) (own v)
    free_variable : {v : ℕ} → fixed ≡ false → IsHoledCap rules fixed (var v) hole
    symbol_kept : {f : ℕ} {ts : Trees} {cs : HoledTrees} → AreHoledCaps rules fixed ts cs
        → ((l r : Tree) → Among rules l r → MeetsLeft (symbol f cs) l → ⊥) → IsHoledCap rules fixed (app f ts) (symbol f cs)
    symbol_opened : {f : ℕ} {ts : Trees} {cs : HoledTrees} {l r : Tree} → AreHoledCaps rules fixed ts cs
        → Among rules l r → MeetsLeft (symbol f cs) l → IsHoledCap rules fixed (app f ts) hole

  pub data AreHoledCaps (rules : List RewriteRule) (fixed : Bool) : Trees → HoledTrees → Type 0 where
    no_holed : AreHoledCaps rules fixed nil none
    one_holed : {t : Tree} {c : HoledTree} {ts : Trees} {cs : HoledTrees} → IsHoledCap rules fixed t c → AreHoledCaps rules fixed ts cs
        → AreHoledCaps rules fixed (cons t ts) (more c cs)

-- whether the cap meets some left side
abbrev pub MeetsSome : HoledTree → List RewriteRule → Bool → Type 0
MeetsSome c rules true = (l : Tree) × (r : Tree) × Among rules l r × MeetsLeft c l
MeetsSome c rules false = (l r : Tree) → Among rules l r → MeetsLeft c l → ⊥

-- the cap has this symbol at its root
abbrev pub HasRoot : ℕ → HoledTree → Type 0
HasRoot f c = (cs : HoledTrees) × (c ≡ symbol f cs)
