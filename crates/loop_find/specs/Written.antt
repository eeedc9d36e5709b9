-- Tokens with new numbers for variables, as they are written one after another.
use Rattle.std.specs.Prelude.{◌≡◌, ◌<◌, ◌≤◌, ℕ, ◌+◌, Bool, true, false, ◌==◌, if◌then◌else◌, List, [], ◌∷◌, ◌++◌, Option, Some, None, length}
use Rattle.std.proofs.Common.{zero, suc}
use Rattle.trs_defs.specs.Tree.{Tree, Trees, var, app, nil, cons}
use Rattle.trs_unify.specs.Renamed.{old_name}
use Rattle.loop_find.specs.declared.tokens.Token.{Token}
use Rattle.loop_find.specs.declared.tokens.Token.TheVariants.{Var, App}

-- the tokens with the old names of their variables
abbrev pub renamed : List ℕ → List Token → List Token
renamed names [] = []
renamed names (Var i ∷ ks) = Var (old_name names i) ∷ renamed names ks
renamed names (App f n ∷ ks) = App f n ∷ renamed names ks

-- the variables of the tokens are below a number
abbrev pub AreBelow : ℕ → List Token → Type 0
AreBelow n [] = Unit {0}
AreBelow n (Var i ∷ ks) = (i < n) × AreBelow n ks
AreBelow n (App f m ∷ ks) = AreBelow n ks

-- no name is listed twice
abbrev pub IsOneToOne : List ℕ → Type 0
IsOneToOne names = (i j : ℕ) → i < length names → j < length names → old_name names i ≡ old_name names j → i ≡ j

-- The tokens us are the tokens ks with new numbers for the variables, those of the names, of which more were added.
pub record Named (old new : List ℕ) (ks us : List Token) : Type 0 where
  pub more : List ℕ
  pub grown : new ≡ old ++ more
  pub back : renamed new us ≡ ks
  pub inside : AreBelow (length new) us
  pub one : IsOneToOne old → IsOneToOne new
  pub few : length new ≤ length old + length us

-- the tokens were written behind the old ones, and are at most 256 in all
pub record IsWritten (ks : List Token) (names : List ℕ) (old : List Token) (names2 : List ℕ) (new : List Token) : Type 0 where
  pub us : List Token
  pub longer : new ≡ old ++ us
  pub named : Named names names2 ks us
  pub few : length old ≤ 256 → length new ≤ 256

abbrev pub Writes : List Token → List ℕ → List Token → List ℕ → List Token → Bool → Type 0
Writes ks names old names2 new true = IsWritten ks names old names2 new
Writes ks names old names2 new false = 256 < length old + length ks

abbrev pub WritesSymbol : ℕ → ℕ → List Token → List Token → Bool → Type 0
WritesSymbol f n old new true = (new ≡ old ++ App f n ∷ []) × (length old < 256)
WritesSymbol f n old new false = 256 < length old + (1 + n)

-- the term with another one at a place
abbrev mutual
  pub put_in : Tree → List ℕ → Tree → Tree
  put_in (var v) [] by = by
  put_in (var v) (p ∷ way) by = var v
  put_in (app f ts) [] by = by
  put_in (app f ts) (p ∷ way) by = app f (put_into ts p way by)

  -- the argument of this number, counted from 1, is changed
  pub put_into : Trees → ℕ → List ℕ → Tree → Trees
  put_into nil p way by = nil
  put_into (cons t ts) zero way by = cons t ts
  put_into (cons t ts) (suc zero) way by = cons (put_in t way by) ts
  put_into (cons t ts) (suc (suc p)) way by = cons t (put_into ts (suc p) way by)

-- the same, if there is a way
abbrev pub put_way : Option (List ℕ) → Tree → Tree → Tree
put_way None t by = t
put_way (Some way) t by = put_in t way by

-- the way on into the argument of a number, counted from 0
abbrev pub way_into : ℕ → List ℕ → ℕ → Option (List ℕ)
way_into p way i = if p == i + 1 then Some way else None
