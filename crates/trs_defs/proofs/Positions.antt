-- Positions: what a term is with another subterm at one.
use Rattle.std.specs.Prelude.{◌≡◌, ◌≢◌, ◌↔◌, ℕ, Bool, true, false, cond, List, [], ◌∷◌, Option, Some, None, refl}
use Rattle.std.specs.Option.{option_and_then, option_map}
use Rattle.std.proofs.Common.{ap}
use Rattle.trs_defs.specs.Tree.{Tree}
use Rattle.trs_defs.specs.Position.{argument_at, subterm_at, with_argument, replaced_at}

-- u is t with the term new put at a position below the argument at a place
pub record IsReplacedInside (place : ℕ) (p : List ℕ) (t new u : Tree) : Type 0 where
  pub argument : Tree
  pub there : argument_at t place ≡ Some argument
  pub changed : Tree
  pub below : replaced_at p argument new ≡ Some changed
  pub whole : with_argument t place changed ≡ u

pub replaced_inside : (place : ℕ) (p : List ℕ) (t new u : Tree) → replaced_at (place ∷ p) t new ≡ Some u → IsReplacedInside place p t new u
replaced_inside place p t new u e = go (argument_at t place) refl e
  where
    inner : (a : Tree) → argument_at t place ≡ Some a → (o : Option Tree) → replaced_at p a new ≡ o → option_map (with_argument t place) o ≡ Some u
        → IsReplacedInside place p t new u
    inner a is None below h = absurd cc
    inner a is (Some b) below h = record { argument = a; there = is; changed = b; below = below; whole = cc }

    go : (o : Option Tree) → argument_at t place ≡ o → option_and_then (λ a. option_map (with_argument t place) (replaced_at p a new)) o ≡ Some u
        → IsReplacedInside place p t new u
    go None is h = absurd cc
    go (Some a) is h = inner a is (replaced_at p a new) refl h

-- Where no subterm is, nothing is replaced.
pub none_replaced : (p : List ℕ) (t new : Tree) → subterm_at p t ≡ None → replaced_at p t new ≡ None
none_replaced [] t new e = absurd cc
none_replaced (place ∷ p) t new e = go (argument_at t place) e (λ a. none_replaced p a new)
  where
    go : (o : Option Tree) → option_and_then (subterm_at p) o ≡ None → ((a : Tree) → subterm_at p a ≡ None → replaced_at p a new ≡ None)
        → option_and_then (λ a. option_map (with_argument t place) (replaced_at p a new)) o ≡ None
    go None h rest = refl
    go (Some a) h rest = ap (option_map (with_argument t place)) (rest a h)

-- Where nothing is replaced, no subterm is.
pub none_there : (p : List ℕ) (t new : Tree) → replaced_at p t new ≡ None → subterm_at p t ≡ None
none_there [] t new e = absurd cc
none_there (place ∷ p) t new e = go (argument_at t place) e (λ a. none_there p a new)
  where
    inner : (a : Tree) (o : Option Tree) → option_map (with_argument t place) o ≡ None → (o ≡ None → subterm_at p a ≡ None) → subterm_at p a ≡ None
    inner a None h rest = rest refl
    inner a (Some b) h rest = absurd cc

    go : (o : Option Tree) → option_and_then (λ a. option_map (with_argument t place) (replaced_at p a new)) o ≡ None
        → ((a : Tree) → replaced_at p a new ≡ None → subterm_at p a ≡ None) → option_and_then (subterm_at p) o ≡ None
    go None h rest = refl
    go (Some a) h rest = inner a (replaced_at p a new) h (rest a)

-- what is put where a subterm is
pub put_there : (p : List ℕ) (t by u : Tree) (b : Bool) → subterm_at p t ≢ None → replaced_at p t by ≡ cond b (Some u) None → replaced_at p t by ≡ Some u
put_there p t by u true there is = is
put_there p t by u false there is = absurd (there (none_there p t by is))

-- nothing is put exactly where no subterm is
pub not_put : (p : List ℕ) (t by u : Tree) (b : Bool) → replaced_at p t by ≡ cond b (Some u) None → b ≡ false ↔ subterm_at p t ≡ None
not_put p t by u true is = (λ e. absurd cc, λ e. let none = none_replaced p t by e in absurd cc)
not_put p t by u false is = (λ e. none_there p t by is, λ e. refl)
