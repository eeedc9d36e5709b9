-- The step relation of a system, with no positions. (Baader and Nipkow, definition 3.1.8.)
use Rattle.std.specs.Prelude.{◌≡◌, ℕ, List}
use Rattle.trs_defs.specs.Tree.{Tree, Trees, app, cons}
use Rattle.trs_defs.specs.Substitution.{apply}
use Rattle.trs_defs.specs.System.{RewriteRule, Among}

-- R at the root of a term, or deep in one of its arguments: the closure of R under contexts
mutual
  pub data Inside (R : Tree → Tree → Type 0) : Tree → Tree → Type 0 where
    here : {s t : Tree} → R s t → Inside R s t
    deep : {f : ℕ} {ss ts : Trees} → InsideOne R ss ts → Inside R (app f ss) (app f ts)

  -- R inside one item of an argument list
  pub data InsideOne (R : Tree → Tree → Type 0) : Trees → Trees → Type 0 where
    first : {s t : Tree} {ts : Trees} → Inside R s t → InsideOne R (cons s ts) (cons t ts)
    later : {t : Tree} {ss ts : Trees} → InsideOne R ss ts → InsideOne R (cons t ss) (cons t ts)

-- s is an instance of a left side, and t the same instance of the right side
abbrev pub RootStep : (Tree → Tree → Type 0) → Tree → Tree → Type 0
RootStep rule s t = (l : Tree) × (r : Tree) × (σ : ℕ → Tree) × rule l r × (s ≡ apply σ l) × (t ≡ apply σ r)

-- a step of the rules that a relation has
abbrev pub StepBy : (Tree → Tree → Type 0) → Tree → Tree → Type 0
StepBy rule = Inside (RootStep rule)

-- a step of these rules
abbrev pub Step : List RewriteRule → Tree → Tree → Type 0
Step rules = StepBy (Among rules)
