-- Reduction pairs. (Arts and Giesl, 2000; Baader and Nipkow, section 5.2, for one order.)
use Rattle.std.specs.Prelude.{ℕ, List, Bool}
use Rattle.trs_defs.specs.Tree.{Tree, Trees, var, app}
use Rattle.trs_defs.specs.Substitution.{apply}
use Rattle.trs_defs.specs.WellFormed.{IsWellFormed}
use Rattle.trs_defs.specs.Member.{In}
use Rattle.trs_defs.specs.System.{RewriteRule, System}
use Rattle.pair_theory.specs.Erased.{HasEntries, erased}
use Rattle.trs_defs.specs.Step.{Inside}
use Rattle.trs_defs.specs.Every.{Every}
use Rattle.pair_theory.specs.Marked.{Marked, plain, mark}
use Rattle.pair_theory.specs.DependencyPair.{DependencyPair}
use Rattle.pair_theory.specs.Moves.{IsWellFounded}

-- the laws of a weak and a strict order, on the terms of which they speak
pub record ReductionPair (weak strict : Tree → Tree → Type 0) (speaks_of : Tree → Type 0) : Type 0 where
  -- what they speak of: variables, arguments, instances
  pub spoken_var : (v : ℕ) → speaks_of (var v)
  pub spoken_args : (f : ℕ) (ts : Trees) → speaks_of (app f ts) → Every speaks_of ts
  pub spoken_apply : (σ : ℕ → Tree) (t : Tree) → ((v : ℕ) → speaks_of (σ v)) → speaks_of t → speaks_of (apply σ t)
  -- the weak order
  pub weak_refl : (t : Tree) → weak t t
  pub weak_trans : (s t u : Tree) → speaks_of s → speaks_of t → speaks_of u → weak s t → weak t u → weak s u
  pub weak_context : (s t : Tree) → speaks_of s → speaks_of t → Inside weak s t → weak s t
  pub weak_apply : (σ : ℕ → Tree) (s t : Tree) → ((v : ℕ) → speaks_of (σ v)) → speaks_of s → speaks_of t → weak s t
      → weak (apply σ s) (apply σ t)
  -- the strict order
  pub strict_apply : (σ : ℕ → Tree) (s t : Tree) → ((v : ℕ) → speaks_of (σ v)) → speaks_of s → speaks_of t → strict s t
      → strict (apply σ s) (apply σ t)
  pub weak_strict : (s t u : Tree) → speaks_of s → speaks_of t → speaks_of u → weak s t → strict t u → strict s u
  pub well_founded : IsWellFounded weak strict speaks_of

-- the orders speak of all well-formed terms, plain and marked
pub record Speaks (arities : List ℕ) (speaks_of : Tree → Type 0) : Type 0 where
  pub of_terms : (t : Tree) → IsWellFormed arities t → speaks_of t
  pub of_marked : (u : Marked) → IsWellFormed arities (plain u) → speaks_of (mark u)

-- an order that speaks of all terms
abbrev pub AllTerms : Tree → Type 0
AllTerms t = Unit {0}

-- a dependency pair as the rule that orders see
abbrev pub marked_rule : DependencyPair → RewriteRule
marked_rule p = record { left = mark p.from; right = mark p.to }

-- the orders speak of both sides of a pair, whose symbols have entries
abbrev pub SpeaksOfSides : (ℕ → Bool) → (Tree → Type 0) → RewriteRule → Type 0
SpeaksOfSides entry speaks_of p =
    speaks_of p.left × speaks_of p.right × HasEntries entry p.left × HasEntries entry p.right

-- orders with entries for some symbols only: they speak of the erased marked terms, and of the sides of the rules
pub record SpeaksErased (system : System) (entry : ℕ → Bool) (speaks_of : Tree → Type 0) : Type 0 where
  pub of_erased : (u : Marked) → IsWellFormed system.arities (plain u) → speaks_of (erased entry (mark u))
  pub of_rules : (r : RewriteRule) → In r system.rules → SpeaksOfSides entry speaks_of r
