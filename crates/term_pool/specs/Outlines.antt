-- Rules in which parts with no variable are variables that stand for ids.
use Rattle.std.specs.Prelude.{◌≡◌, ◌+◌, ℕ, List, Some, slice_get}
use Rattle.std.specs.Ordering.{nat_cmp}
use Rattle.std.specs.BTreeMap.{get}
use Rattle.trs_defs.specs.Tree.{Tree, var}
use Rattle.trs_defs.specs.Substitution.{apply}
use Rattle.trs_defs.specs.System.{RewriteRule}
use Rattle.term_pool.specs.Bindings.{NamesParts}
use Rattle.term_pool.specs.declared.outlines.Outlines.{Outlines}

-- the second term has the instances of the first one, where the variables for parts have the terms of their ids
abbrev pub IsOutlineOf : List Tree → Tree → Tree → Type 0
IsOutlineOf pool t u = (s : ℕ → Tree) → NamesParts pool s → apply s u ≡ apply s t

-- so have both sides of the second rule
pub record IsOutline (pool : List Tree) (r o : RewriteRule) : Type 0 where
  pub left : IsOutlineOf pool r.left o.left
  pub right : IsOutlineOf pool r.right o.right

-- each outline is that of the rule with its number
pub record AreOutlines (rules : List RewriteRule) (pool : List Tree) (os : Outlines) : Type 0 where
  pub each : (k : ℕ) (o r : RewriteRule) → get nat_cmp os.by_rule k ≡ Some o → slice_get rules k ≡ Some r → IsOutline pool r o

-- no substitution that gives the parts their terms takes the pattern to the term
abbrev pub HasNoMatchOver : List Tree → Tree → Tree → Type 0
HasNoMatchOver pool pattern term = (s : ℕ → Tree) → NamesParts pool s → apply s pattern ≡ term → ⊥

-- the variable that stands for an id
abbrev pub part_variable : ℕ → Tree
part_variable id = var (65536 + id)
