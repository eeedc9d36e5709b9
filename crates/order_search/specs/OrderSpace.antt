-- The search for an order: each rule and each pair falls weakly, and some pair strictly.
use Rattle.std.specs.Prelude.{◌≡◌, ℕ, ◌-◌, Bool, true, false, ◌||◌, ◌==◌, not, nat_lt, if◌then◌else◌, List, [], ◌∷◌, ◌++◌, map, slice_get, unwrap_or}
use Rattle.std.proofs.Common.{zero, suc}
use Rattle.trs_defs.specs.Tree.{Tree, Trees, var, app, nil, cons}
use Rattle.trs_defs.specs.Member.{In}
use Rattle.trs_defs.specs.Variable.{is_listed}
use Rattle.trs_defs.specs.System.{RewriteRule}
use Rattle.order_search.specs.Slots.{Slot, slot, Table, Search}

-- how an order is given by a table: the parts of each symbol, their values, and when it compares two terms
pub record OrderFamily : Type 0 where
  pub parts : ℕ → ℕ
  pub values : Slot → ℕ
  pub weak : Table → Tree → Tree → Bool
  pub strict : Table → Tree → Tree → Bool

-- parts number `from`, .., so many of them, of one symbol
abbrev pub parts_from : ℕ → ℕ → ℕ → List Slot
parts_from f from zero = []
parts_from f from (suc n) = slot f from ∷ parts_from f (suc from) n

-- the parts of each symbol in order
abbrev pub slots_of : (ℕ → ℕ) → List ℕ → List Slot
slots_of parts [] = []
slots_of parts (f ∷ fs) = parts_from f 0 (parts f) ++ slots_of parts fs

abbrev mutual
  pub occurs_in : ℕ → Tree → Bool
  occurs_in f (var v) = false
  occurs_in f (app g ts) = (g == f) || occurs_in_some f ts

  pub occurs_in_some : ℕ → Trees → Bool
  occurs_in_some f nil = false
  occurs_in_some f (cons t ts) = occurs_in f t || occurs_in_some f ts

-- each symbol that stands in one of the rules is one of these
abbrev pub AreCovered : List ℕ → List RewriteRule → Type 0
AreCovered symbols rules = (r : RewriteRule) → In r rules → (f : ℕ) → occurs_in f r.left || occurs_in f r.right ≡ true → is_listed f symbols ≡ true

-- `falls` is a rule or a marked pair; `some_strict` is of all pairs; `above` asks that a symbol of weight 0 is above another one
pub data OrderConstraint : Type 0 where
  falls : RewriteRule → OrderConstraint
  some_strict : List RewriteRule → OrderConstraint
  above : (unary other : ℕ) → OrderConstraint

-- some rule passes the test of its sides
abbrev pub some_falls : (Tree → Tree → Bool) → List RewriteRule → Bool
some_falls strict [] = false
some_falls strict (r ∷ rules) = strict r.left r.right || some_falls strict rules

-- parts 0 and 1 are weight and rank
abbrev pub is_above : Table → ℕ → ℕ → Bool
is_above table unary other = not (table unary 0 == 0) || nat_lt (table other 1) (table unary 1)

abbrev pub meets : OrderFamily → OrderConstraint → Table → Bool
meets family (falls r) table = family.weak table r.left r.right
meets family (some_strict pairs) table = some_falls (family.strict table) pairs
meets family (above unary other) table = is_above table unary other

-- over the slots of its symbols; some strict pair over all slots
abbrev pub concerns : OrderConstraint → Slot → Bool
concerns (falls r) s = occurs_in s.symbol r.left || occurs_in s.symbol r.right
concerns (some_strict pairs) s = true
concerns (above unary other) s = (s.symbol == unary) || (s.symbol == other)

-- what has to fall weakly: the rules, and then the pairs, as rules on marked terms
abbrev pub falling : List RewriteRule → List RewriteRule → List RewriteRule
falling rules pairs = rules ++ pairs

-- over these symbols in order: first the family's own constraints, then the rules, then the pairs
abbrev pub order_search : OrderFamily → List ℕ → List OrderConstraint → List RewriteRule → List RewriteRule → Search OrderConstraint
order_search family symbols own rules pairs = record {
  slots = slots_of family.parts symbols;
  values = family.values;
  constraints = own ++ map falls (falling rules pairs) ++ some_strict pairs ∷ [];
  is_about = concerns;
  is_met = meets family;
}

-- the symbol without its mark; a marked symbol has the number of the plain one and 4096
abbrev pub unmarked : ℕ → ℕ
unmarked f = if nat_lt f 4096 then f else f - 4096

-- the arity of a symbol, marked or not
abbrev pub arity_with_mark : List ℕ → ℕ → ℕ
arity_with_mark arities f = unwrap_or (slice_get arities (unmarked f)) 0

-- each comparison of the family depends only on the parts of the symbols that stand in the terms
pub record DependsOnSymbols (family : OrderFamily) : Type 0 where
  pub weak : (s t : Tree) (p q : Table) → ((f part : ℕ) → occurs_in f s || occurs_in f t ≡ true → p f part ≡ q f part) → family.weak p s t ≡ family.weak q s t
  pub strict : (s t : Tree) (p q : Table) → ((f part : ℕ) → occurs_in f s || occurs_in f t ≡ true → p f part ≡ q f part) → family.strict p s t ≡ family.strict q s t
