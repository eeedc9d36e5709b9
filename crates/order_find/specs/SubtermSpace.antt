-- The search for a place of each marked symbol by which the subterm criterion holds.
-- (Hirokawa and Middeldorp, Tyrolean termination tool, 2007.)
use Rattle.std.specs.Prelude.{ℕ, ◌+◌, Bool, true, false, ◌||◌, ◌==◌, Option, Some, None, List, [], ◌∷◌, ◌++◌, map, slice_get, unwrap_or}
use Rattle.trs_defs.specs.Tree.{Tree}
use Rattle.trs_defs.specs.Position.{argument_at}
use Rattle.pair_theory.specs.Marked.{plain}
use Rattle.pair_theory.specs.DependencyPair.{DependencyPair}
use Rattle.order_search.specs.Slots.{Slot, slot, Table, Search}
use Rattle.order_find.specs.Subterms.{has_subterm, has_proper_subterm}

abbrev pub both_pass : (Tree → Tree → Bool) → Option Tree → Option Tree → Bool
both_pass test (Some s) (Some t) = test s t
both_pass test (Some s) None = false
both_pass test None t = false

-- the test of the arguments of both sides at the places of their marked symbols; a value v is the place v + 1
abbrev pub passes : (Tree → Tree → Bool) → Table → DependencyPair → Bool
passes test table p =
    both_pass test
    (argument_at (plain p.from) (table p.from.symbol 0 + 1))
    (argument_at (plain p.to) (table p.to.symbol 0 + 1))

-- of a pair the right side projects to a subterm; of some pair to a proper one
pub data SubtermConstraint : Type 0 where
  weak : DependencyPair → SubtermConstraint
  some_strict : List DependencyPair → SubtermConstraint

abbrev pub some_passes : Table → List DependencyPair → Bool
some_passes table [] = false
some_passes table (p ∷ pairs) = passes has_proper_subterm table p || some_passes table pairs

abbrev pub subterm_met : SubtermConstraint → Table → Bool
subterm_met (weak p) table = passes has_subterm table p
subterm_met (some_strict pairs) table = some_passes table pairs

-- over the slots of its two roots; some strict pair over all slots
abbrev pub subterm_about : SubtermConstraint → Slot → Bool
subterm_about (weak p) s = (p.from.symbol == s.symbol) || (p.to.symbol == s.symbol)
subterm_about (some_strict pairs) s = true

abbrev pub arity_in : List ℕ → ℕ → ℕ
arity_in arities f = unwrap_or (slice_get arities f) 0

-- one slot for each of the roots
abbrev pub subterm_slots : List ℕ → List Slot
subterm_slots roots = map (λ f. slot f 0) roots

-- one slot for each of the roots, by its number without the mark; it has as many values as the symbol has arguments
abbrev pub subterm_search : List ℕ → List ℕ → List DependencyPair → Search SubtermConstraint
subterm_search arities roots pairs = record {
  slots = subterm_slots roots;
  values = λ s. arity_in arities s.symbol;
  constraints = map weak pairs ++ some_strict pairs ∷ [];
  is_about = subterm_about;
  is_met = subterm_met;
}
