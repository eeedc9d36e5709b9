-- Slots of a finite search that are named by a symbol and a number, and what their values say.
use Rattle.std.specs.Prelude.{ℕ, Bool, false, ◌&&◌, ◌==◌, nat_lt, if◌then◌else◌, List, [], ◌∷◌, length, get_or, IsTrue, ◌≡◌}
use Rattle.std.proofs.Common.{zero, suc}
use Rattle.assign_search.specs.Puzzle.{Puzzle}

-- part number `part` of what is looked for of the symbol; a marked symbol has the number of the plain one and 4096
pub record Slot : Type 0 where
  pub symbol : ℕ
  pub part : ℕ

abbrev pub slot : ℕ → ℕ → Slot
slot f part = record { symbol = f; part = part }

-- the value of each part of each symbol
abbrev pub Table : Type 0
Table = ℕ → ℕ → ℕ

-- the value of the first slot for this part of the symbol, where the slots are counted from number k on; 0 where there
-- is none
abbrev pub table_from : ℕ → List Slot → List ℕ → Table
table_from k [] values f part = 0
table_from k (s ∷ slots) values f part =
    if s.symbol == f && s.part == part then get_or values k 0 else table_from (suc k) slots values f part

-- values in the order of the slots as a table
abbrev pub table_of : List Slot → List ℕ → Table
table_of slots values = table_from 0 slots values

-- a search over named slots: how many values each slot has, which slots a constraint is about, and which tables meet it
pub record Search (Constraint : Type 0) : Type 0 where
  pub slots : List Slot
  pub values : Slot → ℕ
  pub constraints : List Constraint
  pub is_about : Constraint → Slot → Bool
  pub is_met : Constraint → Table → Bool

-- whether the constraint of this number passes
abbrev pub at_constraint : {C : Type 0} → (C → Bool) → List C → ℕ → Bool
at_constraint test [] c = false
at_constraint test (d ∷ ds) zero = test d
at_constraint test (d ∷ ds) (suc c) = at_constraint test ds c

-- the slot of this number
abbrev pub slot_number : {C : Type 0} → Search C → ℕ → Slot
slot_number sought s = get_or sought.slots s (slot 0 0)

-- the search as slots and constraints by their numbers, of which the first solution is taken
abbrev pub puzzle_of : {C : Type 0} → Search C → Puzzle
puzzle_of {C} sought = record {
  slots = length sought.slots;
  domain = λ s. sought.values (slot_number sought s);
  constraints = length sought.constraints;
  uses = λ c s. nat_lt s (length sought.slots) && at_constraint (λ (d : C). sought.is_about d (slot_number sought s)) sought.constraints c;
  truth = λ c values. at_constraint (λ (d : C). sought.is_met d (table_of sought.slots values)) sought.constraints c;
}

-- whether a constraint is met depends only on the slots that it is about
pub record DependsOnSlots {C : Type 0} (sought : Search C) : Type 0 where
  pub each : (d : C) (t u : Table)
      → ((f part : ℕ) → IsTrue (sought.is_about d (slot f part)) → t f part ≡ u f part)
      → sought.is_met d t ≡ sought.is_met d u
