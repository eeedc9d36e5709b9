-- Readings of items with all their faults.
use Rattle.std.specs.Prelude.{Result, Ok, Err}
use Rattle.term_text.specs.declared.fault.TermFault.{TermFault}

-- a fault, or those of two parts
pub data Faults : Type 0 where
  a_fault : TermFault → Faults
  both : Faults → Faults → Faults

-- a value, or all faults
abbrev pub Checked : Type 0 → Type 0
Checked A = Result A Faults

-- A value that was read is given to a function that was read. The faults of both count.
infixl 20 ◌<*>◌
abbrev pub ◌<*>◌ : {A B : Type 0} → Checked (A → B) → Checked A → Checked B
(Ok f) <*> (Ok x) = Ok (f x)
(Ok f) <*> (Err qs) = Err qs
(Err ps) <*> (Ok x) = Err ps
(Err ps) <*> (Err qs) = Err (both ps qs)

-- one answer for all faults, by that for each, and that for those of two parts
abbrev pub answered : {F : Type 0} → (TermFault → F) → (F → F → F) → Faults → F
answered one_of both_of (a_fault f) = one_of f
answered one_of both_of (both ps qs) = both_of (answered one_of both_of ps) (answered one_of both_of qs)

-- what was read, with one answer for all faults
abbrev pub judged : {A F : Type 0} → (TermFault → F) → (F → F → F) → Checked A → Result A F
judged one_of both_of (Ok x) = Ok x
judged one_of both_of (Err ps) = Err (answered one_of both_of ps)
