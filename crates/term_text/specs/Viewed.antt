-- What the code reads, seen by a view of its values.
use Rattle.std.specs.Prelude.{Option, Some, None, Result, Ok, Err}

abbrev pub viewed : {X A F : Type 0} → (X → A) → Result X F → Result A F
viewed view (Ok x) = Ok (view x)
viewed view (Err p) = Err p

-- two parts, of which those that are refused have one answer
abbrev pub both_viewed : {X Y F : Type 0} → (F → F → F) → Result X F → Result Y F → Result (X × Y) F
both_viewed both_of (Ok x) (Ok y) = Ok (x, y)
both_viewed both_of (Ok x) (Err q) = Err q
both_viewed both_of (Err p) (Ok y) = Err p
both_viewed both_of (Err p) (Err q) = Err (both_of p q)

-- a value, or the answer where something was refused
abbrev pub unless_refused : {A F : Type 0} → Option F → A → Result A F
unless_refused None x = Ok x
unless_refused (Some p) x = Err p

-- the answer for what was refused before, if anything, and for a further part
abbrev pub refused_also : {F : Type 0} → (F → F → F) → Option F → F → F
refused_also both_of None q = q
refused_also both_of (Some p) q = both_of p q

-- what was read, behind parts of which some may have been refused
abbrev pub read_behind : {A F : Type 0} → (F → F → F) → Option F → Result A F → Result A F
read_behind both_of before (Ok x) = unless_refused before x
read_behind both_of before (Err q) = Err (refused_also both_of before q)
