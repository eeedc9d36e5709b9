-- The least of several faults: the one with the least place, and at one place with the least number.
use Rattle.std.specs.Prelude.{◌≡◌, ◌⊎◌, ℕ, ◌||◌, ◌&&◌, nat_lt, Bool, true, false, not, List, [], ◌∷◌, Option, Some, None, if◌then◌else◌}
use Rattle.ari_text.specs.declared.fault.AriFault.{AriFault}
use Rattle.ari_text.specs.declared.fault.AriFault.TheVariants as fault
use Rattle.ari_text.specs.FaultParts.{shown_place}

abbrev pub number_of_fault : AriFault → ℕ
number_of_fault (fault.Text f) = 1
number_of_fault fault.NoFormat = 2
number_of_fault (fault.OtherFormat p) = 3
number_of_fault (fault.BadItem p) = 4
number_of_fault (fault.Twice p) = 5
number_of_fault (fault.BadArity p) = 6
number_of_fault (fault.Unknown p) = 7
number_of_fault (fault.WrongArity p) = 8
number_of_fault (fault.LeftIsVariable p) = 9
number_of_fault (fault.ExtraVariable p) = 10
number_of_fault (fault.Attribute p) = 11
number_of_fault (fault.TooMany p) = 12
number_of_fault (fault.TooDeep p) = 13
number_of_fault fault.OutOfMemory = 14

-- by places; a fault without a place is one of the whole text
abbrev pub stands_before : Option ℕ → Option ℕ → Bool
stands_before (Some p) (Some q) = nat_lt p q
stands_before None (Some q) = true
stands_before (Some p) None = false
stands_before None None = false

unfoldable pub comes_before : AriFault → AriFault → Bool
comes_before f g =
    stands_before (shown_place f) (shown_place g)
    || (not (stands_before (shown_place g) (shown_place f)) && nat_lt (number_of_fault f) (number_of_fault g))

-- the first of two faults
abbrev pub lesser : AriFault → AriFault → AriFault
lesser f g = if comes_before g f then g else f

abbrev pub earlier : Option AriFault → AriFault → Option AriFault
earlier None f = Some f
earlier (Some g) f = Some (lesser g f)

-- the least of a fault that is known, if any, and others
abbrev pub noted : Option AriFault → List AriFault → Option AriFault
noted least [] = least
noted least (f ∷ fs) = noted (earlier least f) fs

abbrev pub IsAmong : AriFault → List AriFault → Type 0
IsAmong f [] = ⊥
IsAmong f (g ∷ gs) = (f ≡ g) ⊎ IsAmong f gs
