-- What is shown of a fault.
use Rattle.std.specs.Prelude.{ℕ, Option, Some, None}
use Rattle.sexp_core.specs.declared.fault.TextFault.{TextFault}
use Rattle.sexp_core.specs.declared.fault.TextFault.TheVariants as text
use Rattle.ari_text.specs.declared.fault.AriFault.{AriFault}
use Rattle.ari_text.specs.declared.fault.AriFault.TheVariants as fault

-- want of memory is that of the problem text
abbrev pub from_text : TextFault → AriFault
from_text (text.BadByte p) = fault.Text (text.BadByte p)
from_text (text.UnclosedAt p) = fault.Text (text.UnclosedAt p)
from_text (text.ExtraClose p) = fault.Text (text.ExtraClose p)
from_text (text.TooDeep p) = fault.Text (text.TooDeep p)
from_text text.OutOfMemory = fault.OutOfMemory

abbrev pub text_number : TextFault → ℕ
text_number (text.BadByte p) = 1
text_number (text.UnclosedAt p) = 2
text_number (text.ExtraClose p) = 3
text_number (text.TooDeep p) = 4
text_number text.OutOfMemory = 5

abbrev pub text_place : TextFault → Option ℕ
text_place (text.BadByte p) = Some p
text_place (text.UnclosedAt p) = Some p
text_place (text.ExtraClose p) = Some p
text_place (text.TooDeep p) = Some p
text_place text.OutOfMemory = None

-- the place of a fault, where it has one
abbrev pub shown_place : AriFault → Option ℕ
shown_place (fault.Text f) = text_place f
shown_place fault.NoFormat = None
shown_place (fault.OtherFormat p) = Some p
shown_place (fault.BadItem p) = Some p
shown_place (fault.Twice p) = Some p
shown_place (fault.BadArity p) = Some p
shown_place (fault.Unknown p) = Some p
shown_place (fault.WrongArity p) = Some p
shown_place (fault.LeftIsVariable p) = Some p
shown_place (fault.ExtraVariable p) = Some p
shown_place (fault.Attribute p) = Some p
shown_place (fault.TooMany p) = Some p
shown_place (fault.TooDeep p) = Some p
shown_place fault.OutOfMemory = None

-- the number of a text fault among its like
abbrev pub text_number_of : AriFault → Option ℕ
text_number_of (fault.Text f) = Some (text_number f)
text_number_of _ = None
