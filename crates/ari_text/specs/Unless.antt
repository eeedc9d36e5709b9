-- What was read, where other faults are known.
use Rattle.std.specs.Prelude.{Option, Some, None, Result, Ok, Err}
use Rattle.ari_text.specs.declared.fault.AriFault.{AriFault}
use Rattle.ari_text.specs.Least.{lesser}

abbrev pub unless_noted : {A : Type 0} → Result A AriFault → Option AriFault → Result A AriFault
unless_noted read None = read
unless_noted (Ok x) (Some f) = Err f
unless_noted (Err g) (Some f) = Err (lesser f g)
