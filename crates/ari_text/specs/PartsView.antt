-- The system of names, arities and rules.
use Rattle.trs_core.specs.Valid.{system}
use Rattle.ari_text.specs.declared.reading.Parts.{Parts}
use Rattle.names_text.specs.Named.{NamedSystem}

abbrev pub parts_view : Parts → NamedSystem
parts_view parts = record { names = parts.names; system = system parts.arities.items parts.rules.items }
