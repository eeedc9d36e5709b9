-- The places at which a certificate is refused for what is no term.
use Rattle.std.specs.Prelude.{ℕ}
use Rattle.term_text.specs.declared.fault.TermFault.{TermFault}
use Rattle.term_text.specs.declared.fault.TermFault.TheVariants.{EmptyList, ListAsHead, Undeclared, ArgumentLacks, ArgumentExtra, LoneSymbol, NewVariable}

-- a head at its own place, and so the first argument too many; all others at the place of the term
abbrev pub refused_at : TermFault → ℕ
refused_at (EmptyList at) = at
refused_at (ListAsHead at head_at) = head_at
refused_at (Undeclared head_at) = head_at
refused_at (ArgumentLacks at) = at
refused_at (ArgumentExtra at extra_at) = extra_at
refused_at (LoneSymbol at) = at
refused_at (NewVariable at) = at
