-- Terms that are no normal form. (Baader and Nipkow, definition 2.1.1.)
use Rattle.std.specs.Prelude.{List}
use Rattle.trs_defs.specs.Tree.{Tree}
use Rattle.trs_defs.specs.System.{RewriteRule}
use Rattle.trs_defs.specs.Step.{Step}

-- some step leaves the term
abbrev pub IsReducible : List RewriteRule → Tree → Type 0
IsReducible rules t = (u : Tree) × Step rules t u
