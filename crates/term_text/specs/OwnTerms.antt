-- Terms whose variables are their own, numbered in the order of their first occurrences.
use Rattle.std.specs.Prelude.{min, true, [], Option, Err, IsTrue, if◌then◌else◌}
use Rattle.std.specs.Result.{result_ok}
use Rattle.sexp_core.specs.Items.{Item}
use Rattle.trs_defs.specs.Tree.{Tree}
use Rattle.trs_defs.specs.Size.{within_limits}
use Rattle.trs_defs.specs.System.{System}
use Rattle.trs_defs.specs.WellFormed.{IsWellFormed}
use Rattle.text_reading.specs.Reading.{Read, place_of}
use Rattle.names_text.specs.Named.{NamedSystem, table_of}
use Rattle.names_text.specs.VariableNames.{underscores}
use Rattle.term_text.specs.Checked.{judged}
use Rattle.term_text.specs.Refusals.{refused_at}
use Rattle.term_text.specs.Terms.{term}
use Rattle.term_text.specs.Limits.{keeps_limits}
use Rattle.term_text.specs.PrintedTerm.{term_item}
use Rattle.term_text.specs.Renumbered.{in_order}

-- a term of a certificate: past the limits it is refused at its own place, else for the fault with the least place
abbrev pub own_term : NamedSystem → Item → Read Tree
own_term named x = if keeps_limits x then judged refused_at min (term true (table_of named) [] x) else Err (place_of x)

-- the term, if the item writes one within the limits
abbrev pub written_term : NamedSystem → Item → Option Tree
written_term named x = result_ok (own_term named x)

-- a term with its own numbers of variables
abbrev pub own_term_item : NamedSystem → Tree → Item
own_term_item named t = term_item (underscores named.names) named.names (in_order t)

-- a term of a step is well-formed and keeps the limits
abbrev pub IsTermOf : System → Tree → Type 0
IsTermOf system t = IsWellFormed system.arities t × IsTrue (within_limits t)
