-- The rules that items write over symbols, or all faults of their terms.
use Rattle.std.specs.Prelude.{true, false, List, [], ◌∷◌, Ok}
use Rattle.sexp_core.specs.Items.{Item, Items, no_items, item}
use Rattle.trs_defs.specs.Tree.{Tree}
use Rattle.trs_defs.specs.System.{RewriteRule}
use Rattle.names_text.specs.Symbols.{Declared}
use Rattle.term_text.specs.Checked.{Checked, ◌<*>◌}
use Rattle.term_text.specs.Terms.{variables_after, term}
use Rattle.ari_text.specs.Entries.{Saying, declares, rewrites, attributed, says_nothing, entry_of}

abbrev pub both_sides : Tree → Tree → RewriteRule
both_sides left right = record { left = left; right = right }

-- variables are numbered in the order of their first occurrences in the left side, and no others may occur in the right one
abbrev pub rule : List Declared → Item → Item → Checked RewriteRule
rule symbols left right =
    Ok both_sides <*> term true symbols [] left <*> term false symbols (variables_after true symbols [] left) right

-- the rule that an item writes, if it says one, and those behind it
abbrev pub with_rule : List Declared → Saying → Checked (List RewriteRule) → Checked (List RewriteRule)
with_rule symbols (declares name q arity r) rules = rules
with_rule symbols (rewrites left right) rules = Ok (λ r rs. r ∷ rs) <*> rule symbols left right <*> rules
with_rule symbols (attributed s at) rules = with_rule symbols s rules
with_rule symbols says_nothing rules = rules

-- the rules of the items, in order
abbrev pub rules_of : List Declared → Items → Checked (List RewriteRule)
rules_of symbols no_items = Ok []
rules_of symbols (item x xs) = with_rule symbols (entry_of x) (rules_of symbols xs)
