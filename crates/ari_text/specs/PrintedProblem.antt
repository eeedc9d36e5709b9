-- The items with which a problem is printed, with 0 for each place.
use Rattle.std.specs.Prelude.{ℕ, List, [], ◌∷◌, codes, decimal}
use Rattle.sexp_core.specs.Items.{Item, a_word, a_list, Items, no_items, item}
use Rattle.trs_defs.specs.System.{RewriteRule}
use Rattle.names_text.specs.Named.{NamedSystem}
use Rattle.names_text.specs.VariableNames.{underscores}
use Rattle.term_text.specs.PrintedTerm.{term_item}

abbrev pub three_members : List ℕ → Item → Item → Item
three_members head x y = a_list (item (a_word head 0) (item x (item y no_items))) 0

abbrev pub rule_items : ℕ → List (List ℕ) → List RewriteRule → Items
rule_items k names [] = no_items
rule_items k names (r ∷ rs) =
    item (three_members (codes "rule") (term_item k names r.left) (term_item k names r.right)) (rule_items k names rs)

-- symbols with their arities, and further items behind them
abbrev pub symbol_items : List (List ℕ) → List ℕ → Items → Items
symbol_items [] arities more = more
symbol_items (n ∷ ns) [] more = more
symbol_items (n ∷ ns) (a ∷ as') more =
    item (three_members (codes "fun") (a_word n 0) (a_word (decimal a) 0)) (symbol_items ns as' more)

abbrev pub format_item : Item
format_item = a_list (item (a_word (codes "format") 0) (item (a_word (codes "TRS") 0) no_items)) 0

-- the format, the symbols in the order of their numbers, and the rules in order
abbrev pub problem_items : NamedSystem → Items
problem_items s =
    item format_item
    (symbol_items s.names s.system.arities (rule_items (underscores s.names) s.names s.system.rules))
