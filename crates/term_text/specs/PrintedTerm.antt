-- The items with which terms are printed, with 0 for each place.
use Rattle.std.specs.Prelude.{ℕ, List, [], slice_index_or}
use Rattle.sexp_core.specs.Items.{Item, a_word, a_list, Items, no_items, item}
use Rattle.trs_defs.specs.Tree.{Tree, Trees, var, app, nil, cons}
use Rattle.names_text.specs.VariableNames.{variable_name}

-- a symbol with arguments; a constant stands without brackets
abbrev pub applied_item : List ℕ → Items → Item
applied_item name no_items = a_word name 0
applied_item name (item x xs) = a_list (item (a_word name 0) (item x xs)) 0

-- a term, with so many underscores before each variable and these names of the symbols
abbrev mutual
  pub term_item : ℕ → List (List ℕ) → Tree → Item
  term_item k names (var v) = a_word (variable_name k v) 0
  term_item k names (app f ts) = applied_item (slice_index_or names f []) (term_items k names ts)

  pub term_items : ℕ → List (List ℕ) → Trees → Items
  term_items k names nil = no_items
  term_items k names (cons t ts) = item (term_item k names t) (term_items k names ts)
