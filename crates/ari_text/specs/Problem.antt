-- What a problem text says: the ARI format of the termination and confluence competitions, format TRS, in the profile
-- of docs/PROBLEM-FORMAT.md.
use Rattle.std.specs.Prelude.{◌≡◌, ℕ, Bool, false, List, [], Option, Some, None, Ok, codes, if◌then◌else◌}
use Rattle.std.specs.Option.{option_or}
use Rattle.std.specs.Str.{bytes_eq}
use Rattle.sexp_core.specs.Items.{Item, a_word, a_list, Items, no_items, item}
use Rattle.sexp_core.specs.Reads.{Reads, fault_of}
use Rattle.ari_text.specs.declared.fault.AriFault.{AriFault}
use Rattle.ari_text.specs.declared.fault.AriFault.TheVariants as fault
use Rattle.trs_defs.specs.System.{RewriteRule}
use Rattle.names_text.specs.Symbols.{Declared, names_of, arities_of}
use Rattle.term_text.specs.Checked.{Checked, ◌<*>◌}
use Rattle.ari_text.specs.Least.{noted}
use Rattle.ari_text.specs.Faults.{faults_of, symbols_of}
use Rattle.ari_text.specs.Rules.{rules_of}
use Rattle.names_text.specs.Named.{NamedSystem}

-- the members behind the word `format`
abbrev pub is_trs : Items → Bool
is_trs (item (a_word w p) no_items) = bytes_eq w (codes "TRS")
is_trs _ = false

abbrev pub format_list_fault : ℕ → Items → Option AriFault
format_list_fault at (item (a_word w p) more) =
    if bytes_eq w (codes "format") then (if is_trs more then None else Some (fault.OtherFormat at)) else Some fault.NoFormat
format_list_fault at _ = Some fault.NoFormat

-- the first item is the list `(format TRS)`
abbrev pub format_fault : Item → Option AriFault
format_fault (a_word w p) = Some fault.NoFormat
format_fault (a_list xs p) = format_list_fault p xs

-- the fault of the items of a text: of its format, else the least of all others
abbrev pub problem_fault : Items → Option AriFault
problem_fault no_items = Some fault.NoFormat
problem_fault (item x xs) = option_or (format_fault x) (noted None (faults_of xs))

abbrev pub later_items : Items → Items
later_items no_items = no_items
later_items (item x xs) = xs

-- a system of these symbols, with rules
abbrev pub with_names : List Declared → List RewriteRule → NamedSystem
with_names symbols rules = record {
  names = names_of symbols;
  system = record { arities = arities_of symbols; rules = rules };
}

-- the system that the items behind the format write: symbols in the order of their declarations, rules in the order of
-- their items
abbrev pub system_of : Items → Checked NamedSystem
system_of items = let symbols = symbols_of [] items in Ok (with_names symbols) <*> rules_of symbols items

-- the text says this system
pub record SaysSystem (text : List ℕ) (named : NamedSystem) : Type 0 where
  pub items : Items
  pub reads : Reads text items
  pub readable : fault_of 300 text ≡ None
  pub faultless : problem_fault items ≡ None
  pub system : system_of (later_items items) ≡ Ok named

-- the text is read as items that have this fault
pub record HasProblemFault (text : List ℕ) (f : AriFault) : Type 0 where
  pub items : Items
  pub reads : Reads text items
  pub readable : fault_of 300 text ≡ None
  pub fault : problem_fault items ≡ Some f

-- why a text is refused; want of memory needs no cause
abbrev pub IsProblemRefused : List ℕ → AriFault → Type 0
IsProblemRefused text (fault.Text f) = fault_of 300 text ≡ Some f
IsProblemRefused text fault.OutOfMemory = Unit {0}
IsProblemRefused text f = HasProblemFault text f
