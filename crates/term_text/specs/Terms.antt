-- The terms that items write: a lone word is a constant where a symbol has this name, else a variable; a list is a symbol
-- with arguments. Each reading gives the term or all faults.
use Rattle.std.specs.Prelude.{ℕ, zero, suc, ◌==◌, Bool, true, false, List, [], ◌∷◌, ◌++◌, length, Option, Some, None, Ok, Err, if◌then◌else◌}
use Rattle.sexp_core.specs.Items.{Item, a_word, a_list, Items, no_items, item}
use Rattle.trs_defs.specs.Tree.{Tree, Trees, var, app, nil, cons}
use Rattle.text_reading.specs.Reading.{place_of}
use Rattle.names_text.specs.declared.table.Symbol.{Symbol}
use Rattle.names_text.specs.Symbols.{Declared, symbol_named}
use Rattle.names_text.specs.Names.{number_among}
use Rattle.term_text.specs.declared.fault.TermFault.TheVariants.{EmptyList, ListAsHead, Undeclared, ArgumentLacks, ArgumentExtra, LoneSymbol, NewVariable}
use Rattle.term_text.specs.Checked.{Checked, a_fault, ◌<*>◌}

-- ---- the variables of a term, in the order of their first occurrences

-- the variables with a further name, by its number among them: if it is new, and new ones may occur
abbrev pub with_variable : Bool → List (List ℕ) → List ℕ → Option ℕ → List (List ℕ)
with_variable new variables name (Some v) = variables
with_variable true variables name None = variables ++ name ∷ []
with_variable false variables name None = variables

-- the variables with a lone word, if it is no symbol
abbrev pub with_word : Bool → List (List ℕ) → List ℕ → Option Symbol → List (List ℕ)
with_word new variables name (Some s) = variables
with_word new variables name None = with_variable new variables name (number_among variables name)

-- The variables with those of a term over these symbols, if new ones may occur.
abbrev mutual
  pub variables_after : Bool → List Declared → List (List ℕ) → Item → List (List ℕ)
  variables_after new symbols variables (a_word name at) = with_word new variables name (symbol_named symbols name)
  variables_after new symbols variables (a_list xs at) = variables_behind new symbols variables xs

  pub variables_behind : Bool → List Declared → List (List ℕ) → Items → List (List ℕ)
  variables_behind new symbols variables no_items = variables
  variables_behind new symbols variables (item (a_list xs at) args) = variables
  variables_behind new symbols variables (item (a_word head at) args) = all_variables_after new symbols variables args

  pub all_variables_after : Bool → List Declared → List (List ℕ) → Items → List (List ℕ)
  all_variables_after new symbols variables no_items = variables
  all_variables_after new symbols variables (item x xs) = all_variables_after new symbols (variables_after new symbols variables x) xs

-- ---- terms

-- A variable by its number among those before it. One that is none of them has the next number, if it may be new.
abbrev pub variable : Bool → ℕ → ℕ → Option ℕ → Checked Tree
variable new at next (Some v) = Ok (var v)
variable true at next None = Ok (var next)
variable false at next None = Err (a_fault (NewVariable at))

-- a lone word: a symbol, if it takes no arguments, else a variable
abbrev pub lone : Bool → List (List ℕ) → List ℕ → ℕ → Option Symbol → Checked Tree
lone new variables name at (Some s) = if s.arity == 0 then Ok (app s.number nil) else Err (a_fault (LoneSymbol at))
lone new variables name at None = variable new at (length variables) (number_among variables name)

-- a symbol, if as many arguments follow as it takes
abbrev pub taking : ℕ → ℕ → ℕ → Items → Checked ℕ
taking symbol at zero no_items = Ok symbol
taking symbol at zero (item x xs) = Err (a_fault (ArgumentExtra at (place_of x)))
taking symbol at (suc n) no_items = Err (a_fault (ArgumentLacks at))
taking symbol at (suc n) (item x xs) = taking symbol at n xs

-- the head of a term at a place
abbrev pub head : ℕ → ℕ → Items → Option Symbol → Checked ℕ
head at head_at args (Some s) = taking s.number at s.arity args
head at head_at args None = Err (a_fault (Undeclared head_at))

-- The term that an item writes over these symbols, behind these variables; whether its variables may be new ones.
abbrev mutual
  pub term : Bool → List Declared → List (List ℕ) → Item → Checked Tree
  term new symbols variables (a_word name at) = lone new variables name at (symbol_named symbols name)
  term new symbols variables (a_list xs at) = list_term new symbols variables at xs

  pub list_term : Bool → List Declared → List (List ℕ) → ℕ → Items → Checked Tree
  list_term new symbols variables at no_items = Err (a_fault (EmptyList at))
  list_term new symbols variables at (item (a_list xs head_at) args) = Err (a_fault (ListAsHead at head_at))
  list_term new symbols variables at (item (a_word name head_at) args) =
      Ok (λ f ts. app f ts) <*> head at head_at args (symbol_named symbols name) <*> terms new symbols variables args

  pub terms : Bool → List Declared → List (List ℕ) → Items → Checked Trees
  terms new symbols variables no_items = Ok nil
  terms new symbols variables (item x xs) =
      Ok (λ t ts. cons t ts) <*> term new symbols variables x <*> terms new symbols (variables_after new symbols variables x) xs
