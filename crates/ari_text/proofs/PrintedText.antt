-- Steps of printing.
use Rattle.std.proofs.Common.{◌≡◌, ℕ, ◌+◌, ◌<◌, List, [], ◌∷◌, ◌++◌, length, drop, get_or, Some, slice_get, codes, decimal, refl, ap, sym, ◌∙◌, append_assoc, add-one, drop-cons}
use Rattle.sexp_core.specs.Items.{Item, a_word, Items, no_items, item}
use Rattle.sexp_core.specs.Printed.{text_of, lines}
use Rattle.trs_defs.specs.System.{RewriteRule}
use Rattle.trs_defs.proofs.ListItems.{next_item}
use Rattle.names_text.specs.VariableNames.{underscores}
use Rattle.term_text.specs.PrintedTerm.{term_item}
use Rattle.ari_text.specs.PrintedProblem.{three_members, symbol_items, rule_items, problem_items}
use Rattle.names_text.specs.Named.{NamedSystem}

first_line : (x : Item) (xs : Items) → lines (item x xs) ≡ lines (item x no_items) ++ lines xs
first_line x xs = sym (append_assoc (text_of x) (10 ∷ []) (lines xs))

next_lines : (out all a b c : List ℕ) → out ++ c ≡ all → c ≡ a ++ b → (out ++ a) ++ b ≡ all
next_lines out all a b c e f = append_assoc out a b ∙ ap (λ (t : List ℕ). out ++ t) (sym f) ∙ e

first_symbol : (n : List ℕ) (a : ℕ) (ns : List (List ℕ)) (as' : List ℕ)
    → lines (symbol_items (n ∷ ns) (a ∷ as') no_items) ≡ lines (symbol_items (n ∷ []) (a ∷ []) no_items) ++ lines (symbol_items ns as' no_items)
first_symbol n a ns as' = first_line (three_members (codes "fun") (a_word n 0) (a_word (decimal a) 0)) (symbol_items ns as' no_items)

-- one more symbol is printed
pub symbols_step : (names : List (List ℕ)) (arities : List ℕ) (f : ℕ) (name : List ℕ) (a : ℕ) (out all : List ℕ)
    → slice_get names f ≡ Some name → f < length arities → a ≡ get_or arities f 0
    → out ++ lines (symbol_items (drop f names) (drop f arities) no_items) ≡ all
    → (out ++ lines (symbol_items (name ∷ []) (a ∷ []) no_items)) ++ lines (symbol_items (drop (f + 1) names) (drop (f + 1) arities) no_items) ≡ all
symbols_step names arities f name a out all e lt g h =
    let here : drop f arities ≡ a ∷ drop (f + 1) arities = drop-cons arities f 0 lt ∙ rw (sym g, add-one) refl in
    next_lines out all _ _ _ h (rw (next_item names f name e, here) (first_symbol name a _ _))

-- the lines of symbols, and those behind them
pub symbols_lines : (ns : List (List ℕ)) (as' : List ℕ) (more : Items)
    → lines (symbol_items ns as' more) ≡ lines (symbol_items ns as' no_items) ++ lines more
symbols_lines [] as' more = refl
symbols_lines (n ∷ ns) [] more = refl
symbols_lines (n ∷ ns) (a ∷ as') more =
    let x = three_members (codes "fun") (a_word n 0) (a_word (decimal a) 0) in
    first_line x (symbol_items ns as' more)
    ∙ rw (symbols_lines ns as' more) (sym (append_assoc (lines (item x no_items)) (lines (symbol_items ns as' no_items)) (lines more)))
    ∙ ap (λ (t : List ℕ). t ++ lines more) (sym (first_symbol n a ns as'))

-- one more rule is printed
pub rules_step : (k : ℕ) (names : List (List ℕ)) (r : RewriteRule) (rs : List RewriteRule) (out all : List ℕ)
    → out ++ lines (rule_items k names (r ∷ rs)) ≡ all
    → (out ++ lines (rule_items k names (r ∷ []))) ++ lines (rule_items k names rs) ≡ all
rules_step k names r rs out all h =
    next_lines out all _ _ _ h
    (first_line (three_members (codes "rule") (term_item k names r.left) (term_item k names r.right)) (rule_items k names rs))

-- the whole text
pub problem_text : (s : NamedSystem) (k : ℕ) (rs : List RewriteRule) (o1 o2 o3 : List ℕ) → o1 ≡ codes "(format TRS)\n"
    → o2 ≡ o1 ++ lines (symbol_items s.names s.system.arities no_items) → k ≡ underscores s.names → rs ≡ s.system.rules
    → o3 ≡ o2 ++ lines (rule_items k s.names rs) → o3 ≡ lines (problem_items s)
problem_text s k rs o1 o2 o3 e f g h i =
    let rules = rule_items (underscores s.names) s.names s.system.rules in
    i ∙ rw (g, h, f, e) (append_assoc (codes "(format TRS)\n") (lines (symbol_items s.names s.system.arities no_items)) (lines rules))
    ∙ ap (λ (t : List ℕ). codes "(format TRS)\n" ++ t) (sym (symbols_lines s.names s.system.arities rules))
