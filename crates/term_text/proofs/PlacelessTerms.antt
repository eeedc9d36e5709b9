-- What items write does not depend on their places, and printed terms have none.
use Rattle.std.proofs.Common.{◌≡◌, ℕ, zero, suc, ◌==◌, Bool, true, false, List, [], length, cond, get_or, Option, Some, None, Ok, Err, refl, sym, ap, ap₂, ◌∙◌}
use Rattle.std.specs.Result.{result_ok}
use Rattle.sexp_core.specs.Items.{Item, a_word, a_list, Items, no_items, item}
use Rattle.sexp_core.specs.Printed.{bare, placeless}
use Rattle.trs_defs.specs.Tree.{Tree, Trees, var, app, nil, cons}
use Rattle.names_text.specs.declared.table.Symbol.{Symbol}
use Rattle.names_text.specs.Names.{number_among}
use Rattle.names_text.specs.Symbols.{Declared, symbol_named}
use Rattle.term_text.specs.Checked.{Checked, a_fault, ◌<*>◌}
use Rattle.term_text.specs.declared.fault.TermFault.TheVariants.{LoneSymbol}
use Rattle.term_text.specs.Terms.{variables_after, all_variables_after, variable, lone, taking, head, term, terms}
use Rattle.term_text.specs.PrintedTerm.{term_item, term_items}

-- ---- what was read of two parts

abbrev applied : {A B : Type 0} → Option (A → B) → Option A → Option B
applied (Some f) (Some x) = Some (f x)
applied (Some f) None = None
applied None x = None

value_of_both : {A B : Type 0} (r : Checked (A → B)) (s : Checked A) → result_ok (r <*> s) ≡ applied (result_ok r) (result_ok s)
value_of_both (Ok f) (Ok x) = refl
value_of_both (Ok f) (Err q) = refl
value_of_both (Err p) (Ok x) = refl
value_of_both (Err p) (Err q) = refl

pub same_values : {A B C : Type 0} (f : A → B → C) (r r' : Checked A) (s s' : Checked B) → result_ok r ≡ result_ok r' → result_ok s ≡ result_ok s'
    → result_ok (Ok f <*> r <*> s) ≡ result_ok (Ok f <*> r' <*> s')
same_values f r r' s s' e h =
    value_of_both (Ok f <*> r) s
    ∙ ap₂ applied (value_of_both (Ok f) r ∙ ap (applied (Some f)) e ∙ sym (value_of_both (Ok f) r')) h
    ∙ sym (value_of_both (Ok f <*> r') s')

-- ---- terms

abbrev constant : Bool → ℕ → ℕ → Checked Tree
constant b f at = cond b (Ok (app f nil)) (Err (a_fault (LoneSymbol at)))

constant_at : (b : Bool) (f p q : ℕ) → result_ok (constant b f p) ≡ result_ok (constant b f q)
constant_at true f p q = refl
constant_at false f p q = refl

variable_at : (new : Bool) (p q n : ℕ) (o : Option ℕ) → result_ok (variable new p n o) ≡ result_ok (variable new q n o)
variable_at new p q n (Some v) = refl
variable_at true p q n None = refl
variable_at false p q n None = refl

lone_at : (new : Bool) (variables : List (List ℕ)) (w : List ℕ) (p q : ℕ) (o : Option Symbol) → result_ok (lone new variables w p o) ≡ result_ok (lone new variables w q o)
lone_at new variables w p q (Some s) = constant_at (s.arity == 0) s.number p q
lone_at new variables w p q None = variable_at new p q (length variables) (number_among variables w)

taking_bare : (f p q n : ℕ) (xs : Items) → result_ok (taking f p n (placeless xs)) ≡ result_ok (taking f q n xs)
taking_bare f p q zero no_items = refl
taking_bare f p q zero (item x xs) = refl
taking_bare f p q (suc n) no_items = refl
taking_bare f p q (suc n) (item x xs) = taking_bare f p q n xs

head_bare : (p p' q q' : ℕ) (xs : Items) (o : Option Symbol) → result_ok (head p p' (placeless xs) o) ≡ result_ok (head q q' xs o)
head_bare p p' q q' xs (Some s) = taking_bare s.number p q s.arity xs
head_bare p p' q q' xs None = refl

module _ (new : Bool) (symbols : List Declared) where
  mutual
    pub variables_bare : (variables : List (List ℕ)) (x : Item) → variables_after new symbols variables (bare x) ≡ variables_after new symbols variables x
    variables_bare variables (a_word w p) = refl
    variables_bare variables (a_list no_items p) = refl
    variables_bare variables (a_list (item (a_list ys q) args) p) = refl
    variables_bare variables (a_list (item (a_word w q) args) p) = all_variables_bare variables args

    all_variables_bare : (variables : List (List ℕ)) (xs : Items) → all_variables_after new symbols variables (placeless xs) ≡ all_variables_after new symbols variables xs
    all_variables_bare variables no_items = refl
    all_variables_bare variables (item x xs) =
        ap (λ (vs : List (List ℕ)). all_variables_after new symbols vs (placeless xs)) (variables_bare variables x)
        ∙ all_variables_bare (variables_after new symbols variables x) xs

  mutual
    pub term_bare : (variables : List (List ℕ)) (x : Item) → result_ok (term new symbols variables (bare x)) ≡ result_ok (term new symbols variables x)
    term_bare variables (a_word w p) = lone_at new variables w 0 p (symbol_named symbols w)
    term_bare variables (a_list no_items p) = refl
    term_bare variables (a_list (item (a_list ys q) args) p) = refl
    term_bare variables (a_list (item (a_word w q) args) p) =
        same_values (λ f ts. app f ts) (head 0 0 (placeless args) (symbol_named symbols w)) (head p q args (symbol_named symbols w))
        (terms new symbols variables (placeless args)) (terms new symbols variables args)
        (head_bare 0 0 p q args (symbol_named symbols w)) (terms_bare variables args)

    terms_bare : (variables : List (List ℕ)) (xs : Items) → result_ok (terms new symbols variables (placeless xs)) ≡ result_ok (terms new symbols variables xs)
    terms_bare variables no_items = refl
    terms_bare variables (item x xs) =
        same_values (λ t ts. cons t ts) (term new symbols variables (bare x)) (term new symbols variables x)
        (terms new symbols (variables_after new symbols variables (bare x)) (placeless xs)) (terms new symbols (variables_after new symbols variables x) xs)
        (term_bare variables x)
        (ap (λ (vs : List (List ℕ)). result_ok (terms new symbols vs (placeless xs))) (variables_bare variables x) ∙ terms_bare (variables_after new symbols variables x) xs)

-- ---- printed terms

mutual
  pub term_placeless : (k : ℕ) (names : List (List ℕ)) (t : Tree) → bare (term_item k names t) ≡ term_item k names t
  term_placeless k names (var n) = refl
  term_placeless k names (app f nil) = refl
  term_placeless k names (app f (cons t ts)) = ap (λ xs. a_list (item (a_word (get_or names f []) 0) xs) 0) (terms_placeless k names (cons t ts))

  terms_placeless : (k : ℕ) (names : List (List ℕ)) (ts : Trees) → placeless (term_items k names ts) ≡ term_items k names ts
  terms_placeless k names nil = refl
  terms_placeless k names (cons t ts) = ap₂ item (term_placeless k names t) (terms_placeless k names ts)
