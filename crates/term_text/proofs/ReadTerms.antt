-- What a term that was read is: well-formed, with its variables in order, as large and as deep as it is written.
use Rattle.std.proofs.Common.{◌≡◌, inl, inr, ℕ, zero, suc, ◌+◌, ◌==◌, max, Bool, true, false, cond, List, [], ◌∷◌, ◌++◌, length, Option, Some, None, slice_get, Ok, Err, refl, sym, ap, subst, ◌∙◌, arith}
use Rattle.std.proofs.lemmas.Bool.{eqb-true}
use Rattle.std.proofs.lemmas.List.{length_push}
use Rattle.sexp_core.specs.Items.{Item, a_word, a_list, Items, no_items, item}
use Rattle.trs_defs.specs.Tree.{Tree, Trees, var, app, nil, cons, count}
use Rattle.trs_defs.specs.Size.{size_of, size_of_all, depth_of, depth_of_all}
use Rattle.trs_defs.specs.WellFormed.{IsWellFormed, AreWellFormed}
use Rattle.names_text.specs.declared.table.Symbol.{Symbol}
use Rattle.names_text.specs.Names.{number_among}
use Rattle.names_text.specs.Symbols.{Declared, arities_of, symbol_named}
use Rattle.names_text.proofs.NameLists.{number_below}
use Rattle.names_text.proofs.SymbolTables.{symbol_known}
use Rattle.term_text.specs.declared.fault.TermFault.TheVariants.{LoneSymbol}
use Rattle.term_text.specs.Checked.{Checked, a_fault}
use Rattle.term_text.specs.Terms.{with_variable, with_word, variables_after, all_variables_after, variable, lone, taking, head, term, terms}
use Rattle.term_text.specs.Limits as text
use Rattle.term_text.specs.Limits.{nodes_of, nodes_of_all}
use Rattle.term_text.proofs.CheckedParts.{ok_same, two_parts}
use Rattle.term_text.proofs.Numbering.{IsNumbered, AreNumbered}

-- a term over these arities, with its variables numbered behind others
pub record IsRead (arities : List ℕ) (new : Bool) (from to nodes depth : ℕ) (t : Tree) : Type 0 where
  pub well_formed : IsWellFormed arities t
  pub numbered : IsNumbered new from t to
  pub size : size_of t ≡ nodes
  pub deep : depth_of t ≡ depth

pub record AreRead (arities : List ℕ) (new : Bool) (from to nodes depth number : ℕ) (ts : Trees) : Type 0 where
  pub well_formed : AreWellFormed arities ts
  pub numbered : AreNumbered new from ts to
  pub size : size_of_all ts ≡ nodes
  pub deep : depth_of_all ts ≡ depth
  pub counted : count ts ≡ number

-- how many items there are
abbrev pub count_of : Items → ℕ
count_of no_items = 0
count_of (item x xs) = suc (count_of xs)

-- ---- words

variable_read : (arities : List ℕ) (new : Bool) (variables : List (List ℕ)) (w : List ℕ) (at : ℕ) (o : Option ℕ) (t : Tree) → number_among variables w ≡ o
    → variable new at (length variables) o ≡ Ok t → IsRead arities new (length variables) (length (with_variable new variables w o)) 1 1 t
variable_read arities new variables w at (Some v) t is e =
    let P : Tree → Type 0 = IsRead arities new (length variables) (length variables) 1 1 in
    subst P (ok_same (var v) t e) (record { well_formed = tt; numbered = inl (number_below variables w v is, refl); size = refl; deep = refl })
variable_read arities true variables w at None t is e =
    let P : Tree → Type 0 = IsRead arities true (length variables) (length (variables ++ w ∷ [])) 1 1 in
    subst P (ok_same (var (length variables)) t e)
    (record { well_formed = tt; numbered = inr (refl, refl, omega (arith, length_push variables w)); size = refl; deep = refl })
variable_read arities false variables w at None t is e = absurd cc

constant_read : (arities : List ℕ) (new : Bool) (from at : ℕ) (s : Symbol) (b : Bool) (t : Tree) → slice_get arities s.number ≡ Some s.arity → (s.arity == 0) ≡ b
    → (let r : Checked Tree = cond b (Ok (app s.number nil)) (Err (a_fault (LoneSymbol at))) in r ≡ Ok t) → IsRead arities new from from 1 1 t
constant_read arities new from at s true t known is e =
    let P : Tree → Type 0 = IsRead arities new from from 1 1 in
    subst P (ok_same (app s.number nil) t e)
    (record { well_formed = (known ∙ ap Some (eqb-true s.arity 0 is), tt); numbered = refl; size = omega arith; deep = omega arith })
constant_read arities new from at s false t known is e = absurd cc

module _ (symbols : List Declared) (new : Bool) where
  abbrev arities : List ℕ
  arities = arities_of symbols

  word_read : (variables : List (List ℕ)) (w : List ℕ) (at : ℕ) (o : Option Symbol) (t : Tree) → symbol_named symbols w ≡ o → lone new variables w at o ≡ Ok t
      → IsRead arities new (length variables) (length (with_word new variables w o)) 1 1 t
  word_read variables w at (Some s) t is e = constant_read arities new (length variables) at s (s.arity == 0) t (symbol_known symbols w s is) refl e
  word_read variables w at None t is e = variable_read arities new variables w at (number_among variables w) t refl e

  -- ---- lists

  all_taken : (s at n : ℕ) (xs : Items) (f : ℕ) → taking s at n xs ≡ Ok f → (s ≡ f) × (n ≡ count_of xs)
  all_taken s at zero no_items f e = (ok_same s f e, refl)
  all_taken s at zero (item x xs) f e = absurd cc
  all_taken s at (suc n) no_items f e = absurd cc
  all_taken s at (suc n) (item x xs) f e = let rest = all_taken s at n xs f e in (rest.0, ap suc rest.1)

  head_read : (w : List ℕ) (at p : ℕ) (xs : Items) (o : Option Symbol) (f : ℕ) → symbol_named symbols w ≡ o → head at p xs o ≡ Ok f → slice_get arities f ≡ Some (count_of xs)
  head_read w at p xs None f is e = absurd cc
  head_read w at p xs (Some s) f is e =
      let all = all_taken s.number at s.arity xs f e in
      ap (slice_get arities) (sym all.0) ∙ symbol_known symbols w s is ∙ ap Some all.1

  application_read : (from to nodes depth number f : ℕ) (ts : Trees) → slice_get arities f ≡ Some number → AreRead arities new from to nodes depth number ts
      → IsRead arities new from to (1 + nodes) (1 + depth) (app f ts)
  application_read from to nodes depth number f ts known h = record {
    well_formed = (known ∙ ap Some (sym h.counted), h.well_formed);
    numbered = h.numbered;
    size = ap (λ n. 1 + n) h.size;
    deep = ap (λ n. 1 + n) h.deep;
  }

  mutual
    pub term_read : (variables : List (List ℕ)) (x : Item) (t : Tree) → term new symbols variables x ≡ Ok t
        → IsRead arities new (length variables) (length (variables_after new symbols variables x)) (nodes_of x) (text.depth_of x) t
    term_read variables (a_word w at) t e = word_read variables w at (symbol_named symbols w) t refl e
    term_read variables (a_list no_items at) t e = absurd cc
    term_read variables (a_list (item (a_list ys p) args) at) t e = absurd cc
    term_read variables (a_list (item (a_word w p) args) at) t e =
        let parts = two_parts (λ f ts. app f ts) (head at p args (symbol_named symbols w)) (terms new symbols variables args) t e in
        let to = length (all_variables_after new symbols variables args) in
        let P : Tree → Type 0 = IsRead arities new (length variables) to (1 + nodes_of_all args) (1 + text.depth_of_all args) in
        subst P parts.made
        (application_read (length variables) to (nodes_of_all args) (text.depth_of_all args) (count_of args) parts.first parts.second
        (head_read w at p args (symbol_named symbols w) parts.first refl parts.is_first)
        (terms_read variables args parts.second parts.is_second))

    pub terms_read : (variables : List (List ℕ)) (xs : Items) (ts : Trees) → terms new symbols variables xs ≡ Ok ts
        → AreRead arities new (length variables) (length (all_variables_after new symbols variables xs)) (nodes_of_all xs) (text.depth_of_all xs) (count_of xs) ts
    terms_read variables no_items ts e =
        let P : Trees → Type 0 = AreRead arities new (length variables) (length variables) 0 0 0 in
        subst P (ok_same nil ts e) (record { well_formed = tt; numbered = refl; size = refl; deep = refl; counted = refl })
    terms_read variables (item x xs) ts e =
        let next = variables_after new symbols variables x in
        let parts = two_parts (λ u us. cons u us) (term new symbols variables x) (terms new symbols next xs) ts e in
        let first = term_read variables x parts.first parts.is_first in
        let rest = terms_read next xs parts.second parts.is_second in
        let P : Trees → Type 0 =
        AreRead arities new (length variables) (length (all_variables_after new symbols next xs)) (nodes_of x + nodes_of_all xs) (max (text.depth_of x) (text.depth_of_all xs)) (suc (count_of xs)) in
        subst P parts.made (record {
          well_formed = (first.well_formed, rest.well_formed);
          numbered = (length next, first.numbered, rest.numbered);
          size = omega (arith, first.size, rest.size);
          deep = omega (arith, first.deep, rest.deep);
          counted = omega (arith, rest.counted);
        })
