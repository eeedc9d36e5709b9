-- Printed terms are read again, wherever they stand.
use Rattle.std.proofs.Common.{◌≡◌, inl, inr, ℕ, zero, suc, ◌+◌, ◌-◌, ◌^◌, ◌<◌, ◌≤◌, Bool, true, List, [], ◌∷◌, ◌++◌, length, get_or, Some, None, option_map, Ok, slice_get, refl, sym, ap, ◌∙◌, arith}
use Rattle.std.specs.List.{list_all}
use Rattle.std.proofs.lemmas.Bool.{and_parts}
use Rattle.std.proofs.lemmas.Option.{slice_get_within, get_or_from_slice_get}
use Rattle.sexp_core.specs.Items.{Item, a_word, a_list, Items, no_items, item}
use Rattle.sexp_core.specs.Printed.{IsWord, HasWords, AreWords, depth_of as depth_of_item, nesting, bare, placeless}
use Rattle.trs_defs.specs.Tree.{Tree, Trees, var, app, nil, cons, count}
use Rattle.trs_defs.specs.Size.{depth_of, depth_of_all}
use Rattle.trs_defs.specs.WellFormed.{IsWellFormed, AreWellFormed}
use Rattle.names_text.specs.Names.{are_distinct}
use Rattle.names_text.specs.Symbols.{Declared, paired, symbol_named}
use Rattle.names_text.specs.Named.{is_word}
use Rattle.names_text.specs.VariableNames.{underscores, variable_name}
use Rattle.names_text.proofs.PrintedNames.{variable_word, symbol_word, no_symbol, symbol_number, variables_to, length_variables, later_variable, variable_number}
use Rattle.names_text.proofs.SymbolPairs.{symbol_at, symbol_by_number}
use Rattle.term_text.specs.Terms.{variables_after, all_variables_after, taking, term, terms}
use Rattle.term_text.specs.PrintedTerm.{term_item, term_items}
use Rattle.term_text.proofs.Numbering.{IsBelow, AreBelow, IsNumbered, AreNumbered}

-- the names of the symbols are distinct words, and variables begin with more underscores than they
pub record FitNames (k : ℕ) (names : List (List ℕ)) (arities : List ℕ) : Type 0 where
  pub counts : length names ≡ length arities
  pub words : list_all is_word names ≡ true
  pub distinct : are_distinct names ≡ true
  pub more : underscores names ≤ k

-- a term is read of an item, and its variables stand behind others
pub record IsTermAgain (new : Bool) (symbols : List Declared) (before after : List (List ℕ)) (y : Item) (t : Tree) : Type 0 where
  pub read : term new symbols before y ≡ Ok t
  pub names : variables_after new symbols before y ≡ after

pub record AreTermsAgain (new : Bool) (symbols : List Declared) (before after : List (List ℕ)) (ys : Items) (ts : Trees) : Type 0 where
  pub read : terms new symbols before ys ≡ Ok ts
  pub names : all_variables_after new symbols before ys ≡ after

taken : (k : ℕ) (names : List (List ℕ)) (f at n : ℕ) (ts : Trees) (ys : Items) → n ≡ count ts → placeless ys ≡ term_items k names ts → taking f at n ys ≡ Ok f
taken k names f at zero nil no_items same e = refl
taken k names f at (suc n) nil no_items same e = absurd (omega arith)
taken k names f at n nil (item y ys) same e = absurd cc
taken k names f at n (cons t ts) no_items same e = absurd cc
taken k names f at zero (cons t ts) (item y ys) same e = absurd (omega arith)
taken k names f at (suc n) (cons t ts) (item y ys) same e = taken k names f at n ts ys (omega arith) cc

module _ (k : ℕ) (names : List (List ℕ)) (arities : List ℕ) (fit : FitNames k names arities) where
  abbrev symbols : List Declared
  symbols = paired names arities

  pub symbol_again : (f n : ℕ) → slice_get arities f ≡ Some n → symbol_named symbols (get_or names f []) ≡ Some (record { number = f; arity = n })
  symbol_again f n e =
      let number = symbol_number names f fit.distinct (omega (arith, fit.counts, slice_get_within arities f n e)) in
      let arity : get_or arities f 0 ≡ n = get_or_from_slice_get arities f n 0 e in
      symbol_by_number names arities (get_or names f []) fit.counts ∙ ap (option_map (symbol_at arities)) number
      ∙ ap (λ (a : ℕ). Some (record { number = f; arity = a })) arity

  no_variable : (v : ℕ) → symbol_named symbols (variable_name k v) ≡ None
  no_variable v = symbol_by_number names arities (variable_name k v) fit.counts ∙ ap (option_map (symbol_at arities)) (no_symbol names k v fit.more)

  variable_again : (new : Bool) (n m r at : ℕ) → n < 2 ^ 64 → IsNumbered new m (var n) r
      → IsTermAgain new symbols (variables_to k m) (variables_to k r) (a_word (variable_name k n) at) (var n)
  variable_again new n m r at lt (inl h) =
      let number = variable_number k m n h.0 lt in
      record { read = rw (no_variable n, number) refl; names = rw (no_variable n, number) (ap (variables_to k) h.1) }
  variable_again new n m r at lt (inr h) =
      let number = later_variable k m n (let same = h.1 in omega arith) lt in
      record {
        read = rw (no_variable n, number, h.0) (ap (λ v. Ok (var v)) (length_variables k m ∙ sym h.1));
        names = rw (no_variable n, number, h.0) (ap (λ v. variables_to k m ++ variable_name k v ∷ []) h.1 ∙ ap (variables_to k) h.2);
      }

  mutual
    pub term_again : (new : Bool) (t : Tree) (y : Item) (m r : ℕ) → IsWellFormed arities t → IsBelow (2 ^ 64) t → IsNumbered new m t r → bare y ≡ term_item k names t
        → IsTermAgain new symbols (variables_to k m) (variables_to k r) y t
    term_again new (var n) (a_word w q) m r wf lt h e =
        let same : w ≡ variable_name k n = cc in
        let again = variable_again new n m r q lt h in
        record { read = rw same again.read; names = rw same again.names }
    term_again new (var n) (a_list ys q) m r wf lt h e = absurd cc
    term_again new (app f nil) (a_word w q) m r wf lt h e =
        let same : w ≡ get_or names f [] = cc in
        record { read = rw (same, symbol_again f 0 wf.0) refl; names = rw (same, symbol_again f 0 wf.0) (ap (variables_to k) h) }
    term_again new (app f nil) (a_list ys q) m r wf lt h e = absurd cc
    term_again new (app f (cons t ts)) (a_word w q) m r wf lt h e = absurd cc
    term_again new (app f (cons t ts)) (a_list no_items q) m r wf lt h e = absurd cc
    term_again new (app f (cons t ts)) (a_list (item (a_list zs p) ys) q) m r wf lt h e = absurd cc
    term_again new (app f (cons t ts)) (a_list (item (a_word w p) ys) q) m r wf lt h e =
        let same : w ≡ get_or names f [] = cc in
        let args : placeless ys ≡ term_items k names (cons t ts) = cc in
        let n = count (cons t ts) in
        let inside = terms_again new (cons t ts) ys m r wf.1 lt h args in
        record {
          read = rw (same, symbol_again f n wf.0, taken k names f q n (cons t ts) ys refl args, inside.read) refl;
          names = inside.names;
        }

    terms_again : (new : Bool) (ts : Trees) (ys : Items) (m r : ℕ) → AreWellFormed arities ts → AreBelow (2 ^ 64) ts → AreNumbered new m ts r → placeless ys ≡ term_items k names ts
        → AreTermsAgain new symbols (variables_to k m) (variables_to k r) ys ts
    terms_again new nil no_items m r wf lt h e = record { read = refl; names = ap (variables_to k) h }
    terms_again new nil (item y ys) m r wf lt h e = absurd cc
    terms_again new (cons t ts) no_items m r wf lt h e = absurd cc
    terms_again new (cons t ts) (item y ys) m r wf lt h e =
        let first = term_again new t y m h.0 wf.0 lt.0 h.1 cc in
        let rest = terms_again new ts ys h.0 r wf.1 lt.1 h.2 cc in
        record { read = rw (first.read, first.names, rest.read) refl; names = rw first.names rest.names }

  pub depth_pos : (t : Tree) → 1 ≤ depth_of t
  depth_pos (var n) = omega arith
  depth_pos (app f ts) = omega arith

  -- ---- words, nodes and nesting

  word_at : (ns : List (List ℕ)) (f : ℕ) → list_all is_word ns ≡ true → f < length ns → IsWord (get_or ns f [])
  word_at [] f e lt = absurd (omega arith)
  word_at (n ∷ ns) zero e lt = symbol_word n (and_parts (is_word n) (list_all is_word ns) e).0
  word_at (n ∷ ns) (suc f) e lt = word_at ns f (and_parts (is_word n) (list_all is_word ns) e).1 (omega arith)

  symbol_is_word : (f n : ℕ) → slice_get arities f ≡ Some n → IsWord (get_or names f [])
  symbol_is_word f n e = word_at names f fit.words (omega (arith, fit.counts, slice_get_within arities f n e))

  mutual
    pub term_words : (t : Tree) → IsWellFormed arities t → IsBelow (2 ^ 64) t → HasWords (term_item k names t)
    term_words (var n) wf lt = variable_word k n lt
    term_words (app f nil) wf lt = symbol_is_word f 0 wf.0
    term_words (app f (cons t ts)) wf lt = (symbol_is_word f (count (cons t ts)) wf.0, terms_words (cons t ts) wf.1 lt)

    terms_words : (ts : Trees) → AreWellFormed arities ts → AreBelow (2 ^ 64) ts → AreWords (term_items k names ts)
    terms_words nil wf lt = tt
    terms_words (cons t ts) wf lt = (term_words t wf.0 lt.0, terms_words ts wf.1 lt.1)

  mutual
    -- lists are less deep than the term
    pub term_nesting : (t : Tree) → depth_of_item (term_item k names t) + 1 ≤ depth_of t
    term_nesting (var n) = omega arith
    term_nesting (app f nil) = omega arith
    term_nesting (app f (cons t ts)) = omega (arith, term_nesting t, terms_nesting ts, depth_pos t)

    terms_nesting : (ts : Trees) → nesting (term_items k names ts) ≤ depth_of_all ts - 1
    terms_nesting nil = omega arith
    terms_nesting (cons t ts) = omega (arith, term_nesting t, terms_nesting ts)
