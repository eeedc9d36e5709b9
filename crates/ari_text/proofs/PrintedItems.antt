-- Printed symbols and rules, and what is read of them.
use Rattle.std.proofs.Common.{◌≡◌, ℕ, suc, ◌+◌, ◌-◌, ◌^◌, ◌<◌, ◌≤◌, true, false, not, ◌||◌, List, [], ◌∷◌, ◌++◌, length, Option, Some, None, option_map, Ok, slice_get, codes, decimal, nat_le, refl, ap, ap₂, sym, ◌∙◌, append_assoc, arith, is_some}
use Rattle.std.specs.List.{list_any, list_all, AllByRecursion}
use Rattle.std.specs.Str.{bytes_eq}
use Rattle.std.proofs.lemmas.Bool.{ne_eqb, le-leb, leb-true, and_parts, or_parts, or_from, not-true}
use Rattle.std.proofs.lemmas.Cmp.{nat_list_eq_equiv}
use Rattle.std.proofs.lemmas.List.{append-nil, map-append}
use Rattle.std.proofs.lemmas.List.Folds.{list_any-append}
use Rattle.sexp_core.specs.Tokens.{class_of}
use Rattle.sexp_core.specs.Items.{Item, a_word, Items, item}
use Rattle.sexp_core.specs.Printed.{AreWords, nesting, placeless}
use Rattle.trs_defs.specs.Tree.{Tree, var, app, nil, cons}
use Rattle.trs_defs.specs.Size.{size_of, depth_of}
use Rattle.trs_defs.specs.WellFormed.{IsWellFormed}
use Rattle.trs_defs.specs.System.{RewriteRule, IsRule}
use Rattle.trs_core.specs.SystemLimits.{HasSmallVariables, HaveSmallVariables, nodes_of as nodes_of_rules}
use Rattle.numerals.specs.Numerals.{digits_value}
use Rattle.numerals.proofs.Printed.{digits_read}
use Rattle.text_reading.proofs.Words.{decimal_word}
use Rattle.names_text.specs.declared.table.Symbol.{Symbol}
use Rattle.names_text.specs.Names.{are_distinct}
use Rattle.names_text.specs.Symbols.{Declared, paired, names_of, one_behind, symbol_named}
use Rattle.names_text.specs.Named.{is_word, is_shallow, is_numbered, next_number}
use Rattle.names_text.proofs.NumberedTerms.{has_below}
use Rattle.names_text.proofs.PrintedNames.{symbol_word, variables_to}
use Rattle.term_text.specs.Limits as text
use Rattle.term_text.specs.Limits.{nodes_of}
use Rattle.term_text.specs.PrintedTerm.{term_item}
use Rattle.term_text.proofs.Numbering.{IsBelow, below_from, next_numbered, below_numbered}
use Rattle.term_text.proofs.ReadTerms.{term_read}
use Rattle.term_text.proofs.PlacelessTerms.{term_placeless}
use Rattle.term_text.proofs.PrintedTerms.{FitNames, IsTermAgain, symbol_again, term_again, term_words, term_nesting}
use Rattle.ari_text.specs.Entries.{rewrites}
use Rattle.ari_text.specs.Rules.{rule, rules_of}
use Rattle.ari_text.specs.Faults.{left_faults, side_faults, all_side_faults, all_declaration_faults, with_symbol, symbols_of}
use Rattle.ari_text.specs.PrintedProblem.{three_members, rule_items, symbol_items}
use Rattle.ari_text.proofs.ReadRules.{shallow_side}

-- a printed arity is read again
pub arity_read : (a : ℕ) → a ≤ 255 → digits_value 255 (decimal a) ≡ Some a
arity_read a le = digits_read 255 a (omega arith) le

-- ---- rules

-- an item has the size and the depth of a term
record IsWritten (x : Item) (t : Tree) : Type 0 where
  size : size_of t ≡ nodes_of x
  deep : depth_of t ≡ text.depth_of x

-- a rule as a system with names has it
pub record IsGoodRule (arities : List ℕ) (r : RewriteRule) : Type 0 where
  pub is_rule : IsRule arities r
  pub shallow : is_shallow r ≡ true
  pub numbered : is_numbered r ≡ true
  pub small : HasSmallVariables r.left × HasSmallVariables r.right

abbrev pub AreGoodRules : List ℕ → List RewriteRule → Type 0
AreGoodRules arities [] = Unit {0}
AreGoodRules arities (r ∷ rs) = IsGoodRule arities r × AreGoodRules arities rs

pub good_rules : (arities : List ℕ) (rs : List RewriteRule) → ((i : ℕ) (r : RewriteRule) → slice_get rs i ≡ Some r → IsRule arities r)
    → HaveSmallVariables rs → list_all is_shallow rs ≡ true → list_all is_numbered rs ≡ true → AreGoodRules arities rs
good_rules arities [] each small shallow numbered = tt
good_rules arities (r ∷ rs) each small shallow numbered = (
  record {
    is_rule = each 0 r refl;
    shallow = (and_parts (is_shallow r) _ shallow).0;
    numbered = (and_parts (is_numbered r) _ numbered).0;
    small = small 0 r (omega arith);
  },
  good_rules arities rs (λ i q e. each (suc i) q e) (λ i d lt. small (suc i) d (omega arith)) (and_parts (is_shallow r) _ shallow).1 (and_parts (is_numbered r) _ numbered).1,
)

numbered_some : (o : Option ℕ) → is_some o ≡ true → (m : ℕ) × (o ≡ Some m)
numbered_some None e = absurd cc
numbered_some (Some m) e = (m, refl)

module _ (k : ℕ) (names : List (List ℕ)) (arities : List ℕ) (fit : FitNames k names arities) where
  abbrev table : List Declared
  table = paired names arities

  -- how both sides of a rule are read
  record IsRuleAgain (r : RewriteRule) : Type 0 where
    number : ℕ
    left_small : IsBelow (2 ^ 64) r.left
    right_small : IsBelow (2 ^ 64) r.right
    left : IsTermAgain true table [] (variables_to k number) (term_item k names r.left) r.left
    right : IsTermAgain false table (variables_to k number) (variables_to k number) (term_item k names r.right) r.right
    left_written : IsWritten (term_item k names r.left) r.left
    right_written : IsWritten (term_item k names r.right) r.right

  rule_again : (r : RewriteRule) → IsGoodRule arities r → IsRuleAgain r
  rule_again r g =
      let some = numbered_some (next_number 0 r.left) g.numbered in
      let left_small = below_from (2 ^ 64) r.left (λ v h. omega (arith, g.small.0 v h)) in
      let right_small = below_from (2 ^ 64) r.right (λ v h. omega (arith, g.small.1 v h)) in
      let right_below = below_from some.0 r.right (λ v h. has_below 0 r.left some.0 some.1 v (g.is_rule.variables v h)) in
      let left = term_again k names arities fit true r.left (term_item k names r.left) 0 some.0 g.is_rule.left_well_formed left_small (next_numbered 0 r.left some.0 some.1) (term_placeless k names r.left) in
      let right = term_again k names arities fit false r.right (term_item k names r.right) some.0 some.0 g.is_rule.right_well_formed right_small (below_numbered some.0 r.right right_below) (term_placeless k names r.right) in
      let a = term_read table true [] (term_item k names r.left) r.left left.read in
      let b = term_read table false (variables_to k some.0) (term_item k names r.right) r.right right.read in
      record {
        number = some.0;
        left_small = left_small;
        right_small = right_small;
        left = left;
        right = right;
        left_written = record { size = a.size; deep = a.deep };
        right_written = record { size = b.size; deep = b.deep };
      }

  -- the rule is read again
  rule_read : (r : RewriteRule) → IsGoodRule arities r → rule table (term_item k names r.left) (term_item k names r.right) ≡ Ok r
  rule_read r g = let a = rule_again r g in rw (a.left.read, a.left.names, a.right.read) refl

  left_faultless : (t : Tree) → IsWellFormed arities t → ((n : ℕ) × (t ≡ var n) → ⊥) → left_faults table (term_item k names t) ≡ []
  left_faultless (var n) wf ne = absurd (ne (n, refl))
  left_faultless (app f nil) wf ne = rw (symbol_again k names arities fit f 0 wf.0) refl
  left_faultless (app f (cons t ts)) wf ne = refl

  shallow_sides : (r : RewriteRule) → is_shallow r ≡ true → (depth_of r.left ≤ 256) × (depth_of r.right ≤ 256)
  shallow_sides r e =
      let parts = and_parts (nat_le (depth_of r.left) 256) (nat_le (depth_of r.right) 256) e in
      (leb-true (depth_of r.left) 256 parts.0, leb-true (depth_of r.right) 256 parts.1)

  sides_faultless : (r : RewriteRule) → IsGoodRule arities r → side_faults table (rewrites (term_item k names r.left) (term_item k names r.right)) ≡ []
  sides_faultless r g =
      let a = rule_again r g in
      let shallow = shallow_sides r g.shallow in
      let left = shallow_side 256 (term_item k names r.left) (omega (arith, a.left_written.deep, shallow.0)) in
      let right = shallow_side 256 (term_item k names r.right) (omega (arith, a.right_written.deep, shallow.1)) in
      rw (left_faultless r.left g.is_rule.left_well_formed g.is_rule.left_no_variable, left, right) refl

  -- all rules are read again
  pub rules_read : (rs : List RewriteRule) → AreGoodRules arities rs → rules_of table (rule_items k names rs) ≡ Ok rs
  rules_read [] g = refl
  rules_read (r ∷ rs) g = rw (rule_read r g.0, rules_read rs g.1) refl

  pub rules_faultless : (rs : List RewriteRule) → AreGoodRules arities rs → all_side_faults table (rule_items k names rs) ≡ []
  rules_faultless [] g = refl
  rules_faultless (r ∷ rs) g = rw (sides_faultless r g.0) (rules_faultless rs g.1)

  pub rules_counted : (declared : List Declared) (funs rules nodes : ℕ) (rs : List RewriteRule) → AreGoodRules arities rs → length rs < rules → nodes_of_rules rs ≤ nodes
      → all_declaration_faults declared (record { funs = funs; rules = rules; nodes = Some nodes }) (rule_items k names rs) ≡ []
  rules_counted declared funs rules nodes [] g lt le = refl
  rules_counted declared funs rules nodes (r ∷ rs) g lt le =
      let a = rule_again r g.0 in
      let n = nodes_of (term_item k names r.left) + nodes_of (term_item k names r.right) in
      let same : n ≡ size_of r.left + size_of r.right = omega (arith, a.left_written.size, a.right_written.size) in
      rw (ne_eqb rules 1 (λ e. absurd (omega arith)), le-leb n nodes (omega (arith, same)))
      (rules_counted declared funs (rules - 1) (nodes - n) rs g.1 (omega arith) (omega (arith, same)))

  pub rules_words : (rs : List RewriteRule) → AreGoodRules arities rs → AreWords (rule_items k names rs)
  unfolding class_of
  rules_words [] g = tt
  rules_words (r ∷ rs) g =
      let a = rule_again r g.0 in (
        (
          symbol_word (codes "rule") refl,
          (
            term_words k names arities fit r.left g.0.is_rule.left_well_formed a.left_small,
            (term_words k names arities fit r.right g.0.is_rule.right_well_formed a.right_small, tt),
          ),
        ),
        rules_words rs g.1,
      )

  pub rules_nesting : (rs : List RewriteRule) → AreGoodRules arities rs → nesting (rule_items k names rs) ≤ 300
  rules_nesting [] g = omega arith
  rules_nesting (r ∷ rs) g =
      omega (arith, shallow_sides r g.0.shallow, term_nesting k names arities fit r.left, term_nesting k names arities fit r.right, rules_nesting rs g.1)

pub rules_declare : (k : ℕ) (names : List (List ℕ)) (symbols : List Declared) (rs : List RewriteRule) → symbols_of symbols (rule_items k names rs) ≡ symbols
rules_declare k names symbols [] = refl
rules_declare k names symbols (r ∷ rs) = rules_declare k names symbols rs

-- ---- symbols

abbrev pub AreBytes : List ℕ → Type 0
AreBytes as' = AllByRecursion (λ a. a ≤ 255) as'

later_none : (o : Option Symbol) → o ≡ None → option_map one_behind o ≡ None
later_none None e = refl
later_none (Some s) e = absurd cc

no_symbol_named : (symbols : List Declared) (n : List ℕ) → list_any (bytes_eq n) (names_of symbols) ≡ false → symbol_named symbols n ≡ None
no_symbol_named [] n e = refl
no_symbol_named (s ∷ ss) n e =
    let parts = or_parts (bytes_eq n s.0) (list_any (bytes_eq n) (names_of ss)) e in
    rw parts.0 (later_none (symbol_named ss n) (no_symbol_named ss n parts.1))

-- a name that stands behind others and is distinct from them is none of them
new_behind : (xs : List (List ℕ)) (n : List ℕ) (ns : List (List ℕ)) → are_distinct (xs ++ n ∷ ns) ≡ true → list_any (bytes_eq n) xs ≡ false
new_behind [] n ns e = refl
new_behind (x ∷ xs) n ns e =
    let parts = and_parts (not (list_any (bytes_eq x) (xs ++ n ∷ ns))) (are_distinct (xs ++ n ∷ ns)) e in
    let none : (list_any (bytes_eq x) xs || list_any (bytes_eq x) (n ∷ ns)) ≡ false = sym (list_any-append (bytes_eq x) xs (n ∷ ns)) ∙ not-true _ parts.0 in
    let behind = (or_parts (list_any (bytes_eq x) xs) (list_any (bytes_eq x) (n ∷ ns)) none).1 in
    or_from (bytes_eq n x) (list_any (bytes_eq n) xs)
    (nat_list_eq_equiv.symm n x ∙ (or_parts (bytes_eq x n) (list_any (bytes_eq x) ns) behind).0) (new_behind xs n ns parts.1)

names_last : (symbols : List Declared) (n : List ℕ) (a : ℕ) (ns : List (List ℕ)) → names_of (symbols ++ (n, a) ∷ []) ++ ns ≡ names_of symbols ++ n ∷ ns
names_last symbols n a ns =
    ap (λ (xs : List (List ℕ)). xs ++ ns) (map-append (λ (s : Declared). s.0) symbols ((n, a) ∷ [])) ∙ append_assoc (names_of symbols) (n ∷ []) ns

declared_one : (symbols : List Declared) (n : List ℕ) (a : ℕ) → a ≤ 255 → list_any (bytes_eq n) (names_of symbols) ≡ false
    → with_symbol symbols n (symbol_named symbols n) (digits_value 255 (decimal a)) ≡ symbols ++ (n, a) ∷ []
declared_one symbols n a le e = rw (no_symbol_named symbols n e, arity_read a le) refl

module _ (more : Items) where
  -- the symbols are read again
  pub symbols_read : (ns : List (List ℕ)) (as' : List ℕ) (symbols : List Declared) → length ns ≡ length as' → AreBytes as'
      → are_distinct (names_of symbols ++ ns) ≡ true → symbols_of symbols (symbol_items ns as' more) ≡ symbols_of (symbols ++ paired ns as') more
  symbols_read [] as' symbols l b d = ap (λ ss. symbols_of ss more) (sym (append-nil symbols))
  symbols_read (n ∷ ns) [] symbols l b d = absurd (omega arith)
  symbols_read (n ∷ ns) (a ∷ as') symbols l b d =
      ap (λ ss. symbols_of ss (symbol_items ns as' more)) (declared_one symbols n a b.0 (new_behind (names_of symbols) n ns d))
      ∙ symbols_read ns as' (symbols ++ (n, a) ∷ []) (omega arith) b.1 (rw (names_last symbols n a ns) d)
      ∙ ap (λ ss. symbols_of ss more) (append_assoc symbols ((n, a) ∷ []) (paired ns as'))

  pub symbols_counted : (rules : ℕ) (nodes : Option ℕ)
      → ((symbols : List Declared) (funs : ℕ) → all_declaration_faults symbols (record { funs = funs; rules = rules; nodes = nodes }) more ≡ [])
      → (ns : List (List ℕ)) (as' : List ℕ) (symbols : List Declared) (funs : ℕ) → length ns ≡ length as' → AreBytes as'
      → are_distinct (names_of symbols ++ ns) ≡ true → length ns < funs
      → all_declaration_faults symbols (record { funs = funs; rules = rules; nodes = nodes }) (symbol_items ns as' more) ≡ []
  symbols_counted rules nodes h [] as' symbols funs l b d lt = h symbols funs
  symbols_counted rules nodes h (n ∷ ns) [] symbols funs l b d lt = absurd (omega arith)
  symbols_counted rules nodes h (n ∷ ns) (a ∷ as') symbols funs l b d lt =
      rw (ne_eqb funs 1 (λ e. absurd (omega arith)), no_symbol_named symbols n (new_behind (names_of symbols) n ns d), arity_read a b.0)
      (symbols_counted rules nodes h ns as' (symbols ++ (n, a) ∷ []) (funs - 1) (omega arith) b.1 (rw (names_last symbols n a ns) d) (omega arith))

  pub symbols_faultless : (declared : List Declared) (ns : List (List ℕ)) (as' : List ℕ) → all_side_faults declared (symbol_items ns as' more) ≡ all_side_faults declared more
  symbols_faultless declared [] as' = refl
  symbols_faultless declared (n ∷ ns) [] = refl
  symbols_faultless declared (n ∷ ns) (a ∷ as') = symbols_faultless declared ns as'

  pub no_rules : (declared : List Declared) (ns : List (List ℕ)) (as' : List ℕ) → rules_of declared (symbol_items ns as' more) ≡ rules_of declared more
  no_rules declared [] as' = refl
  no_rules declared (n ∷ ns) [] = refl
  no_rules declared (n ∷ ns) (a ∷ as') = no_rules declared ns as'

  pub symbols_words : (ns : List (List ℕ)) (as' : List ℕ) → list_all is_word ns ≡ true → AreBytes as' → AreWords more → AreWords (symbol_items ns as' more)
  unfolding class_of
  symbols_words [] as' e b h = h
  symbols_words (n ∷ ns) [] e b h = h
  symbols_words (n ∷ ns) (a ∷ as') e b h =
      let parts = and_parts (is_word n) (list_all is_word ns) e in
      ((symbol_word (codes "fun") refl, (symbol_word n parts.0, (decimal_word a (omega (arith, b.0)), tt))), symbols_words ns as' parts.1 b.1 h)

  pub symbols_nesting : (ns : List (List ℕ)) (as' : List ℕ) → nesting more ≤ 300 → nesting (symbol_items ns as' more) ≤ 300
  symbols_nesting [] as' h = h
  symbols_nesting (n ∷ ns) [] h = h
  symbols_nesting (n ∷ ns) (a ∷ as') h = omega (arith, symbols_nesting ns as' h)

-- ---- places

rules_placeless : (k : ℕ) (names : List (List ℕ)) (rs : List RewriteRule) → placeless (rule_items k names rs) ≡ rule_items k names rs
rules_placeless k names [] = refl
rules_placeless k names (r ∷ rs) =
    ap₂ item (ap₂ (three_members (codes "rule")) (term_placeless k names r.left) (term_placeless k names r.right)) (rules_placeless k names rs)

pub symbols_placeless : (k : ℕ) (names : List (List ℕ)) (rs : List RewriteRule) (ns : List (List ℕ)) (as' : List ℕ)
    → placeless (symbol_items ns as' (rule_items k names rs)) ≡ symbol_items ns as' (rule_items k names rs)
symbols_placeless k names rs [] as' = rules_placeless k names rs
symbols_placeless k names rs (n ∷ ns) [] = rules_placeless k names rs
symbols_placeless k names rs (n ∷ ns) (a ∷ as') =
    ap (item (three_members (codes "fun") (a_word n 0) (a_word (decimal a) 0))) (symbols_placeless k names rs ns as')
