-- A text with no faults says a system whose symbols have names.
use Rattle.std.proofs.Common.{◌≡◌, ℕ, zero, suc, ◌≤◌, true, nat_le, List, [], ◌∷◌, length, Option, Some, None, Ok, Err, slice_get, refl, subst, arith}
use Rattle.std.specs.List.{list_all, AllByRecursion}
use Rattle.std.specs.Option.{is_some, option_or}
use Rattle.std.proofs.lemmas.Bool.{and_from, and_parts, leb-true}
use Rattle.std.proofs.lemmas.List.{length-map}
use Rattle.std.proofs.lemmas.List.Elements.{All-from_recursion}
use Rattle.sexp_core.specs.Items.{Items, no_items, item}
use Rattle.sexp_core.specs.Reads.{Reads}
use Rattle.sexp_core.specs.Printed.{AreWords}
use Rattle.sexp_core.proofs.Words.{words_of_reading}
use Rattle.trs_defs.specs.Size.{size_of, depth_of}
use Rattle.trs_defs.specs.System.{RewriteRule}
use Rattle.trs_core.specs.SystemLimits.{IsShallow, HasSmallVariables, nodes_of as nodes_of_rules}
use Rattle.names_text.specs.Symbols.{Declared}
use Rattle.names_text.specs.Named.{NamedSystem, IsNamed, is_shallow, is_numbered, next_number}
use Rattle.names_text.proofs.SymbolTables.{same_count}
use Rattle.names_text.proofs.NumberedTerms.{numbers_grow, has_below}
use Rattle.term_text.specs.Checked.{Checked, ◌<*>◌}
use Rattle.term_text.proofs.CheckedParts.{ok_same}
use Rattle.ari_text.specs.declared.fault.AriFault.{AriFault}
use Rattle.ari_text.specs.Entries.{Saying, declares, rewrites, attributed, says_nothing, entry_of}
use Rattle.ari_text.specs.Rules.{with_rule, rules_of}
use Rattle.ari_text.specs.Least.{noted}
use Rattle.ari_text.specs.Faults.{deep_faults, left_faults, side_faults, all_side_faults, symbols_of, whole_room, all_declaration_faults, faults_of}
use Rattle.ari_text.specs.Problem.{format_fault, problem_fault, later_items, with_names, system_of, SaysSystem}
use Rattle.ari_text.proofs.Leasts.{is_none}
use Rattle.ari_text.proofs.NoFaults.{none_of, no_symbols, are_symbols, symbols_length}
use Rattle.ari_text.proofs.ReadRules.{IsGood, good_sides, is_next}
use Rattle.ari_text.proofs.RuleCounts.{rules_fit}

-- ---- rules

good_with : (symbols : List Declared) (s : Saying) (more : Checked (List RewriteRule)) (rules : List RewriteRule) → side_faults symbols s ≡ [] → with_rule symbols s more ≡ Ok rules
    → ((others : List RewriteRule) → more ≡ Ok others → AllByRecursion (IsGood symbols) others) → AllByRecursion (IsGood symbols) rules
good_with symbols (declares name q arity r) more rules e is h = h rules is
good_with symbols (rewrites left right) more rules e is h =
    let parts = none_of (left_faults symbols left) _ e in
    let deep = none_of (deep_faults 256 left) _ parts.1 in
    let n = is_next symbols left right more rules is in
    let P : List RewriteRule → Type 0 = AllByRecursion (IsGood symbols) in
    subst P n.made (good_sides symbols left right n.l n.r n.is_left n.is_right parts.0 deep.0 deep.1, h n.others n.behind)
good_with symbols (attributed s at) more rules e is h = good_with symbols s more rules e is h
good_with symbols says_nothing more rules e is h = h rules is

good_rules : (symbols : List Declared) (xs : Items) (rules : List RewriteRule) → all_side_faults symbols xs ≡ [] → rules_of symbols xs ≡ Ok rules → AllByRecursion (IsGood symbols) rules
good_rules symbols no_items rules e is =
    let P : List RewriteRule → Type 0 = AllByRecursion (IsGood symbols) in
    subst P (ok_same [] rules is) tt
good_rules symbols (item x xs) rules e is =
    let parts = none_of (side_faults symbols (entry_of x)) _ e in
    good_with symbols (entry_of x) (rules_of symbols xs) rules parts.0 is (λ others read. good_rules symbols xs others parts.1 read)

module _ (symbols : List Declared) where
  good_at : (rules : List RewriteRule) (k : ℕ) (r : RewriteRule) → AllByRecursion (IsGood symbols) rules → slice_get rules k ≡ Some r → IsGood symbols r
  good_at [] k r h e = absurd cc
  good_at (q ∷ rules) zero r h e = let same : q ≡ r = cc in rw same at (h.0)
  good_at (q ∷ rules) (suc k) r h e = good_at rules k r h.1 e

  all_shallow : (rules : List RewriteRule) → AllByRecursion (IsGood symbols) rules → list_all is_shallow rules ≡ true
  all_shallow [] h = refl
  all_shallow (r ∷ rules) h = and_from (is_shallow r) (list_all is_shallow rules) h.0.shallow (all_shallow rules h.1)

  all_numbered : (rules : List RewriteRule) → AllByRecursion (IsGood symbols) rules → list_all is_numbered rules ≡ true
  all_numbered [] h = refl
  all_numbered (r ∷ rules) h = and_from (is_numbered r) (list_all is_numbered rules) h.0.numbered (all_numbered rules h.1)

-- ---- limits

is_some_some : (o : Option ℕ) → is_some o ≡ true → (n : ℕ) × (o ≡ Some n)
is_some_some None e = absurd cc
is_some_some (Some n) e = (n, refl)

shallow_rule : (r : RewriteRule) → is_shallow r ≡ true → IsShallow r
shallow_rule r e =
    let parts = and_parts (nat_le (depth_of r.left) 256) (nat_le (depth_of r.right) 256) e in
    (omega (arith, leb-true (depth_of r.left) 256 parts.0), omega (arith, leb-true (depth_of r.right) 256 parts.1))

shallow_rules : (symbols : List Declared) (rules : List RewriteRule) → AllByRecursion (IsGood symbols) rules → AllByRecursion IsShallow rules
shallow_rules symbols [] h = tt
shallow_rules symbols (r ∷ rules) h = (shallow_rule r h.0.shallow, shallow_rules symbols rules h.1)

-- the variables of a numbered rule have numbers below the size of its left side
small_rule : (symbols : List Declared) (r : RewriteRule) → IsGood symbols r → size_of r.left ≤ 65536 → HasSmallVariables r.left × HasSmallVariables r.right
small_rule symbols r h le =
    let next = is_some_some (next_number 0 r.left) h.numbered in
    let most = (numbers_grow 0 r.left next.0 next.1).1 in
    let small : HasSmallVariables r.left = λ v has. omega (arith, has_below 0 r.left next.0 next.1 v has) in
    (small, λ v has. small v (h.is_rule.variables v has))

small_rules : (symbols : List Declared) (rules : List RewriteRule) → AllByRecursion (IsGood symbols) rules → nodes_of_rules rules ≤ 65536
    → AllByRecursion (λ r. HasSmallVariables r.left × HasSmallVariables r.right) rules
small_rules symbols [] h le = tt
small_rules symbols (r ∷ rules) h le = (small_rule symbols r h.0 (omega arith), small_rules symbols rules h.1 (omega arith))

-- ---- the system

-- items that are words and lists of words and have none of the faults
pub record IsFaultless (items : Items) : Type 0 where
  pub words : AreWords items
  pub declarations : all_declaration_faults [] whole_room items ≡ []
  pub sides : all_side_faults (symbols_of [] items) items ≡ []

pub few_symbols : (items : Items) → IsFaultless items → length (symbols_of [] items) ≤ 4095
few_symbols items h = omega (arith, symbols_length [] whole_room items h.declarations (omega arith))

named_with : (items : Items) (rules : List RewriteRule) → IsFaultless items → rules_of (symbols_of [] items) items ≡ Ok rules → IsNamed (with_names (symbols_of [] items) rules)
named_with items rules h is =
    let symbols = symbols_of [] items in
    let tables = are_symbols [] items h.words no_symbols in
    let good = good_rules symbols items rules h.sides is in
    let fit = rules_fit symbols [] whole_room items rules h.declarations (omega arith) is in
    let nodes : nodes_of_rules rules ≤ 65536 = fit.nodes 65536 refl in
    record {
      counts = same_count symbols;
      words = tables.words;
      distinct = tables.distinct;
      valid = record {
        is_system = record { each = λ k r e. (good_at symbols rules k r good e).is_rule };
        within_limits = record {
          symbols = omega (arith, few_symbols items h, length-map symbols (λ (s : Declared). s.1));
          rules = omega (arith, fit.count);
          nodes = nodes;
          shallow = All-from_recursion IsShallow rules (shallow_rules symbols rules good);
        };
        small_variables = All-from_recursion (λ r. HasSmallVariables r.left × HasSmallVariables r.right) rules (small_rules symbols rules good nodes);
      };
      shallow = all_shallow symbols rules good;
      numbered = all_numbered symbols rules good;
    }

is_named : (items : Items) (r : Checked (List RewriteRule)) (named : NamedSystem) → IsFaultless items → rules_of (symbols_of [] items) items ≡ r
    → Ok (with_names (symbols_of [] items)) <*> r ≡ Ok named → IsNamed named
is_named items (Ok rules) named h is e = subst IsNamed (ok_same (with_names (symbols_of [] items) rules) named e) (named_with items rules h is)
is_named items (Err ps) named h is e = absurd cc

no_format_fault : (o p : Option AriFault) → option_or o p ≡ None → p ≡ None
no_format_fault None p e = e
no_format_fault (Some f) p e = absurd cc

pub faultless : (text : List ℕ) (items : Items) → Reads text items → problem_fault items ≡ None → IsFaultless (later_items items)
faultless text no_items reads e = absurd cc
faultless text (item x xs) reads e =
    let none : faults_of xs ≡ [] = is_none (faults_of xs) (no_format_fault (format_fault x) (noted None (faults_of xs)) e) in
    let parts = none_of (all_declaration_faults [] whole_room xs) _ none in
    record {
      words = (words_of_reading text (item x xs) reads).1;
      declarations = parts.0;
      sides = (none_of (all_side_faults (symbols_of [] xs) xs) _ parts.1).0;
    }

-- what a text with none of the faults says has names
pub named_of_faultless : (text : List ℕ) (items : Items) (named : NamedSystem) → Reads text items → problem_fault items ≡ None → system_of (later_items items) ≡ Ok named → IsNamed named
named_of_faultless text items named reads e is =
    is_named (later_items items) (rules_of (symbols_of [] (later_items items)) (later_items items)) named (faultless text items reads e) refl is

pub says_named : (text : List ℕ) (named : NamedSystem) → SaysSystem text named → IsNamed named
says_named text named h = named_of_faultless text h.items named h.reads h.faultless h.system
