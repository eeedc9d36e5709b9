-- What is printed of a system with names is read as this system.
use Rattle.std.proofs.Common.{◌≡◌, ℕ, ◌≤◌, List, [], codes, Some, None, Ok, refl, ap, ap₂, sym, ◌∙◌, arith}
use Rattle.sexp_core.specs.Tokens.{class_of}
use Rattle.sexp_core.specs.Items.{Item, Items, no_items, item}
use Rattle.sexp_core.specs.Reads.{Reads, fault_of}
use Rattle.sexp_core.specs.Printed.{lines, AreWords, nesting, bare, placeless}
use Rattle.sexp_core.proofs.Again.{read_again, reads_well}
use Rattle.sexp_core.proofs.Existence.{is_readable}
use Rattle.names_text.specs.Symbols.{paired, names_of, arities_of}
use Rattle.names_text.specs.Named.{NamedSystem, IsNamed}
use Rattle.names_text.specs.VariableNames.{underscores}
use Rattle.names_text.proofs.SymbolPairs.{names_paired, arities_paired}
use Rattle.names_text.proofs.PrintedNames.{symbol_word}
use Rattle.term_text.specs.Checked.{◌<*>◌}
use Rattle.term_text.proofs.OwnTermLaws.{fit_names}
use Rattle.term_text.proofs.PrintedTerms.{FitNames}
use Rattle.ari_text.specs.Rules.{rules_of}
use Rattle.ari_text.specs.Faults.{whole_room, all_declaration_faults, all_side_faults, symbols_of, faults_of}
use Rattle.ari_text.specs.Problem.{format_fault, problem_fault, with_names, system_of, SaysSystem}
use Rattle.ari_text.specs.PrintedProblem.{rule_items, symbol_items, format_item, problem_items}
use Rattle.ari_text.proofs.Placeless.{rules_bare, symbols_bare, declarations_bare, sides_bare, format_bare}
use Rattle.ari_text.proofs.PrintedItems.{AreGoodRules, good_rules, rules_read, rules_faultless, rules_counted, rules_words, rules_nesting, rules_declare, AreBytes, symbols_read, symbols_counted, symbols_faultless, no_rules, symbols_words, symbols_nesting, symbols_placeless}

abbrev printed_rules : NamedSystem → Items
printed_rules s = rule_items (underscores s.names) s.names s.system.rules

abbrev printed_later : NamedSystem → Items
printed_later s = symbol_items s.names s.system.arities (printed_rules s)

module _ (s : NamedSystem) (named : IsNamed s) (bytes : AreBytes s.system.arities) where
  fit : FitNames (underscores s.names) s.names s.system.arities
  fit = fit_names s named

  good : AreGoodRules s.system.arities s.system.rules
  good = good_rules s.system.arities s.system.rules named.valid.is_system.each named.valid.small_variables named.shallow named.numbered

  declared : symbols_of [] (printed_later s) ≡ paired s.names s.system.arities
  declared =
      symbols_read (printed_rules s) s.names s.system.arities [] named.counts bytes named.distinct
      ∙ rules_declare (underscores s.names) s.names (paired s.names s.system.arities) s.system.rules

  declarations_faultless : all_declaration_faults [] whole_room (printed_later s) ≡ []
  declarations_faultless =
      let limits = named.valid.within_limits in
      symbols_counted (printed_rules s) 4096 (Some 65536)
      (λ symbols funs. rules_counted (underscores s.names) s.names s.system.arities fit symbols funs 4096 65536 s.system.rules good (omega (arith, limits.rules)) limits.nodes)
      s.names s.system.arities [] 4096 named.counts bytes named.distinct (omega (arith, limits.symbols, named.counts))

  sides_faultless : all_side_faults (paired s.names s.system.arities) (printed_later s) ≡ []
  sides_faultless =
      symbols_faultless (printed_rules s) (paired s.names s.system.arities) s.names s.system.arities
      ∙ rules_faultless (underscores s.names) s.names s.system.arities fit s.system.rules good

  rules_printed : rules_of (paired s.names s.system.arities) (printed_later s) ≡ Ok s.system.rules
  rules_printed =
      no_rules (printed_rules s) (paired s.names s.system.arities) s.names s.system.arities
      ∙ rules_read (underscores s.names) s.names s.system.arities fit s.system.rules good

  words : AreWords (problem_items s)
  unfolding class_of
  words = (
    (symbol_word (codes "format") refl, (symbol_word (codes "TRS") refl, tt)),
    symbols_words (printed_rules s) s.names s.system.arities named.words bytes
        (rules_words (underscores s.names) s.names s.system.arities fit s.system.rules good),
  )

  is_shallow_enough : nesting (problem_items s) ≤ 300
  is_shallow_enough =
      omega (arith, symbols_nesting (printed_rules s) s.names s.system.arities (rules_nesting (underscores s.names) s.names s.system.arities fit s.system.rules good))

  -- ---- wherever the items stand

  symbols_again : (ys : Items) → placeless ys ≡ printed_later s → symbols_of [] ys ≡ paired s.names s.system.arities
  symbols_again ys e = sym (symbols_bare [] ys) ∙ ap (symbols_of []) e ∙ declared

  rules_again : (ys : Items) → placeless ys ≡ printed_later s → rules_of (symbols_of [] ys) ys ≡ Ok s.system.rules
  rules_again ys e =
      let table = paired s.names s.system.arities in
      ap (λ ss. rules_of ss ys) (symbols_again ys e) ∙ rules_bare table ys s.system.rules (ap (rules_of table) e ∙ rules_printed)

  system_again : (ys : Items) → placeless ys ≡ printed_later s → system_of ys ≡ Ok s
  system_again ys e =
      let make : List (List ℕ) → List ℕ → NamedSystem = λ ns as'. record { names = ns; system = record { arities = as'; rules = s.system.rules } } in
      let symbols = symbols_again ys e in
      ap (λ r. Ok (with_names (symbols_of [] ys)) <*> r) (rules_again ys e)
      ∙ ap (λ (n : NamedSystem). Ok n)
      (ap₂ make (ap names_of symbols ∙ names_paired s.names s.system.arities named.counts) (ap arities_of symbols ∙ arities_paired s.names s.system.arities named.counts))

  later_faultless : (ys : Items) → placeless ys ≡ printed_later s → faults_of ys ≡ []
  later_faultless ys e =
      let table = paired s.names s.system.arities in
      let sides : all_side_faults (symbols_of [] ys) ys ≡ [] =
      ap (λ ss. all_side_faults ss ys) (symbols_again ys e) ∙ sides_bare table ys (ap (all_side_faults table) e ∙ sides_faultless) in
      rw (declarations_bare ys (ap (all_declaration_faults [] whole_room) e ∙ declarations_faultless), sides, rules_again ys e) refl

  faultless_again : (y : Item) (ys : Items) → bare y ≡ format_item → placeless ys ≡ printed_later s → problem_fault (item y ys) ≡ None
  faultless_again y ys e f = rw (format_bare y (ap format_fault e), later_faultless ys f) refl

  says_items : (ys : Items) → Reads (lines (problem_items s)) ys → placeless ys ≡ problem_items s → fault_of 300 (lines (problem_items s)) ≡ None
      → SaysSystem (lines (problem_items s)) s
  says_items no_items reads e readable = absurd cc
  says_items (item y ys) reads e readable =
      let first : bare y ≡ format_item = cc in
      let rest : placeless ys ≡ printed_later s = cc in
      record {
        items = item y ys;
        reads = reads;
        readable = readable;
        faultless = faultless_again y ys first rest;
        system = system_again ys rest;
      }

  -- the printed text says the system
  pub says_printed : SaysSystem (lines (problem_items s)) s
  says_printed =
      let readable : fault_of 300 (lines (problem_items s)) ≡ None = reads_well 300 (problem_items s) words is_shallow_enough in
      let some = is_readable 300 (lines (problem_items s)) readable in
      says_items some.0 some.1
      (read_again (problem_items s) some.0 words some.1
      ∙ ap (item format_item) (symbols_placeless (underscores s.names) s.names s.system.rules s.names s.system.arities))
      readable
