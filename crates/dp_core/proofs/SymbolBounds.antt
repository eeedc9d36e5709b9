-- The symbols of well-formed terms and of the rules of a system are those of the arity table.
use Rattle.std.specs.Prelude.{◌<◌, ℕ, List, [], ◌∷◌, ◌++◌, length}
use Rattle.std.proofs.Common.{inl, inr, arith}
use Rattle.std.proofs.lemmas.Option.{slice_get_within}
use Rattle.trs_defs.specs.Member.{In, in_first, in_rest}
use Rattle.trs_defs.proofs.Members.{in_or, no_in, in_either, get_of_in}
use Rattle.trs_defs.specs.Tree.{Tree, Trees, var, app, nil, cons, count}
use Rattle.trs_defs.specs.WellFormed.{IsWellFormed, AreWellFormed}
use Rattle.trs_defs.specs.System.{RewriteRule, System, IsSystem}
use Rattle.dp_core.specs.Symbols.{symbols_of, symbols_of_all, symbols_of_rules}

module _ (arities : List ℕ) where
  mutual
    symbol_within : (t : Tree) → IsWellFormed arities t → (f : ℕ) → In f (symbols_of t) → f < length arities
    symbol_within (var x) well f i = absurd (no_in i)
    symbol_within (app g ts) well f i = elim (in_or i) [
      | inl same ↦ (let h = slice_get_within arities g (count ts) well.0 in omega (arith, h, same))
      | inr below ↦ symbol_within_all ts well.1 f below
    ]

    pub symbol_within_all : (ts : Trees) → AreWellFormed arities ts → (f : ℕ) → In f (symbols_of_all ts) → f < length arities
    symbol_within_all nil well f i = absurd (no_in i)
    symbol_within_all (cons t ts) well f i = elim (in_either (symbols_of t) (symbols_of_all ts) i) [
      | inl here ↦ symbol_within t well.0 f here
      | inr later ↦ symbol_within_all ts well.1 f later
    ]

  pub symbols_within : (rules : List RewriteRule) → ((r : RewriteRule) → In r rules → IsWellFormed arities r.left × IsWellFormed arities r.right)
      → (f : ℕ) → In f (symbols_of_rules rules) → f < length arities
  symbols_within [] well f i = absurd (no_in i)
  symbols_within (r ∷ rules) well f i = elim (in_either (symbols_of r.left ++ symbols_of r.right) (symbols_of_rules rules) i) [
    | inl here ↦ elim (in_either (symbols_of r.left) (symbols_of r.right) here) [
      | inl left ↦ symbol_within r.left (well r in_first).0 f left
      | inr right ↦ symbol_within r.right (well r in_first).1 f right
    ]
    | inr later ↦ symbols_within rules (λ s j. well s (in_rest j)) f later
  ]

pub rule_well : (system : System) → IsSystem system → (r : RewriteRule) → In r system.rules → IsWellFormed system.arities r.left × IsWellFormed system.arities r.right
rule_well system valid r i =
    let (k, at) = get_of_in i in
    let rule = valid.each k r at in
    (rule.left_well_formed, rule.right_well_formed)

pub system_symbols : (system : System) → IsSystem system → (f : ℕ) → In f (symbols_of_rules system.rules) → f < length system.arities
system_symbols system valid = symbols_within system.arities system.rules (rule_well system valid)
