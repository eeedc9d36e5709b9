-- How many rules and nodes items have, where no item is too many.
use Rattle.std.proofs.Common.{◌≡◌, ◌≢◌, ℕ, ◌+◌, ◌-◌, ◌≤◌, ◌==◌, ◌||◌, Bool, true, false, not, cond, nat_le, List, [], ◌∷◌, length, Some, Ok, refl, subst, arith}
use Rattle.std.proofs.lemmas.Bool.{eqb-false, leb-true, or_parts, not-false}
use Rattle.sexp_core.specs.Items.{Items, no_items, item}
use Rattle.trs_defs.specs.Size.{size_of}
use Rattle.trs_defs.specs.System.{RewriteRule}
use Rattle.trs_core.specs.SystemLimits.{nodes_of as nodes_of_rules}
use Rattle.text_reading.specs.Reading.{place_of}
use Rattle.names_text.specs.Symbols.{Declared}
use Rattle.term_text.specs.Checked.{Checked}
use Rattle.term_text.specs.Terms.{variables_after}
use Rattle.term_text.specs.Limits.{nodes_of, nodes_left}
use Rattle.term_text.proofs.CheckedParts.{ok_same}
use Rattle.term_text.proofs.ReadTerms.{term_read}
use Rattle.ari_text.specs.declared.fault.AriFault.TheVariants.{TooMany, Attribute}
use Rattle.ari_text.specs.Entries.{Saying, declares, rewrites, attributed, says_nothing, entry_of}
use Rattle.ari_text.specs.Rules.{both_sides, with_rule, rules_of}
use Rattle.ari_text.specs.Faults.{Room, declaration_faults, symbols_after, room_after, passes, count_faults, all_declaration_faults}
use Rattle.ari_text.proofs.NoFaults.{none_last, none_of_items}
use Rattle.ari_text.proofs.ReadRules.{is_next}

-- ---- the rules within a room

pub record RulesFit (room : Room) (rules : List RewriteRule) : Type 0 where
  pub count : length rules + 1 ≤ room.rules
  pub nodes : (n : ℕ) → room.nodes ≡ Some n → nodes_of_rules rules ≤ n

not_many : (b : Bool) (at : ℕ) → cond b (TooMany at ∷ []) [] ≡ [] → b ≡ false
not_many true at e = absurd cc
not_many false at e = refl

room_left : (size n m : ℕ) → nat_le size n ≡ true → (m ≡ n - size) → nodes_left size (Some n) ≡ Some m
room_left size n m e is = rw (e, is) refl

-- the next rule, and those behind it
one_fits : (room : Room) (size : ℕ) (r : RewriteRule) (rules : List RewriteRule) → size_of r.left + size_of r.right ≤ size → room.rules ≢ 1 → 1 ≤ room.rules → passes size room.nodes ≡ false
    → RulesFit (record room { rules = room.rules - 1; nodes = nodes_left size room.nodes }) rules → RulesFit room (r ∷ rules)
one_fits room size r rules le ne more pass h = record {
  count = let c = h.count in omega arith;
  nodes = λ n is.
      let within : not (nat_le size n) ≡ false = rw is at pass in
      let fits : nat_le size n ≡ true = not-false (nat_le size n) within in
      let left : nodes_left size room.nodes ≡ Some (n - size) = rw is (room_left size n (n - size) fits refl) in
      omega (arith, leb-true size n fits, h.nodes (n - size) left);
}

rules_with : (symbols declared : List Declared) (room : Room) (at : ℕ) (s : Saying) (more : Checked (List RewriteRule)) (rules : List RewriteRule) → count_faults room at s ≡ []
    → declaration_faults declared at s ≡ [] → 1 ≤ room.rules → with_rule symbols s more ≡ Ok rules
    → ((others : List RewriteRule) → more ≡ Ok others → 1 ≤ (room_after room s).rules → RulesFit (room_after room s) others) → RulesFit room rules
rules_with symbols declared room at (declares name q arity r) more rules e f le is h = let k = h rules is le in record { count = k.count; nodes = k.nodes }
rules_with symbols declared room at (rewrites left right) more rules e f le is h =
    let size = nodes_of left + nodes_of right in
    let parts = or_parts (room.rules == 1) (passes size room.nodes) (not_many (room.rules == 1 || passes size room.nodes) at e) in
    let ne : room.rules ≢ 1 = eqb-false room.rules 1 parts.0 in
    let n = is_next symbols left right more rules is in
    let variables = variables_after true symbols [] left in
    let a = term_read symbols true [] left n.l n.is_left in
    let b = term_read symbols false variables right n.r n.is_right in
    let P : List RewriteRule → Type 0 = RulesFit room in
    subst P n.made (one_fits room size (both_sides n.l n.r) n.others (omega (arith, a.size, b.size)) ne le parts.1 (h n.others n.behind (omega arith)))
rules_with symbols declared room at (attributed s q) more rules e f le is h = absurd (none_last (declaration_faults declared at s) (Attribute q) f)
rules_with symbols declared room at says_nothing more rules e f le is h = absurd cc

pub rules_fit : (symbols declared : List Declared) (room : Room) (xs : Items) (rules : List RewriteRule) → all_declaration_faults declared room xs ≡ [] → 1 ≤ room.rules
    → rules_of symbols xs ≡ Ok rules → RulesFit room rules
rules_fit symbols declared room no_items rules e le is =
    let P : List RewriteRule → Type 0 = RulesFit room in
    subst P (ok_same [] rules is) (record { count = omega arith; nodes = λ n is. omega arith })
rules_fit symbols declared room (item x xs) rules e le is =
    let none = none_of_items declared room x xs e in
    rules_with symbols declared room (place_of x) (entry_of x) (rules_of symbols xs) rules none.counted none.declared le is
    (λ others read more. rules_fit symbols (symbols_after declared (entry_of x)) (room_after room (entry_of x)) xs others none.others more read)
