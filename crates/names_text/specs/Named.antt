-- Systems whose symbols have names.
use Rattle.std.specs.Prelude.{◌≡◌, ℕ, suc, ◌==◌, ◌&&◌, nat_lt, nat_le, Bool, true, false, List, [], ◌∷◌, length, Option, Some, None, is_some, refl, if◌then◌else◌}
use Rattle.std.specs.Coded.{Coded, code_by, coded×, coded_list, coded_ℕ}
use Rattle.std.specs.List.{list_all}
use Rattle.std.specs.Option.{option_and_then}
use Rattle.sexp_core.specs.Tokens.{class_of, is_letter}
use Rattle.trs_defs.specs.Tree.{Tree, Trees, var, app, nil, cons}
use Rattle.trs_defs.specs.Size.{depth_of}
use Rattle.trs_defs.specs.System.{RewriteRule, System, system_code}
use Rattle.trs_core.specs.Valid.{IsValid}
use Rattle.names_text.specs.Names.{are_distinct}
use Rattle.names_text.specs.Symbols.{Declared, paired}

pub record NamedSystem : Type 0 where
  pub names : List (List ℕ)
  pub system : System

-- its symbols: their names and arities
abbrev pub table_of : NamedSystem → List Declared
table_of s = paired s.names s.system.arities

-- a word of a text: not empty, and each byte may stand in a word
abbrev pub is_word : List ℕ → Bool
is_word [] = false
is_word (b ∷ bs) = list_all (λ x. is_letter (class_of x)) (b ∷ bs)

-- both sides are at most 256 deep
abbrev pub is_shallow : RewriteRule → Bool
is_shallow r = nat_le (depth_of r.left) 256 && nat_le (depth_of r.right) 256

-- Variables are numbered in the order of their first occurrences: each is one that came before, or has the next number.
-- The next number behind a term, or none where a variable is out of order.
abbrev mutual
  pub next_number : ℕ → Tree → Option ℕ
  next_number k (var n) = if nat_lt n k then Some k else (if n == k then Some (suc k) else None)
  next_number k (app f ts) = next_number_behind k ts

  pub next_number_behind : ℕ → Trees → Option ℕ
  next_number_behind k nil = Some k
  next_number_behind k (cons t ts) = option_and_then (λ m. next_number_behind m ts) (next_number k t)

abbrev pub is_numbered : RewriteRule → Bool
is_numbered r = is_some (next_number 0 r.left)

-- each symbol has a name of its own, and the rules are as a problem text can write them
pub record IsNamed (s : NamedSystem) : Type 0 where
  pub counts : length s.names ≡ length s.system.arities
  pub words : list_all is_word s.names ≡ true
  pub distinct : are_distinct s.names ≡ true
  pub valid : IsValid s.system
  pub shallow : list_all is_shallow s.system.rules ≡ true
  pub numbered : list_all is_numbered s.system.rules ≡ true

-- it is stored as the pair of its fields
abbrev pub named_code : Coded NamedSystem
named_code =
    code_by (List (List ℕ) × System) (coded× (coded_list (coded_list coded_ℕ)) system_code) (λ s. (s.names, s.system))
    (λ p. record { names = p.0; system = p.1 }) (λ _. refl)
