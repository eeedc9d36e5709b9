-- Steps by their places and the numbers of their rules, and paths of them.
use Rattle.std.specs.Prelude.{◌≡◌, ℕ, List, [], ◌∷◌, Some, IsTrue, slice_get, refl}
use Rattle.std.specs.Coded.{Coded, code_by, coded×, coded_list, coded_ℕ}
use Rattle.trs_defs.specs.Tree.{Tree}
use Rattle.trs_defs.specs.Size.{within_limits}
use Rattle.trs_defs.specs.Substitution.{apply}
use Rattle.trs_defs.specs.Position.{subterm_at, replaced_at}
use Rattle.trs_defs.specs.System.{RewriteRule}

-- a position in a term, and the number of a rule
pub record PlacedRule : Type 0 where
  pub place : List ℕ
  pub rule : ℕ

-- rule number k leads from t to u at the position p (Baader and Nipkow, definition 3.1.8)
pub record StepsAt (rules : List RewriteRule) (p : List ℕ) (k : ℕ) (t u : Tree) : Type 0 where
  pub rule : RewriteRule
  pub numbered : slice_get rules k ≡ Some rule
  pub substitution : ℕ → Tree
  pub from : subterm_at p t ≡ Some (apply substitution rule.left)
  pub to : replaced_at p t (apply substitution rule.right) ≡ Some u

-- the steps of the path lead from t to v, and each term that they make keeps the limits
abbrev pub Follows : List RewriteRule → List PlacedRule → Tree → Tree → Type 0
Follows rules [] t v = t ≡ v
Follows rules (s ∷ path) t v =
    (u : Tree) × StepsAt rules s.place s.rule t u × IsTrue (within_limits u) × Follows rules path u v

-- it is stored as the pair of its fields
abbrev pub placed_code : Coded PlacedRule
placed_code =
    code_by (List ℕ × ℕ) (coded× (coded_list coded_ℕ) coded_ℕ) (λ s. (s.place, s.rule)) (λ p. record { place = p.0; rule = p.1 })
    (λ _. refl)
