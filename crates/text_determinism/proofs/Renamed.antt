-- Terms whose variables have other numbers: sizes and depths stay, and paths lead on.
use Rattle.std.specs.Prelude.{◌≡◌, ℕ, ◌&&◌, nat_le, List, [], ◌∷◌, Some, IsTrue}
use Rattle.std.proofs.Common.{ap, ap₂, sym, ◌∙◌}
use Rattle.trs_defs.specs.Tree.{Tree, var}
use Rattle.trs_defs.specs.Variable.{has_var}
use Rattle.trs_defs.specs.Size.{within_limits}
use Rattle.trs_defs.specs.Substitution.{apply}
use Rattle.trs_defs.specs.Position.{replaced_at}
use Rattle.trs_defs.specs.System.{RewriteRule}
use Rattle.trs_defs.specs.Path.{PlacedRule, StepsAt, Follows}
use Rattle.trs_defs.proofs.Substitutions.{apply_apply, same_values, same_instance}
use Rattle.trs_defs.proofs.NamedTerms.{size_named, depth_named, unchanged}
use Rattle.trs_defs.proofs.InstancePlaces.{subterm_image, replaced_image}

-- each variable by another
abbrev pub named : (ℕ → ℕ) → Tree → Tree
named f t = apply (λ v. var (f v)) t

-- a substitution that moves no variable of the term
pub not_moved : (σ : ℕ → Tree) (t : Tree) → ((v : ℕ) → IsTrue (has_var v t) → σ v ≡ var v) → apply σ t ≡ t
not_moved σ t h = same_instance σ (λ v. var v) t h ∙ unchanged t

-- two substitutions of which one undoes the other on a term
pub undone_at : (σ τ : ℕ → Tree) (t u : Tree) → apply σ t ≡ u → apply τ u ≡ t → (v : ℕ) → IsTrue (has_var v t) → apply τ (σ v) ≡ var v
undone_at σ τ t u e h v occurs =
    same_values (λ w. apply τ (σ w)) (λ w. var w) t v (sym (apply_apply τ σ t) ∙ (ap (apply τ) e ∙ (h ∙ sym (unchanged t)))) occurs

named_within : (f : ℕ → ℕ) (t : Tree) → within_limits (named f t) ≡ within_limits t
named_within f t = ap₂ (λ m n. nat_le m 65536 && nat_le n 1024) (size_named f t) (depth_named f t)

-- ---- paths

named_step : (rules : List RewriteRule) (f : ℕ → ℕ) (p : List ℕ) (k : ℕ) (t u : Tree) → StepsAt rules p k t u
    → StepsAt rules p k (named f t) (named f u)
named_step rules f p k t u s =
    let σ : ℕ → Tree = s.substitution in
    let left : named f (apply σ s.rule.left) ≡ apply (λ v. named f (σ v)) s.rule.left = apply_apply (λ v. var (f v)) σ s.rule.left in
    let right : named f (apply σ s.rule.right) ≡ apply (λ v. named f (σ v)) s.rule.right = apply_apply (λ v. var (f v)) σ s.rule.right in
    record {
      rule = s.rule;
      numbered = s.numbered;
      substitution = λ v. named f (σ v);
      from = subterm_image (λ v. var (f v)) p t (apply σ s.rule.left) s.from ∙ ap Some left;
      to = ap (replaced_at p (named f t)) (sym right) ∙ replaced_image (λ v. var (f v)) p t (apply σ s.rule.right) u s.to;
    }

pub named_path : (rules : List RewriteRule) (f : ℕ → ℕ) (path : List PlacedRule) (t u : Tree) → Follows rules path t u
    → Follows rules path (named f t) (named f u)
named_path rules f [] t u e = ap (named f) e
named_path rules f (s ∷ path) t u (m, step, small, rest) =
    (named f m, named_step rules f s.place s.rule t m step, named_within f m ∙ small, named_path rules f path m u rest)
