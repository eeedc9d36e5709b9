-- Closures that differ in the numbers of their variables alone, and loop at one place.
use Rattle.std.specs.Prelude.{◌≡◌, ◌⊎◌, ℕ, Bool, ◌||◌, List, [], ◌∷◌, Some, IsTrue, refl}
use Rattle.std.proofs.Common.{ap, sym, ◌∙◌, subst, inl, inr, arith}
use Rattle.std.proofs.lemmas.Bool.{or_cases}
use native.Mathlib.Decide.{dec_lt}
use Rattle.trs_defs.specs.Tree.{Tree, var, app}
use Rattle.trs_defs.specs.Variable.{has_var}
use Rattle.trs_defs.specs.Substitution.{apply}
use Rattle.trs_defs.specs.Position.{subterm_at}
use Rattle.trs_defs.specs.System.{RewriteRule}
use Rattle.trs_defs.specs.Path.{Follows}
use Rattle.trs_defs.proofs.Substitutions.{apply_apply, same_instance}
use Rattle.term_pool.specs.Redexes.{IsEarlier}
use Rattle.loop_find.specs.Closures.{Closure}
use Rattle.loop_find.specs.LoopRow.{Recurs, RecursFirst, LoopsAt, LoopsNot}
use Rattle.trs_defs.proofs.InstancePlaces.{subterm_image}
use Rattle.trs_defs.proofs.NamedTerms.{unchanged}
use Rattle.text_determinism.proofs.Renamed.{named, undone_at, named_path}

pub record AreVariants (c d : Closure) : Type 0 where
  pub to : ℕ → ℕ
  pub back : ℕ → ℕ
  pub left_to : named to c.left ≡ d.left
  pub right_to : named to c.right ≡ d.right
  pub left_back : named back d.left ≡ c.left
  pub right_back : named back d.right ≡ c.right
  pub path : c.path ≡ d.path

pub same_variant : (c : Closure) → AreVariants c c
same_variant c = record {
  to = λ v. v;
  back = λ v. v;
  left_to = unchanged c.left;
  right_to = unchanged c.right;
  left_back = unchanged c.left;
  right_back = unchanged c.right;
  path = refl;
}

pub variant_back : (c d : Closure) → AreVariants c d → AreVariants d c
variant_back c d v = record {
  to = v.back;
  back = v.to;
  left_to = v.left_back;
  right_to = v.right_back;
  left_back = v.left_to;
  right_back = v.right_to;
  path = sym v.path;
}

-- ---- from substitutions that lead there and back

name_of : Tree → ℕ
name_of (var v) = v
name_of (app f ts) = 0

is_name : (τ : ℕ → Tree) (v : ℕ) (t : Tree) → apply τ t ≡ var v → var (name_of t) ≡ t
unfolding name_of
is_name τ v (var w) e = refl
is_name τ v (app f ts) e = absurd cc

named_by : (σ τ : ℕ → Tree) (t u : Tree) → apply σ t ≡ u → apply τ u ≡ t → named (λ v. name_of (σ v)) t ≡ u
named_by σ τ t u e h = same_instance (λ v. var (name_of (σ v))) σ t (λ v occurs. is_name τ v (σ v) (undone_at σ τ t u e h v occurs)) ∙ e

pub variants_by : (c d : Closure) (σ τ : ℕ → Tree) → apply σ c.left ≡ d.left → apply σ c.right ≡ d.right
    → apply τ d.left ≡ c.left → apply τ d.right ≡ c.right → c.path ≡ d.path → AreVariants c d
variants_by c d σ τ left_to right_to left_back right_back path = record {
  to = λ v. name_of (σ v);
  back = λ v. name_of (τ v);
  left_to = named_by σ τ c.left d.left left_to left_back;
  right_to = named_by σ τ c.right d.right right_to right_back;
  left_back = named_by τ σ d.left c.left left_back left_to;
  right_back = named_by τ σ d.right c.right right_back right_to;
  path = path;
}

-- ---- the names there and back undo each other on the variables

abbrev pub occurs_in : Closure → ℕ → Bool
occurs_in c v = has_var v c.left || has_var v c.right

same_name : (v w : ℕ) → var v ≡ var w → v ≡ w
same_name v w e = cc

pub there_again : (c d : Closure) (h : AreVariants c d) (v : ℕ) → IsTrue (occurs_in d v) → h.to (h.back v) ≡ v
there_again c d h v occurs = elim (or_cases (has_var v d.left) (has_var v d.right) occurs) [
  | inl k ↦ same_name (h.to (h.back v)) v (undone_at (λ w. var (h.back w)) (λ w. var (h.to w)) d.left c.left h.left_back h.left_to v k)
  | inr k ↦ same_name (h.to (h.back v)) v (undone_at (λ w. var (h.back w)) (λ w. var (h.to w)) d.right c.right h.right_back h.right_to v k)
]

-- ---- loops

variant_runs : (rules : List RewriteRule) (c d : Closure) → AreVariants c d → Follows rules c.path c.left c.right
    → Follows rules d.path d.left d.right
variant_runs rules c d v h =
    let moved : Follows rules c.path (named v.to c.left) (named v.to c.right) = named_path rules v.to c.path c.left c.right h in
    let from : Follows rules c.path d.left (named v.to c.right) = subst (λ z. Follows rules c.path z (named v.to c.right)) v.left_to moved in
    let to : Follows rules c.path d.left d.right = subst (λ z. Follows rules c.path d.left z) v.right_to from in
    subst (λ p. Follows rules p d.left d.right) v.path to

variant_recurs : (c d : Closure) → AreVariants c d → (p : List ℕ) → Recurs c.left c.right p → Recurs d.left d.right p
variant_recurs c d v p (part, there, (s, is)) =
    let before : apply (λ w. s (v.back w)) d.left ≡ part = sym (apply_apply s (λ w. var (v.back w)) d.left) ∙ (ap (apply s) v.left_back ∙ is) in
    let at : subterm_at p d.right ≡ Some (named v.to part) =
    ap (subterm_at p) (sym v.right_to) ∙ subterm_image (λ w. var (v.to w)) p c.right part there in (
      named v.to part,
      at,
      (λ w. named v.to (s (v.back w)), sym (apply_apply (λ w. var (v.to w)) (λ w. s (v.back w)) d.left) ∙ ap (named v.to) before),
    )

pub variant_loops : (rules : List RewriteRule) (c d : Closure) → AreVariants c d → (p : List ℕ) → LoopsAt rules c p → LoopsAt rules d p
variant_loops rules c d v p h = record {
  runs = variant_runs rules c d v h.runs;
  returns = record {
    recurs = variant_recurs c d v p h.returns.recurs;
    first = λ q earlier k. h.returns.first q earlier (variant_recurs d c (variant_back c d v) q k);
  };
}

pub variant_loops_not : (rules : List RewriteRule) (c d : Closure) → AreVariants c d → LoopsNot rules c → (p : List ℕ) → LoopsAt rules d p → ⊥
variant_loops_not rules c d v none p h = none p (variant_loops rules d c (variant_back c d v) p h)

-- ---- one place is the first

in_some_order : (p q : List ℕ) → (p ≡ q) ⊎ (IsEarlier p q ⊎ IsEarlier q p)
in_some_order [] [] = inl refl
in_some_order [] (n ∷ q) = inr (inl tt)
in_some_order (m ∷ p) [] = inr (inr tt)
in_some_order (m ∷ p) (n ∷ q) = elim (dec_lt m n) [
  | yes less ↦ inr (inl (inl less))
  | no l ↦ elim (dec_lt n m) [
    | yes more ↦ inr (inr (inl more))
    | no k ↦
        let same : m ≡ n = omega (arith, l, k) in
        elim (in_some_order p q) [
          | inl e ↦ inl (cc (same, e))
          | inr o ↦ elim o [ inl e ↦ inr (inl (inr (same, e))) | inr e ↦ inr (inr (inr (sym same, e))) ]
        ]
  ]
]

first_once : (pattern t : Tree) (p q : List ℕ) → RecursFirst pattern t p → RecursFirst pattern t q → p ≡ q
first_once pattern t p q h k = elim (in_some_order p q) [
  | inl same ↦ same
  | inr o ↦ elim o [ inl before ↦ absurd (k.first p before h.recurs) | inr after ↦ absurd (h.first q after k.recurs) ]
]

pub variant_place : (rules : List RewriteRule) (c d : Closure) → AreVariants c d → (p q : List ℕ) → LoopsAt rules c p → LoopsAt rules d q → p ≡ q
variant_place rules c d v p q h k = let moved = variant_loops rules c d v p h in first_once d.left d.right p q moved.returns k.returns
