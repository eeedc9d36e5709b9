-- Forked by normal forms: a -> b, a -> c. Confluent, so with unique normal forms: a -> b.
use Rattle.std.specs.Prelude.{◌≡◌, ◌≢◌, ℕ, ◌+◌, [], ◌∷◌, Some}
use Rattle.std.proofs.Common.{zero, suc, refl, sym, ◌∙◌, ap, subst, inl, inr, ◌⊎◌, arith}
use Rattle.trs_defs.specs.Member.{In, in_first, in_rest}
use Rattle.trs_defs.specs.Tree.{Tree, Trees, var, app, nil, cons, count}
use Rattle.trs_defs.specs.Substitution.{apply}
use Rattle.trs_defs.specs.WellFormed.{IsWellFormed}
use Rattle.trs_defs.specs.System.{RewriteRule, System}
use Rattle.trs_defs.specs.Derivation.{Derivation, Reaches}
use Rattle.trs_defs.specs.Joinable.{IsJoinable}
use Rattle.trs_defs.specs.NormalForm.{IsNormalForm}
use Rattle.trs_defs.specs.Step.{here, deep, Step}
use Rattle.trs_defs.specs.Claims.{IsConfluent, IsForked}
use Rattle.trs_defs.specs.UniqueNormalForms.{HasUniqueNormalForms, IsSplit}
use Rattle.trs_defs.proofs.NormalForms.{normal_stays}
use Rattle.confluence_theory.proofs.NormalForms.{split_forked, split_not_unique, confluent_unique, forked_not_confluent}

abbrev pub constant : ℕ → Tree
constant f = app f nil

abbrev leads : ℕ → ℕ → RewriteRule
leads f g = record { left = constant f; right = constant g }

abbrev fork : System
fork = record { arities = 0 ∷ 0 ∷ 0 ∷ []; rules = leads 0 1 ∷ leads 0 2 ∷ [] }

from_a : (r : RewriteRule) → In r fork.rules → r.left ≡ constant 0
from_a r in_first = refl
from_a r (in_rest in_first) = refl
from_a r (in_rest (in_rest h)) = elim h [ ]

fork_normal : (f : ℕ) → f ≢ zero → IsNormalForm (Step fork.rules) (constant f)
fork_normal f n u (here (l, r, σ, h, e, e')) =
    let left : l ≡ constant 0 = from_a (record { left = l; right = r }) h in
    let k : constant f ≡ constant 0 = e ∙ ap (apply σ) left in
    n (cc k)
fork_normal f n u (deep d) = elim d [ ]

fork_split : IsSplit fork
fork_split = (
  constant 0,
  constant 1,
  constant 2,
  (refl, tt),
  ((1, (constant 1, here (constant 0, constant 1, λ v. var v, in_first, refl, refl), refl)), fork_normal 1 (λ e. absurd (cc e))),
  ((1, (constant 2, here (constant 0, constant 2, λ v. var v, in_rest in_first, refl, refl), refl)), fork_normal 2 (λ e. absurd (cc e))),
  λ e. absurd (cc e),
)

fork_forked : IsForked fork
fork_forked = split_forked fork fork_split

fork_not_unique : HasUniqueNormalForms fork → ⊥
fork_not_unique = split_not_unique fork fork_split

fork_not_confluent : IsConfluent fork → ⊥
fork_not_confluent = forked_not_confluent fork fork_forked

abbrev one : System
one = record { arities = 0 ∷ 0 ∷ []; rules = leads 0 1 ∷ [] }

only_rule : (r : RewriteRule) → In r one.rules → r ≡ leads 0 1
only_rule r in_first = refl
only_rule r (in_rest h) = elim h [ ]

no_arguments : (ts : Trees) → Some 0 ≡ Some (1 + count ts) → ⊥
no_arguments ts e = let k : 1 + count ts ≡ 0 = cc e in absurd (omega arith)

-- the one step is from a to b
one_step : (s u : Tree) → IsWellFormed one.arities s → Step one.rules s u → (s ≡ constant 0) × (u ≡ constant 1)
one_step s u well (here (l, r, σ, h, e, e')) =
    let is_rule : record { left = l; right = r } ≡ leads 0 1 = only_rule (record { left = l; right = r }) h in
    (e ∙ ap (λ z. apply σ z.left) is_rule, e' ∙ ap (λ z. apply σ z.right) is_rule)
one_step (app f nil) u well (deep d) = elim d [ ]
one_step (app zero (cons t ts)) u well (deep d) = absurd (no_arguments ts (well.0))
one_step (app (suc zero) (cons t ts)) u well (deep d) = absurd (no_arguments ts (well.0))
one_step (app (suc (suc f)) (cons t ts)) u well (deep d) = absurd (cc (well.0))

b_normal : IsNormalForm (Step one.rules) (constant 1)
b_normal u s = absurd (cc ((one_step (constant 1) u (refl, tt) s).0))

reached : (n : ℕ) (s t : Tree) → IsWellFormed one.arities s → Derivation (Step one.rules) n s t → (s ≡ t) ⊎ (t ≡ constant 1)
reached zero s t well d = inl d
reached (suc n) s t well (m, step, d) =
    let is_b : m ≡ constant 1 = (one_step s m well step).1 in
    let P : Tree → Type 0 = λ z. Derivation (Step one.rules) n z t in
    inr (sym (normal_stays (Step one.rules) (constant 1) b_normal n t (subst P is_b d)))

meet : (s t u : Tree) → Reaches (Step one.rules) s t → Reaches (Step one.rules) s u → (s ≡ t) ⊎ (t ≡ constant 1) → (s ≡ u) ⊎ (u ≡ constant 1)
    → IsJoinable (Step one.rules) t u
meet s t u st su (inl e) k = let P : Tree → Type 0 = λ z. Reaches (Step one.rules) z u in (u, subst P e su, (0, refl))
meet s t u st su (inr e) (inl e') = let P : Tree → Type 0 = λ z. Reaches (Step one.rules) z t in (t, (0, refl), subst P e' st)
meet s t u st su (inr e) (inr e') = (t, (0, refl), (0, e' ∙ sym e))

one_confluent : IsConfluent one
one_confluent s t u well (n, d) (m, d') = meet s t u (n, d) (m, d') (reached n s t well d) (reached m s u well d')

one_unique : HasUniqueNormalForms one
one_unique = confluent_unique one one_confluent
