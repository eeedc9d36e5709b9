-- Bound terms with the terms of their variables put in.
use Rattle.std.specs.Prelude.{unwrap_or}
use Rattle.std.proofs.Common.{◌≡◌, ℕ, ◌+◌, ◌-◌, ◌<◌, ◌≤◌, List, [], ◌∷◌, Option, Some, None, Bool, true, false, refl, ap, sym, ◌∙◌, zero, suc, subst, arith}
use Rattle.std.specs.Prelude.{◌==◌, if◌then◌else◌}
use Rattle.trs_defs.specs.Tree.{Tree, var}
use Rattle.trs_defs.specs.Size.{size_of}
use Rattle.trs_defs.specs.Substitution.{apply}
use Rattle.trs_defs.proofs.VariableLaws.{has_var_same}
use Rattle.trs_defs.proofs.Substitutions.{apply_apply, same_instance}
use Rattle.trs_defs.proofs.NamedTerms.{unchanged}
use Rattle.trs_core.specs.View.{tree}
use Rattle.crit_pairs.specs.declared.binding_table.Binding.{Binding}
use Rattle.crit_pairs.specs.Meeting.{bound_term, bound_to, times, put_in, Ends}

pub unbound_stays : (n : ℕ) (bs : List Binding) (v : ℕ) → bound_term bs v ≡ None → times n (bound_to bs) v ≡ var v
unfolding times
unbound_stays zero bs v none = refl
unbound_stays (suc n) bs v none = ap (λ o. apply (times n (bound_to bs)) (unwrap_or o (var v))) none ∙ unbound_stays n bs v none

pub put_in_bound : (n : ℕ) (bs : List Binding) (v : ℕ) (t : Tree) → bound_term bs v ≡ Some t → put_in n bs v ≡ apply (times n (bound_to bs)) t
unfolding times
put_in_bound n bs v t is = ap (λ o. apply (times n (bound_to bs)) (unwrap_or o (var v))) is

-- no more is put in
put_in_last : (n : ℕ) (bs : List Binding) (v : ℕ) (t : Tree) → n ≡ 0 → bound_term bs v ≡ Some t → put_in n bs v ≡ t
unfolding times
put_in_last zero bs v t none_left is = put_in_bound zero bs v t is ∙ unchanged t
put_in_last (suc n) bs v t none_left is = absurd (omega (arith, none_left))

-- more is put in
put_in_next : (n : ℕ) (bs : List Binding) (v : ℕ) (t : Tree) → (n ≡ 0 → ⊥) → bound_term bs v ≡ Some t → put_in n bs v ≡ apply (put_in (n - 1) bs) t
put_in_next zero bs v t more is = absurd (more refl)
put_in_next (suc n) bs v t more is =
    let less : n ≡ suc n - 1 = omega arith in
    put_in_bound (suc n) bs v t is ∙ ap (λ k. apply (put_in k bs) t) less

-- each substitution that is more special stays so
pub always_general : (σ θ : ℕ → Tree) → ((v : ℕ) → θ v ≡ apply θ (σ v)) → (n v : ℕ) → θ v ≡ apply θ (times n σ v)
unfolding times
always_general σ θ h zero v = refl
always_general σ θ h (suc n) v =
    h v ∙ (same_instance θ (λ w. apply θ (times n σ w)) (σ v) (λ w _. always_general σ θ h n w) ∙ sym (apply_apply θ (times n σ) (σ v)))

pub same_times : (n : ℕ) (σ ρ : ℕ → Tree) → ((v : ℕ) → σ v ≡ ρ v) → (v : ℕ) → times n σ v ≡ times n ρ v
unfolding times
same_times zero σ ρ h v = refl
same_times (suc n) σ ρ h v = ap (apply (times n σ)) (h v) ∙ same_instance (times n σ) (times n ρ) (ρ v) (λ w _. same_times n σ ρ h w)

-- where putting in ends
pub unbound_ends : (n : ℕ) (bs : List Binding) (v : ℕ) → bound_term bs v ≡ None → Ends n bs (var v)
unbound_ends n bs v none w has =
    let P : ℕ → Type 0 = λ z. times n (bound_to bs) z ≡ times (suc n) (bound_to bs) z in
    subst P (has_var_same w v has) (unbound_stays n bs v none ∙ sym (unbound_stays (suc n) bs v none))

pub bound_ends : (n : ℕ) (bs : List Binding) (v : ℕ) (t : Tree) → (n ≡ 0 → ⊥) → bound_term bs v ≡ Some t → Ends (n - 1) bs t → Ends n bs (var v)
bound_ends zero bs v t more is end = absurd (more refl)
bound_ends (suc n) bs v t more is end =
    let less : suc n - 1 ≡ n = omega arith in
    let ends : Ends n bs t = subst (λ k. Ends k bs t) less end in
    let P : ℕ → Type 0 = λ z. times (suc n) (bound_to bs) z ≡ times (suc (suc n)) (bound_to bs) z in
    λ w has. subst P (has_var_same w v has)
    (put_in_bound n bs v t is ∙ (same_instance (times n (bound_to bs)) (times (suc n) (bound_to bs)) t ends ∙ sym (put_in_bound (suc n) bs v t is)))

-- the nodes of all bound terms, which a recursion through bindings is measured by
abbrev pub nodes_of : List Binding → ℕ
nodes_of [] = 0
nodes_of (b ∷ bs) = size_of (tree b.term.now) + nodes_of bs

no_larger_if : (c : Bool) (x : Tree) (o : Option Tree) (t : Tree) (rest : ℕ) → (if c then Some x else o) ≡ Some t → (o ≡ Some t → size_of t ≤ rest) → size_of t ≤ size_of x + rest
no_larger_if true x o t rest e h = let same : size_of x ≡ size_of t = cc e in omega (arith, same)
no_larger_if false x o t rest e h = omega (arith, h e)

pub bound_no_larger : (bs : List Binding) (v : ℕ) (t : Tree) → bound_term bs v ≡ Some t → size_of t ≤ nodes_of bs
bound_no_larger [] v t e = absurd cc
bound_no_larger (b ∷ bs) v t e = no_larger_if (b.variable == v) (tree b.term.now) (bound_term bs v) t (nodes_of bs) e (bound_no_larger bs v t)

-- so many times the number
abbrev pub levels_of : ℕ → ℕ → ℕ
levels_of zero k = 0
levels_of (suc n) k = k + levels_of n k

-- A term is measured by its nodes and by the bindings that lead on from it.
abbrev pub measure : ℕ → List Binding → Tree → ℕ
measure levels bs t = levels_of levels (1 + nodes_of bs) + size_of t

fewer_levels : (n all s u : ℕ) → (n ≡ 0 → ⊥) → s ≤ all → levels_of (n - 1) (1 + all) + s < levels_of n (1 + all) + u
fewer_levels zero all s u more h = absurd (more refl)
fewer_levels (suc n) all s u more h =
    let less : levels_of (suc n - 1) (1 + all) ≡ levels_of n (1 + all) = ap (λ k. levels_of k (1 + all)) (omega arith) in
    omega (arith, less, h)

pub bound_measure : (n : ℕ) (bs : List Binding) (v : ℕ) (b u : Tree) → (n ≡ 0 → ⊥) → bound_term bs v ≡ Some b → measure (n - 1) bs b < measure n bs u
bound_measure n bs v b u more is = fewer_levels n (nodes_of bs) (size_of b) (size_of u) more (bound_no_larger bs v b is)

pub argument_measure : (n : ℕ) (bs : List Binding) (a t : Tree) → size_of a < size_of t → measure n bs a < measure n bs t
argument_measure n bs a t h = omega (arith, h)

-- the instances of variables
pub unbound_instance : (n : ℕ) (bs : List Binding) (v : ℕ) (t : Tree) → t ≡ var v → bound_term bs v ≡ None → apply (put_in n bs) t ≡ var v
unbound_instance n bs v t is none = ap (apply (put_in n bs)) is ∙ unbound_stays (suc n) bs v none

pub last_instance : (n : ℕ) (bs : List Binding) (v : ℕ) (t b : Tree) → t ≡ var v → n ≡ 0 → bound_term bs v ≡ Some b → apply (put_in n bs) t ≡ b
last_instance n bs v t b is none_left found = ap (apply (put_in n bs)) is ∙ put_in_last n bs v b none_left found

pub further_instance : (n : ℕ) (bs : List Binding) (v : ℕ) (t b : Tree) → t ≡ var v → (n ≡ 0 → ⊥) → bound_term bs v ≡ Some b → apply (put_in n bs) t ≡ apply (put_in (n - 1) bs) b
further_instance n bs v t b is more found = ap (apply (put_in n bs)) is ∙ put_in_next n bs v b more found
