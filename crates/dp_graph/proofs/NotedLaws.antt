-- The rules that are noted for left sides, listed by roots one after another.
use Rattle.std.specs.Prelude.{◌≡◌, ◌≤◌, ◌<◌, ℕ, ◌+◌, ◌++◌, cond, List, [], ◌∷◌, length, take, Option, Some, Vec, slice_index}
use Rattle.std.specs.declared.alloc.Global.{Global}
use Rattle.std.specs.Map.{lookup}
use Rattle.std.specs.Ordering.{nat_cmp}
use Rattle.std.specs.BTreeMap.{get, is_at, UpdatesBy}
use Rattle.std.proofs.Common.{inl, inr, sym, ap, subst, ◌∙◌}
use Rattle.std.proofs.lemmas.List.{take_all, take_more}
use native.Mathlib.Decide.{ℕ_discrete}
use Rattle.trs_defs.specs.Member.{In, in_first}
use Rattle.trs_defs.specs.System.{RewriteRule}
use Rattle.trs_defs.proofs.Members.{in_left, in_right, in_either, in_or, no_in}
use Rattle.term_pool.specs.Roots.{with_root}
use Rattle.dp_graph.specs.SameLefts.{IsNoted}
use Rattle.dp_graph.specs.NotedRules.{Lists, listed_or, HaveAllNoted}
use Rattle.dp_graph.proofs.Sets.{at_itself, not_at}

-- the list has those of these numbers that are noted
abbrev pub HasNotedOf : List (Option ℕ) → List ℕ → List ℕ → Type 0
HasNotedOf lefts numbers listed = (k : ℕ) → In k numbers → IsNoted lefts k k → In k listed

module _ (rules : List RewriteRule) (lefts : List (Option ℕ)) where
  pub none_listed : (lists : Lists) → lists.entries ≡ [] → HaveAllNoted rules lefts lists
  none_listed lists e f k i noted = subst (λ es. In k (listed_or (with_root f rules) (lookup (is_at (nat_cmp f)) es))) (sym e) i

  pub one_more_list : (old new : Lists) (g : ℕ) (listed : Vec ℕ Global) → UpdatesBy nat_cmp (nat_cmp g) old new (Some listed)
      → HasNotedOf lefts (with_root g rules) listed.items → HaveAllNoted rules lefts old → HaveAllNoted rules lefts new
  one_more_list old new g listed updates has so_far f k i noted =
      let found : (o : Option (Vec ℕ Global)) → get nat_cmp new f ≡ o → In k (listed_or (with_root f rules) o) → In k (listed_or (with_root f rules) (get nat_cmp new f)) =
      (λ o e j. subst (λ z. In k (listed_or (with_root f rules) z)) (sym e) j) in
      elim (ℕ_discrete f g) [
        | yes e ↦ found (Some listed) (updates.0 f ∙ ap (λ b. cond b (Some listed) (get nat_cmp old f)) (ap (is_at (nat_cmp g)) e ∙ at_itself g))
            (has k (subst (λ z. In k (with_root z rules)) e i) noted)
        | no other ↦ found (get nat_cmp old f) (updates.0 f ∙ ap (λ b. cond b (Some listed) (get nat_cmp old f)) (not_at g f other)) (so_far f k i noted)
      ]

-- ---- the list of one root

pub no_number : (lefts : List (Option ℕ)) (numbers listed : List ℕ) → HasNotedOf lefts (take 0 numbers) listed
no_number lefts numbers listed k i = absurd (no_in i)

module _ (lefts : List (Option ℕ)) (numbers : List ℕ) (i : ℕ) (within : i < length numbers) (old : List ℕ) (so_far : HasNotedOf lefts (take i numbers) old) where
  -- the next number
  next_number : (new : List ℕ) → ((k : ℕ) → In k old → In k new) → (IsNoted lefts (slice_index numbers i) (slice_index numbers i) → In (slice_index numbers i) new)
      → HasNotedOf lefts (take (i + 1) numbers) new
  next_number new kept here k member noted =
      elim (in_either (take i numbers) (slice_index numbers i ∷ []) (subst (In k) (take_more numbers i 0 within) member)) [
        | inl before ↦ kept k (so_far k before noted)
        | inr last ↦ elim (in_or last) [
          | inl e ↦ subst (λ z. In z new) (sym e) (here (subst (λ z. IsNoted lefts z z) e noted))
          | inr none ↦ absurd (no_in none)
        ]
      ]

  pub noted_number : (new : List ℕ) → new ≡ old ++ slice_index numbers i ∷ [] → HasNotedOf lefts (take (i + 1) numbers) new
  noted_number new e =
      next_number new (λ k j. subst (In k) (sym e) (in_left (slice_index numbers i ∷ []) j)) (λ noted. subst (In (slice_index numbers i)) (sym e) (in_right old in_first))

  pub other_number : (IsNoted lefts (slice_index numbers i) (slice_index numbers i) → ⊥) → HasNotedOf lefts (take (i + 1) numbers) old
  other_number other = next_number old (λ k j. j) (λ noted. absurd (other noted))

pub all_numbers_listed : (lefts : List (Option ℕ)) (numbers listed : List ℕ) (i : ℕ) → length numbers ≤ i → HasNotedOf lefts (take i numbers) listed → HasNotedOf lefts numbers listed
all_numbers_listed lefts numbers listed i past so_far k member = so_far k (subst (In k) (sym (take_all i numbers past)) member)
