-- Narrowing with one most general unifier, beside that with any other one.
use Rattle.std.specs.Prelude.{◌||◌, if◌then◌else◌, MatchOption}
use Rattle.std.proofs.Common.{◌≡◌, ℕ, ◌+◌, ◌<◌, ◌≤◌, inl, inr, Bool, true, false, List, [], ◌∷◌, ◌++◌, length, Option, Some, None, IsTrue, ap, sym, ◌∙◌, subst, arith, slice_get, length-append}
use Rattle.std.proofs.lemmas.Option.{same_Some, slice_get-get_or}
use Rattle.std.specs.BTreeMap.{BTreeMap}
use Rattle.std.proofs.lemmas.Bool.{or_left, or_right, or_cases}
use Rattle.trs_defs.specs.Tree.{Tree, Trees, var, app, nil, cons}
use Rattle.trs_defs.specs.Variable.{has_var, is_listed, with_variables, with_variables_of_all}
use Rattle.trs_defs.specs.Size.{size_of, size_of_all}
use Rattle.trs_defs.specs.Substitution.{apply}
use Rattle.trs_defs.specs.Position.{subterm_at, replaced_at}
use Rattle.trs_defs.specs.Renaming.{shifted}
use Rattle.trs_defs.specs.System.{RewriteRule}
use Rattle.trs_defs.specs.Unifier.{IsMostGeneralUnifier}
use Rattle.trs_defs.proofs.Substitutions.{apply_apply, same_instance}
use Rattle.trs_defs.proofs.ArgumentLists.{depth_le_size}
use Rattle.trs_defs.proofs.NamedTerms.{size_named}
use Rattle.trs_defs.proofs.Contexts.{replaced_somehow}
use Rattle.trs_defs.proofs.Limits.{size_replaced, size_there}
use Rattle.term_pool.proofs.KnownLaws.{size_instance}
use Rattle.trs_core.specs.SystemLimits.{HasSmallVariables}
use Rattle.trs_core.specs.View.{tree}
use Rattle.trs_unify.specs.Renamed.{AreNames, old_name, first_numbers, IsRenamed}
use Rattle.trs_unify.proofs.NewNames.{length_first, one_number, renamed_still}
use Rattle.confluence_theory.proofs.Apart.{glue, glue_low, apply_high, part_variable}
use Rattle.crit_pairs.specs.Apart.{renamed_apart}
use Rattle.crit_pairs.proofs.InstanceVariables.{replaced_instance}
use Rattle.crit_pairs.proofs.Renumbering.{renamed_size}
use Rattle.loop_find.specs.Closures.{IsNarrowing, IsSmallSide}
use Rattle.loop_find.specs.Narrowed.{NarrowsToTrees, NarrowsTo, NarrowsNot, IsMade, IsLarge}
use Rattle.loop_find.specs.Flat.{tokens_of}
use Rattle.loop_find.specs.Written.{put_in, IsOneToOne}
use Rattle.loop_find.specs.declared.tokens.SideTokens.{SideTokens}
use Rattle.loop_find.specs.declared.closures.Sides.{Sides}
use Rattle.loop_find.proofs.FlatTerms.{count_tokens}
use Rattle.loop_find.proofs.Renumbering.{one_tree, still_named, still_below}
use Rattle.loop_find.proofs.Ways.{put_replaced}

-- ---- sizes

-- a term of few nodes is small
pub small_of_few : (t : Tree) → size_of t ≤ 256 → IsSmallSide t
small_of_few t h = record { nodes = h; depth = omega (arith, depth_le_size t, h) }

no_smaller : (t u : Tree) → size_of t ≤ size_of u → (IsSmallSide t → ⊥) → IsSmallSide u → ⊥
no_smaller t u h large small = let few = small.nodes in large (small_of_few t (omega (arith, h, few)))

-- ---- any narrowing at the place

-- the instance of what it makes has all nodes of it
result_kept : (rule : RewriteRule) (place : List ℕ) (left right l r : Tree) (h : IsNarrowing rule place left right l r) → size_of h.result ≤ size_of r
result_kept rule place left right l r h =
    let e : size_of (apply h.unifier h.result) ≡ size_of r = ap size_of h.right_is ∙ size_named h.names r in
    omega (arith, size_instance h.unifier h.result, e)

-- it keeps the nodes of the right side but for those of the part, and these are too many
pub large_without : (rule : RewriteRule) (place : List ℕ) (left right part : Tree) → subterm_at place right ≡ Some part → 256 + size_of part < size_of right
    → NarrowsNot rule place left right
large_without rule place left right part there many = record { none = λ l r h a b. no_smaller h.result r (result_kept rule place left right l r h) (large h) b }
  where
    large : {l r : Tree} (h : IsNarrowing rule place left right l r) → IsSmallSide h.result → ⊥
    large h small =
        let few = small.nodes in
        omega (arith, size_replaced place right part (shifted h.offset rule.right) h.result there h.replaced, few, many)

-- it has the nodes of the rule's right side, and these are too many
pub large_alone : (rule : RewriteRule) (place : List ℕ) (left right part : Tree) → subterm_at place right ≡ Some part → 256 < size_of rule.right → NarrowsNot rule place left right
large_alone rule place left right part there many = record { none = λ l r h a b. no_smaller h.result r (result_kept rule place left right l r h) (large h) b }
  where
    large : {l r : Tree} (h : IsNarrowing rule place left right l r) → IsSmallSide h.result → ⊥
    large h small =
        let few = small.nodes in
        let same : size_of (shifted h.offset rule.right) ≡ size_of rule.right = size_named (λ v. h.offset + v) rule.right in
        omega (arith, size_replaced place right part (shifted h.offset rule.right) h.result there h.replaced, size_there place right part there, same, few, many)

module _ (rule : RewriteRule) (place : List ℕ) (left right part : Tree) (there : subterm_at place right ≡ Some part)
    (left_low : HasSmallVariables left) (right_low : HasSmallVariables right) where
  part_low : HasSmallVariables part
  part_low v k = right_low v (part_variable place right part v there k)

  module _ (l r : Tree) (h : IsNarrowing rule place left right l r) where
    -- its unifier, for variables that are renamed by 65,536
    abbrev moved : ℕ → Tree
    moved = glue 65536 h.unifier (λ x. h.unifier (h.offset + x))

    moved_rule : (t : Tree) → apply moved (shifted 65536 t) ≡ apply h.unifier (shifted h.offset t)
    moved_rule t = apply_high 65536 h.unifier (λ x. h.unifier (h.offset + x)) t ∙ sym (apply_apply h.unifier (λ v. var (h.offset + v)) t)

    moved_low : (t : Tree) → HasSmallVariables t → apply moved t ≡ apply h.unifier t
    moved_low t low = same_instance moved h.unifier t (λ v k. glue_low 65536 h.unifier (λ x. h.unifier (h.offset + x)) v (low v k))

    moved_unifies : apply moved part ≡ apply moved (shifted 65536 rule.left)
    moved_unifies =
        let same : h.part ≡ part = same_Some h.part part (sym h.there ∙ there) in
        moved_low part part_low ∙ (ap (apply h.unifier) (sym same) ∙ (h.most_general.unifies ∙ sym (moved_rule rule.left)))

    module _ (m : ℕ → Tree) (most : IsMostGeneralUnifier part (shifted 65536 rule.left) m) where
      instance_larger : (t : Tree) → size_of (apply m t) ≤ size_of (apply moved t)
      instance_larger t =
          let (τ, is) = most.most_general moved moved_unifies in
          let same : apply moved t ≡ apply τ (apply m t) = same_instance moved (λ v. apply τ (m v)) t (λ v k. is v) ∙ sym (apply_apply τ m t) in
          let larger = size_instance τ (apply m t) in
          let e : size_of (apply moved t) ≡ size_of (apply τ (apply m t)) = ap size_of same in
          omega (arith, larger, e)

      left_larger : size_of (apply m left) ≤ size_of l
      left_larger =
          let e : size_of (apply moved left) ≡ size_of l = ap size_of (moved_low left left_low ∙ h.left_is) ∙ size_named h.names l in
          omega (arith, instance_larger left, e)

      right_larger : (result : Tree) → replaced_at place right (shifted 65536 rule.right) ≡ Some result → size_of (apply m result) ≤ size_of r
      right_larger result replaced =
          let same : apply moved result ≡ apply h.unifier h.result =
          replaced_instance moved h.unifier place right (shifted 65536 rule.right) (shifted h.offset rule.right) result h.result replaced h.replaced (moved_low right right_low) (moved_rule rule.right) in
          let e : size_of (apply moved result) ≡ size_of r = ap size_of (same ∙ h.right_is) ∙ size_named h.names r in
          omega (arith, instance_larger result, e)

  none_unified : ((σ : ℕ → Tree) → apply σ part ≡ apply σ (shifted 65536 rule.left) → ⊥) → NarrowsNot rule place left right
  none_unified none = record { none = λ l r h a b. none (moved l r h) (moved_unifies l r h) }

  pub clashing : ((σ τ : ℕ → Tree) → apply σ part ≡ apply τ rule.left → ⊥) → NarrowsNot rule place left right
  clashing none = none_unified (λ σ e. none σ (λ v. σ (65536 + v)) (e ∙ apply_apply σ (λ v. var (65536 + v)) rule.left))

  left_too_large : (m : ℕ → Tree) → IsMostGeneralUnifier part (shifted 65536 rule.left) m → (IsSmallSide (apply m left) → ⊥) → NarrowsNot rule place left right
  left_too_large m most large = record { none = λ l r h a b. no_smaller (apply m left) l (left_larger l r h m most) large a }

  right_too_large : (m : ℕ → Tree) → IsMostGeneralUnifier part (shifted 65536 rule.left) m → (result : Tree) → replaced_at place right (shifted 65536 rule.right) ≡ Some result
      → (IsSmallSide (apply m result) → ⊥) → NarrowsNot rule place left right
  right_too_large m most result replaced large = record { none = λ l r h a b. no_smaller (apply m result) r (right_larger l r h m most result replaced) large b }

-- ---- variables with new numbers

one_more : (known : List ℕ) (n : ℕ) (b : Bool) → length (if b then known else known ++ n ∷ []) ≤ length known + 1
one_more known n true = omega arith
one_more known n false = omega (arith, length-append known (n ∷ []))

mutual
  count_variables : (known : List ℕ) (t : Tree) → length (with_variables known t) ≤ length known + size_of t
  count_variables known (var n) = one_more known n (is_listed n known)
  count_variables known (app f ts) = omega (arith, count_variables_of_all known ts)

  count_variables_of_all : (known : List ℕ) (ts : Trees) → length (with_variables_of_all known ts) ≤ length known + size_of_all ts
  count_variables_of_all known nil = omega arith
  count_variables_of_all known (cons t ts) = omega (arith, count_variables known t, count_variables_of_all (with_variables known t) ts)

few_names : (old new : List ℕ) (t u : Tree) → IsRenamed old new t u → length new ≤ length old + size_of u
few_names old new t u h =
    let counted = ap length h.counted in
    let most = count_variables (first_numbers (length old)) u in
    omega (arith, counted, most, length_first (length old), length_first (length new))

-- ---- the narrowing that is made

module _ (rule : RewriteRule) (place : List ℕ) (left right part : Tree) (there : subterm_at place right ≡ Some part)
    (left_low : HasSmallVariables left) (right_low : HasSmallVariables right) (m : ℕ → Tree) (most : IsMostGeneralUnifier part (shifted 65536 rule.left) m)
    (result : Tree) (replaced : replaced_at place right (shifted 65536 rule.right) ≡ Some result) where
  -- with numbers for names of which none comes twice
  pub narrows_with : (second : List ℕ) (l r : Tree) → IsOneToOne second → length second ≤ 512 → size_of l ≤ 256 → size_of r ≤ 256
      → ((v : ℕ) → IsTrue (has_var v l || has_var v r) → v < length second)
      → apply (λ v. var (old_name second v)) l ≡ apply m left → apply (λ v. var (old_name second v)) r ≡ apply m result → NarrowsToTrees rule place left right l r
  narrows_with second l r one few left_few right_few below left_back right_back = record {
    narrowing = record {
      part = part;
      there = there;
      offset = 65536;
      left_apart = left_low;
      right_apart = right_low;
      unifier = m;
      most_general = most;
      result = result;
      replaced = replaced;
      names = old_name second;
      left_is = sym left_back;
      right_is = sym right_back;
      different = λ v w h k e. one v w (below v h) (below w k) e;
    };
    left_small = small_of_few l left_few;
    right_small = small_of_few r right_few;
    left_variables = λ v h. let low = below v (or_left (has_var v l) (has_var v r) h) in omega (arith, low, few);
    right_variables = λ v h. let low = below v (or_right (has_var v l) (has_var v r) h) in omega (arith, low, few);
  }

  module _ (first second : List ℕ) (s : Sides) (numbers : BTreeMap ℕ ℕ) (names : AreNames numbers second)
      (left_named : IsRenamed [] first (apply m left) (tree s.left)) (right_named : IsRenamed first second (apply m result) (tree s.right))
      (left_small : IsSmallSide (apply m left)) (right_small : IsSmallSide (apply m result)) where
    left_few : size_of (tree s.left) ≤ 256
    left_few = let same = renamed_size [] first (apply m left) (tree s.left) left_named in let few = left_small.nodes in omega (arith, same, few)

    right_few : size_of (tree s.right) ≤ 256
    right_few = let same = renamed_size first second (apply m result) (tree s.right) right_named in let few = right_small.nodes in omega (arith, same, few)

    first_few : length first ≤ 256
    first_few = let some = few_names [] first (apply m left) (tree s.left) left_named in omega (arith, some, left_few)

    second_few : length second ≤ 512
    second_few = let some = few_names first second (apply m result) (tree s.right) right_named in omega (arith, some, first_few, right_few)

    first_within : length first ≤ length second
    first_within = omega (arith, length-append first right_named.more, ap length right_named.grown)

    occurs_below : (v : ℕ) → IsTrue (has_var v (tree s.left) || has_var v (tree s.right)) → v < length second
    occurs_below v h = elim (or_cases (has_var v (tree s.left)) (has_var v (tree s.right)) h) as (λ _. v < length second) [
      | inl k ↦ let low = left_named.inside v k in omega (arith, low, first_within)
      | inr k ↦ right_named.inside v k
    ]

    one_to_one : IsOneToOne second
    one_to_one i j h k e =
        let a : slice_get second i ≡ Some (old_name second j) = slice_get-get_or second i 0 h ∙ ap (λ z. Some z) e in
        one_number numbers second names (old_name second j) i j a (slice_get-get_or second j 0 k)

    narrows_to : NarrowsToTrees rule place left right (tree s.left) (tree s.right)
    narrows_to =
        narrows_with second (tree s.left) (tree s.right) one_to_one second_few left_few right_few occurs_below
        (renamed_still [] first second right_named.more (apply m left) (tree s.left) right_named.grown left_named) right_named.back

-- ---- the same, as the code has it: the rule that is renamed apart is opened

module _ (al ar : Tree) (apart rule : RewriteRule) (view : ◌≡◌ {A = RewriteRule} (record { left = al; right = ar }) apart) (is : apart ≡ renamed_apart rule) where
  pub left_opened : al ≡ shifted 65536 rule.left
  left_opened = ap (λ (z : RewriteRule). z.left) (view ∙ is)

  pub right_opened : ar ≡ shifted 65536 rule.right
  right_opened = ap (λ (z : RewriteRule). z.right) (view ∙ is)

  module _ (place : List ℕ) (left right part : Tree) (there : subterm_at place right ≡ Some part)
      (left_low : HasSmallVariables left) (right_low : HasSmallVariables right) where
    pub not_unified : ((σ : ℕ → Tree) → apply σ part ≡ apply σ al → ⊥) → NarrowsNot rule place left right
    not_unified none = none_unified rule place left right part there left_low right_low (λ σ e. none σ (e ∙ ap (apply σ) (sym left_opened)))

    module _ (m : ℕ → Tree) (most : IsMostGeneralUnifier part al m) where
      general : IsMostGeneralUnifier part (shifted 65536 rule.left) m
      general = subst (λ z. IsMostGeneralUnifier part z m) left_opened most

      pub left_large : (IsSmallSide (apply m left) → ⊥) → NarrowsNot rule place left right
      left_large large = left_too_large rule place left right part there left_low right_low m general large

      module _ (result : Tree) (replaced : replaced_at place right ar ≡ Some result) where
        put : replaced_at place right (shifted 65536 rule.right) ≡ Some result
        put = subst (λ z. replaced_at place right z ≡ Some result) right_opened replaced

        pub right_large : (IsSmallSide (apply m result) → ⊥) → NarrowsNot rule place left right
        right_large large = right_too_large rule place left right part there left_low right_low m general result put large

        pub narrowed : IsSmallSide (apply m left) → IsSmallSide (apply m result) → (none first second : List ℕ) → none ≡ [] → (s : Sides) (numbers : BTreeMap ℕ ℕ)
            → AreNames numbers second → IsRenamed none first (apply m left) (tree s.left) → IsRenamed first second (apply m result) (tree s.right)
            → NarrowsToTrees rule place left right (tree s.left) (tree s.right)
        narrowed a b none first second empty s numbers names x y =
            narrows_to rule place left right part there left_low right_low m general result put first second s numbers names
            (subst (λ z. IsRenamed z first (apply m left) (tree s.left)) empty x) y a b

      -- ---- the sides that were written

      made_result : (u : Tree) × (replaced_at place right ar ≡ Some u)
      made_result = replaced_somehow place right part ar there

      result_is : put_in right place ar ≡ made_result.0
      result_is = put_replaced place right ar made_result.0 made_result.1

      put_made : replaced_at place right (shifted 65536 rule.right) ≡ Some made_result.0
      put_made = subst (λ z. replaced_at place right z ≡ Some made_result.0) right_opened made_result.1

      pub made_narrows : (made : SideTokens) → IsMade m left right place ar made → NarrowsTo rule place left right made
      made_narrows made h =
          let few_first : length h.first ≤ length made.left.items = let f = h.left_named.few in omega (arith, f) in
          let few_second : length h.second ≤ length h.first + length made.right.items = h.right_named.few in
          let l = one_tree h.second (apply m left) made.left.items
          (still_named [] h.first h.second (tokens_of (apply m left)) made.left.items (tokens_of (apply m (put_in right place ar))) made.right.items h.left_named h.right_named)
          (still_below [] h.first h.second (tokens_of (apply m left)) made.left.items (tokens_of (apply m (put_in right place ar))) made.right.items h.left_named h.right_named) in
          let r = one_tree h.second (apply m (put_in right place ar)) made.right.items h.right_named.back h.right_named.inside in
          let a = h.left_few in
          let b = h.right_few in
          let size_l : size_of l.named ≡ length made.left.items = sym (count_tokens l.named) ∙ ap length (sym l.tokens) in
          let size_r : size_of r.named ≡ length made.right.items = sym (count_tokens r.named) ∙ ap length (sym r.tokens) in
          record {
            new_left = l.named;
            new_right = r.named;
            tokens = record { left_is = l.tokens; right_is = r.tokens };
            narrows = narrows_with rule place left right part there left_low right_low m general made_result.0 put_made h.second l.named r.named
                (h.right_named.one (h.left_named.one (λ i j x. absurd (omega (arith, x))))) (omega (arith, few_first, few_second, a, b)) (omega (arith, size_l, a)) (omega (arith, size_r, b))
                (λ v k. elim (or_cases (has_var v l.named) (has_var v r.named) k) as (λ _. v < length h.second) [ inl x ↦ l.inside v x | inr x ↦ r.inside v x ])
                l.back (r.back ∙ ap (apply m) result_is);
          }

      pub made_large : IsLarge m left right place ar → NarrowsNot rule place left right
      made_large h = elim h as (λ _. NarrowsNot rule place left right) [
        | inl x ↦ left_large (λ k. let few = k.nodes in omega (arith, x, few, count_tokens (apply m left)))
        | inr x ↦ right_large made_result.0 made_result.1
            (λ k. let few = k.nodes in let same : size_of (apply m (put_in right place ar)) ≡ size_of (apply m made_result.0) = ap (λ z. size_of (apply m z)) result_is in
            omega (arith, x, few, same, count_tokens (apply m (put_in right place ar))))
      ]

      pub made_answer : (o : Option SideTokens) → MatchOption o (IsLarge m left right place ar) (IsMade m left right place ar) → MatchOption o (NarrowsNot rule place left right) (NarrowsTo rule place left right)
      made_answer None h = made_large h
      made_answer (Some made) h = made_narrows made h
