-- Sizes of right sides: how they are counted, and what they tell of instances.
use Rattle.std.specs.Prelude.{min, sum_by, drop}
use Rattle.std.proofs.Common.{◌≡◌, ◌<◌, ◌≤◌, ◌-◌, ◌^◌, inl, inr, ℕ, ◌+◌, Bool, false, List, [], ◌∷◌, ◌++◌, All, IsTrue, take, length, length-append, get_or, Some, refl, ap, sym, ◌∙◌, subst, arith, append_assoc}
use Rattle.std.specs.Prelude.{◌||◌}
use Rattle.std.proofs.lemmas.Bool.{or_left, or_right}
use Rattle.std.proofs.lemmas.List.{take_more, drop_all, append-nil}
use Rattle.std.proofs.lemmas.List.Elements.{All-nil, All-head, All-append, All-weaker}
use Rattle.std.proofs.lemmas.List.Sums.{sum_by-append}
use Rattle.std.proofs.lemmas.Option.{slice_get_within, slice_get-get_or}
use Rattle.trs_defs.specs.Tree.{Tree, Trees, var}
use Rattle.trs_defs.specs.Renaming.{shifted}
use Rattle.trs_defs.specs.Size.{size_of, size_of_all}
use Rattle.trs_defs.specs.Substitution.{apply, apply_all}
use Rattle.trs_defs.specs.System.{RewriteRule}
use Rattle.trs_defs.specs.Variable.{has_var, some_has_var}
use Rattle.trs_defs.proofs.ArgumentLists.{cell}
use Rattle.trs_defs.proofs.ListItems.{item_of_more}
use Rattle.trs_defs.proofs.NamedTerms.{unchanged}
use Rattle.trs_defs.proofs.Substitutions.{apply_apply}
use Rattle.trs_core.specs.View.{tree, forest}
use Rattle.trs_core.specs.declared.terms.Term.{Term}
use Rattle.trs_unify.specs.Bindings.{stopped_size}
use Rattle.term_pool.specs.LeftSides.{IsGround}
use Rattle.crit_pairs.specs.SideSizes.{nodes_of_instance, IsSizeOf, AreSizes, Counts, CountsTerm}
use Rattle.crit_pairs.specs.declared.side_sizes.SideSize.{SideSize}

-- ---- nodes as they are counted

-- the same of arguments
abbrev pub CountsAll : Trees → SideSize → SideSize → Type 0
CountsAll ts = Counts (λ v. some_has_var v ts) (λ σ. size_of_all (apply_all σ ts))

no_more : (n : ℕ) → n + 0 ≡ n
no_more n = omega arith

pub counts_none : (size : SideSize) → Counts (λ v. false) (λ σ. 0) size size
counts_none size = record {
  more = [];
  grown = sym (append-nil size.variables.items);
  occur = All-nil (λ v. IsTrue false);
  all = λ e v. refl;
  counted = λ σ. refl;
}

stopped_sum : (last a b c m n x y : ℕ) → min (b + m) last ≡ min (a + x) last → min (c + n) last ≡ min (b + y) last → min (c + (m + n)) last ≡ min (a + (x + y)) last
stopped_sum last a b c m n x y h k = omega (arith, h, k)

first_empty : (xs ys : List ℕ) → xs ++ ys ≡ [] → xs ≡ []
first_empty [] ys e = refl
first_empty (x ∷ xs) ys e = absurd cc

second_empty : (xs ys : List ℕ) → xs ++ ys ≡ [] → ys ≡ []
second_empty [] ys e = e
second_empty (x ∷ xs) ys e = absurd cc

pub counts_both : (p q : ℕ → Bool) (m n : (ℕ → Tree) → ℕ) (a b c : SideSize) → Counts p m a b → Counts q n b c → Counts (λ v. p v || q v) (λ σ. m σ + n σ) a c
counts_both p q m n a b c h k = record {
  more = h.more ++ k.more;
  grown = k.grown ∙ (ap (λ xs. xs ++ k.more) h.grown ∙ append_assoc a.variables.items h.more k.more);
  occur = All-append (λ v. IsTrue (p v || q v)) h.more k.more
      (All-weaker (λ v. IsTrue (p v)) (λ v. IsTrue (p v || q v)) (λ v e. or_left (p v) (q v) e) h.more h.occur)
      (All-weaker (λ v. IsTrue (q v)) (λ v. IsTrue (p v || q v)) (λ v e. or_right (p v) (q v) e) k.more k.occur);
  all = λ e v. rw (h.all (first_empty h.more k.more e) v, k.all (second_empty h.more k.more e) v) refl;
  counted = λ σ.
      let both = stopped_sum (2 ^ 64 - 1) a.symbols b.symbols c.symbols (sum_by (λ v. size_of (σ v)) h.more) (sum_by (λ v. size_of (σ v)) k.more) (m σ) (n σ) (h.counted σ) (k.counted σ) in
      ap (λ s. min (c.symbols + s) (2 ^ 64 - 1)) (sum_by-append (λ v. size_of (σ v)) h.more k.more) ∙ both;
}

pub counts_next : (items : List Term) (i : ℕ) (arg : Term) (a b c : SideSize) → i < length items → arg ≡ get_or items i arg → CountsTerm (tree arg) a b
    → CountsAll (forest (drop (i + 1) items)) b c → CountsAll (forest (drop i items)) a c
counts_next items i arg a b c within is h k =
    let rest : Trees = forest (drop (i + 1) items) in
    subst (λ xs. CountsAll (forest xs) a c) (sym (cell items i arg within is))
    (counts_both (λ v. has_var v (tree arg)) (λ v. some_has_var v rest) (λ σ. size_of (apply σ (tree arg))) (λ σ. size_of_all (apply_all σ rest)) a b c h k)

pub counts_end : (items : List Term) (i : ℕ) (size : SideSize) → length items ≤ i → CountsAll (forest (drop i items)) size size
counts_end items i size past = subst (λ xs. CountsAll (forest xs) size size) (sym (drop_all i items past)) (counts_none size)

-- ---- instances

pub instance_of_size : (σ : ℕ → Tree) (from : ℕ) (t : Tree) (size : SideSize) → IsSizeOf t size → stopped_size (apply σ (shifted from t)) ≡ nodes_of_instance (λ v. σ (from + v)) size
instance_of_size σ from t size h = ap stopped_size (apply_apply σ (λ v. var (from + v)) t) ∙ h.instances (λ v. σ (from + v))

-- where the nodes of the terms of all variables are counted
pub instance_known : (σ : ℕ → Tree) (from : ℕ) (t : Tree) (size : SideSize) (items : List ℕ) (i total : ℕ) → IsSizeOf t size → length items ≤ i → total < 2 ^ 64
    → min (total + sum_by (λ v. size_of (σ (from + v))) (drop i items)) (2 ^ 64 - 1) ≡ nodes_of_instance (λ v. σ (from + v)) size → total ≡ stopped_size (apply σ (shifted from t))
instance_known σ from t size items i total h past within counted =
    let values : ℕ → ℕ = λ v. size_of (σ (from + v)) in
    let none_left : sum_by values (drop i items) ≡ 0 = ap (sum_by values) (drop_all i items past) in
    let same : total ≡ min (total + sum_by values (drop i items)) (2 ^ 64 - 1) = omega (arith, none_left, within) in
    same ∙ (counted ∙ sym (instance_of_size σ from t size h))

-- ---- sides with no variable

none_listed : (t : Tree) (vs : List ℕ) → All (λ v. IsTrue (has_var v t)) vs → IsGround t → vs ≡ []
none_listed t [] occur ground = refl
none_listed t (v ∷ vs) occur ground = absurd (let has = All-head (λ w. IsTrue (has_var w t)) v vs occur in let not = ground v in cc)

ground_size : (t : Tree) (size : SideSize) → IsSizeOf t size → IsGround t → stopped_size t ≡ min size.symbols (2 ^ 64 - 1)
ground_size t size h ground =
    ap stopped_size (sym (unchanged t)) ∙ (h.instances (λ v. var v)
    ∙ (ap (λ vs. min (size.symbols + sum_by (λ v. size_of (var v)) vs) (2 ^ 64 - 1)) (none_listed t size.variables.items h.occur ground)
    ∙ ap (λ n. min n (2 ^ 64 - 1)) (no_more size.symbols)))

pub ground_exact : (t : Tree) (size : SideSize) → IsSizeOf t size → IsGround t → size.symbols ≤ 65536 → size.symbols ≡ size_of t
ground_exact t size h ground few = omega (arith, ground_size t size h ground, few)

-- ---- the sizes of all rules

pub size_read : (rules : List RewriteRule) (sizes : List SideSize) (k : ℕ) (rule : RewriteRule) (size : SideSize) → AreSizes rules sizes → k < length rules → rule ≡ get_or rules k rule
    → size ≡ get_or sizes k size → IsSizeOf rule.right size
size_read rules sizes k rule size h within numbered read =
    h.each k size rule (slice_get-get_or sizes k size (omega (arith, within, h.count)) ∙ ap (λ s. Some s) (sym read)) (slice_get-get_or rules k rule within ∙ ap (λ r. Some r) (sym numbered))

-- that of one rule more
pub one_size_more : (rules : List RewriteRule) (k : ℕ) (rule : RewriteRule) (old new : List SideSize) (size : SideSize) → k < length rules → rule ≡ get_or rules k rule
    → IsSizeOf rule.right size → new ≡ old ++ size ∷ [] → AreSizes (take k rules) old → AreSizes (take (k + 1) rules) new
one_size_more rules k rule old new size less read is put h =
    let taken : take (k + 1) rules ≡ take k rules ++ rule ∷ [] = take_more rules k rule less ∙ ap (λ x. take k rules ++ x ∷ []) (sym read) in
    subst (AreSizes (take (k + 1) rules)) (sym put) (subst (λ rs. AreSizes rs (old ++ size ∷ [])) (sym taken) (behind (take k rules) h))
  where
    behind : (first : List RewriteRule) → AreSizes first old → AreSizes (first ++ rule ∷ []) (old ++ size ∷ [])
    behind first h = record {
      count = omega (arith, h.count, length-append first (rule ∷ []), length-append old (size ∷ []));
      each = λ i s r at there. elim (item_of_more old size s i at) as (λ _. IsSizeOf r.right s) [
        | inl before ↦ elim (item_of_more first rule r i there) as (λ _. IsSizeOf r.right s) [
          | inl numbered ↦ h.each i s r before numbered
          | inr last ↦ absurd (omega (arith, last.0, h.count, slice_get_within old i s before))
        ]
        | inr last ↦ elim (item_of_more first rule r i there) as (λ _. IsSizeOf r.right s) [
          | inl numbered ↦ absurd (omega (arith, last.0, h.count, slice_get_within first i r numbered))
          | inr this ↦ rw (last.1, this.1) is
        ]
      ];
    }
