-- Found symbols and their flags.
use Rattle.std.proofs.Common.{◌≡◌, ◌<◌, ◌≤◌, ◌+◌, ◌++◌, ℕ, zero, suc, refl, sym, ap, subst, arith, ◌⊎◌, inl, inr, Bool, true, false, cond, List, [], ◌∷◌, Some, IsTrue, All, length, slice_get, slice_set, slice_index, slice_index_or, take, drop, replicate, get_or, ◌∙◌, append_assoc}
use Rattle.std.proofs.lemmas.List.{take_all, drop_all, append-nil, length_push}
use Rattle.std.proofs.lemmas.List.Elements.{All-get_or, All-more, All-weaker}
use Rattle.std.proofs.lemmas.Bool.{eqb-true, eq-eqb}
use Rattle.std.proofs.lemmas.Option.{same_Some, slice_get_within, slice_get_read, slice_get-get_or, get_or_from_slice_get}
use native.Mathlib.Decide.{dec_lt}
use Rattle.trs_defs.specs.Member.{In, in_first, in_rest}
use Rattle.trs_defs.specs.Tree.{Tree, Trees, var, app, cons}
use Rattle.trs_defs.specs.System.{RewriteRule, Among, IsDefined, System, IsSystem, has_root}
use Rattle.trs_defs.proofs.Members.{in_left, in_right, in_either, in_of_get, get_of_in, in_or, no_in}
use Rattle.trs_defs.proofs.ListItems.{from_item}
use Rattle.trs_defs.proofs.ArgumentLists.{cell}
use Rattle.trs_core.specs.declared.terms.Term.{Term}
use Rattle.trs_core.specs.View.{tree, forest}
use Rattle.pair_theory.specs.Subterm.{Sub, itself, under, Subs, in_head, in_tail}
use Rattle.pair_theory.specs.DependencyPair.{DependencyPair}
use Rattle.order_theory.specs.UsableRules.{IsUsable, in_pair, in_rule}
use Rattle.term_pool.specs.Numbers.{numbers_where}
use Rattle.term_pool.specs.Roots.{with_root}
use Rattle.term_pool.proofs.NumberLaws.{all_numbers, each_number}
use Rattle.term_pool.proofs.RootBlocks.{roots_declared}
use Rattle.term_pool.proofs.RootRules.{have_root}
use Rattle.dp_core.proofs.Subterms.{none_in, sub_under}
use Rattle.dp_core.proofs.Subterms as below
use Rattle.dp_core.specs.Flags.{unset}
use Rattle.dp_core.proofs.Flags.{unset_set, set_kept}
use Rattle.usable_rules.specs.AreUsable.{IsUsableRule, Ascends, no_numbers, number, AreUsableRules}
use Rattle.usable_rules.specs.Worklist.{AreMarked, IsCalled, IsCalledInAny, Extends, IsLed, IsLedByPairs, IsUsableIfDefined, has_flag}

-- ---- found symbols

length_set : (flags : List Bool) (k : ℕ) → length (slice_set flags k true) ≡ length flags
length_set [] k = refl
length_set (b ∷ flags) zero = refl
length_set (b ∷ flags) (suc k) = ap suc (length_set flags k)

set_same : (flags : List Bool) (k : ℕ) → slice_get flags k ≡ Some false → slice_get (slice_set flags k true) k ≡ Some true
set_same [] k e = absurd cc
set_same (b ∷ flags) zero e = refl
set_same (b ∷ flags) (suc k) e = set_same flags k e

set_other : (flags : List Bool) (k j : ℕ) → slice_get (slice_set flags k true) j ≡ Some true → (j ≡ k) ⊎ (slice_get flags j ≡ Some true)
set_other [] k j e = absurd cc
set_other (b ∷ flags) zero zero e = inl refl
set_other (b ∷ flags) zero (suc j) e = inr e
set_other (b ∷ flags) (suc k) zero e = inr e
set_other (b ∷ flags) (suc k) (suc j) e = elim (set_other flags k j e) [ inl s ↦ inl (ap suc s) | inr s ↦ inr s ]

in_single : {j k : ℕ} → In j (k ∷ []) → j ≡ k
in_single in_first = refl
in_single (in_rest i) = elim i [ ]

module _ (flags : List Bool) (found : List ℕ) (k : ℕ) (unmarked : slice_get flags k ≡ Some false) (m : AreMarked flags found) where
  pub one_more : AreMarked (slice_set flags k true) (found ++ k ∷ [])
  one_more = record {
    once = let a = unset_set flags k unmarked in let b = length_set flags k in let d = length_push found k in let e = m.once in omega (arith, a, b, d, e);
    marked = λ j e. elim (set_other flags k j e) [ inl s ↦ subst (λ x. In x (found ++ k ∷ [])) (sym s) (in_right found in_first) | inr s ↦ in_left (k ∷ []) (m.marked j s) ];
    found_marked = λ j i. elim (in_either found (k ∷ []) i) [
      | inl h ↦ set_kept flags k j (m.found_marked j h)
      | inr h ↦ subst (λ x. slice_get (slice_set flags k true) x ≡ Some true) (sym (in_single h)) (set_same flags k unmarked)
    ];
  }

pub last_found : (found : List ℕ) (k : ℕ) → In k (found ++ k ∷ [])
last_found found k = in_right found in_first

pub found_or_last : (found : List ℕ) (j k : ℕ) → In j (found ++ k ∷ []) → In j found ⊎ (j ≡ k)
found_or_last found j k i = elim (in_either found (k ∷ []) i) [ inl h ↦ inl h | inr h ↦ inr (in_single h) ]

pub no_more : (xs : List ℕ) → Extends xs xs
no_more xs = ([], sym (append-nil xs))

pub grown_twice : (xs ys zs : List ℕ) → Extends zs ys → Extends ys xs → Extends zs xs
grown_twice xs ys zs (b, q) (a, p) = (a ++ b, q ∙ ap (λ r. r ++ b) p ∙ append_assoc xs a b)

pub in_grown : (xs ys : List ℕ) (k : ℕ) → Extends ys xs → In k xs → In k ys
in_grown xs ys k (a, p) i = subst (λ r. In k r) (sym p) (in_left a i)

get_left : (xs ys : List ℕ) (m k : ℕ) → m < length xs → slice_get (xs ++ ys) m ≡ Some k → slice_get xs m ≡ Some k
get_left [] ys m k h e = absurd (omega arith)
get_left (x ∷ xs) ys zero k h e = e
get_left (x ∷ xs) ys (suc m) k h e = get_left xs ys m k (omega arith) e

pub get_grown : (xs ys : List ℕ) (m k : ℕ) → Extends ys xs → m < length xs → slice_get ys m ≡ Some k → slice_get xs m ≡ Some k
get_grown xs ys m k (a, p) h e = get_left xs a m k h (subst (λ r. slice_get r m ≡ Some k) p e)

-- ---- the symbols of terms

itself_or_under : {f g : ℕ} {us ts : Trees} → Sub (app g us) (app f ts) → (g ≡ f) ⊎ Subs (app g us) ts
itself_or_under itself = inl refl
itself_or_under (under p) = inr p

head_or_tail : {t u : Tree} {ts : Trees} → Subs t (cons u ts) → Sub t u ⊎ Subs t ts
head_or_tail (in_head p) = inl p
head_or_tail (in_tail p) = inr p

pub start_all : (f n : ℕ) (t : Tree) (ts : Trees) (found : List ℕ) → t ≡ app f ts → (f < n → In f found) → (g : ℕ) → IsCalled t g → g < n → In g found ⊎ IsCalledInAny ts g
start_all f n t ts found is new g (us, p) low = elim (itself_or_under (subst (λ s. Sub (app g us) s) is p)) [
  | inl same ↦ inl (subst (λ x. In x found) (sym same) (new (subst (λ x. x < n) same low)))
  | inr q ↦ inr (us, q)
]

pub start_only : (f : ℕ) (t : Tree) (ts : Trees) (old found : List ℕ) → t ≡ app f ts → ((g : ℕ) → In g found → In g old ⊎ (g ≡ f)) → (g : ℕ) → In g found → In g old ⊎ IsCalled t g
start_only f t ts old found is only g i = elim (only g i) [
  | inl h ↦ inl h
  | inr same ↦ inr (ts, subst (λ x. Sub (app x ts) t) (sym same) (subst (λ s. Sub (app f ts) s) (sym is) itself))
]

pub next_all : (items : List Term) (i g n : ℕ) (part : Term) (found new : List ℕ) → i < length items → part ≡ get_or items i part
    → (In g found → In g new) → (IsCalled (tree part) g → g < n → In g new) → g < n
    → In g found ⊎ IsCalledInAny (forest (drop i items)) g → In g new ⊎ IsCalledInAny (forest (drop (i + 1) items)) g
next_all items i g n part found new h e keeps calls low (inl a) = inl (keeps a)
next_all items i g n part found new h e keeps calls low (inr (us, p)) =
    elim (head_or_tail (subst (λ ts. Subs (app g us) (forest ts)) (cell items i part h e) p))
    [ inl q ↦ inl (calls (us, q) low) | inr q ↦ inr (us, q) ]

pub called_in_any : (items : List Term) (i g : ℕ) (part : Term) → i < length items → part ≡ get_or items i part → IsCalled (tree part) g → IsCalledInAny (forest items) g
called_in_any items i g part h e (us, p) = (us, below.in_one (app g us) items i part h e p)

pub called_under : (f g : ℕ) (t : Tree) (ts : Trees) → t ≡ app f ts → IsCalledInAny ts g → IsCalled t g
called_under f g t ts is (us, p) = (us, sub_under (app g us) t f ts is p)

pub none_left : (items : List Term) (i g : ℕ) (found : List ℕ) → length items ≤ i → In g found ⊎ IsCalledInAny (forest (drop i items)) g → In g found
none_left items i g found h (inl a) = a
none_left items i g found h (inr (us, p)) = absurd (none_in (app g us) items i h p)

pub none_in_variable : (t : Tree) (v g : ℕ) → t ≡ var v → IsCalled t g → ⊥
none_in_variable t v g is (us, p) = let q : Sub (app g us) (var v) = subst (λ s. Sub (app g us) s) is p in elim q [ ]

pub next_only : {A B : ℕ → Type 0} (old found new : List ℕ) → ((g : ℕ) → In g new → In g found ⊎ A g) → ((g : ℕ) → A g → B g)
    → ((g : ℕ) → In g found → In g old ⊎ B g) → (g : ℕ) → In g new → In g old ⊎ B g
next_only old found new a ab b g i = elim (a g i) [ inl h ↦ b g h | inr h ↦ inr (ab g h) ]

-- ---- the symbols of pairs

pub pairs_all : (taken : List DependencyPair) (i g n : ℕ) (p : DependencyPair) (found new : List ℕ) → slice_get taken i ≡ Some p
    → (In g found → In g new) → (IsCalledInAny p.to.args g → g < n → In g new) → g < n
    → In g found ⊎ IsLedByPairs (drop i taken) g → In g new ⊎ IsLedByPairs (drop (i + 1) taken) g
pairs_all taken i g n p found new e keeps calls low (inl a) = inl (keeps a)
pairs_all taken i g n p found new e keeps calls low (inr (q, m, call)) =
    elim (in_or (subst (λ ps. In q ps) (from_item taken i p e) m)) [
      | inl s ↦ inl (calls (subst (λ (x : DependencyPair). IsCalledInAny x.to.args g) s call) low)
      | inr s ↦ inr (q, (let same : suc i ≡ i + 1 = omega arith in subst (λ n. In q (drop n taken)) same s), call)
    ]

pub led_by_pair : (taken : List DependencyPair) (i g : ℕ) (p : DependencyPair) → slice_get taken i ≡ Some p → IsCalledInAny p.to.args g → IsLedByPairs taken g
led_by_pair taken i g p e call = (p, in_of_get taken i p e, call)

pub no_pairs_left : (taken : List DependencyPair) (i g : ℕ) (found : List ℕ) → length taken ≤ i → In g found ⊎ IsLedByPairs (drop i taken) g → In g found
no_pairs_left taken i g found h (inl a) = a
no_pairs_left taken i g found h (inr (q, m, call)) = absurd (no_in (subst (λ ps. In q ps) (drop_all i taken h) m))

-- ---- the symbols of right sides

-- those of the rule of this number are found
abbrev pub IsVisited : List RewriteRule → List ℕ → ℕ → ℕ → Type 0
IsVisited rules found n k = (r : RewriteRule) → slice_get rules k ≡ Some r → (g : ℕ) → IsCalled r.right g → g < n → In g found

module _ (rules : List RewriteRule) (f n : ℕ) (ks : List ℕ) (are : ks ≡ with_root f rules) where
  module _ (i : ℕ) (rule : RewriteRule) (within : i < length ks) (there : slice_get rules (slice_index ks i) ≡ Some rule) (found new : List ℕ) where
    pub one_visited : ((g : ℕ) → In g found → In g new) → ((g : ℕ) → IsCalled rule.right g → g < n → In g new)
        → All (IsVisited rules found n) (take i ks) → All (IsVisited rules new n) (take (i + 1) ks)
    one_visited keeps calls all =
        All-more (IsVisited rules new n) ks i 0 within
        (All-weaker (IsVisited rules found n) (IsVisited rules new n) (λ k visited r at g call low. keeps g (visited r at g call low)) (take i ks) all)
        (λ r at g call low. let same : r ≡ rule = same_Some r rule (sym at ∙ there) in calls g (subst (λ (q : RewriteRule). IsCalled q.right g) same call) low)

    pub led_here : (g : ℕ) → IsCalled rule.right g → IsLed rules f g
    led_here g call =
        let P : ℕ → Type 0 = λ k. (r : RewriteRule) → slice_get rules k ≡ Some r → IsTrue (has_root f r.left) in
        let rooted = All-get_or P ks i 0 within (subst (All P) (sym are) (have_root f rules)) in
        (rule, in_of_get rules (slice_index ks i) rule there, rooted rule there, call)

  pub all_visited : (i : ℕ) (found : List ℕ) → length ks ≤ i → All (IsVisited rules found n) (take i ks) → (g : ℕ) → IsLed rules f g → g < n → In g found
  all_visited i found past all g (r, m, rooted, call) low =
      let (k, at) = get_of_in m in
      let whole : All (IsVisited rules found n) (with_root f rules) = subst (All (IsVisited rules found n)) (take_all i ks past ∙ are) all in
      each_number (λ (q : RewriteRule). has_root f q.left) (IsVisited rules found n) r rooted k 0 rules whole k at (omega arith) r at g call low

pub longer : (xs ys : List ℕ) → Extends ys xs → length xs ≤ length ys
longer xs ys (a, p) = let h : length ys ≡ length (xs ++ a) = ap length p in omega (arith, h, go xs)
  where
    go : (zs : List ℕ) → length zs ≤ length (zs ++ a)
    go [] = omega arith
    go (z ∷ zs) = omega (arith, go zs)

pub all_done : (rules : List RewriteRule) (found new : List ℕ) (i x n : ℕ) → i < length found → x ≡ get_or found i x → Extends new found
    → ((g : ℕ) → IsLed rules x g → g < n → In g new) → ((m f g : ℕ) → m < i → slice_get found m ≡ Some f → IsLed rules f g → g < n → In g found)
    → (m f g : ℕ) → m < i + 1 → slice_get new m ≡ Some f → IsLed rules f g → g < n → In g new
all_done rules found new i x n h e grown led done m f g l at is low =
    let old : slice_get found m ≡ Some f = get_grown found new m f grown (omega (arith, l, h)) at in
    elim (dec_lt m i) [
      | yes s ↦ in_grown found new g grown (done m f g s old is low)
      | no s ↦ (let same : m ≡ i = omega (arith, s, l) in
          let at_i : slice_get found i ≡ Some f = subst (λ n. slice_get found n ≡ Some f) same old in
          let x_is : f ≡ x = same_Some f x (sym at_i ∙ slice_get_read found _ i x refl h e) in
          led g (subst (λ n. IsLed rules n g) x_is is) low)
    ]

pub item_in : (found : List ℕ) (i f : ℕ) → i < length found → f ≡ get_or found i f → In f found
item_in found i f h e = in_of_get found i f (slice_get_read found _ i f refl h e)

pub done_all : (rules : List RewriteRule) (found : List ℕ) (i f g n : ℕ) → length found ≤ i
    → ((m f g : ℕ) → m < i → slice_get found m ≡ Some f → IsLed rules f g → g < n → In g found) → In f found → IsLed rules f g → g < n → In g found
done_all rules found i f g n h done m led low = let at = get_of_in m in done at.0 f g (let w = slice_get_within found at.0 f at.1 in omega (arith, w, h)) at.1 led low

-- ---- usable symbols

-- a term with a root
rooted_shape : (f : ℕ) (t : Tree) → has_root f t ≡ true → (ls : Trees) × (t ≡ app f ls)
rooted_shape f (var x) e = absurd cc
rooted_shape f (app g ts) e = let same : g ≡ f = eqb-true g f e in (ts, ap (λ n. app n ts) same)

module _ (rules : List RewriteRule) (pairs : List DependencyPair) where
  pub pair_usable : (g : ℕ) → IsLedByPairs pairs g → IsUsableIfDefined rules pairs g
  pair_usable g (p, m, (us, q)) d = in_pair p g us m q d

  pub led_usable : (f g : ℕ) → IsUsableIfDefined rules pairs f → IsLed rules f g → IsUsableIfDefined rules pairs g
  led_usable f g u (r, m, rooted, (us, q)) d =
      let (ls, is) = rooted_shape f r.left rooted in
      let among : Among rules (app f ls) r.right = subst (λ l. In (record { left = l; right = r.right }) rules) is m in
      in_rule f g ls us r.right (u (ls, r.right, among)) among q d

  module _ (found : List ℕ) (n : ℕ) (declared : (g : ℕ) → IsDefined (Among rules) g → g < n) (start : (g : ℕ) → IsLedByPairs pairs g → g < n → In g found)
      (closed : (f g : ℕ) → In f found → IsLed rules f g → g < n → In g found) where
    usable_found : (g : ℕ) → IsUsable rules pairs g → In g found
    usable_found g (in_pair p _ us i q d) = start g (p, i, (us, q)) (declared g d)
    usable_found g (in_rule f _ ls us t u i q d) = closed f g (usable_found f u) (record { left = app f ls; right = t }, i, eq-eqb f f refl, (us, q)) (declared g d)

pub defined_declared : (system : System) → IsSystem system → (g : ℕ) → IsDefined (Among system.rules) g → g < length system.arities
defined_declared system valid g (ls, r, m) =
    let (k, at) = get_of_in m in
    omega (arith, (roots_declared system (length system.arities + 1) valid refl).each k g (record { left = app g ls; right = r }) at (eq-eqb g g refl))

-- ---- the numbers of their rules

in_all : {A : Type 0} (P : A → Type 0) (xs : List A) (x : A) → All P xs → In x xs → P x
in_all P xs x all m = let (i, at) = get_of_in m in subst P (get_or_from_slice_get xs i x x at) (all i x (slice_get_within xs i x at))

all_in_themselves : {A : Type 0} (xs : List A) → All (λ x. In x xs) xs
all_in_themselves xs = λ i d h. in_of_get xs i (get_or xs i d) (slice_get-get_or xs i d h)

pub numbers_ascend : (test : RewriteRule → Bool) (m : ℕ) (rules : List RewriteRule) → Ascends (numbers_where test m rules)
numbers_ascend test m [] = no_numbers
numbers_ascend test m (rule ∷ rules) = go (test rule) (numbers_ascend test (m + 1) rules)
  where
    rest : List ℕ
    rest = numbers_where test (m + 1) rules

    above : (k : ℕ) → In k rest → m < k
    above k i = in_all (λ k. m < k) rest k (all_numbers test (λ k. m < k) (m + 1) rules (λ i k r e at h. omega (arith, e))) i

    go : (b : Bool) → Ascends rest → Ascends (cond b (m ∷ rest) rest)
    go true a = number m rest above a
    go false a = a

flag_there : (flags : List Bool) (f : ℕ) → slice_index_or flags f false ≡ true → slice_get flags f ≡ Some true
flag_there [] f e = absurd cc
flag_there (b ∷ flags) zero e = ap (λ x. Some x) e
flag_there (b ∷ flags) (suc f) e = flag_there flags f e

flagged_root : (flags : List Bool) (t : Tree) → has_flag flags t ≡ true → (f : ℕ) × (ls : Trees) × (t ≡ app f ls) × (slice_get flags f ≡ Some true)
flagged_root flags (var x) e = absurd cc
flagged_root flags (app f ls) e = (f, ls, refl, flag_there flags f e)

pub whole : (system : System) (pairs : List DependencyPair) (flags : List Bool) (started found numbers : List ℕ) → IsSystem system → length flags ≡ length system.arities → AreMarked flags found
    → numbers ≡ numbers_where (λ (r : RewriteRule). has_flag flags r.left) 0 system.rules
    → ((g : ℕ) → In g started → In g found) → ((g : ℕ) → IsLedByPairs pairs g → g < length flags → In g started) → ((g : ℕ) → In g started → In g [] ⊎ IsLedByPairs pairs g)
    → ((f g : ℕ) → In f found → IsLed system.rules f g → g < length flags → In g found)
    → (((g : ℕ) → In g started → IsUsableIfDefined system.rules pairs g) → (g : ℕ) → In g found → IsUsableIfDefined system.rules pairs g) → AreUsableRules system.rules pairs numbers
whole system pairs flags started found numbers valid same marked are kept start begun closed only = subst (λ ns. AreUsableRules system.rules pairs ns) (sym are) (record {
  exact = λ k. (listed_usable k, usable_listed k);
  ascending = numbers_ascend test 0 system.rules;
})
  where
    test : RewriteRule → Bool
    test r = has_flag flags r.left

    usable : (g : ℕ) → In g found → IsUsableIfDefined system.rules pairs g
    usable = only (λ g i. elim (begun g i) [ inl none ↦ absurd (no_in none) | inr led ↦ pair_usable system.rules pairs g led ])

    one_usable : (i k : ℕ) (r : RewriteRule) → k ≡ 0 + i → slice_get system.rules i ≡ Some r → IsTrue (test r) → IsUsableRule system.rules pairs k
    one_usable i k r e at h =
        let (f, ls, is, flag) = flagged_root flags r.left h in
        let k_is : i ≡ k = omega (arith, e) in
        let r_is : r ≡ record { left = app f ls; right = r.right } = subst (λ l. r ≡ record { left = l; right = r.right }) is refl in
        let numbered : slice_get system.rules k ≡ Some (record { left = app f ls; right = r.right }) = subst (λ n. slice_get system.rules n ≡ Some r) k_is at ∙ ap (λ x. Some x) r_is in
        record {
          root = f;
          args = ls;
          right = r.right;
          numbered = numbered;
          usable = usable f (marked.marked f flag) (ls, r.right, in_of_get system.rules k (record { left = app f ls; right = r.right }) numbered);
        }

    listed_usable : (k : ℕ) → In k (numbers_where test 0 system.rules) → IsUsableRule system.rules pairs k
    listed_usable k i = in_all (IsUsableRule system.rules pairs) (numbers_where test 0 system.rules) k (all_numbers test (IsUsableRule system.rules pairs) 0 system.rules one_usable) i

    declared : (g : ℕ) → IsDefined (Among system.rules) g → g < length flags
    declared g d = omega (arith, same, defined_declared system valid g d)

    usable_listed : (k : ℕ) → IsUsableRule system.rules pairs k → In k (numbers_where test 0 system.rules)
    usable_listed k u =
        let there = usable_found system.rules pairs found (length flags) declared (λ g led low. kept g (start g led low)) closed u.root u.usable in
        let flag : has_flag flags (app u.root u.args) ≡ true = get_or_from_slice_get flags u.root true false (marked.found_marked u.root there) in
        each_number test (λ k. In k (numbers_where test 0 system.rules)) (record { left = app u.root u.args; right = u.right }) flag k 0 system.rules (all_in_themselves (numbers_where test 0 system.rules)) k u.numbered (omega arith)

pub unmarked_start : (flags : List Bool) (n : ℕ) → flags ≡ replicate n false → AreMarked flags []
unmarked_start flags n e = subst (λ fs. AreMarked fs []) (sym e) (record { once = all_unset n; marked = λ k s. absurd (none_set n k s); found_marked = λ k i. elim i [ ] })
  where
    all_unset : (m : ℕ) → 0 + unset (replicate m false) ≡ length (replicate m false)
    all_unset zero = refl
    all_unset (suc m) = let h = all_unset m in omega (arith, h)

    none_set : (m k : ℕ) → slice_get (replicate m false) k ≡ Some true → ⊥
    none_set zero k s = absurd cc
    none_set (suc m) zero s = absurd cc
    none_set (suc m) (suc k) s = none_set m k s
