-- The placed pairs, as they are listed along the right sides.
use Rattle.std.specs.Prelude.{◌≡◌, ◌≤◌, ◌<◌, ℕ, ◌+◌, Bool, true, false, List, [], ◌∷◌, ◌++◌, map, length, drop, get_or, Some, slice_get}
use Rattle.std.proofs.Common.{refl, sym, ap, subst, ◌∙◌, append_assoc}
use Rattle.std.proofs.lemmas.List.{drop_all, map-append, append-nil}
use Rattle.std.proofs.lemmas.Option.{slice_get_within, get_or_from_slice_get}
use Rattle.trs_defs.specs.Tree.{Tree, Trees, app}
use Rattle.trs_defs.specs.System.{RewriteRule, System, IsSystem, is_defined}
use Rattle.trs_defs.specs.Path.{PlacedRule}
use Rattle.trs_defs.proofs.ArgumentLists.{cell}
use Rattle.trs_core.specs.declared.terms.Term.{Term}
use Rattle.trs_core.specs.View.{tree, forest}
use Rattle.term_pool.specs.Redexes.{IsNarrow}
use Rattle.term_pool.proofs.NarrowLaws.{narrow_of_well_formed}
use Rattle.pair_theory.specs.DependencyPair.{keep_if}
use Rattle.dp_core.specs.PlacedPairs.{defined_places, defined_places_of_all, placed_below, placed_pairs_from}

-- the pairs below arguments that are counted from n on
abbrev pub below_arguments : List RewriteRule → ℕ → List ℕ → ℕ → Trees → List PlacedRule
below_arguments rules k p n ts = placed_below k p (defined_places_of_all rules n ts)

kept_first : (k : ℕ) (p : List ℕ) (b : Bool) (places : List (List ℕ)) → placed_below k p (keep_if b [] places) ≡ placed_below k p (keep_if b [] []) ++ placed_below k p places
kept_first k p true places = refl
kept_first k p false places = refl

-- after the root the arguments are left
pub root_first : (rules : List RewriteRule) (k : ℕ) (p : List ℕ) (f : ℕ) (ts : Trees) (t : Tree) → t ≡ app f ts
    → placed_below k p (defined_places rules t) ≡ placed_below k p (keep_if (is_defined rules f) [] []) ++ below_arguments rules k p 1 ts
root_first rules k p f ts t is =
    ap (λ u. placed_below k p (defined_places rules u)) is ∙ kept_first k p (is_defined rules f) (defined_places_of_all rules 1 ts)

pushed_below : (k n : ℕ) (p : List ℕ) (places : List (List ℕ)) → placed_below k p (map (λ q. n ∷ q) places) ≡ placed_below k (p ++ n ∷ []) places
pushed_below k n p [] = refl
pushed_below k n p (q ∷ places) = rw (append_assoc p (n ∷ []) q, pushed_below k n p places) refl

-- the next argument
pub next_below : (rules : List RewriteRule) (k : ℕ) (p q : List ℕ) (ts : List Term) (i : ℕ) (t : Term) → i < length ts → t ≡ get_or ts i t → q ≡ p ++ (i + 1) ∷ []
    → below_arguments rules k p (i + 1) (forest (drop i ts)) ≡ placed_below k q (defined_places rules (tree t)) ++ below_arguments rules k p (i + 1 + 1) (forest (drop (i + 1) ts))
next_below rules k p q ts i t h e is =
    let first : List (List ℕ) = map (λ u. (i + 1) ∷ u) (defined_places rules (tree t)) in
    let rest : List (List ℕ) = defined_places_of_all rules (i + 1 + 1) (forest (drop (i + 1) ts)) in
    ap (λ us. below_arguments rules k p (i + 1) (forest us)) (cell ts i t h e)
    ∙ (map-append (λ u. record { place = p ++ u; rule = k }) first rest
    ∙ ap (λ ps. ps ++ placed_below k p rest) (pushed_below k (i + 1) p (defined_places rules (tree t)) ∙ ap (λ z. placed_below k z (defined_places rules (tree t))) (sym is)))

-- an argument without pairs is passed over
pub argument_passed : (rules : List RewriteRule) (k : ℕ) (p : List ℕ) (ts : List Term) (i : ℕ) (t : Term) → i < length ts → t ≡ get_or ts i t → defined_places rules (tree t) ≡ []
    → below_arguments rules k p (i + 1) (forest (drop i ts)) ≡ below_arguments rules k p (i + 1 + 1) (forest (drop (i + 1) ts))
argument_passed rules k p ts i t h e none =
    let q : List ℕ = p ++ (i + 1) ∷ [] in
    next_below rules k p q ts i t h e refl ∙ ap (λ places. placed_below k q places ++ below_arguments rules k p (i + 1 + 1) (forest (drop (i + 1) ts))) none

pub no_argument_left : (rules : List RewriteRule) (k : ℕ) (p : List ℕ) (ts : List Term) (i : ℕ) → length ts ≤ i → below_arguments rules k p (i + 1) (forest (drop i ts)) ≡ []
no_argument_left rules k p ts i h = ap (λ us. below_arguments rules k p (i + 1) (forest us)) (drop_all i ts h)

-- What is listed, and what is left, are the whole.
abbrev pub Whole : List PlacedRule → List PlacedRule → List PlacedRule → Type 0
Whole all listed left = all ≡ listed ++ left

pub one_part_more : (all listed new left part rest : List PlacedRule) → Whole all listed left → left ≡ part ++ rest → new ≡ listed ++ part → Whole all new rest
one_part_more all listed new left part rest whole e grown =
    whole ∙ (ap (λ l. listed ++ l) e ∙ (sym (append_assoc listed part rest) ∙ ap (λ l. l ++ rest) (sym grown)))

pub passed_over : (all listed left rest : List PlacedRule) → Whole all listed left → left ≡ rest → Whole all listed rest
passed_over all listed left rest whole e = whole ∙ ap (λ l. listed ++ l) e

pub nothing_left : (all listed left : List PlacedRule) → Whole all listed left → left ≡ [] → listed ≡ all
nothing_left all listed left whole none = sym (whole ∙ (ap (λ l. listed ++ l) none ∙ append-nil listed))

-- the next rule
pub next_rule : (rules : List RewriteRule) (k : ℕ) (rule : RewriteRule) (place : List ℕ) (t : Tree) → place ≡ [] → t ≡ rule.right → slice_get rules k ≡ Some rule
    → placed_pairs_from rules k (drop k rules) ≡ placed_below k place (defined_places rules t) ++ placed_pairs_from rules (k + 1) (drop (k + 1) rules)
next_rule rules k rule place t none is e =
    let same : placed_below k place (defined_places rules t) ≡ placed_below k [] (defined_places rules rule.right) =
    ap (λ z. placed_below k z (defined_places rules t)) none ∙ ap (λ u. placed_below k [] (defined_places rules u)) is in
    ap (placed_pairs_from rules k) (cell rules k rule (slice_get_within rules k rule e) (sym (get_or_from_slice_get rules k rule rule e)))
    ∙ ap (λ ps. ps ++ placed_pairs_from rules (k + 1) (drop (k + 1) rules)) (sym same)

-- a rule without pairs is passed over
pub rule_passed : (rules : List RewriteRule) (k : ℕ) (rule : RewriteRule) (t : Tree) → t ≡ rule.right → slice_get rules k ≡ Some rule → defined_places rules t ≡ []
    → placed_pairs_from rules k (drop k rules) ≡ placed_pairs_from rules (k + 1) (drop (k + 1) rules)
rule_passed rules k rule t is e none =
    next_rule rules k rule [] t refl is e ∙ ap (λ places. placed_below k [] places ++ placed_pairs_from rules (k + 1) (drop (k + 1) rules)) none

pub no_rule_left : (rules : List RewriteRule) (k : ℕ) → length rules ≤ k → placed_pairs_from rules k (drop k rules) ≡ []
no_rule_left rules k h = ap (placed_pairs_from rules k) (drop_all k rules h)

-- from the root on
pub from_root : (rules : List RewriteRule) (k : ℕ) (p : List ℕ) (f : ℕ) (ts : Trees) (t : Tree) → t ≡ app f ts → (old new : List PlacedRule)
    → new ≡ old ++ placed_below k p (keep_if (is_defined rules f) [] []) → Whole (old ++ placed_below k p (defined_places rules t)) new (below_arguments rules k p 1 ts)
from_root rules k p f ts t is old new grown =
    ap (λ l. old ++ l) (root_first rules k p f ts t is)
    ∙ (sym (append_assoc old (placed_below k p (keep_if (is_defined rules f) [] [])) (below_arguments rules k p 1 ts)) ∙ ap (λ l. l ++ below_arguments rules k p 1 ts) (sym grown))

pub narrow_right : (system : System) (small : (f n : ℕ) → slice_get system.arities f ≡ Some n → n < 256) → IsSystem system → (k : ℕ) (rule : RewriteRule) (t : Tree) → t ≡ rule.right
    → slice_get system.rules k ≡ Some rule → IsNarrow t
narrow_right system small is_system k rule t is numbered = subst IsNarrow (sym is) (narrow_of_well_formed system.arities small rule.right (is_system.each k rule numbered).right_well_formed)
