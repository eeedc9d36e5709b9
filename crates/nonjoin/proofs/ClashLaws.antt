-- Whether the caps of two terms clash, found out from their roots on.
use Rattle.std.specs.Prelude.{not, ◌||◌, ◌==◌}
use Rattle.std.specs.Option.{option_map, option_and_then}
use Rattle.std.proofs.Common.{◌≡◌, ◌↔◌, ℕ, ◌+◌, ◌<◌, Bool, true, false, IsTrue, List, [], ◌∷◌, map, drop, Option, Some, None, slice_get, zero, suc, refl, ap, sym, ◌∙◌, subst, arith, add-one}
use Rattle.std.proofs.lemmas.Bool.Decides.{nat_tests}
use Rattle.std.proofs.lemmas.List.Elements.{All-nil}
use Rattle.trs_defs.specs.Tree.{Tree, Trees, var, app, nil, cons, items}
use Rattle.trs_defs.specs.Position.{argument_at, subterm_at}
use Rattle.trs_defs.specs.Size.{size_of}
use Rattle.trs_defs.specs.System.{RewriteRule, System, IsSystem}
use Rattle.trs_defs.proofs.ArgumentLists.{item_size}
use Rattle.trs_defs.proofs.ListItems.{next_item}
use Rattle.term_pool.specs.Pooled.{tree_at}
use Rattle.term_pool.specs.Roots.{with_root}
use Rattle.term_pool.proofs.RootRules.{IsSuch, NoneSuch}
use Rattle.trs_caps.specs.Clash.{clash, some_clash, AreDisjoint}
use Rattle.trs_caps.specs.HoledTree.{HoledTree, HoledTrees, symbol, holed_trees}
use Rattle.trs_caps.specs.HoledCap.{IsHoledCap, AreHoledCaps, symbol_kept, no_holed, one_holed}
use Rattle.trs_caps.proofs.CapExists.{cap_exists}
use Rattle.trs_caps.proofs.Compatible.{clash_itself, clash_where_disjoint, disjoint_where_clash}
use Rattle.trs_caps.proofs.Fitting.{one_cap}
use Rattle.trs_caps.proofs.MetRules.{Meets, meets_none}
use Rattle.nonjoin.specs.Apart.{AreApart}
use Rattle.nonjoin.specs.Clashing.{TellsClash, HasKeptRoot}
use Rattle.nonjoin.proofs.ApartLaws.{apart_where_disjoint}

-- ---- the cap of a term

pub the_cap : List RewriteRule → Tree → HoledTree
the_cap rules t = (cap_exists rules true t).0

pub the_cap_is : (rules : List RewriteRule) (t : Tree) → IsHoledCap rules true t (the_cap rules t)
unfolding the_cap
the_cap_is rules t = (cap_exists rules true t).1

abbrev pub caps_of : List RewriteRule → List Tree → HoledTrees
caps_of rules ts = holed_trees (map (the_cap rules) ts)

each_cap : (rules : List RewriteRule) (ts : Trees) → AreHoledCaps rules true ts (caps_of rules (items ts))
each_cap rules nil = no_holed
each_cap rules (cons t ts) = one_holed (the_cap_is rules t) (each_cap rules ts)

module _ (rules : List RewriteRule) (a b : Tree) where
  pub told : (answer : Bool) → answer ≡ clash (the_cap rules a) (the_cap rules b) → TellsClash rules a b answer
  told answer e c d first second =
      let left : the_cap rules a ≡ c = one_cap rules true (the_cap_is rules a) first in
      let right : the_cap rules b ≡ d = one_cap rules true (the_cap_is rules b) second in
      e ∙ (ap (λ z. clash z (the_cap rules b)) left ∙ ap (clash c) right)

  pub tells : (answer : Bool) → TellsClash rules a b answer → answer ≡ clash (the_cap rules a) (the_cap rules b)
  tells answer h = h (the_cap rules a) (the_cap rules b) (the_cap_is rules a) (the_cap_is rules b)

  -- equal terms
  pub same_told : a ≡ b → TellsClash rules a b false
  same_told same = told false (sym (ap (λ z. clash z (the_cap rules b)) (ap (the_cap rules) same) ∙ clash_itself (the_cap rules b)))

  -- two caps of the terms
  pub caps_told : (answer : Bool) (c d : HoledTree) → IsHoledCap rules true a c → IsHoledCap rules true b d → IsTrue answer ↔ AreDisjoint c d → TellsClash rules a b answer
  caps_told answer c d first second disjoint k l first' second' =
      let left : c ≡ k = one_cap rules true first first' in
      let right : d ≡ l = one_cap rules true second second' in
      clash_where_disjoint c d answer disjoint ∙ (ap (λ z. clash z d) left ∙ ap (clash k) right)

  -- the terms are apart exactly where their caps clash
  pub tells_apart : (answer : Bool) → TellsClash rules a b answer → IsTrue answer ↔ AreApart rules a b
  tells_apart answer tell =
      apart_where_disjoint rules a b (the_cap rules a) (the_cap rules b) (the_cap_is rules a) (the_cap_is rules b) answer (disjoint_where_clash (the_cap rules a) (the_cap rules b) answer (tells answer tell))

-- ---- arguments by their places

abbrev pub args_of : Tree → List Tree
args_of (var v) = []
args_of (app f ts) = items ts

at_end : (found : Option Tree) → option_and_then (subterm_at []) found ≡ found
at_end None = refl
at_end (Some t) = refl

argument_item : (t : Tree) (i : ℕ) → subterm_at ((i + 1) ∷ []) t ≡ slice_get (args_of t) i
argument_item (var v) i = refl
argument_item (app f ts) i =
    let argument : argument_at (app f ts) (i + 1) ≡ slice_get (items ts) i = rw add-one refl in
    at_end (argument_at (app f ts) (i + 1)) ∙ argument

nothing_left : (xs : List Tree) (i : ℕ) → slice_get xs i ≡ None → drop i xs ≡ []
nothing_left [] zero none = refl
nothing_left [] (suc i) none = refl
nothing_left (x ∷ xs) zero none = absurd cc
nothing_left (x ∷ xs) (suc i) none = nothing_left xs i none

-- the argument that was found at a place of an id's term
module _ (pool : List Tree) (id i : ℕ) (places : List ℕ) (found : Option ℕ) (is : places ≡ (i + 1) ∷ []) (at : option_map (tree_at pool) found ≡ subterm_at places (tree_at pool id)) where
  pub item_read : option_map (tree_at pool) found ≡ slice_get (args_of (tree_at pool id)) i
  item_read = at ∙ (ap (λ p. subterm_at p (tree_at pool id)) is ∙ argument_item (tree_at pool id) i)

  pub item_there : (k : ℕ) → found ≡ Some k → slice_get (args_of (tree_at pool id)) i ≡ Some (tree_at pool k)
  item_there k some = sym item_read ∙ ap (option_map (tree_at pool)) some

  pub no_item : found ≡ None → slice_get (args_of (tree_at pool id)) i ≡ None
  no_item gone = sym item_read ∙ ap (option_map (tree_at pool)) gone

pub item_smaller : (t : Tree) (i : ℕ) (u : Tree) → slice_get (args_of t) i ≡ Some u → size_of u < size_of t
item_smaller (var v) i u there = absurd cc
item_smaller (app f ts) i u there = let small = item_size ts i u there in omega (arith, small)

-- ---- roots that stay

module _ (system : System) (valid : IsSystem system) where
  kept_cap : (f : ℕ) (ts : Trees) → with_root f system.rules ≡ [] → the_cap system.rules (app f ts) ≡ symbol f (caps_of system.rules (items ts))
  kept_cap f ts kept =
      let whole : HoledTree = symbol f (caps_of system.rules (items ts)) in
      let unmet : NoneSuch (Meets whole) system.rules (with_root f system.rules) = subst (NoneSuch (Meets whole) system.rules) (sym kept) (All-nil (λ k. IsSuch (Meets whole) system.rules k → ⊥)) in
      let free = meets_none system whole f (caps_of system.rules (items ts), refl) valid unmet in
      one_cap system.rules true (the_cap_is system.rules (app f ts)) (symbol_kept (each_cap system.rules ts) free)

  root_stays : (t : Tree) (f : ℕ) → HasKeptRoot system.rules t f → the_cap system.rules t ≡ symbol f (caps_of system.rules (args_of t))
  root_stays t f root =
      ap (the_cap system.rules) root.term ∙ (kept_cap f root.args root.kept ∙ ap (λ z. symbol f (caps_of system.rules (args_of z))) (sym root.term))

  module _ (a b : Tree) (f g : ℕ) (first : HasKeptRoot system.rules a f) (second : HasKeptRoot system.rules b g) where
    below_roots : clash (the_cap system.rules a) (the_cap system.rules b) ≡ (not (f == g) || some_clash (caps_of system.rules (args_of a)) (caps_of system.rules (args_of b)))
    below_roots =
        ap (λ z. clash z (the_cap system.rules b)) (root_stays a f first) ∙ ap (clash (symbol f (caps_of system.rules (args_of a)))) (root_stays b g second)

    pub roots_differ : (f ≡ g → ⊥) → TellsClash system.rules a b true
    roots_differ other =
        let e : (f == g) ≡ false = grind (arith, nat_tests) in
        told system.rules a b true (sym (below_roots ∙ ap (λ z. not z || some_clash (caps_of system.rules (args_of a)) (caps_of system.rules (args_of b))) e))

    pub roots_alike : f ≡ g → some_clash (caps_of system.rules (args_of a)) (caps_of system.rules (args_of b)) ≡ clash (the_cap system.rules a) (the_cap system.rules b)
    roots_alike same =
        let e : (f == g) ≡ true = grind (arith, nat_tests) in
        sym (below_roots ∙ ap (λ z. not z || some_clash (caps_of system.rules (args_of a)) (caps_of system.rules (args_of b))) e)

-- ---- arguments, one after another

-- what is left of the arguments clashes exactly where the caps of the terms do
abbrev pub LeftClash : List RewriteRule → Tree → Tree → ℕ → Type 0
LeftClash rules a b i = some_clash (caps_of rules (drop i (args_of a))) (caps_of rules (drop i (args_of b))) ≡ clash (the_cap rules a) (the_cap rules b)

module _ (rules : List RewriteRule) (a b : Tree) (i : ℕ) (left : LeftClash rules a b i) where
  over : (xs ys : List Tree) → drop i (args_of a) ≡ xs → drop i (args_of b) ≡ ys → some_clash (caps_of rules xs) (caps_of rules ys) ≡ clash (the_cap rules a) (the_cap rules b)
  over xs ys first second =
      sym (ap (λ zs. some_clash (caps_of rules zs) (caps_of rules (drop i (args_of b)))) first ∙ ap (λ zs. some_clash (caps_of rules xs) (caps_of rules zs)) second) ∙ left

  -- the next argument of both
  module _ (x y : Tree) (first : slice_get (args_of a) i ≡ Some x) (second : slice_get (args_of b) i ≡ Some y) (here : Bool) (tell : TellsClash rules x y here) where
    with_first : (here || some_clash (caps_of rules (drop (i + 1) (args_of a))) (caps_of rules (drop (i + 1) (args_of b)))) ≡ clash (the_cap rules a) (the_cap rules b)
    with_first =
        ap (λ z. z || some_clash (caps_of rules (drop (i + 1) (args_of a))) (caps_of rules (drop (i + 1) (args_of b)))) (tells rules x y here tell)
        ∙ over (x ∷ drop (i + 1) (args_of a)) (y ∷ drop (i + 1) (args_of b)) (next_item (args_of a) i x first) (next_item (args_of b) i y second)

    pub this_clashes : here ≡ true → TellsClash rules a b true
    this_clashes e = told rules a b true (sym (ap (λ z. z || some_clash (caps_of rules (drop (i + 1) (args_of a))) (caps_of rules (drop (i + 1) (args_of b)))) e) ∙ with_first)

    pub this_does_not : here ≡ false → LeftClash rules a b (i + 1)
    this_does_not e = sym (ap (λ z. z || some_clash (caps_of rules (drop (i + 1) (args_of a))) (caps_of rules (drop (i + 1) (args_of b)))) e) ∙ with_first

  -- no argument is left
  pub none_left : slice_get (args_of a) i ≡ None → slice_get (args_of b) i ≡ None → TellsClash rules a b false
  none_left first second = told rules a b false (over [] [] (nothing_left (args_of a) i first) (nothing_left (args_of b) i second))

  -- one term has more arguments
  pub first_longer : (x : Tree) → slice_get (args_of a) i ≡ Some x → slice_get (args_of b) i ≡ None → TellsClash rules a b true
  first_longer x first second = told rules a b true (over (x ∷ drop (i + 1) (args_of a)) [] (next_item (args_of a) i x first) (nothing_left (args_of b) i second))

  pub second_longer : (y : Tree) → slice_get (args_of a) i ≡ None → slice_get (args_of b) i ≡ Some y → TellsClash rules a b true
  second_longer y first second = told rules a b true (over [] (y ∷ drop (i + 1) (args_of b)) (nothing_left (args_of a) i first) (next_item (args_of b) i y second))
