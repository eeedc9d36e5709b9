-- What fits a skeleton, and skeletons that no term fits both.
use Rattle.std.proofs.Common.{◌≡◌, ◌≢◌, ◌<◌, ◌≤◌, ℕ, ◌+◌, List, [], ◌∷◌, ◌++◌, map, length, take, drop, get_or, Option, Some, None, slice_get, zero, suc, refl, ap, ap₂, sym, ◌∙◌, subst, arith}
use Rattle.std.specs.Prelude.{not, ◌==◌, IsTrue, false}
use Rattle.std.specs.Option.{option_and_then, option_map}
use Rattle.std.proofs.lemmas.Bool.{or_from}
use Rattle.std.proofs.lemmas.Bool.Decides.{nat_tests}
use Rattle.std.proofs.lemmas.Option.{same_Some, option_and_then_some, slice_get-map, slice_get_read}
use Rattle.std.proofs.lemmas.List.{take_all, take_more, map-append}
use Rattle.trs_defs.specs.Tree.{Tree, Trees, var, app, nil, cons}
use Rattle.trs_defs.specs.Substitution.{apply, apply_all}
use Rattle.trs_defs.specs.Renaming.{shifted}
use Rattle.trs_defs.specs.Variable.{has_var, some_has_var}
use Rattle.trs_defs.specs.System.{RewriteRule}
use Rattle.trs_defs.proofs.Substitutions.{apply_apply}
use Rattle.trs_defs.proofs.ArgumentLists.{cell}
use Rattle.trs_core.specs.declared.terms.Term.{Term}
use Rattle.trs_core.specs.View.{tree, forest}
use Rattle.trs_caps.specs.HoledTree.{HoledTree, HoledTrees, hole, own, symbol, none, more, holed_trees, Fits, EachFits, fits_hole, fits_symbol, fits_none, fits_more}
use Rattle.trs_caps.specs.Clash.{AreDisjoint}
use Rattle.trs_caps.proofs.Fitting.{fits_root}
use Rattle.crit_pairs.specs.Apart.{renamed_apart, HaveSkeletons}
use Rattle.crit_pairs.specs.Sides.{DoNotMeet}
use Rattle.term_pool.specs.LeftSides.{IsGround}
use Rattle.term_pool.proofs.LeftSideLaws.{ground_stays}
use Rattle.crit_pairs.specs.Skeletons.{opened, all_opened, root_symbol, mark_of, mark_after, mixed}
use Rattle.crit_pairs.specs.SkeletonView.{skeleton_view, skeleton_views}
use Rattle.crit_pairs.specs.declared.skeleton.Skeleton.{Skeleton}

-- each instance of a term fits its skeleton
mutual
  instance_fits : (σ : ℕ → Tree) (t : Tree) → Fits (opened t) (apply σ t)
  instance_fits σ (var v) = fits_hole
  instance_fits σ (app f ts) = fits_symbol (instances_fit σ ts)

  instances_fit : (σ : ℕ → Tree) (ts : Trees) → EachFits (all_opened ts) (apply_all σ ts)
  instances_fit σ nil = fits_none
  instances_fit σ (cons t ts) = fits_more (instance_fits σ t) (instances_fit σ ts)

pub never_meet : (t u : Tree) (k : ℕ) → AreDisjoint (opened t) (opened u) → DoNotMeet t (shifted k u)
never_meet t u k apart σ e =
    let other : apply σ t ≡ apply (λ v. apply σ (var (k + v))) u = e ∙ apply_apply σ (λ v. var (k + v)) u in
    apart (apply σ t) (instance_fits σ t) (subst (λ z. Fits (opened u) z) (sym other) (instance_fits (λ v. apply σ (var (k + v))) u))

-- one term fits a skeleton with a mark
mutual
  one_skeleton : (c d : HoledTree) (t : Tree) (m n : ℕ) → mark_of c ≡ Some m → mark_of d ≡ Some n → Fits c t → Fits d t → c ≡ d
  one_skeleton hole d t m n e k p q = absurd cc
  one_skeleton (own v) d t m n e k p q = absurd cc
  one_skeleton (symbol f cs) hole t m n e k p q = absurd cc
  one_skeleton (symbol f cs) (own w) t m n e k p q = absurd cc
  one_skeleton (symbol f cs) (symbol g ds) (var x) m n e k p q = elim p [ ]
  one_skeleton (symbol f cs) (symbol g ds) (app h ts) m n e k (fits_symbol p) (fits_symbol q) =
      option_and_then_some (λ x. Some (mixed f x)) (mark_after 0 cs) m e (λ x is_x _.
      option_and_then_some (λ y. Some (mixed f y)) (mark_after 0 ds) n k (λ y is_y _.
      ap (symbol f) (one_list cs ds ts 0 0 x y is_x is_y p q)))

  one_list : (cs ds : HoledTrees) (ts : Trees) (k l m n : ℕ) → mark_after k cs ≡ Some m → mark_after l ds ≡ Some n → EachFits cs ts → EachFits ds ts → cs ≡ ds
  one_list none none ts k l m n e h p q = refl
  one_list none (more d ds) nil k l m n e h p q = elim q [ ]
  one_list none (more d ds) (cons t ts) k l m n e h p q = elim p [ ]
  one_list (more c cs) none nil k l m n e h p q = elim p [ ]
  one_list (more c cs) none (cons t ts) k l m n e h p q = elim q [ ]
  one_list (more c cs) (more d ds) nil k l m n e h p q = elim p [ ]
  one_list (more c cs) (more d ds) (cons t ts) k l m n e h (fits_more p ps) (fits_more q qs) =
      option_and_then_some (λ x. mark_after (mixed k x) cs) (mark_of c) m e (λ x is_x rest_x.
      option_and_then_some (λ y. mark_after (mixed l y) ds) (mark_of d) n h (λ y is_y rest_y.
      let first = one_skeleton c d t x y is_x is_y p q in
      let others = one_list cs ds ts (mixed k x) (mixed l y) m n rest_x rest_y ps qs in
      cc (first, others)))

pub marks_disjoint : (c d : HoledTree) (f g : ℕ) (cs ds : HoledTrees) (m n : ℕ) → c ≡ symbol f cs → d ≡ symbol g ds → mark_after 0 cs ≡ Some m → mark_after 0 ds ≡ Some n → m ≢ n
    → AreDisjoint c d
marks_disjoint c d f g cs ds m n is_c is_d e k ne = rw (is_c, is_d) (below f g cs ds e k)
  where
    below : (f g : ℕ) (cs ds : HoledTrees) → mark_after 0 cs ≡ Some m → mark_after 0 ds ≡ Some n → AreDisjoint (symbol f cs) (symbol g ds)
    below f g cs ds e k (var v) p q = elim p [ ]
    below f g cs ds e k (app h ts) (fits_symbol p) (fits_symbol q) =
        let same : cs ≡ ds = one_list cs ds ts 0 0 m n e k p q in
        ne (same_Some m n (sym e ∙ (ap (mark_after 0) same ∙ k)))

-- a term whose skeleton has a mark has no variable
mutual
  pub ground_by_mark : (t : Tree) (m : ℕ) → mark_of (opened t) ≡ Some m → IsGround t
  ground_by_mark (var v) m e = absurd cc
  ground_by_mark (app f ts) m e = option_and_then_some (λ x. Some (mixed f x)) (mark_after 0 (all_opened ts)) m e (λ x is_x _. all_ground_by_mark ts 0 x is_x)

  all_ground_by_mark : (ts : Trees) (k m : ℕ) → mark_after k (all_opened ts) ≡ Some m → (v : ℕ) → some_has_var v ts ≡ false
  all_ground_by_mark nil k m e v = refl
  all_ground_by_mark (cons t ts) k m e v =
      option_and_then_some (λ x. mark_after (mixed k x) (all_opened ts)) (mark_of (opened t)) m e (λ x is_x rest.
      or_from (has_var v t) (some_has_var v ts) (ground_by_mark t x is_x v) (all_ground_by_mark ts (mixed k x) m rest v))

-- a rule with no variable is its own copy
pub ground_copy : (r : RewriteRule) → IsGround r.left → IsGround r.right → r ≡ renamed_apart r
ground_copy r left right =
    let shift : ℕ → Tree = λ v. var (65536 + v) in
    ap₂ (λ (l u : Tree). let rule : RewriteRule = record { left = l; right = u } in rule) (sym (ground_stays shift r.left left)) (sym (ground_stays shift r.right right))

pub roots_disjoint : (c d : HoledTree) (f g : ℕ) (cs ds : HoledTrees) → c ≡ symbol f cs → d ≡ symbol g ds → f ≢ g → AreDisjoint c d
roots_disjoint c d f g cs ds is_c is_d ne = rw (is_c, is_d) (roots f g cs ds ne)
  where
    roots : (f g : ℕ) (cs ds : HoledTrees) → f ≢ g → AreDisjoint (symbol f cs) (symbol g ds)
    roots f g cs ds ne (var v) p q = elim p [ ]
    roots f g cs ds ne (app h ts) p q = ne (fits_root f h cs ts p ∙ sym (fits_root g h ds ts q))

pub other_root_disjoint : (c d : HoledTree) (f g : ℕ) (cs : HoledTrees) → c ≡ symbol f cs → root_symbol d ≡ Some g → f ≢ g → AreDisjoint c d
other_root_disjoint c hole f g cs is e ne = absurd cc
other_root_disjoint c (own v) f g cs is e ne = absurd cc
other_root_disjoint c (symbol h ds) f g cs is e ne = roots_disjoint c (symbol h ds) f h cs ds is refl (λ same. ne (same ∙ same_Some h g e))

pub unlike : (m n : ℕ) → IsTrue (not (m == n)) → m ≢ n
unlike m n h same = grind (arith, nat_tests)

-- no term fits both where none fits a pair of arguments
parts_disjoint : (cs ds : List Skeleton) (i : ℕ) (c d : Skeleton) → i < length cs → length cs ≡ length ds → c ≡ get_or cs i c → d ≡ get_or ds i d → AreDisjoint (skeleton_view c) (skeleton_view d)
    → (ts : Trees) → EachFits (skeleton_views cs) ts → EachFits (skeleton_views ds) ts → ⊥
parts_disjoint [] ds i c d h long is_c is_d apart ts p q = absurd (omega arith)
parts_disjoint (a ∷ cs) [] i c d h long is_c is_d apart ts p q = absurd (omega (arith, long))
parts_disjoint (a ∷ cs) (b ∷ ds) i c d h long is_c is_d apart nil p q = elim p [ ]
parts_disjoint (a ∷ cs) (b ∷ ds) zero c d h long is_c is_d apart (cons t ts) (fits_more p ps) (fits_more q qs) =
    apart t (subst (λ z. Fits (skeleton_view z) t) (sym is_c) p) (subst (λ z. Fits (skeleton_view z) t) (sym is_d) q)
parts_disjoint (a ∷ cs) (b ∷ ds) (suc i) c d h long is_c is_d apart (cons t ts) (fits_more p ps) (fits_more q qs) =
    parts_disjoint cs ds i c d (omega (arith, h)) (omega (arith, long)) is_c is_d apart ts ps qs

pub argument_disjoint : (c d : HoledTree) (f g : ℕ) (cs ds : List Skeleton) (i : ℕ) (x y : Skeleton) → c ≡ symbol f (skeleton_views cs) → d ≡ symbol g (skeleton_views ds)
    → i < length cs → length cs ≡ length ds → x ≡ get_or cs i x → y ≡ get_or ds i y → AreDisjoint (skeleton_view x) (skeleton_view y) → AreDisjoint c d
argument_disjoint c d f g cs ds i x y is_c is_d h long is_x is_y apart = rw (is_c, is_d) (below f g)
  where
    below : (f g : ℕ) → AreDisjoint (symbol f (skeleton_views cs)) (symbol g (skeleton_views ds))
    below f g (var v) p q = elim p [ ]
    below f g (app k ts) (fits_symbol p) (fits_symbol q) = parts_disjoint cs ds i x y h long is_x is_y apart ts p q

-- the mark goes on with the next argument
pub next_mark : (cs : List Skeleton) (i : ℕ) (x : Skeleton) (m n : ℕ) → i < length cs → x ≡ get_or cs i x → mark_of (skeleton_view x) ≡ Some n
    → mark_after m (skeleton_views (drop i cs)) ≡ mark_after (mixed m n) (skeleton_views (drop (i + 1) cs))
next_mark cs i x m n h is e =
    ap (λ z. mark_after m (skeleton_views z)) (cell cs i x h is) ∙ ap (option_and_then (λ k. mark_after (mixed m k) (skeleton_views (drop (i + 1) cs)))) e

pub no_mark : (cs : List Skeleton) (i : ℕ) (x : Skeleton) (m : ℕ) → i < length cs → x ≡ get_or cs i x → mark_of (skeleton_view x) ≡ None → mark_after m (skeleton_views (drop i cs)) ≡ None
no_mark cs i x m h is e =
    ap (λ z. mark_after m (skeleton_views z)) (cell cs i x h is) ∙ ap (option_and_then (λ k. mark_after (mixed m k) (skeleton_views (drop (i + 1) cs)))) e

-- the skeletons of arguments, one by one
pub skeleton_count : (cs : List Skeleton) (ts : List Term) → skeleton_views cs ≡ all_opened (forest ts) → length cs ≡ length ts
skeleton_count [] [] e = refl
skeleton_count [] (t ∷ ts) e = absurd cc
skeleton_count (c ∷ cs) [] e = absurd cc
skeleton_count (c ∷ cs) (t ∷ ts) e = ap suc (skeleton_count cs ts (cc (e)))

pub skeleton_at : (cs : List Skeleton) (ts : List Term) (i : ℕ) (c : Skeleton) (t : Term) → skeleton_views cs ≡ all_opened (forest ts) → i < length ts → c ≡ get_or cs i c → t ≡ get_or ts i t
    → skeleton_view c ≡ opened (tree t)
skeleton_at cs [] i c t e h is_c is_t = absurd (omega arith)
skeleton_at [] (u ∷ ts) i c t e h is_c is_t = absurd cc
skeleton_at (a ∷ cs) (u ∷ ts) zero c t e h is_c is_t =
    let first : skeleton_view a ≡ opened (tree u) = cc (e) in
    ap skeleton_view is_c ∙ (first ∙ sym (ap (λ z. opened (tree z)) is_t))
skeleton_at (a ∷ cs) (u ∷ ts) (suc i) c t e h is_c is_t = skeleton_at cs ts i c t (cc (e)) (omega (arith, h)) is_c is_t

pub parts_of : (o : HoledTree) (g : ℕ) (cs : HoledTrees) → o ≡ symbol g cs → (f : ℕ) (ts : Trees) → o ≡ opened (app f ts) → cs ≡ all_opened ts
parts_of o g cs e f ts k = let whole : symbol g cs ≡ symbol f (all_opened ts) = sym e ∙ k in cc (whole)

-- the skeletons of arguments are made one after another
abbrev pub AreSkeletonsOf : List Skeleton → List Term → Type 0
AreSkeletonsOf cs ts = map skeleton_view cs ≡ map (λ (t : Term). opened (tree t)) ts

pub one_more_skeleton : (cs cs2 : List Skeleton) (ts : List Term) (i : ℕ) (t : Term) (c : Skeleton) → i < length ts → t ≡ get_or ts i t → cs2 ≡ cs ++ c ∷ []
    → AreSkeletonsOf cs (take i ts) → skeleton_view c ≡ opened (tree t) → AreSkeletonsOf cs2 (take (i + 1) ts)
one_more_skeleton cs cs2 ts i t c h is pushed before one =
    let taken : take (i + 1) ts ≡ take i ts ++ t ∷ [] = take_more ts i t h ∙ ap (λ z. take i ts ++ z ∷ []) (sym is) in
    rw (taken, pushed, map-append skeleton_view cs (c ∷ []), map-append (λ (z : Term). opened (tree z)) (take i ts) (t ∷ []), before, one) refl

skeletons_of : (ts : List Term) → all_opened (forest ts) ≡ holed_trees (map (λ (t : Term). opened (tree t)) ts)
skeletons_of [] = refl
skeletons_of (t ∷ ts) = ap (more (opened (tree t))) (skeletons_of ts)

pub whole_skeleton : (t : Tree) (f : ℕ) (items : List Skeleton) (ts : List Term) (i : ℕ) → t ≡ app f (forest ts) → length ts ≤ i → AreSkeletonsOf items (take i ts)
    → symbol f (skeleton_views items) ≡ opened t
whole_skeleton t f items ts i is h each =
    let all : map skeleton_view items ≡ map (λ (z : Term). opened (tree z)) ts = each ∙ ap (map (λ (z : Term). opened (tree z))) (take_all i ts h) in
    rw is (ap (symbol f) (ap holed_trees all ∙ sym (skeletons_of ts)))

-- the skeletons of rules are made one after another
pub one_more_left : (cs cs2 : List Skeleton) (rules : List RewriteRule) (i : ℕ) (c : Skeleton) (rule : RewriteRule) → i < length rules → rule ≡ get_or rules i rule → cs2 ≡ cs ++ c ∷ []
    → HaveSkeletons (take i rules) cs → skeleton_view c ≡ opened rule.left → HaveSkeletons (take (i + 1) rules) cs2
one_more_left cs cs2 rules i c rule h is pushed before one =
    let taken : take (i + 1) rules ≡ take i rules ++ rule ∷ [] = take_more rules i rule h ∙ ap (λ z. take i rules ++ z ∷ []) (sym is) in
    rw (taken, pushed, map-append skeleton_view cs (c ∷ []), map-append (λ (r : RewriteRule). opened r.left) (take i rules) (rule ∷ []), before, one) refl

-- the skeleton of a number is that of the rule
pub skeletons_count : (cs : List Skeleton) (rules : List RewriteRule) → HaveSkeletons rules cs → length cs ≡ length rules
skeletons_count [] [] e = refl
skeletons_count [] (r ∷ rules) e = absurd cc
skeletons_count (c ∷ cs) [] e = absurd cc
skeletons_count (c ∷ cs) (r ∷ rules) e = ap suc (skeletons_count cs rules (cc (e)))

pub skeleton_read : (cs : List Skeleton) (rules : List RewriteRule) (i : ℕ) (c : Skeleton) (rule : RewriteRule) → HaveSkeletons rules cs → i < length cs → c ≡ get_or cs i c
    → slice_get rules i ≡ Some rule → skeleton_view c ≡ opened rule.left
skeleton_read cs rules i c rule e h is numbered =
    let here : slice_get cs i ≡ Some c = slice_get_read cs (length cs) i c refl h is in
    same_Some (skeleton_view c) (opened rule.left) (sym (slice_get-map skeleton_view cs i ∙ ap (option_map skeleton_view) here)
    ∙ (ap (λ z. slice_get z i) e ∙ (slice_get-map (λ (r : RewriteRule). opened r.left) rules i ∙ ap (option_map (λ (r : RewriteRule). opened r.left)) numbered)))

-- a skeleton by the list of its parts, and its mark
pub by_parts : (c : Skeleton) (f : ℕ) (cs : List HoledTree) (items : List Skeleton) → skeleton_view c ≡ symbol f (holed_trees cs) → map skeleton_view items ≡ cs → skeleton_view c ≡ symbol f (skeleton_views items)
by_parts c f cs items is listed = is ∙ ap (λ z. symbol f (holed_trees z)) (sym listed)

pub symbol_mark : (c : Skeleton) (f : ℕ) (items : List Skeleton) (mark : Option ℕ) → skeleton_view c ≡ symbol f (skeleton_views items) → mark ≡ mark_after 0 (skeleton_views items)
    → option_and_then (λ m. Some (mixed f m)) mark ≡ mark_of (skeleton_view c)
symbol_mark c f items mark is marked = ap (option_and_then (λ m. Some (mixed f m))) marked ∙ sym (ap mark_of is)
