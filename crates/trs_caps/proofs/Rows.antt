-- Caps side by side: some term fits all where some term fits each column.
use Rattle.std.proofs.Common.{◌≡◌, ℕ, ◌+◌, ◌-◌, ◌<◌, ◌≤◌, ◌↔◌, Bool, true, false, ◌&&◌, IsTrue, List, [], ◌∷◌, ◌++◌, map, length, take, drop, get_or, Result, Ok, Err, IfOk, zero, suc, refl, ap, sym, ◌∙◌, subst, arith}
use Rattle.std.specs.Prelude.{◌==◌}
use Rattle.std.proofs.lemmas.Bool.Decides.{nat_tests}
use Rattle.std.proofs.lemmas.List.{take_all, take_more}
use Rattle.std.specs.Borrow.{Bor}
use Rattle.std.proofs.lemmas.Bool.{and_parts}
use native.Mathlib.Decide.{dec_lt}
use Rattle.trs_defs.specs.Tree.{Tree, Trees, var, app, nil, cons, count}
use Rattle.trs_caps.specs.HoledTree.{HoledTree, HoledTrees, hole, own, symbol, none, more, Fits, EachFits, fits_hole, fits_own, fits_symbol, fits_none, fits_more, holed_size, holed_sizes}
use Rattle.trs_caps.specs.Columns.{holed_count, alike, AllAlike, argument, child, column_of, LeavesHoles, no_more, left_out, taken, total}
use Rattle.trs_caps.specs.Parts.{FitsEach, HaveInstance}
use Rattle.trs_caps.specs.PartLists.{caps_of}
use Rattle.trs_caps.specs.declared.holed.Cap.{Cap}
use Rattle.trs_caps.specs.declared.holed.Cap.TheVariants.{Symbol}
use Rattle.trs_caps.specs.View.{holed, holed_all}
use Rattle.trs_caps.proofs.Compatible.{filled, filled_fits}

equal_numbers : (f g : ℕ) → IsTrue (f == g) → f ≡ g
equal_numbers f g h = grind (arith, nat_tests)

self_equal : (f : ℕ) → (f == f) ≡ false → ⊥
self_equal f h = grind (arith, nat_tests)

-- the argument of a term at a number
abbrev term_at : Trees → ℕ → Tree
term_at nil i = var 0
term_at (cons t ts) zero = t
term_at (cons t ts) (suc i) = term_at ts i

each_at : (cs : HoledTrees) (ts : Trees) (i : ℕ) → EachFits cs ts → Fits (argument cs i) (term_at ts i)
each_at none nil i p = fits_hole
each_at none (cons t ts) i p = fits_hole
each_at (more c cs) nil i p = elim p [ ]
each_at (more c cs) (cons t ts) zero (fits_more p ps) = p
each_at (more c cs) (cons t ts) (suc i) (fits_more p ps) = each_at cs ts i ps

at_each : (cs : HoledTrees) (ts : Trees) → holed_count cs ≡ count ts → ((i : ℕ) → i < holed_count cs → Fits (argument cs i) (term_at ts i)) → EachFits cs ts
at_each none nil e h = fits_none
at_each none (cons t ts) e h = absurd (omega (arith, e))
at_each (more c cs) nil e h = absurd (omega (arith, e))
at_each (more c cs) (cons t ts) e h = fits_more (h zero (omega arith)) (at_each cs ts (omega (arith, e)) (λ i l. h (suc i) (omega (arith, l))))

-- so many arguments, by their numbers
abbrev tabled : ℕ → (ℕ → Tree) → Trees
tabled zero f = nil
tabled (suc n) f = cons (f zero) (tabled n (λ i. f (suc i)))

count_tabled : (n : ℕ) (f : ℕ → Tree) → count (tabled n f) ≡ n
count_tabled zero f = refl
count_tabled (suc n) f = omega (arith, count_tabled n (λ i. f (suc i)))

term_at_tabled : (n : ℕ) (f : ℕ → Tree) (i : ℕ) → i < n → term_at (tabled n f) i ≡ f i
term_at_tabled zero f i h = absurd (omega arith)
term_at_tabled (suc n) f zero h = refl
term_at_tabled (suc n) f (suc i) h = term_at_tabled n (λ j. f (suc j)) i (omega arith)

-- a term that fits all fits each column with its argument
pub column_fits : (cs : List HoledTree) (g : ℕ) (ts : Trees) (i : ℕ) → FitsEach cs (app g ts) → FitsEach (column_of i cs) (term_at ts i)
column_fits [] g ts i h = tt
column_fits (c ∷ cs) g ts i h = (go c h.0, column_fits cs g ts i h.1)
  where
    go : (c : HoledTree) → Fits c (app g ts) → Fits (child i c) (term_at ts i)
    go hole p = fits_hole
    go (own v) p = elim p [ ]
    go (symbol f ps) (fits_symbol p) = each_at ps ts i p

-- and back, for caps with one root
columns_fit : (f : ℕ) (ps : HoledTrees) (cs : List HoledTree) (ts : Trees) → AllAlike (symbol f ps) cs → count ts ≡ holed_count ps
    → ((i : ℕ) → i < holed_count ps → FitsEach (column_of i cs) (term_at ts i)) → FitsEach cs (app f ts)
columns_fit f ps [] ts like n h = tt
columns_fit f ps (c ∷ cs) ts like n h = (go c like.0 (λ i l. (h i l).0), columns_fit f ps cs ts like.1 n (λ i l. (h i l).1))
  where
    go : (c : HoledTree) → IsTrue (alike (symbol f ps) c) → ((i : ℕ) → i < holed_count ps → Fits (child i c) (term_at ts i)) → Fits c (app f ts)
    go hole like h = fits_hole
    go (own v) like h = absurd cc
    go (symbol g qs) like h =
        let both = and_parts (f == g) (holed_count ps == holed_count qs) like in
        let same : holed_count ps ≡ holed_count qs = equal_numbers (holed_count ps) (holed_count qs) both.1 in
        subst (λ z. Fits (symbol z qs) (app f ts)) (equal_numbers f g both.0) (fits_symbol (at_each qs ts (sym same ∙ sym n) (λ i l. h i (omega (arith, l, same)))))

-- the column at a number, if there is one, has an instance
abbrev pub ColumnsHave : List HoledTree → ℕ → Type 0
ColumnsHave cs n = (i : ℕ) → i < n → HaveInstance (column_of i cs)

abbrev column_term : (cs : List HoledTree) (n : ℕ) → ColumnsHave cs n → (i : ℕ) → Dec (i < n) → Tree
column_term cs n h i d = elim d [ yes l ↦ (h i l).0 | no l ↦ var 0 ]

column_term_fits : (cs : List HoledTree) (n : ℕ) (h : ColumnsHave cs n) (i : ℕ) (d : Dec (i < n)) → i < n → FitsEach (column_of i cs) (column_term cs n h i d)
column_term_fits cs n h i (yes l) k = (h i l).1
column_term_fits cs n h i (no l) k = absurd (l k)

pub rows_have : (f : ℕ) (ps : HoledTrees) (cs : List HoledTree) → AllAlike (symbol f ps) cs → ColumnsHave cs (holed_count ps) → HaveInstance cs
rows_have f ps cs like h =
    let n : ℕ = holed_count ps in
    let term : ℕ → Tree = λ i. column_term cs n h i (dec_lt i n) in (
      app f (tabled n term),
      columns_fit f ps cs (tabled n term) like (count_tabled n term)
          (λ i l. subst (λ z. FitsEach (column_of i cs) z) (sym (term_at_tabled n term i l)) (column_term_fits cs n h i (dec_lt i n) l)),
    )

pub column_has : (f : ℕ) (ps : HoledTrees) (cs : List HoledTree) (i : ℕ) → HaveInstance (symbol f ps ∷ cs) → HaveInstance (column_of i (symbol f ps ∷ cs))
column_has f ps cs i (var x, h) = elim h.0 [ ]
column_has f ps cs i (app g ts, h) = (term_at ts i, column_fits (symbol f ps ∷ cs) g ts i h)

-- where the first is an own variable, that fits all
pub owns_fit : (v : ℕ) (cs : List HoledTree) → AllAlike (own v) cs → FitsEach cs (var v)
owns_fit v [] like = tt
owns_fit v (c ∷ cs) like = (go c like.0, owns_fit v cs like.1)
  where
    go : (c : HoledTree) → IsTrue (alike (own v) c) → Fits c (var v)
    go hole like = fits_hole
    go (own w) like = subst (λ z. Fits (own z) (var v)) (equal_numbers v w like) fits_own
    go (symbol g qs) like = absurd cc

pub single_has : (c : HoledTree) → HaveInstance (c ∷ [])
single_has c = (filled c, (filled_fits c, tt))

count_fits : (cs : HoledTrees) (ts : Trees) → EachFits cs ts → holed_count cs ≡ count ts
count_fits none nil p = refl
count_fits none (cons t ts) p = elim p [ ]
count_fits (more c cs) nil p = elim p [ ]
count_fits (more c cs) (cons t ts) (fits_more p ps) = omega (arith, count_fits cs ts ps)

and_false : (a b : Bool) → (a && b) ≡ false → (a ≡ true) → b ≡ false
and_false true b e h = e
and_false false b e h = absurd cc

-- no term fits two caps that are not alike
pub unlike_fits : (c d : HoledTree) (t : Tree) → alike c d ≡ false → Fits c t → Fits d t → ⊥
unlike_fits hole d t e p q = absurd cc
unlike_fits (own v) hole t e p q = absurd cc
unlike_fits (own v) (own w) (var x) e fits_own fits_own = self_equal v e
unlike_fits (own v) (own w) (app g ts) e p q = elim p [ ]
unlike_fits (own v) (symbol g ds) (var x) e p q = elim q [ ]
unlike_fits (own v) (symbol g ds) (app f ts) e p q = elim p [ ]
unlike_fits (symbol f cs) hole t e p q = absurd cc
unlike_fits (symbol f cs) (own w) (var x) e p q = elim p [ ]
unlike_fits (symbol f cs) (own w) (app g ts) e p q = elim q [ ]
unlike_fits (symbol f cs) (symbol g ds) (var x) e p q = elim p [ ]
unlike_fits (symbol f cs) (symbol g ds) (app k ts) e (fits_symbol p) (fits_symbol q) =
    let n : ℕ = holed_count cs in
    let same : holed_count ds ≡ n = count_fits ds ts q ∙ sym (count_fits cs ts p) in
    let yes_equal : (f == f) ≡ true = grind (arith, nat_tests) in
    let rest : (n == holed_count ds) ≡ false = and_false (f == f) (n == holed_count ds) e yes_equal in
    self_equal n (subst (λ z. (n == z) ≡ false) same rest)

-- what is left without holes fits the same, and is no larger
pub fits_without : {cs ds : List HoledTree} (t : Tree) → LeavesHoles cs ds → FitsEach ds t → FitsEach cs t
fits_without t no_more h = tt
fits_without t (left_out l) h = (fits_hole, fits_without t l h)
fits_without t (taken l) h = (h.0, fits_without t l h.1)

pub fits_with : {cs ds : List HoledTree} (t : Tree) → LeavesHoles cs ds → FitsEach cs t → FitsEach ds t
fits_with t no_more h = tt
fits_with t (left_out l) h = fits_with t l h.1
fits_with t (taken l) h = (h.0, fits_with t l h.1)

pub no_larger : {cs ds : List HoledTree} → LeavesHoles cs ds → total ds ≤ total cs
no_larger no_more = omega arith
no_larger (left_out l) = omega (arith, no_larger l)
no_larger (taken l) = omega (arith, no_larger l)

leave_last : {cs ds : List HoledTree} → LeavesHoles cs ds → LeavesHoles (cs ++ hole ∷ []) ds
leave_last no_more = left_out no_more
leave_last (left_out l) = left_out (leave_last l)
leave_last (taken l) = taken (leave_last l)

take_last : {cs ds : List HoledTree} (c : HoledTree) → LeavesHoles cs ds → LeavesHoles (cs ++ c ∷ []) (ds ++ c ∷ [])
take_last c no_more = taken no_more
take_last c (left_out l) = left_out (take_last c l)
take_last c (taken l) = taken (take_last c l)

-- one is smaller than its cap
positive : (c : HoledTree) → 0 < holed_size c
positive hole = omega arith
positive (own v) = omega arith
positive (symbol f cs) = omega arith

argument_smaller : (cs : HoledTrees) (i : ℕ) → i < holed_count cs → holed_size (argument cs i) ≤ holed_sizes cs
argument_smaller none i h = absurd (omega arith)
argument_smaller (more c cs) zero h = omega arith
argument_smaller (more c cs) (suc i) h = omega (arith, argument_smaller cs i (omega arith))

argument_small : (cs : HoledTrees) (i : ℕ) → holed_size (argument cs i) ≤ 1 + holed_sizes cs
argument_small none i = omega arith
argument_small (more c cs) zero = omega arith
argument_small (more c cs) (suc i) = omega (arith, argument_small cs i)

child_small : (c : HoledTree) (i : ℕ) → holed_size (child i c) ≤ holed_size c
child_small hole i = omega arith
child_small (own v) i = omega arith
child_small (symbol f cs) i = argument_small cs i

column_small : (cs : List HoledTree) (i : ℕ) → total (column_of i cs) ≤ total cs
column_small [] i = omega arith
column_small (c ∷ cs) i = omega (arith, child_small c i, column_small cs i)

pub column_smaller : (f : ℕ) (ps : HoledTrees) (cs : List HoledTree) (i : ℕ) → i < holed_count ps → total (column_of i (symbol f ps ∷ cs)) < total (symbol f ps ∷ cs)
column_smaller f ps cs i h = omega (arith, argument_smaller ps i h, column_small cs i)

-- what the code finds of caps
pub few_have : (cs : List (Bor Cap)) → length cs < 2 → HaveInstance (caps_of cs)
few_have [] h = (var 0, tt)
few_have (c ∷ []) h = single_has (holed c.now)
few_have (c ∷ d ∷ cs) h = absurd (omega arith)

pub split : (cs : List (Bor Cap)) (c : Bor Cap) → 0 < length cs → c ≡ get_or cs 0 c → cs ≡ c ∷ drop 1 cs
split [] c h e = absurd (omega arith)
split (d ∷ cs) c h e = ap (λ z. z ∷ cs) (sym e)

pub caps_last : (xs : List (Bor Cap)) (x : Bor Cap) → caps_of (xs ++ x ∷ []) ≡ caps_of xs ++ holed x.now ∷ []
caps_last [] x = refl
caps_last (y ∷ xs) x = ap (λ z. holed y.now ∷ z) (caps_last xs x)

column_last : (i : ℕ) (xs : List HoledTree) (x : HoledTree) → column_of i (xs ++ x ∷ []) ≡ column_of i xs ++ child i x ∷ []
column_last i [] x = refl
column_last i (y ∷ xs) x = ap (λ z. child i y ∷ z) (column_last i xs x)

caps_taken : (xs : List (Bor Cap)) (k : ℕ) (x : Bor Cap) → k < length xs → x ≡ get_or xs k x → caps_of (take (k + 1) xs) ≡ caps_of (take k xs) ++ holed x.now ∷ []
caps_taken xs k x h e = ap caps_of (take_more xs k x h ∙ ap (λ z. take k xs ++ z ∷ []) (sym e)) ∙ caps_last (take k xs) x

pub next_left_out : (xs : List (Bor Cap)) (k i : ℕ) (x : Bor Cap) (ds : List HoledTree) → k < length xs → x ≡ get_or xs k x → child i (holed x.now) ≡ hole
    → LeavesHoles (column_of i (caps_of (take k xs))) ds → LeavesHoles (column_of i (caps_of (take (k + 1) xs))) ds
next_left_out xs k i x ds h e is so_far = rw (caps_taken xs k x h e, column_last i (caps_of (take k xs)) (holed x.now), is) (leave_last so_far)

pub next_taken : (xs : List (Bor Cap)) (k i : ℕ) (x part : Bor Cap) (there there2 : List (Bor Cap)) → k < length xs → x ≡ get_or xs k x → holed part.now ≡ child i (holed x.now)
    → there2 ≡ there ++ part ∷ [] → LeavesHoles (column_of i (caps_of (take k xs))) (caps_of there) → LeavesHoles (column_of i (caps_of (take (k + 1) xs))) (caps_of there2)
next_taken xs k i x part there there2 h e is pushed so_far =
    rw (caps_taken xs k x h e, column_last i (caps_of (take k xs)) (holed x.now), pushed, caps_last there part, ← is) (take_last (holed part.now) so_far)

alike_last : (c : HoledTree) (ds : List HoledTree) (d : HoledTree) → AllAlike c ds → IsTrue (alike c d) → AllAlike c (ds ++ d ∷ [])
alike_last c [] d h e = (e, tt)
alike_last c (x ∷ ds) d h e = (h.0, alike_last c ds d h.1 e)

pub next_alike : (c : HoledTree) (xs : List (Bor Cap)) (k : ℕ) (x : Bor Cap) → k < length xs → x ≡ get_or xs k x → IsTrue (alike c (holed x.now)) → AllAlike c (caps_of (take k xs))
    → AllAlike c (caps_of (take (k + 1) xs))
next_alike c xs k x h e like so_far = rw (caps_taken xs k x h e) (alike_last c (caps_of (take k xs)) (holed x.now) so_far like)

fits_item : (xs : List (Bor Cap)) (k : ℕ) (x : Bor Cap) (t : Tree) → k < length xs → x ≡ get_or xs k x → FitsEach (caps_of xs) t → Fits (holed x.now) t
fits_item [] k x t h e f = absurd (omega arith)
fits_item (y ∷ xs) zero x t h e f = subst (λ z. Fits (holed z.now) t) (sym e) f.0
fits_item (y ∷ xs) (suc k) x t h e f = fits_item xs k x t (omega arith) e f.1

pub one_unlike : (c : HoledTree) (xs : List (Bor Cap)) (k : ℕ) (x : Bor Cap) (t : Tree) → k < length xs → x ≡ get_or xs k x → alike c (holed x.now) ≡ false → Fits c t → FitsEach (caps_of xs) t → ⊥
one_unlike c xs k x t h e unlike p f = unlike_fits c (holed x.now) t unlike p (fits_item xs k x t h e f)

count_holed : (cs : List Cap) → holed_count (holed_all cs) ≡ length cs
count_holed [] = refl
count_holed (c ∷ cs) = omega (arith, count_holed cs)

pub argument_there : (cs : List Cap) (i : ℕ) (c : Cap) → i < length cs → c ≡ get_or cs i c → argument (holed_all cs) i ≡ holed c
argument_there [] i c h e = absurd (omega arith)
argument_there (d ∷ cs) zero c h e = ap holed (sym e)
argument_there (d ∷ cs) (suc i) c h e = argument_there cs i c (omega arith) e

pub argument_past : (cs : List Cap) (i : ℕ) → length cs ≤ i → argument (holed_all cs) i ≡ hole
argument_past [] i e = refl
argument_past (d ∷ cs) zero e = absurd (omega arith)
argument_past (d ∷ cs) (suc i) e = argument_past cs i (omega arith)

pub alike_symbols : (c d : HoledTree) (f g : ℕ) (cs ds : List Cap) (b : Bool) → c ≡ symbol f (holed_all cs) → d ≡ symbol g (holed_all ds) → f ≡ g → b ≡ (length cs == length ds) → b ≡ alike c d
alike_symbols c d f g cs ds b is_c is_d same e =
    let equal : (f == g) ≡ true = grind (arith, nat_tests) in
    rw (is_c, is_d, equal, count_holed cs, count_holed ds) e

rest_length : (cs : List (Bor Cap)) → length (drop 1 cs) ≤ length cs - 1
rest_length [] = omega arith
rest_length (c ∷ cs) = omega arith

pub root_of : (c : Cap) (f : ℕ) (parts : List HoledTree) (items : List Cap) → c ≡ Symbol f parts → map holed items ≡ parts → holed c ≡ symbol f (holed_all items)
root_of c f parts items is view = rw (is, ← view) refl

module _ (caps : List (Bor Cap)) (first : Bor Cap) (inside : 0 < length caps) (is : first ≡ get_or caps 0 first) (like : AllAlike (holed first.now) (caps_of caps)) where
  caps_split : caps_of caps ≡ holed first.now ∷ caps_of (drop 1 caps)
  caps_split = ap caps_of (split caps first inside is)

  pub own_has : (v : ℕ) → holed first.now ≡ own v → HaveInstance (caps_of caps)
  own_has v e = (var v, owns_fit v (caps_of caps) (subst (λ z. AllAlike z (caps_of caps)) e like))

  hole_has : (b : Bool) → holed first.now ≡ hole → IsTrue b ↔ HaveInstance (caps_of (drop 1 caps)) → IsTrue b ↔ HaveInstance (caps_of caps)
  hole_has b e has = (
    λ t. let (u, f) = has.0 t in (u, subst (λ z. FitsEach z u) (sym caps_split) (subst (λ z. Fits z u) (sym e) fits_hole, f)),
    λ (u, f). has.1 (u, (subst (λ z. FitsEach z u) caps_split f).1),
  )

  pub all_hole_has : {E : Type 0} (result : Result Bool E) → holed first.now ≡ hole → IfOk result (λ b. IsTrue b ↔ HaveInstance (caps_of (take (length caps - 1) (drop 1 caps))))
      → IfOk result (λ b. IsTrue b ↔ HaveInstance (caps_of caps))
  all_hole_has (Ok b) e has = hole_has b e (rw (take_all (length caps - 1) (drop 1 caps) (rest_length caps)) at has)
  all_hole_has (Err x) e has = has

  module _ (f : ℕ) (cs : List Cap) (root : holed first.now ≡ symbol f (holed_all cs)) where
    rooted : caps_of caps ≡ symbol f (holed_all cs) ∷ caps_of (drop 1 caps)
    rooted = caps_split ∙ ap (λ z. z ∷ caps_of (drop 1 caps)) root

    pub columns_have : (i : ℕ) → length cs ≤ i → ColumnsHave (caps_of caps) i → HaveInstance (caps_of caps)
    columns_have i h all =
        rows_have f (holed_all cs) (caps_of caps) (subst (λ z. AllAlike z (caps_of caps)) root like) (λ j l. all j (omega (arith, count_holed cs, l, h)))

    pub next_column : (i : ℕ) (there : List HoledTree) (b : Bool) → LeavesHoles (column_of i (caps_of caps)) there → IsTrue b ↔ HaveInstance there → IsTrue b
        → ColumnsHave (caps_of caps) i → ColumnsHave (caps_of caps) (i + 1)
    next_column i there b leaves has e all j l = elim (dec_lt j i) [
      | yes below ↦ all j below
      | no above ↦
          (let same : i ≡ j = omega (arith, above, l) in
          let (t, fits) = has.0 e in
          subst (λ z. HaveInstance (column_of z (caps_of caps))) same (t, fits_without t leaves fits))
    ]

    pub no_column : (i : ℕ) (there : List HoledTree) (b : Bool) → LeavesHoles (column_of i (caps_of caps)) there → IsTrue b ↔ HaveInstance there → b ≡ false → HaveInstance (caps_of caps) → ⊥
    no_column i there b leaves has e whole =
        let here : HaveInstance (column_of i (caps_of caps)) = subst (λ z. HaveInstance (column_of i z)) (sym rooted) (column_has f (holed_all cs) (caps_of (drop 1 caps)) i (subst HaveInstance rooted whole)) in
        let k : IsTrue b = has.1 (here.0, fits_with here.0 leaves here.1) in absurd (cc (k, e))

    pub smaller_column : (i : ℕ) (there : List HoledTree) → i < length cs → LeavesHoles (column_of i (caps_of caps)) there → total there < total (caps_of caps)
    smaller_column i there h leaves =
        let falls : total (column_of i (caps_of caps)) < total (caps_of caps) =
        subst (λ z. total (column_of i z) < total z) (sym rooted) (column_smaller f (holed_all cs) (caps_of (drop 1 caps)) i (omega (arith, h, count_holed cs))) in
        omega (arith, no_larger leaves, falls)
