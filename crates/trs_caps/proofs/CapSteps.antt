-- Caps and numbers of arguments, one after another.
use Rattle.std.proofs.Common.{◌≡◌, ℕ, ◌||◌, ◌+◌, ◌<◌, ◌≤◌, Bool, true, false, List, [], ◌∷◌, ◌++◌, length, take, get_or, refl, ap, sym, ◌∙◌, suc, arith}
use Rattle.std.proofs.lemmas.List.{take_all, take_more}
use Rattle.trs_defs.specs.Tree.{Tree, Trees, var, app, nil, cons}
use Rattle.trs_defs.specs.System.{RewriteRule}
use Rattle.trs_core.specs.declared.terms.Term.{Term}
use Rattle.trs_core.specs.View.{tree, forest}
use Rattle.trs_caps.specs.Caps.{IsNext}
use Rattle.trs_caps.specs.HoledTree.{HoledTree, HoledTrees, hole, own, symbol, none, more, holed_size, holed_sizes}
use Rattle.trs_caps.specs.HoledCap.{MeetsSome, IsHoledCap, AreHoledCaps, fixed_variable, free_variable, symbol_kept, symbol_opened, no_holed, one_holed}
use Rattle.trs_caps.specs.Shapes.{has_hole, some_has_hole, IsShape, AddsShape}
use Rattle.trs_caps.specs.KnownCaps.{IsWhole}
use Rattle.trs_caps.specs.Numbered.{IsNumbered, AreNumbered, number_hole, leave_own, number_symbol, number_none, number_more}
use Rattle.trs_caps.specs.declared.holed.Cap.{Cap}
use Rattle.trs_caps.specs.declared.shapes.Shape.{Shape}
use Rattle.trs_caps.specs.View.{holed, holed_all}

abbrev with_last : Trees → Tree → Trees
with_last nil t = cons t nil
with_last (cons u us) t = cons u (with_last us t)

abbrev with_last_cap : HoledTrees → HoledTree → HoledTrees
with_last_cap none c = more c none
with_last_cap (more d ds) c = more d (with_last_cap ds c)

forest_more : (ts : List Term) (t : Term) → forest (ts ++ t ∷ []) ≡ with_last (forest ts) (tree t)
forest_more [] t = refl
forest_more (u ∷ us) t = ap (cons (tree u)) (forest_more us t)

holed_more : (cs : List Cap) (c : Cap) → holed_all (cs ++ c ∷ []) ≡ with_last_cap (holed_all cs) (holed c)
holed_more [] c = refl
holed_more (d ∷ ds) c = ap (more (holed d)) (holed_more ds c)

-- ---- shapes

sizes_last : (cs : HoledTrees) (c : HoledTree) → holed_sizes (with_last_cap cs c) ≡ holed_sizes cs + holed_size c
sizes_last none c = omega arith
sizes_last (more d ds) c = omega (arith, sizes_last ds c)

either_none : (a : Bool) → (a || false) ≡ a
either_none true = refl
either_none false = refl

either_more : (a b c : Bool) → (a || (b || c)) ≡ ((a || b) || c)
either_more true b c = refl
either_more false b c = refl

holes_last : (cs : HoledTrees) (c : HoledTree) → some_has_hole (with_last_cap cs c) ≡ (some_has_hole cs || has_hole c)
holes_last none c = either_none (has_hole c)
holes_last (more d ds) c = ap (λ b. has_hole d || b) (holes_last ds c) ∙ either_more (has_hole d) (some_has_hole ds) (has_hole c)

pub first_shape : (items : List Cap) (s : Shape) → items ≡ [] → s.nodes ≡ 1 → s.is_open ≡ false → IsShape (symbol 0 (holed_all items)) s
first_shape items s empty nodes holes = rw empty (record { nodes = omega (arith, nodes); holes = holes })

pub next_shape : (items items2 : List Cap) (c : Cap) (s s2 : Shape) → items2 ≡ items ++ c ∷ [] → IsShape (symbol 0 (holed_all items)) s → AddsShape (holed c) s s2 → IsShape (symbol 0 (holed_all items2)) s2
next_shape items items2 c s s2 pushed so_far added =
    let sizes : holed_sizes (holed_all items2) ≡ holed_sizes (holed_all items) + holed_size (holed c) = rw (pushed, holed_more items c) (sizes_last (holed_all items) (holed c)) in
    let holes : some_has_hole (holed_all items2) ≡ (some_has_hole (holed_all items) || has_hole (holed c)) = rw (pushed, holed_more items c) (holes_last (holed_all items) (holed c)) in
    record {
      nodes = omega (arith, sizes, so_far.nodes, added.nodes);
      holes = added.holes ∙ (ap (λ b. b || has_hole (holed c)) so_far.holes ∙ sym holes);
    }

pub whole_shape : (f : ℕ) (cs : HoledTrees) (s : Shape) → IsShape (symbol 0 cs) s → IsShape (symbol f cs) s
whole_shape f cs s h = record { nodes = h.nodes; holes = h.holes }

module _ (rules : List RewriteRule) (fixed : Bool) where
  cap_last : {ts : Trees} {cs : HoledTrees} {t : Tree} {c : HoledTree} → AreHoledCaps rules fixed ts cs → IsHoledCap rules fixed t c → AreHoledCaps rules fixed (with_last ts t) (with_last_cap cs c)
  cap_last no_holed cap = one_holed cap no_holed
  cap_last (one_holed first rest) cap = one_holed first (cap_last rest cap)

  pub next_cap : (args : List Term) (items items2 : List Cap) (k : ℕ) (arg : Term) (c : Cap) → k < length args → arg ≡ get_or args k arg → items2 ≡ items ++ c ∷ []
      → AreHoledCaps rules fixed (forest (take k args)) (holed_all items) → IsHoledCap rules fixed (tree arg) (holed c) → AreHoledCaps rules fixed (forest (take (k + 1) args)) (holed_all items2)
  next_cap args items items2 k arg c h is pushed so_far cap =
      let taken : take (k + 1) args ≡ take k args ++ arg ∷ [] = take_more args k arg h ∙ ap (λ z. take k args ++ z ∷ []) (sym is) in
      rw (taken, pushed, forest_more (take k args) arg, holed_more items c) (cap_last so_far cap)

  all_caps : (args : List Term) (items : List Cap) (k : ℕ) → length args ≤ k → AreHoledCaps rules fixed (forest (take k args)) (holed_all items) → AreHoledCaps rules fixed (forest args) (holed_all items)
  all_caps args items k h caps = rw (take_all k args h) at caps

  -- a symbol over the caps of its arguments
  pub whole_cap : (t : Tree) (f : ℕ) (args : List Term) (items : List Cap) (k : ℕ) → t ≡ app f (forest args) → length args ≤ k → AreHoledCaps rules fixed (forest (take k args)) (holed_all items)
      → IsWhole rules fixed t (symbol f (holed_all items))
  whole_cap t f args items k is h caps = record { root = f; args = forest args; caps = holed_all items; term = is; cap = refl; each = all_caps args items k h caps }

  -- a variable stays where variables are fixed
  pub variable_is : (t : Tree) (v : ℕ) (c : HoledTree) → t ≡ var v → (fixed ≡ true → c ≡ own v) → (fixed ≡ false → c ≡ hole) → IsHoledCap rules fixed t c
  variable_is t v c is stays opens = go fixed refl
    where
      go : (b : Bool) → fixed ≡ b → IsHoledCap rules fixed t c
      go true e = rw (is, stays e) (fixed_variable e)
      go false e = rw (is, opens e) (free_variable e)

  pub kept_symbol : (t : Tree) (c : HoledTree) → IsWhole rules fixed t c → MeetsSome c rules false → IsHoledCap rules fixed t c
  kept_symbol t c whole free = rw (whole.term, whole.cap) (symbol_kept whole.each (rw whole.cap at free))

  pub opened_symbol : (t : Tree) (c : HoledTree) → IsWhole rules fixed t c → MeetsSome c rules true → IsHoledCap rules fixed t hole
  opened_symbol t c whole (l, r, rule, meets) = rw whole.term (symbol_opened whole.each rule (rw whole.cap at meets))

module _ (is_own : ℕ → Bool) where
  number_last : {n m k : ℕ} {cs : HoledTrees} {ts : Trees} {c : HoledTree} {t : Tree} → AreNumbered is_own n cs ts m → IsNumbered is_own m c t k → AreNumbered is_own n (with_last_cap cs c) (with_last ts t) k
  number_last number_none one = number_more one number_none
  number_last (number_more first rest) one = number_more first (number_last rest one)

  pub next_number : (n m m2 : ℕ) (parts : List Cap) (args args2 : List Term) (k : ℕ) (part : Cap) (t : Term) → k < length parts → part ≡ get_or parts k part → args2 ≡ args ++ t ∷ []
      → AreNumbered is_own n (holed_all (take k parts)) (forest args) m → IsNumbered is_own m (holed part) (tree t) m2 → AreNumbered is_own n (holed_all (take (k + 1) parts)) (forest args2) m2
  next_number n m m2 parts args args2 k part t h is pushed so_far one =
      let taken : take (k + 1) parts ≡ take k parts ++ part ∷ [] = take_more parts k part h ∙ ap (λ z. take k parts ++ z ∷ []) (sym is) in
      rw (taken, pushed, forest_more args t, holed_more (take k parts) part) (number_last so_far one)

  pub numbered_symbol : (n m : ℕ) (c : HoledTree) (f : ℕ) (parts : List Cap) (args : List Term) (k : ℕ) → c ≡ symbol f (holed_all parts) → length parts ≤ k
      → AreNumbered is_own n (holed_all (take k parts)) (forest args) m → IsNumbered is_own n c (app f (forest args)) m
  numbered_symbol n m c f parts args k is h each = rw is (number_symbol (rw (take_all k parts h) at each))

  pub numbered_hole : (n w m : ℕ) (c : HoledTree) → c ≡ hole → m ≡ w + 1 → IsNext is_own n w → IsNumbered is_own n c (var w) m
  numbered_hole n w m c is after next = let e : m ≡ suc w = omega (arith, after) in rw (is, e) (number_hole next)

  pub numbered_own : (n v : ℕ) (c : HoledTree) → c ≡ own v → IsNumbered is_own n c (var v) n
  numbered_own n v c is = rw is leave_own
