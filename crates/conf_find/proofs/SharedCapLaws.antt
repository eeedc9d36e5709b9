-- Caps by their numbers, as they are read and added, and how they clash.
use Rattle.std.specs.Prelude.{◌≡◌, ◌<◌, ◌≤◌, ◌+◌, ℕ, Bool, true, false, not, ◌||◌, ◌==◌, All, List, [], ◌∷◌, ◌++◌, take, drop, length, Some, slice_get, get_or, refl}
use Rattle.std.proofs.Common.{zero, suc, ap, sym, ◌∙◌, subst, arith, inl, inr, append_assoc, append-nil, length-append}
use Rattle.std.specs.Global.{Vec}
use Rattle.std.proofs.lemmas.Bool.Decides.{nat_tests}
use Rattle.std.proofs.lemmas.Bool.{or_right}
use Rattle.std.proofs.lemmas.List.{get_or-take, drop_all}
use Rattle.std.proofs.lemmas.List.Elements.{All-head, All-tail}
use Rattle.std.proofs.lemmas.Option.{same_Some, get_or_from_slice_get}
use native.Mathlib.Decide.{ℕ_discrete}
use Rattle.trs_defs.proofs.ArgumentLists.{cell}
use Rattle.trs_defs.proofs.ListItems.{item_of_more}
use Rattle.trs_caps.specs.HoledTree.{HoledTree, hole, own, symbol}
use Rattle.trs_caps.specs.Clash.{clash, some_clash}
use Rattle.trs_caps.proofs.Compatible.{clash_itself}
use Rattle.conf_find.specs.SharedCaps.{cap_at, parts_at, node_cap, IsOver, caps_over, AreOrdered, KeepsCaps}
use Rattle.conf_find.specs.declared.cap_node.CapNode.{CapNode}
use Rattle.conf_find.specs.declared.cap_node.CapNode.TheVariants.{Open, Own, Symbol}

-- ---- the caps of nodes

length_over : (cs : List HoledTree) (ns : List CapNode) → length (caps_over cs ns) ≡ length ns
length_over cs [] = refl
length_over cs (n ∷ ns) = omega (arith, length_over (cs ++ node_cap cs n ∷ []) ns)

over_more : (cs : List HoledTree) (ns : List CapNode) (n : CapNode) → caps_over cs (ns ++ n ∷ []) ≡ caps_over cs ns ++ node_cap (cs ++ caps_over cs ns) n ∷ []
over_more cs [] n = rw (append-nil cs) refl
over_more cs (x ∷ ns) n =
    let new : HoledTree = node_cap cs x in
    let rest = over_more (cs ++ new ∷ []) ns n in
    let whole : (cs ++ new ∷ []) ++ caps_over (cs ++ new ∷ []) ns ≡ cs ++ new ∷ caps_over (cs ++ new ∷ []) ns = append_assoc cs (new ∷ []) (caps_over (cs ++ new ∷ []) ns) in
    ap (λ us. new ∷ us) (rest ∙ ap (λ us. caps_over (cs ++ new ∷ []) ns ++ node_cap us n ∷ []) whole)

over_read : (cs : List HoledTree) (ns : List CapNode) (i : ℕ) (n : CapNode) → slice_get ns i ≡ Some n → slice_get (caps_over cs ns) i ≡ Some (node_cap (cs ++ take i (caps_over cs ns)) n)
over_read cs [] i n h = absurd cc
over_read cs (x ∷ ns) zero n h =
    let same : x ≡ n = same_Some x n h in
    rw (append-nil cs, same) refl
over_read cs (x ∷ ns) (suc i) n h =
    let new : HoledTree = node_cap cs x in
    let rest = over_read (cs ++ new ∷ []) ns i n h in
    rest ∙ ap (λ us. Some (node_cap us n)) (append_assoc cs (new ∷ []) (take i (caps_over (cs ++ new ∷ []) ns)))

-- nodes over lists that agree
pub same_parts_at : (cs ds : List HoledTree) (k : ℕ) (parts : List ℕ) → All (λ i. i < k) parts → ((i : ℕ) → i < k → cap_at ds i ≡ cap_at cs i) → parts_at ds parts ≡ parts_at cs parts
same_parts_at cs ds k [] h same = refl
same_parts_at cs ds k (a ∷ xs) h same =
    let rest : parts_at ds xs ≡ parts_at cs xs = same_parts_at cs ds k xs (All-tail (λ i. i < k) a xs h) same in
    cc (same a (All-head (λ i. i < k) a xs h), rest)

same_node_cap : (cs ds : List HoledTree) (k : ℕ) (n : CapNode) → IsOver k n → ((i : ℕ) → i < k → cap_at ds i ≡ cap_at cs i) → node_cap ds n ≡ node_cap cs n
same_node_cap cs ds k Open h same = refl
same_node_cap cs ds k (Own v) h same = refl
same_node_cap cs ds k (Symbol f parts) h same = ap (symbol f) (same_parts_at cs ds k parts.items h same)

pub none_ordered : (ns : List CapNode) → ns ≡ [] → AreOrdered ns
none_ordered ns empty = rw empty (record { over = λ k n at. absurd cc })

module _ (ns : List CapNode) (view : List HoledTree) (ordered : AreOrdered ns) (is : caps_over [] ns ≡ view) where
  pub as_many : length ns ≡ length view
  as_many = sym (length_over [] ns) ∙ ap length is

  -- the cap of a number is that of its node
  pub node_read : (k : ℕ) (n : CapNode) → slice_get ns k ≡ Some n → cap_at view k ≡ node_cap view n
  node_read k n at =
      let caps = caps_over [] ns in
      let same : node_cap caps n ≡ node_cap (take k caps) n = same_node_cap (take k caps) caps k n (ordered.over k n at) (λ i l. sym (get_or-take k caps i hole l)) in
      let read : cap_at caps k ≡ node_cap caps n = get_or_from_slice_get caps k (node_cap (take k caps) n) hole (over_read [] ns k n at) ∙ sym same in
      subst (λ cs. cap_at cs k ≡ node_cap cs n) is read

  -- ---- one more node
  module _ (n : CapNode) (over : IsOver (length view) n) where
    more_caps : caps_over [] (ns ++ n ∷ []) ≡ view ++ node_cap view n ∷ []
    more_caps = over_more [] ns n ∙ ap (λ cs. cs ++ node_cap cs n ∷ []) is

    pub ordered_still : AreOrdered (ns ++ n ∷ [])
    ordered_still = record {
      over = λ k m at. elim (item_of_more ns n m k at) as (λ _. IsOver k m) [
        | inl before ↦ ordered.over k m before
        | inr now ↦ (let last : IsOver (length ns) n = subst (λ l. IsOver l n) (sym as_many) over in rw (now.0, now.1) last)
      ];
    }

    pub last_there : length ns < length (caps_over [] (ns ++ n ∷ []))
    last_there = let more = ap length more_caps in omega (arith, more, length-append view (node_cap view n ∷ []), as_many)

    pub last_cap : cap_at (caps_over [] (ns ++ n ∷ [])) (length ns) ≡ node_cap view n
    last_cap = ap (λ cs. cap_at cs (length ns)) more_caps ∙ (ap (cap_at (view ++ node_cap view n ∷ [])) as_many ∙ read_last view (node_cap view n))
      where
        read_last : (cs : List HoledTree) (c : HoledTree) → cap_at (cs ++ c ∷ []) (length cs) ≡ c
        read_last [] c = refl
        read_last (x ∷ cs) c = read_last cs c

    pub caps_stay : KeepsCaps view (caps_over [] (ns ++ n ∷ []))
    caps_stay = record {
      longer = (let more = ap length more_caps in omega (arith, more, length-append view (node_cap view n ∷ [])));
      kept = λ k l. ap (λ cs. cap_at cs k) more_caps ∙ read_old view (node_cap view n) k l;
    }
      where
        read_old : (cs : List HoledTree) (c : HoledTree) (k : ℕ) → k < length cs → cap_at (cs ++ c ∷ []) k ≡ cap_at cs k
        read_old [] c k l = absurd (omega (arith, l))
        read_old (x ∷ cs) c zero l = refl
        read_old (x ∷ cs) c (suc k) l = read_old cs c k (omega (arith, l))

pub keeps_itself : (cs : List HoledTree) → KeepsCaps cs cs
keeps_itself cs = record { longer = omega arith; kept = λ k l. refl }

pub keeps_on : (a b c : List HoledTree) → KeepsCaps a b → KeepsCaps b c → KeepsCaps a c
keeps_on a b c h k = record {
  longer = omega (arith, h.longer, k.longer);
  kept = λ i l. k.kept i (omega (arith, l, h.longer)) ∙ h.kept i l;
}

-- ---- clashes

clash_hole : (c : HoledTree) → clash c hole ≡ false
clash_hole hole = refl
clash_hole (own v) = refl
clash_hole (symbol f cs) = refl

pub same_number_clash : (caps : List HoledTree) (i j : ℕ) → i ≡ j → false ≡ clash (cap_at caps i) (cap_at caps j)
same_number_clash caps i j same = subst (λ k. false ≡ clash (cap_at caps i) (cap_at caps k)) same (sym (clash_itself (cap_at caps i)))

module _ (caps : List HoledTree) (i j : ℕ) (m n : CapNode) (left : cap_at caps i ≡ node_cap caps m) (right : cap_at caps j ≡ node_cap caps n) where
  of_nodes : clash (cap_at caps i) (cap_at caps j) ≡ clash (node_cap caps m) (node_cap caps n)
  of_nodes = ap (λ c. clash c (cap_at caps j)) left ∙ ap (clash (node_cap caps m)) right

  pub open_left : m ≡ Open → false ≡ clash (cap_at caps i) (cap_at caps j)
  open_left is = sym (of_nodes ∙ ap (λ z. clash (node_cap caps z) (node_cap caps n)) is)

  pub open_right : n ≡ Open → false ≡ clash (cap_at caps i) (cap_at caps j)
  open_right is = sym (of_nodes ∙ (ap (λ z. clash (node_cap caps m) (node_cap caps z)) is ∙ clash_hole (node_cap caps m)))

  pub both_own : (v w : ℕ) → m ≡ Own v → n ≡ Own w → not (v == w) ≡ clash (cap_at caps i) (cap_at caps j)
  both_own v w is_m is_n = sym (of_nodes ∙ (ap (λ z. clash (node_cap caps z) (node_cap caps n)) is_m ∙ ap (λ z. clash (own v) (node_cap caps z)) is_n))

  pub own_left : (v g : ℕ) (ds : Vec ℕ) → m ≡ Own v → n ≡ Symbol g ds → true ≡ clash (cap_at caps i) (cap_at caps j)
  own_left v g ds is_m is_n = sym (of_nodes ∙ (ap (λ z. clash (node_cap caps z) (node_cap caps n)) is_m ∙ ap (λ z. clash (own v) (node_cap caps z)) is_n))

  pub own_right : (w f : ℕ) (cs : Vec ℕ) → m ≡ Symbol f cs → n ≡ Own w → true ≡ clash (cap_at caps i) (cap_at caps j)
  own_right w f cs is_m is_n = sym (of_nodes ∙ (ap (λ z. clash (node_cap caps z) (node_cap caps n)) is_m ∙ ap (λ z. clash (node_cap caps (Symbol f cs)) (node_cap caps z)) is_n))

  pub both_symbols : (f g : ℕ) (cs ds : Vec ℕ) → m ≡ Symbol f cs → n ≡ Symbol g ds
      → clash (cap_at caps i) (cap_at caps j) ≡ (not (f == g) || some_clash (parts_at caps cs.items) (parts_at caps ds.items))
  both_symbols f g cs ds is_m is_n = of_nodes ∙ (ap (λ z. clash (node_cap caps z) (node_cap caps n)) is_m ∙ ap (λ z. clash (node_cap caps (Symbol f cs)) (node_cap caps z)) is_n)

module _ (caps : List HoledTree) where
  other_lengths : (xs ys : List ℕ) → (length xs ≡ length ys → ⊥) → some_clash (parts_at caps xs) (parts_at caps ys) ≡ true
  other_lengths [] [] h = absurd (h refl)
  other_lengths [] (y ∷ ys) h = refl
  other_lengths (x ∷ xs) [] h = refl
  other_lengths (x ∷ xs) (y ∷ ys) h =
      or_right (clash (cap_at caps x) (cap_at caps y)) (some_clash (parts_at caps xs) (parts_at caps ys)) (other_lengths xs ys (λ e. h (ap suc e)))

  -- the roots differ, or the numbers of arguments
  pub unlike_clash : (whole : Bool) (f g : ℕ) (xs ys : List ℕ) → whole ≡ (not (f == g) || some_clash (parts_at caps xs) (parts_at caps ys)) → (f ≡ g → length xs ≡ length ys → ⊥) → true ≡ whole
  unlike_clash whole f g xs ys is differ = sym (is ∙ elim (ℕ_discrete f g) as (λ _. (not (f == g) || some_clash (parts_at caps xs) (parts_at caps ys)) ≡ true) [
    | yes same ↦ or_right (not (f == g)) (some_clash (parts_at caps xs) (parts_at caps ys)) (other_lengths xs ys (differ same))
    | no other ↦ (let e : (f == g) ≡ false = grind (arith, nat_tests) in rw e refl)
  ])

  -- one root
  pub like_clash : (whole : Bool) (f g : ℕ) (xs ys : List ℕ) → whole ≡ (not (f == g) || some_clash (parts_at caps xs) (parts_at caps ys)) → f ≡ g → some_clash (parts_at caps xs) (parts_at caps ys) ≡ whole
  like_clash whole f g xs ys is same =
      let e : not (f == g) ≡ false = grind (arith, nat_tests) in
      sym (is ∙ ap (λ b. b || some_clash (parts_at caps xs) (parts_at caps ys)) e)

  module _ (xs ys : List ℕ) (i x y : ℕ) (whole here : Bool) (below : i < length xs) (as_long : length xs ≡ length ys) (is_x : x ≡ get_or xs i x) (is_y : y ≡ get_or ys i y)
      (left : some_clash (parts_at caps (drop i xs)) (parts_at caps (drop i ys)) ≡ whole) (is : here ≡ clash (cap_at caps x) (cap_at caps y)) where
    with_first : (here || some_clash (parts_at caps (drop (i + 1) xs)) (parts_at caps (drop (i + 1) ys))) ≡ whole
    with_first =
        let X : List ℕ → Type 0 = λ zs. some_clash (parts_at caps zs) (parts_at caps (drop i ys)) ≡ whole in
        let Y : List ℕ → Type 0 = λ zs. some_clash (parts_at caps (x ∷ drop (i + 1) xs)) (parts_at caps zs) ≡ whole in
        let cells : Y (y ∷ drop (i + 1) ys) = subst Y (cell ys i y (omega (arith, below, as_long)) is_y) (subst X (cell xs i x below is_x) left) in
        ap (λ b. b || some_clash (parts_at caps (drop (i + 1) xs)) (parts_at caps (drop (i + 1) ys))) is ∙ cells

    pub this_clashes : here ≡ true → true ≡ whole
    this_clashes e = sym (ap (λ b. b || some_clash (parts_at caps (drop (i + 1) xs)) (parts_at caps (drop (i + 1) ys))) e) ∙ with_first

    pub this_does_not : here ≡ false → some_clash (parts_at caps (drop (i + 1) xs)) (parts_at caps (drop (i + 1) ys)) ≡ whole
    this_does_not e = ap (λ b. b || some_clash (parts_at caps (drop (i + 1) xs)) (parts_at caps (drop (i + 1) ys))) (sym e) ∙ with_first

  pub no_more_clash : (xs ys : List ℕ) (i : ℕ) (whole : Bool) → length xs ≤ i → length xs ≡ length ys → some_clash (parts_at caps (drop i xs)) (parts_at caps (drop i ys)) ≡ whole → false ≡ whole
  no_more_clash xs ys i whole all as_long left =
      let done : some_clash (parts_at caps []) (parts_at caps []) ≡ whole = rw (drop_all i xs all, drop_all i ys (omega (arith, all, as_long))) at left in done
