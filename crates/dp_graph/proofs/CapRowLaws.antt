-- Caps with numbers, one after another, and the rows of the left sides that they meet.
use Rattle.std.specs.Prelude.{◌≡◌, ◌<◌, ◌≤◌, ◌↔◌, ◌⊎◌, ℕ, ◌+◌, ◌-◌, ◌++◌, ◌==◌, Bool, true, false, not, List, [], ◌∷◌, length, take, drop, get_or, All, Option, Some, None, IfSome, IsTrue, Result, Ok, Err, IfOk, OnOk, Vec, slice_get, slice_set, slice_index, refl}
use Rattle.std.specs.declared.alloc.Global.{Global}
use Rattle.std.specs.Ordering.{nat_cmp}
use Rattle.std.specs.BTreeMap.{get, is_at}
use Rattle.std.specs.Map.{lookup}
use Rattle.std.proofs.Common.{inl, inr, sym, ap, ap₂, subst, arith, ◌∙◌, append_assoc, length-append, length-drop}
use Rattle.std.proofs.lemmas.List.{append-nil, take_all, take_more, drop_at}
use Rattle.std.proofs.lemmas.List.Elements.{All-more}
use Rattle.std.proofs.lemmas.Bool.Decides.{Decides-eqb}
use Rattle.std.proofs.lemmas.Option.{same_Some, slice_get_within}
use Rattle.trs_defs.specs.Member.{In}
use Rattle.trs_defs.specs.Tree.{Tree, Trees, var, app}
use Rattle.trs_defs.specs.System.{RewriteRule, System, IsSystem, has_root, is_defined}
use Rattle.trs_defs.proofs.ListItems.{last_item, item_there}
use Rattle.trs_defs.proofs.Members.{in_of_get, get_of_in}
use Rattle.trs_core.specs.declared.terms.Term.{Term}
use Rattle.trs_core.specs.View.{tree, forest}
use Rattle.term_pool.specs.Roots.{with_root}
use Rattle.term_pool.proofs.NumberLaws.{each_number}
use Rattle.trs_caps.specs.HoledTree.{HoledTree, HoledTrees, hole, symbol, more}
use Rattle.trs_caps.specs.HoledCap.{IsHoledCap, AreHoledCaps, MeetsLeft, MeetsSome, HasRoot, free_variable, no_holed}
use Rattle.trs_caps.specs.KnownCaps.{IsWhole}
use Rattle.trs_caps.specs.View.{holed, holed_all}
use Rattle.trs_caps.specs.declared.holed.Cap.{Cap}
use Rattle.trs_caps.proofs.CapSteps.{next_cap, kept_symbol, opened_symbol}
use Rattle.trs_caps.proofs.MetRules.{root_of_met}
use Rattle.pair_theory.specs.Marked.{Marked, marked, plain}
use Rattle.pair_theory.specs.DependencyPair.{subterms, subterms_of_all}
use Rattle.dp_graph.specs.GraphNodes.{IsEndOf}
use Rattle.dp_graph.specs.SameLefts.{IsNoted, HaveSameLefts}
use Rattle.dp_graph.specs.NotedRules.{Lists, noted_at, HaveAllNoted}
use Rattle.dp_graph.specs.WordRows.{HasWords, KeepWords}
use Rattle.dp_graph.specs.FlagRows.{IsSet, IsMet, HasFlags, IsRow, MeetsOther, IsOther, LooksAtLeft}
use Rattle.dp_graph.specs.CapRows.{Key, HaveNumbers, no_numbers, one_number, HasKey, AreCaps, KeepNumbers, AreMore, IsNumbered, AddsCap, AreEnds, no_ends, at_variable, not_defined, one_end, IsEnd, AddsEnds, IsCapped, Begins, with_end}
use Rattle.dp_graph.specs.declared.cap_rows.CapRows.{CapRows}
use Rattle.dp_graph.specs.declared.cap_rows.End.{End}
use Rattle.dp_graph.specs.declared.cap_rows.NumberedCap.{NumberedCap}
use Rattle.dp_graph.proofs.FlagLaws.{none_set}
use Rattle.dp_graph.proofs.ListPlaces.{each_of_all, all_of_each, last_or_there, still_there, length_set}

-- ---- the row of a cap

-- the rules of these numbers were looked at
pub record RowSoFar (rules : List RewriteRule) (lefts : List (Option ℕ)) (c : HoledTree) (ks : List ℕ) (row : List ℕ) : Type 0 where
  pub met : (k : ℕ) → IsSet row k → IsMet rules c k
  pub looked : All (λ k. IsNoted lefts k k → IsMet rules c k → IsSet row k) ks
  pub some : 0 < length row → (k : ℕ) × IsSet row k

-- the cap meets none of the left sides of rules without pairs among these
abbrev pub NoneMet : List RewriteRule → List (Option ℕ) → HoledTree → List ℕ → Type 0
NoneMet rules lefts c ks = All (λ k. MeetsOther rules lefts c k → ⊥) ks

pub no_flags : (rules : List RewriteRule) (lefts : List (Option ℕ)) (c : HoledTree) (ks : List ℕ) (row : List ℕ) → row ≡ [] → RowSoFar rules lefts c (take 0 ks) row
no_flags rules lefts c ks row empty = record {
  met = λ k set. absurd (none_set k (subst (λ z. IsSet z k) empty set));
  looked = λ i d lt. absurd (omega (arith, lt));
  some = λ lt. absurd (let e = ap length empty in omega (arith, lt, e));
}

module _ (rules : List RewriteRule) (lefts : List (Option ℕ)) (c : HoledTree) where
  pub one_more_flag : (ks : List ℕ) (i : ℕ) (old new : List ℕ) → i < length ks → LooksAtLeft rules lefts c (slice_index ks i) old new → RowSoFar rules lefts c (take i ks) old → RowSoFar rules lefts c (take (i + 1) ks) new
  one_more_flag ks i old new lt looks so_far = record {
    met = λ k set. elim (looks.only k set) [ inl e ↦ so_far.met k e | inr e ↦ subst (IsMet rules c) (sym e.0) e.1 ];
    looked = All-more (λ k. IsNoted lefts k k → IsMet rules c k → IsSet new k) ks i 0 lt (λ n d within noted met. looks.kept _ (so_far.looked n d within noted met)) (λ noted met. looks.met noted met);
    some = λ long. elim looks.some [
      | inl e ↦ (let (k, set) = so_far.some (subst (λ z. 0 < length z) e long) in (k, looks.kept k set))
      | inr e ↦ (slice_index ks i, e)
    ];
  }

  pub all_flags : (system : System) (noted : Lists) (f : ℕ) (ks : List ℕ) (i : ℕ) (row : List ℕ) → system.rules ≡ rules → IsSystem system → HaveSameLefts rules lefts → HaveAllNoted rules lefts noted → HasRoot f c → ks ≡ noted_at rules noted f → length ks ≤ i
      → RowSoFar rules lefts c (take i ks) row → HasFlags rules lefts c row
  all_flags system noted f ks i row is valid same stand root all past so_far = record {
    met = so_far.met;
    all = λ k j rule there at meets.
        let (q, found, left) = same.each k j rule at there in
        let also : MeetsLeft c q.left = subst (MeetsLeft c) (sym left) meets in
        let proper = (valid.each j q (subst (λ z. slice_get z j ≡ Some q) (sym is) found)).left_no_variable in
        let rooted : IsTrue (has_root f q.left) = root_of_met f c q.left root proper also in
        let looked = subst (All (λ n. IsNoted lefts n n → IsMet rules c n → IsSet row n)) (take_all i ks past ∙ all) so_far.looked in
        let own = same.noted k j at in
        let member : In j (with_root f rules) =
        each_number (λ (r : RewriteRule). has_root f r.left) (λ n. In n (with_root f rules)) q rooted j 0 rules (all_of_each (λ n. In n (with_root f rules)) (with_root f rules) (λ n i. i)) j found (omega arith) in
        each_of_all (λ n. IsNoted lefts n n → IsMet rules c n → IsSet row n) (noted_at rules noted f) looked j (stand f j member own) own (q, found, also);
    some = so_far.some;
  }

  -- the rules of these numbers are no other rules whose left sides the cap meets
  pub one_more_other : (ks : List ℕ) (i : ℕ) (rule : RewriteRule) (b : Bool) → i < length ks → slice_get rules (slice_index ks i) ≡ Some rule
      → (slice_get lefts (slice_index ks i) ≡ Some None → MeetsLeft c rule.left → IsTrue b) → b ≡ false → NoneMet rules lefts c (take i ks) → NoneMet rules lefts c (take (i + 1) ks)
  one_more_other ks i rule b lt there says unmet so_far =
      All-more (λ k. MeetsOther rules lefts c k → ⊥) ks i 0 lt (λ n d within. so_far n d within)
      (λ (other, (q, at, meets)). let e = says other (subst (λ (z : RewriteRule). MeetsLeft c z.left) (same_Some q rule (sym at ∙ there)) meets) in absurd cc)

  pub no_other : (system : System) (f : ℕ) (ks : List ℕ) (i : ℕ) → system.rules ≡ rules → IsSystem system → HasRoot f c → ks ≡ with_root f rules → length ks ≤ i → NoneMet rules lefts c (take i ks) → IsOther rules lefts c None
  no_other system f ks i is valid root all past so_far k (other, (rule, found, meets)) =
      let proper = (valid.each k rule (subst (λ z. slice_get z k ≡ Some rule) (sym is) found)).left_no_variable in
      let rooted : IsTrue (has_root f rule.left) = root_of_met f c rule.left root proper meets in
      let looked = subst (NoneMet rules lefts c) (take_all i ks past ∙ all) so_far in
      each_number (λ (r : RewriteRule). has_root f r.left) (λ n. MeetsOther rules lefts c n → ⊥) rule rooted k 0 rules looked k found (omega arith) (other, (rule, found, meets))

  -- a row with a flag
  pub row_with_flag : (row : List ℕ) → HasFlags rules lefts c row → (row ≡ [] → ⊥) → IsRow rules lefts c row
  row_with_flag row has not_empty = record { flags = has; none = λ empty. absurd (not_empty empty) }

  -- the flag of another rule is set in an empty row
  pub row_of_other : (old new : List ℕ) (k : ℕ) → HasFlags rules lefts c old → IsMet rules c k → ((j : ℕ) → IsSet new j ↔ (IsSet old j ⊎ (j ≡ k))) → IsRow rules lefts c new
  row_of_other old new k has met sets = record {
    flags = record {
      met = λ j set. elim ((sets j).0 set) [ inl e ↦ has.met j e | inr e ↦ subst (IsMet rules c) (sym e) met ];
      all = λ n j rule at noted meets. (sets j).1 (inl (has.all n j rule at noted meets));
      some = λ long. (k, (sets k).1 (inr refl));
    };
    none = λ empty. absurd (none_set k (subst (λ z. IsSet z k) empty ((sets k).1 (inr refl))));
  }

  -- the cap meets no left side
  pub row_of_none : (row : List ℕ) → HaveSameLefts rules lefts → HasFlags rules lefts c row → IsOther rules lefts c None → row ≡ [] → IsRow rules lefts c row
  row_of_none row same has unmet empty = record {
    flags = has;
    none = λ e k (rule, at, meets).
        let count = same.count in
        let there = item_there lefts k (let w = slice_get_within rules k rule at in omega (arith, w, count)) in
        unmet_by rule k at meets there.0 there.1;
  }
    where
      unmet_by : (rule : RewriteRule) (k : ℕ) → slice_get rules k ≡ Some rule → MeetsLeft c rule.left → (left : Option ℕ) → slice_get lefts k ≡ Some left → ⊥
      unmet_by rule k at meets None other = unmet k (other, (rule, at, meets))
      unmet_by rule k at meets (Some j) noted = none_set j (subst (λ z. IsSet z j) empty (has.all k j rule at noted meets))

  -- whether the cap meets a left side
  pub met_some : (flags : List ℕ) → IsRow rules lefts c flags → (b : Bool) → IsTrue b ↔ (flags ≡ []) → MeetsSome c rules (not b)
  met_some [] is true e = λ l r there meets.
      let (k, at) = get_of_in there in
      is.none refl k (record { left = l; right = r }, at, meets)
  met_some [] is false e = absurd (let d = e.1 refl in cc)
  met_some (b ∷ flags) is true e = absurd (let d = e.0 refl in cc)
  met_some (b ∷ flags) is false e =
      let (k, set) = is.flags.some (omega arith) in
      let (rule, at, meets) = is.flags.met k set in
      (rule.left, rule.right, in_of_get rules k rule at, meets)

pub nothing_looked : (rules : List RewriteRule) (lefts : List (Option ℕ)) (c : HoledTree) (k : ℕ) (row : List ℕ) → (IsNoted lefts k k → IsMet rules c k → ⊥) → LooksAtLeft rules lefts c k row row
nothing_looked rules lefts c k row unmet = record { kept = λ j h. h; met = λ noted met. absurd (unmet noted met); only = λ j h. inl h; some = inl refl }

-- the cap does not meet the left side of a rule that is there
pub not_met : (rules : List RewriteRule) (c : HoledTree) (k : ℕ) (rule : RewriteRule) → slice_get rules k ≡ Some rule → (MeetsLeft c rule.left → ⊥) → IsMet rules c k → ⊥
not_met rules c k rule there unmet (q, at, meets) = unmet (subst (λ (z : RewriteRule). MeetsLeft c z.left) (same_Some q rule (sym at ∙ there)) meets)

pub no_rule_met : (rules : List RewriteRule) (c : HoledTree) (k : ℕ) → slice_get rules k ≡ None → IsMet rules c k → ⊥
no_rule_met rules c k none (q, at, meets) = let d : None ≡ Some q = sym none ∙ at in absurd cc

pub one_looked : (rules : List RewriteRule) (lefts : List (Option ℕ)) (c : HoledTree) (k : ℕ) (old new : List ℕ) → IsMet rules c k → ((j : ℕ) → IsSet new j ↔ (IsSet old j ⊎ (j ≡ k))) → LooksAtLeft rules lefts c k old new
one_looked rules lefts c k old new meets sets = record {
  kept = λ j h. (sets j).1 (inl h);
  met = λ noted also. (sets k).1 (inr refl);
  only = λ j h. elim ((sets j).0 h) [ inl e ↦ inl e | inr e ↦ inr (e, meets) ];
  some = inr ((sets k).1 (inr refl));
}

-- ---- numbers and keys

still_numbered : {old new : List HoledTree} {cs : HoledTrees} {ns : List ℕ} → KeepNumbers old new → HaveNumbers old cs ns → HaveNumbers new cs ns
still_numbered keeps no_numbers = no_numbers
still_numbered keeps (one_number {c = c} {n = n} at rest) = one_number (keeps n c at) (still_numbered keeps rest)

pub still_key : (old new : List HoledTree) (c : HoledTree) (key : List ℕ) → KeepNumbers old new → HasKey old c key → HasKey new c key
still_key old new c key keeps has = record { root = has.root; parts = has.parts; numbers = has.numbers; cap = has.cap; key_is = has.key_is; numbered = still_numbered keeps has.numbered }

same_parts : {all : List HoledTree} {cs ds : HoledTrees} {ns : List ℕ} → HaveNumbers all cs ns → HaveNumbers all ds ns → cs ≡ ds
same_parts no_numbers no_numbers = refl
same_parts (one_number {c = c} at rest) (one_number {c = d} there others) = ap₂ more (same_Some c d (sym at ∙ there)) (same_parts rest others)

-- only equal caps have one key
pub same_key : (all : List HoledTree) (c d : HoledTree) (key : List ℕ) → HasKey all c key → HasKey all d key → c ≡ d
same_key all c d key has also =
    let whole : has.root ∷ has.numbers ≡ also.root ∷ also.numbers = sym has.key_is ∙ also.key_is in
    let root : has.root ≡ also.root = cc in
    let numbers : has.numbers ≡ also.numbers = cc in
    has.cap ∙ (ap₂ symbol root (same_parts (subst (HaveNumbers all has.parts) numbers has.numbered) also.numbered) ∙ sym also.cap)

last_numbered : (all : List HoledTree) (items : List Cap) (cap : Cap) (ns : List ℕ) (n : ℕ) → HaveNumbers all (holed_all items) ns → slice_get all n ≡ Some (holed cap)
    → HaveNumbers all (holed_all (items ++ cap ∷ [])) (ns ++ n ∷ [])
last_numbered all [] cap ns n no_numbers at = one_number at no_numbers
last_numbered all (i ∷ items) cap ns n (one_number {ns = ms} there rest) at = one_number there (last_numbered all items cap ms n rest at)

-- the key behind the words that stay
pub key_behind : (before words key : List ℕ) (n : ℕ) → n ≡ length before → words ≡ before ++ key → take (length words - n) (drop n words) ≡ key
key_behind before words key n is behind =
    let dropped : drop n words ≡ key = ap (drop n) behind ∙ drop_at before key n (sym is) in
    take_all (length words - n) (drop n words) (omega (arith, length-drop n words)) ∙ dropped

-- ---- ends

-- the symbol of a side over the caps of its arguments
whole_end : (rules : List RewriteRule) (side : Marked) (c : HoledTree) → IsWhole rules false (plain side) c → IsEndOf rules side c
whole_end rules side c whole =
    let is : app side.symbol side.args ≡ app whole.root whole.args = whole.term in
    let root : side.symbol ≡ whole.root = cc in
    let args : side.args ≡ whole.args = cc in
    (whole.caps, subst (λ z. AreHoledCaps rules false z whole.caps) (sym args) whole.each, whole.cap ∙ ap (λ f. symbol f whole.caps) (sym root))

still_end : {rules : List RewriteRule} {old new : List HoledTree} {side : Marked} {end : End} → KeepNumbers old new → IsEnd rules old side end → IsEnd rules new side end
still_end {end = end} keeps is = record { root = is.root; cap = is.cap; numbered = keeps end.cap is.cap is.numbered; is = is.is }

pub still_ended : {rules : List RewriteRule} {old new : List HoledTree} {ts : List Tree} {ends : List End} → KeepNumbers old new → AreEnds rules old ts ends → AreEnds rules new ts ends
still_ended keeps no_ends = no_ends
still_ended keeps (at_variable rest) = at_variable (still_ended keeps rest)
still_ended keeps (not_defined unknown rest) = not_defined unknown (still_ended keeps rest)
still_ended keeps (one_end known is rest) = one_end known (still_end keeps is) (still_ended keeps rest)

both_ended : {rules : List RewriteRule} {all : List HoledTree} {ts us : List Tree} {ends others : List End} → AreEnds rules all ts ends → AreEnds rules all us others → AreEnds rules all (ts ++ us) (ends ++ others)
both_ended no_ends also = also
both_ended (at_variable rest) also = at_variable (both_ended rest also)
both_ended (not_defined unknown rest) also = not_defined unknown (both_ended rest also)
both_ended (one_end known is rest) also = one_end known is (both_ended rest also)

subterms_more : (ts : List Term) (t : Term) → subterms_of_all (forest (ts ++ t ∷ [])) ≡ subterms_of_all (forest ts) ++ subterms (tree t)
subterms_more [] t = append-nil (subterms (tree t))
subterms_more (u ∷ ts) t = ap (λ z. subterms (tree u) ++ z) (subterms_more ts t) ∙ sym (append_assoc (subterms (tree u)) (subterms_of_all (forest ts)) (subterms (tree t)))

-- the ends in these terms are behind the others
abbrev pub AddsEndsIn : List RewriteRule → Trees → List End → List End → List HoledTree → Type 0
AddsEndsIn rules ts old new all = (added : List End) × (new ≡ old ++ added) × AreEnds rules all (subterms_of_all ts) added

-- a variable has none
no_end_in : (rules : List RewriteRule) (all : List HoledTree) (t : Tree) (v : ℕ) (ends : List End) → t ≡ var v → AddsEnds rules t ends ends all
no_end_in rules all t v ends is = ([], sym (append-nil ends), subst (λ z. AreEnds rules all (subterms z) []) (sym is) (at_variable no_ends))

-- the ends in one term more
next_ends : (rules : List RewriteRule) (all grown : List HoledTree) (args : List Term) (k : ℕ) (arg : Term) (begun ends ends2 : List End) → k < length args → arg ≡ get_or args k arg → KeepNumbers all grown
    → AddsEndsIn rules (forest (take k args)) begun ends all → AddsEnds rules (tree arg) ends ends2 grown → AddsEndsIn rules (forest (take (k + 1) args)) begun ends2 grown
next_ends rules all grown args k arg begun ends ends2 lt is keeps (added, so_far, ended) (more_ends, ends_grown, here) =
    let taken : take (k + 1) args ≡ take k args ++ arg ∷ [] = take_more args k arg lt ∙ ap (λ z. take k args ++ z ∷ []) (sym is) in
    let below : subterms_of_all (forest (take (k + 1) args)) ≡ subterms_of_all (forest (take k args)) ++ subterms (tree arg) = ap (λ z. subterms_of_all (forest z)) taken ∙ subterms_more (take k args) arg in (
      added ++ more_ends,
      ends_grown ∙ (ap (λ z. z ++ more_ends) so_far ∙ append_assoc begun added more_ends),
      subst (λ z. AreEnds rules grown z (added ++ more_ends)) (sym below) (both_ended (still_ended keeps ended) here),
    )

set_between : {A : Type 0} (xs ys : List A) (x y : A) → slice_set (xs ++ x ∷ ys) (length xs) y ≡ xs ++ y ∷ ys
set_between [] ys x y = refl
set_between (z ∷ xs) ys x y = ap (λ l. z ∷ l) (set_between xs ys x y)

-- the place that is kept stays within
pub begun_within : (rules : List RewriteRule) (f n : ℕ) (old new : List End) (place : Option ℕ) → Begins rules f old new place → length new ≤ n → IfSome place (λ k. k < n)
begun_within rules f n old new None begins long = tt
begun_within rules f n old new (Some k) (known, last, pushed) long =
    let c = ap length pushed in
    let d = length-append old (record { symbol = f; cap = 0 } ∷ []) in
    omega (arith, c, d, last, long)

pub begun_longer : (rules : List RewriteRule) (f : ℕ) (old new : List End) (place : Option ℕ) → Begins rules f old new place → length old ≤ length new
begun_longer rules f old new None (unknown, same) = let c = ap length same in omega (arith, c)
begun_longer rules f old new (Some k) (known, last, pushed) =
    let c = ap length pushed in
    let d = length-append old (record { symbol = f; cap = 0 } ∷ []) in
    omega (arith, c, d)

pub with_end_long : (place : Option ℕ) (f n : ℕ) (ends : List End) → length (with_end place f n ends) ≡ length ends
with_end_long None f n ends = refl
with_end_long (Some k) f n ends = length_set ends k (record { symbol = f; cap = n })

-- ---- caps that are added

pub hole_alone : (rules : List RewriteRule) (lefts : List (Option ℕ)) (table : CapRows) (n : ℕ) (key : Key) → HaveAllNoted rules lefts table.noted → table.caps.items ≡ n ∷ [] → table.keys.rows.items ≡ key ∷ [] → key.items ≡ []
    → table.parts.entries ≡ [] → AreCaps rules lefts table (hole ∷ [])
hole_alone rules lefts table n key noted one keys empty no_parts = record {
  count = ap length one;
  hole_first = refl;
  rows = λ m r f cs at there. absurd (not_hole m f cs at);
  numbered = ap length keys;
  keys = λ m words (row, at, is). inl (elim (last_or_there [] key row m (subst (λ z. slice_get z m ≡ Some row) keys at)) [
    | inl e ↦ cc
    | inr e ↦ sym is ∙ (ap (λ (z : Key). z.items) (sym e.1) ∙ empty)
  ]);
  noted = noted;
  parts = λ hash known at. absurd (let none : get nat_cmp table.parts hash ≡ None = ap (λ es. lookup (is_at (nat_cmp hash)) es) no_parts in let d : None ≡ Some known = sym none ∙ at in cc);
}
  where
    not_hole : (m f : ℕ) (cs : HoledTrees) → slice_get (hole ∷ []) m ≡ Some (symbol f cs) → ⊥
    not_hole m f cs at = elim (last_or_there [] hole (symbol f cs) m at) [ inl e ↦ cc | inr e ↦ (let d = e.1 in cc) ]

module _ (rules : List RewriteRule) (lefts : List (Option ℕ)) where
  pub cap_added : (old new : CapRows) (all : List HoledTree) (c : HoledTree) (key : Key) (flags : List ℕ) (n : ℕ) → AreCaps rules lefts old all → HasKey all c key.items → IsRow rules lefts c flags
      → AddsCap key flags n old new → AreMore rules lefts new all (λ grown. slice_get grown n ≡ Some c)
  cap_added old new all c key flags n are has is adds = (all ++ c ∷ [], keeps, made, here)
    where
      keeps : KeepNumbers all (all ++ c ∷ [])
      keeps m d at = still_there all (c ∷ []) m d at

      place : n ≡ length all
      place = adds.key.last ∙ are.numbered

      here : slice_get (all ++ c ∷ []) n ≡ Some c
      here = subst (λ z. slice_get (all ++ c ∷ []) z ≡ Some c) (sym place) (last_item all c [])

      row_of : (m r f : ℕ) (cs : HoledTrees) → slice_get (all ++ c ∷ []) m ≡ Some (symbol f cs) → slice_get new.caps.items m ≡ Some r
          → (flags : List ℕ) × HasWords new.rows.rows.items r flags × IsRow rules lefts (symbol f cs) flags
      row_of m r f cs at there =
          elim (last_or_there all c (symbol f cs) m at) [
            | inl e ↦ elim (last_or_there old.caps.items adds.row r m (subst (λ z. slice_get z m ≡ Some r) adds.caps there)) [
              | inl d ↦ (let (others, have, also) = are.rows m r f cs e d in (others, adds.kept r others have, also))
              | inr d ↦ absurd (let w = slice_get_within all m (symbol f cs) e in let h = d.0 in omega (arith, w, h, are.count))
            ]
            | inr e ↦ elim (last_or_there old.caps.items adds.row r m (subst (λ z. slice_get z m ≡ Some r) adds.caps there)) [
              | inl d ↦ absurd (let w = slice_get_within old.caps.items m r d in let h = e.0 in omega (arith, w, h, are.count))
              | inr d ↦ (flags, subst (λ z. HasWords new.rows.rows.items z flags) d.1 adds.here, subst (λ z. IsRow rules lefts z flags) e.1 is)
            ]
          ]

      key_of : (m : ℕ) (words : List ℕ) → HasWords new.keys.rows.items m words → (words ≡ []) ⊎ ((d : HoledTree) × (slice_get (all ++ c ∷ []) m ≡ Some d) × HasKey (all ++ c ∷ []) d words)
      key_of m words (row, at, is) =
          elim (last_or_there old.keys.rows.items key row m (subst (λ z. slice_get z m ≡ Some row) adds.key.rows at)) [
            | inl e ↦ elim (are.keys m words (row, e, is)) [
              | inl empty ↦ inl empty
              | inr known ↦ (let (d, numbered, also) = known in inr (d, keeps m d numbered, still_key all (all ++ c ∷ []) d words keeps also))
            ]
            | inr e ↦ inr (
              c,
              subst (λ z. slice_get (all ++ c ∷ []) z ≡ Some c) (adds.key.last ∙ sym e.0) here,
              subst (HasKey (all ++ c ∷ []) c) (ap (λ (z : Key). z.items) e.1 ∙ is) (still_key all (all ++ c ∷ []) c key.items keeps has),
            )
          ]

      made : AreCaps rules lefts new (all ++ c ∷ [])
      made = record {
        count = ap length adds.caps ∙ (length-append old.caps.items (adds.row ∷ []) ∙ (ap (λ z. z + 1) are.count ∙ sym (length-append all (c ∷ []))));
        hole_first = keeps 0 hole are.hole_first;
        rows = row_of;
        numbered = ap length adds.key.rows ∙ (length-append old.keys.rows.items (key ∷ []) ∙ (ap (λ z. z + 1) are.numbered ∙ sym (length-append all (c ∷ []))));
        keys = key_of;
        noted = subst (HaveAllNoted rules lefts) (sym adds.noted) are.noted;
        parts = λ hash known at. still_ended keeps (are.parts hash known (subst (λ z. get nat_cmp z hash ≡ Some known) adds.parts at));
      }

  -- a cap whose key is known
  pub cap_known : (table : CapRows) (all : List HoledTree) (c : HoledTree) (key : List ℕ) (n : ℕ) → AreCaps rules lefts table all → HasKey all c key → HasWords table.keys.rows.items n key
      → AreMore rules lefts table all (λ grown. slice_get grown n ≡ Some c)
  cap_known table all c key n are has words = elim (are.keys n key words) [
    | inl empty ↦ absurd (let d : [] ≡ has.root ∷ has.numbers = sym empty ∙ has.key_is in cc)
    | inr known ↦ (let (d, numbered, also) = known in (all, λ m e h. h, are, subst (λ z. slice_get all n ≡ Some z) (same_key all d c key also has) numbered))
  ]

  -- ---- the cap of a term

  -- the cap that stays of a symbol over the caps of its arguments
  pub closed_cap : (table : CapRows) (all : List HoledTree) (t : Tree) (f : ℕ) (cs : HoledTrees) (n : ℕ) (b : Bool) → HaveSameLefts rules lefts → AreCaps rules lefts table all → IsWhole rules false t (symbol f cs)
      → slice_get all n ≡ Some (symbol f cs)
      → ((r : ℕ) (flags : List ℕ) → slice_get table.caps.items n ≡ Some r → HasWords table.rows.rows.items r flags → IsTrue b ↔ (flags ≡ [])) → MeetsSome (symbol f cs) rules (not b)
  closed_cap table all t f cs n b same are whole at says =
      let r = item_there table.caps.items n (let w = slice_get_within all n (symbol f cs) at in omega (arith, w, are.count)) in
      let (flags, has, row) = are.rows n r.0 f cs at r.1 in
      met_some rules lefts (symbol f cs) flags row b (says r.0 flags r.1 has)

  pub kept_cap : (all : List HoledTree) (t : Tree) (found : NumberedCap) (f : ℕ) (cs : HoledTrees) → IsWhole rules false t (symbol f cs) → MeetsSome (symbol f cs) rules false → slice_get all found.number ≡ Some (symbol f cs)
      → holed found.cap ≡ symbol f cs → found.whole ≡ found.number → IsNumbered rules t found all
  kept_cap all t found f cs whole free at is same = record {
    cap = subst (IsHoledCap rules false t) (sym is) (kept_symbol rules false t (symbol f cs) whole free);
    number = subst (λ z. slice_get all found.number ≡ Some z) (sym is) at;
    whole = λ g ts e. (symbol f cs, subst (λ z. slice_get all z ≡ Some (symbol f cs)) (sym same) at, whole);
  }

  pub opened_cap : (all : List HoledTree) (t : Tree) (found : NumberedCap) (f : ℕ) (cs : HoledTrees) → IsWhole rules false t (symbol f cs) → MeetsSome (symbol f cs) rules true → slice_get all 0 ≡ Some hole
      → slice_get all found.whole ≡ Some (symbol f cs) → holed found.cap ≡ hole → found.number ≡ 0 → IsNumbered rules t found all
  opened_cap all t found f cs whole meets first at is none = record {
    cap = subst (IsHoledCap rules false t) (sym is) (opened_symbol rules false t (symbol f cs) whole meets);
    number = subst (λ z. slice_get all found.number ≡ Some z) (sym is) (subst (λ z. slice_get all z ≡ Some hole) (sym none) first);
    whole = λ g ts e. (symbol f cs, at, whole);
  }

  -- the caps of the first arguments, and the ends in them
  pub record CapsSoFar (table : CapRows) (old : List HoledTree) (f : ℕ) (ts : Trees) (cs : HoledTrees) (key : List ℕ) (begun ends : List End) : Type 0 where
    pub all : List HoledTree
    pub keeps : KeepNumbers old all
    pub are : AreCaps rules lefts table all
    pub each : AreHoledCaps rules false ts cs
    pub numbers : List ℕ
    pub key_is : key ≡ f ∷ numbers
    pub numbered : HaveNumbers all cs numbers
    pub ended : AddsEndsIn rules ts begun ends all

  pub no_parts : (table : CapRows) (all : List HoledTree) (f : ℕ) (args : List Term) (items : List Cap) (begun : List End) → AreCaps rules lefts table all → items ≡ []
      → CapsSoFar table all f (forest (take 0 args)) (holed_all items) (f ∷ []) begun begun
  no_parts table all f args items begun are empty = record {
    all = all;
    keeps = λ n c h. h;
    are = are;
    each = subst (λ z. AreHoledCaps rules false (forest (take 0 args)) (holed_all z)) (sym empty) no_holed;
    numbers = [];
    key_is = refl;
    numbered = subst (λ z. HaveNumbers all (holed_all z) []) (sym empty) no_numbers;
    ended = ([], sym (append-nil begun), no_ends);
  }

  pub one_more_part : (old new : CapRows) (first : List HoledTree) (f : ℕ) (args : List Term) (items items2 : List Cap) (key : List ℕ) (begun ends ends2 : List End) (k : ℕ) (arg : Term) (found : NumberedCap)
      → k < length args → arg ≡ get_or args k arg → items2 ≡ items ++ found.cap ∷ [] → (so_far : CapsSoFar old first f (forest (take k args)) (holed_all items) key begun ends)
      → AreMore rules lefts new so_far.all (IsCapped rules (tree arg) found ends ends2) → CapsSoFar new first f (forest (take (k + 1) args)) (holed_all items2) (key ++ found.number ∷ []) begun ends2
  one_more_part old new first f args items items2 key begun ends ends2 k arg found lt is pushed so_far (all, keeps, are, capped) =
      let numbered = capped.numbered in
      record {
        all = all;
        keeps = λ n c h. keeps n c (so_far.keeps n c h);
        are = are;
        each = next_cap rules false args items items2 k arg found.cap lt is pushed so_far.each numbered.cap;
        numbers = so_far.numbers ++ found.number ∷ [];
        key_is = ap (λ z. z ++ found.number ∷ []) so_far.key_is;
        numbered = subst (λ z. HaveNumbers all (holed_all z) (so_far.numbers ++ found.number ∷ [])) (sym pushed)
            (last_numbered all items found.cap so_far.numbers found.number (still_numbered keeps so_far.numbered) numbered.number);
        ended = next_ends rules so_far.all all args k arg begun ends ends2 lt is keeps so_far.ended capped.ends;
      }

  pub parts_key : (table : CapRows) (first : List HoledTree) (f : ℕ) (ts : Trees) (cs : HoledTrees) (key : List ℕ) (begun ends : List End) → (so_far : CapsSoFar table first f ts cs key begun ends) → HasKey so_far.all (symbol f cs) key
  parts_key table first f ts cs key begun ends so_far = record { root = f; parts = cs; numbers = so_far.numbers; cap = refl; key_is = so_far.key_is; numbered = so_far.numbered }

  -- the symbol over all arguments
  pub whole_capped : (old new : CapRows) (first : List HoledTree) (t : Tree) (f : ℕ) (args : List Term) (k : ℕ) (cs : HoledTrees) (key : List ℕ) (start begun ends : List End) (place : Option ℕ) (found : NumberedCap)
      → t ≡ app f (forest args) → length args ≤ k → Begins rules f start begun place → (so_far : CapsSoFar old first f (forest (take k args)) cs key begun ends) → AreMore rules lefts new so_far.all (IsNumbered rules t found)
      → AreMore rules lefts new first (IsCapped rules t found start (with_end place f found.whole ends))
  whole_capped old new first t f args k cs key start begun ends place found is past begins so_far (all, keeps, are, numbered) =
      (all, (λ n c h. keeps n c (so_far.keeps n c h)), are, record { numbered = numbered; ends = subst (λ z. AddsEnds rules z start (with_end place f found.whole ends) all) (sym is) (ended place begins) })
    where
      end : End
      end = record { symbol = f; cap = found.whole }

      is_end : IsEnd rules all (marked f (forest args)) end
      is_end =
          let (c, at, whole) = numbered.whole f (forest args) is in
          record { root = refl; cap = c; numbered = at; is = whole_end rules (marked f (forest args)) c (subst (λ z. IsWhole rules false z c) is whole) }

      added : List End
      added = so_far.ended.0

      rest : AreEnds rules all (subterms_of_all (forest args)) added
      rest = subst (λ z. AreEnds rules all (subterms_of_all (forest z)) added) (take_all k args past) (still_ended keeps so_far.ended.2)

      ended : (p : Option ℕ) → Begins rules f start begun p → AddsEnds rules (app f (forest args)) start (with_end p f found.whole ends) all
      ended None (unknown, same) = (added, so_far.ended.1 ∙ ap (λ z. z ++ added) same, not_defined unknown rest)
      ended (Some k) (known, last, pushed) =
          let kept : End = record { symbol = f; cap = 0 } in
          let whole : ends ≡ start ++ kept ∷ added = so_far.ended.1 ∙ (ap (λ z. z ++ added) pushed ∙ append_assoc start (kept ∷ []) added) in
          (end ∷ added, ap₂ (λ z n. slice_set z n end) whole last ∙ set_between start added kept end, one_end known is_end rest)

  -- a variable has a hole
  pub variable_numbered : (table : CapRows) (all : List HoledTree) (t : Tree) (v : ℕ) (found : NumberedCap) (ends : List End) → AreCaps rules lefts table all → t ≡ var v → holed found.cap ≡ hole → found.number ≡ 0
      → AreMore rules lefts table all (IsCapped rules t found ends ends)
  variable_numbered table all t v found ends are is free none = (all, (λ n c h. h), are, record { numbered = numbered; ends = no_end_in rules all t v ends is })
    where
      numbered : IsNumbered rules t found all
      numbered = record {
        cap = subst (λ z. IsHoledCap rules false z (holed found.cap)) (sym is) (subst (IsHoledCap rules false (var v)) (sym free) (free_variable refl));
        number = subst (λ z. slice_get all found.number ≡ Some z) (sym free) (subst (λ z. slice_get all z ≡ Some hole) (sym none) are.hole_first);
        whole = λ f ts e. absurd (let d : var v ≡ app f ts = sym is ∙ e in cc);
      }

  -- ---- the ends in a term

  -- the ends in the first arguments are behind the others
  abbrev pub EndsSoFar : CapRows → List HoledTree → Trees → List End → List End → Type 0
  EndsSoFar table first ts begun ends = AreMore rules lefts table first (AddsEndsIn rules ts begun ends)

  pub no_more_ends : (table : CapRows) (all : List HoledTree) (args : List Term) (ends : List End) → AreCaps rules lefts table all → EndsSoFar table all (forest (take 0 args)) ends ends
  no_more_ends table all args ends are = (all, (λ n c h. h), are, ([], sym (append-nil ends), no_ends))

  pub more_ends : (old new : CapRows) (first : List HoledTree) (args : List Term) (k : ℕ) (arg : Term) (begun ends ends2 : List End) → k < length args → arg ≡ get_or args k arg
      → (so_far : EndsSoFar old first (forest (take k args)) begun ends) → AreMore rules lefts new so_far.0 (AddsEnds rules (tree arg) ends ends2) → EndsSoFar new first (forest (take (k + 1) args)) begun ends2
  more_ends old new first args k arg begun ends ends2 lt is (all, keeps, are, ended) (grown, stay, now, here) =
      (grown, (λ n c h. stay n c (keeps n c h)), now, next_ends rules all grown args k arg begun ends ends2 lt is stay ended here)

  -- those in all arguments of a symbol that is not defined
  pub ends_below : (table : CapRows) (first : List HoledTree) (t : Tree) (f : ℕ) (args : List Term) (k : ℕ) (begun ends : List End) → t ≡ app f (forest args) → is_defined rules f ≡ false → length args ≤ k
      → EndsSoFar table first (forest (take k args)) begun ends → AreMore rules lefts table first (AddsEnds rules t begun ends)
  ends_below table first t f args k begun ends is unknown past (all, keeps, are, (added, grown, ended)) =
      let whole = subst (λ z. AreEnds rules all (subterms_of_all (forest z)) added) (take_all k args past) ended in
      (all, keeps, are, (added, grown, subst (λ z. AreEnds rules all (subterms z) added) (sym is) (not_defined unknown whole)))

  -- those in a variable
  pub ends_of_variable : (table : CapRows) (all : List HoledTree) (t : Tree) (v : ℕ) (ends : List End) → AreCaps rules lefts table all → t ≡ var v → AreMore rules lefts table all (AddsEnds rules t ends ends)
  ends_of_variable table all t v ends are is = (all, (λ n c h. h), are, no_end_in rules all t v ends is)

  -- ---- after a look at the row of a cap

  pub kept_after : (new : CapRows) (first : List HoledTree) (t : Tree) (f : ℕ) (cs : HoledTrees) (n : ℕ) (b : Bool) (found : NumberedCap) → HaveSameLefts rules lefts
      → IsWhole rules false t (symbol f cs) → AreMore rules lefts new first (λ grown. slice_get grown n ≡ Some (symbol f cs))
      → ((r : ℕ) (flags : List ℕ) → slice_get new.caps.items n ≡ Some r → HasWords new.rows.rows.items r flags → IsTrue b ↔ (flags ≡ [])) → b ≡ true
      → holed found.cap ≡ symbol f cs → found.number ≡ n → found.whole ≡ n → AreMore rules lefts new first (IsNumbered rules t found)
  kept_after new first t f cs n b found same whole (all, keeps, are, at) says on cap number of_whole =
      let free : MeetsSome (symbol f cs) rules false = subst (λ z. MeetsSome (symbol f cs) rules (not z)) on (closed_cap new all t f cs n b same are whole at says) in
      (all, keeps, are, kept_cap all t found f cs whole free (subst (λ z. slice_get all z ≡ Some (symbol f cs)) (sym number) at) cap (of_whole ∙ sym number))

  pub opened_after : (new : CapRows) (first : List HoledTree) (t : Tree) (f : ℕ) (cs : HoledTrees) (n : ℕ) (b : Bool) (found : NumberedCap) → HaveSameLefts rules lefts
      → IsWhole rules false t (symbol f cs) → AreMore rules lefts new first (λ grown. slice_get grown n ≡ Some (symbol f cs))
      → ((r : ℕ) (flags : List ℕ) → slice_get new.caps.items n ≡ Some r → HasWords new.rows.rows.items r flags → IsTrue b ↔ (flags ≡ [])) → b ≡ false
      → holed found.cap ≡ hole → found.number ≡ 0 → found.whole ≡ n → AreMore rules lefts new first (IsNumbered rules t found)
  opened_after new first t f cs n b found same whole (all, keeps, are, at) says off cap number of_whole =
      let meets : MeetsSome (symbol f cs) rules true = subst (λ z. MeetsSome (symbol f cs) rules (not z)) off (closed_cap new all t f cs n b same are whole at says) in
      (all, keeps, are, opened_cap all t found f cs whole meets are.hole_first (subst (λ z. slice_get all z ≡ Some (symbol f cs)) (sym of_whole) at) cap number)

  pub cap_made : {E : Type 0} (old new : CapRows) (all : List HoledTree) (c : HoledTree) (key : Key) (flags : List ℕ) (result : Result ℕ E) → AreCaps rules lefts old all → HasKey all c key.items → IsRow rules lefts c flags
      → IfOk result (λ n. AddsCap key flags n old new) → IfOk result (λ n. AreMore rules lefts new all (λ grown. slice_get grown n ≡ Some c))
  cap_made old new all c key flags (Ok n) are has is adds = cap_added old new all c key flags n are has is adds
  cap_made old new all c key flags (Err e) are has is adds = adds

pub cap_keeps : {E : Type 0} (key : Key) (flags : List ℕ) (old new : CapRows) (result : Result ℕ E) → IfOk result (λ n. AddsCap key flags n old new) → OnOk result (KeepWords old.rows.rows.items new.rows.rows.items)
cap_keeps key flags old new (Ok n) adds = adds.kept
cap_keeps key flags old new (Err e) adds = adds

pub row_says : (caps : List ℕ) (n row r : ℕ) (rows : List (Vec ℕ Global)) (flags : List ℕ) (b : Bool) → slice_get caps n ≡ Some row → slice_get caps n ≡ Some r → HasWords rows r flags
    → ((others : List ℕ) → HasWords rows row others → IsTrue b ↔ (others ≡ [])) → IsTrue b ↔ (flags ≡ [])
row_says caps n row r rows flags b at there has says = says flags (subst (λ z. HasWords rows z flags) (same_Some r row (sym there ∙ at)) has)

pub no_number : (caps : List ℕ) (n r : ℕ) → slice_get caps n ≡ None → slice_get caps n ≡ Some r → ⊥
no_number caps n r none at = let d : None ≡ Some r = sym none ∙ at in cc

-- whether a rule is noted for its left side
pub noted_if : (lefts : List (Option ℕ)) (k first : ℕ) (b : Bool) → IsNoted lefts k first → b ≡ (first == k) → IsTrue b ↔ IsNoted lefts k k
noted_if lefts k first b at is = (
  λ e. at ∙ ap (λ z. Some (Some z)) ((Decides-eqb first k).0 (sym is ∙ e)),
  λ h. is ∙ (Decides-eqb first k).1 (same_Some first k (same_Some (Some first) (Some k) (sym at ∙ h))),
)

pub noted_not : (lefts : List (Option ℕ)) (k : ℕ) → (IsNoted lefts k k → ⊥) → IsTrue false ↔ IsNoted lefts k k
noted_not lefts k not_noted = (λ e. absurd cc, λ h. absurd (not_noted h))

pub read_number : (caps : List ℕ) (n row r : ℕ) → slice_get caps n ≡ Some row → slice_get caps n ≡ Some r → row ≡ r
read_number caps n row r at there = same_Some row r (sym at ∙ there)
