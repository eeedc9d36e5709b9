-- Tokens with new numbers, one part after another, and the terms that they are.
use Rattle.std.proofs.Common.{◌≡◌, ◌≢◌, ℕ, ◌+◌, ◌<◌, ◌≤◌, inl, inr, true, List, [], ◌∷◌, ◌++◌, length, get_or, IsTrue, refl, ap, sym, ◌∙◌, subst, arith, length-append, append_assoc, append-nil}
use Rattle.std.proofs.Math.ListN.{get_or-append}
use Rattle.std.proofs.Math.Seq.{get_or-append_seam}
use native.Mathlib.Decide.{dec_lt}
use Rattle.trs_defs.specs.Tree.{Tree, Trees, var, app, nil, cons, count}
use Rattle.trs_defs.specs.Variable.{has_var, some_has_var}
use Rattle.trs_defs.specs.Substitution.{apply, apply_all}
use Rattle.trs_defs.proofs.VariableLaws.{has_var_same, has_var_cons}
use Rattle.trs_unify.specs.Renamed.{old_name}
use Rattle.loop_find.specs.declared.tokens.Token.{Token}
use Rattle.loop_find.specs.declared.tokens.Token.TheVariants.{Var, App}
use Rattle.loop_find.specs.Flat.{tokens_of, tokens_of_all}
use Rattle.loop_find.specs.Written.{renamed, AreBelow, IsOneToOne, Named, IsWritten, WritesSymbol}

renamed_both : (names : List ℕ) (us vs : List Token) → renamed names (us ++ vs) ≡ renamed names us ++ renamed names vs
renamed_both names [] vs = refl
renamed_both names (Var i ∷ us) vs = ap (λ z. Var (old_name names i) ∷ z) (renamed_both names us vs)
renamed_both names (App f n ∷ us) vs = ap (λ z. App f n ∷ z) (renamed_both names us vs)

below_both : (n : ℕ) (us vs : List Token) → AreBelow n us → AreBelow n vs → AreBelow n (us ++ vs)
below_both n [] vs h k = k
below_both n (Var i ∷ us) vs h k = (h.0, below_both n us vs h.1 k)
below_both n (App f m ∷ us) vs h k = below_both n us vs h k

below_more : (m n : ℕ) (us : List Token) → m ≤ n → AreBelow m us → AreBelow n us
below_more m n [] l h = tt
below_more m n (Var i ∷ us) l h = let low = h.0 in (omega (arith, l, low), below_more m n us l h.1)
below_more m n (App f k ∷ us) l h = below_more m n us l h

renamed_still : (names more : List ℕ) (us : List Token) → AreBelow (length names) us → renamed (names ++ more) us ≡ renamed names us
renamed_still names more [] h = refl
renamed_still names more (Var i ∷ us) h =
    ap (λ n. Var n ∷ renamed (names ++ more) us) (get_or-append names more 0 i h.0) ∙ ap (λ z. Var (old_name names i) ∷ z) (renamed_still names more us h.1)
renamed_still names more (App f n ∷ us) h = ap (λ z. App f n ∷ z) (renamed_still names more us h)

renamed_length : (names : List ℕ) (us : List Token) → length (renamed names us) ≡ length us
renamed_length names [] = refl
renamed_length names (Var i ∷ us) = omega (arith, renamed_length names us)
renamed_length names (App f n ∷ us) = omega (arith, renamed_length names us)

pub as_many_named : (a b : List ℕ) (ks us : List Token) → Named a b ks us → length us ≡ length ks
as_many_named a b ks us h = sym (renamed_length b us) ∙ ap length h.back

pub named_none : (names : List ℕ) → Named names names [] []
named_none names = record { more = []; grown = sym (append-nil names); back = refl; inside = tt; one = λ h. h; few = omega arith }

pub named_symbol : (names : List ℕ) (f n : ℕ) → Named names names (App f n ∷ []) (App f n ∷ [])
named_symbol names f n = record { more = []; grown = sym (append-nil names); back = refl; inside = tt; one = λ h. h; few = omega arith }

module _ (a b c : List ℕ) (ks us ls vs : List Token) (h : Named a b ks us) (k : Named b c ls vs) where
  pub still_named : renamed c us ≡ ks
  still_named = ap (λ z. renamed z us) k.grown ∙ (renamed_still b k.more us h.inside ∙ h.back)

  longer : length b ≤ length c
  longer = let e = ap length k.grown in omega (arith, e, length-append b k.more)

  pub still_below : AreBelow (length c) us
  still_below = below_more (length b) (length c) us longer h.inside

  pub named_both : Named a c (ks ++ ls) (us ++ vs)
  named_both = record {
    more = h.more ++ k.more;
    grown = k.grown ∙ (ap (λ z. z ++ k.more) h.grown ∙ append_assoc a h.more k.more);
    back = renamed_both c us vs ∙ (ap (λ z. z ++ renamed c vs) still_named ∙ ap (λ z. ks ++ z) k.back);
    inside = below_both (length c) us vs still_below k.inside;
    one = λ o. k.one (h.one o);
    few = let x = h.few in let y = k.few in omega (arith, x, y, length-append us vs);
  }

-- ---- a variable

pub named_known : (names : List ℕ) (v i : ℕ) → i < length names → get_or names i 0 ≡ v → Named names names (Var v ∷ []) (Var i ∷ [])
named_known names v i h e = record {
  more = [];
  grown = sym (append-nil names);
  back = ap (λ n. Var n ∷ []) e;
  inside = (h, tt);
  one = λ o. o;
  few = omega arith;
}

module _ (names : List ℕ) (v : ℕ) (new : (i : ℕ) → i < length names → get_or names i 0 ≢ v) where
  long : length (names ++ v ∷ []) ≡ length names + 1
  long = omega (arith, length-append names (v ∷ []))

  low_name : (i : ℕ) → i < length names → old_name (names ++ v ∷ []) i ≡ old_name names i
  low_name i h = get_or-append names (v ∷ []) 0 i h

  last_name : (i : ℕ) → i ≡ length names → old_name (names ++ v ∷ []) i ≡ v
  last_name i e = ap (old_name (names ++ v ∷ [])) e ∙ get_or-append_seam names v [] 0

  one_more : IsOneToOne names → IsOneToOne (names ++ v ∷ [])
  one_more one i j h k e = elim (dec_lt i (length names)) as (λ _. i ≡ j) [
    | yes low ↦ elim (dec_lt j (length names)) as (λ _. i ≡ j) [
      | yes low2 ↦ one i j low low2 (sym (low_name i low) ∙ (e ∙ low_name j low2))
      | no high2 ↦ absurd (new i low (sym (low_name i low) ∙ (e ∙ last_name j (omega (arith, k, high2, long)))))
    ]
    | no high ↦ elim (dec_lt j (length names)) as (λ _. i ≡ j) [
      | yes low2 ↦ absurd (new j low2 (sym (low_name j low2) ∙ (sym e ∙ last_name i (omega (arith, h, high, long)))))
      | no high2 ↦ omega (arith, h, k, high, high2, long)
    ]
  ]

  pub named_new : Named names (names ++ v ∷ []) (Var v ∷ []) (Var (length names) ∷ [])
  named_new = record {
    more = v ∷ [];
    grown = refl;
    back = ap (λ n. Var n ∷ []) (last_name (length names) refl);
    inside = (omega (arith, long), tt);
    one = one_more;
    few = omega (arith, long);
  }

-- ---- the arguments of a symbol, one after another

-- of these tokens some are written, and the rest is to come
pub record IsUnderWay (whole : List Token) (names : List ℕ) (old : List Token) (names2 : List ℕ) (new rest : List Token) : Type 0 where
  pub done : List Token
  pub split : whole ≡ done ++ rest
  pub written : IsWritten done names old names2 new

pub way_begins : (names : List ℕ) (old new : List Token) (f n : ℕ) (whole rest : List Token) → whole ≡ App f n ∷ rest → WritesSymbol f n old new true → IsUnderWay whole names old names new rest
way_begins names old new f n whole rest is h = record {
  done = App f n ∷ [];
  split = is;
  written = record { us = App f n ∷ []; longer = h.0; named = named_symbol names f n; few = λ _. let e = ap length h.0 in let low = h.1 in omega (arith, e, low, length-append old (App f n ∷ [])) };
}

module _ (whole ks rest rest2 : List Token) (names : List ℕ) (old : List Token) (names2 : List ℕ) (mid : List Token) (is : rest ≡ ks ++ rest2) (h : IsUnderWay whole names old names2 mid rest) where
  pub way_goes_on : (names3 : List ℕ) (new : List Token) → IsWritten ks names2 mid names3 new → IsUnderWay whole names old names3 new rest2
  way_goes_on names3 new k = record {
    done = h.done ++ ks;
    split = h.split ∙ (ap (λ z. h.done ++ z) is ∙ sym (append_assoc h.done ks rest2));
    written = record {
      us = h.written.us ++ k.us;
      longer = k.longer ∙ (ap (λ z. z ++ k.us) h.written.longer ∙ append_assoc old h.written.us k.us);
      named = named_both names names2 names3 h.done h.written.us ks k.us h.written.named k.named;
      few = λ l. k.few (h.written.few l);
    };
  }

  pub way_stops : 256 < length mid + length ks → 256 < length old + length whole
  way_stops l =
      let a = ap length h.written.longer in
      let b = as_many_named names names2 h.done h.written.us h.written.named in
      let c = ap length h.split in
      let d = ap length is in
      omega (arith, l, a, b, c, d, length-append old h.written.us, length-append h.done rest, length-append ks rest2)

pub way_ends : (whole rest : List Token) (names : List ℕ) (old : List Token) (names2 : List ℕ) (new : List Token) → rest ≡ [] → IsUnderWay whole names old names2 new rest → IsWritten whole names old names2 new
way_ends whole rest names old names2 new none h =
    let e : h.done ≡ whole = sym (h.split ∙ (ap (λ z. h.done ++ z) none ∙ append-nil h.done)) in
    subst (λ z. IsWritten z names old names2 new) e h.written

-- ---- the term that tokens with new numbers are

record AreNamedTrees (names : List ℕ) (ts : Trees) (us rest : List Token) : Type 0 where
  named : Trees
  behind : List Token
  split : us ≡ tokens_of_all named ++ behind
  back : apply_all (λ v. var (old_name names v)) named ≡ ts
  many : count named ≡ count ts
  others : renamed names behind ≡ rest

record IsTreeNamed (names : List ℕ) (t : Tree) (us rest : List Token) : Type 0 where
  named : Tree
  behind : List Token
  split : us ≡ tokens_of named ++ behind
  back : apply (λ v. var (old_name names v)) named ≡ t
  others : renamed names behind ≡ rest

mutual
  tree_named : (names : List ℕ) (t : Tree) (us rest : List Token) → renamed names us ≡ tokens_of t ++ rest → IsTreeNamed names t us rest
  tree_named names (var v) [] rest e = absurd cc
  tree_named names (var v) (Var i ∷ us) rest e =
      let a : old_name names i ≡ v = cc (e) in
      let b : renamed names us ≡ rest = cc (e) in
      record { named = var i; behind = us; split = refl; back = ap var a; others = b }
  tree_named names (var v) (App f n ∷ us) rest e = absurd cc
  tree_named names (app f ts) [] rest e = absurd cc
  tree_named names (app f ts) (Var i ∷ us) rest e = absurd cc
  tree_named names (app f ts) (App g n ∷ us) rest e =
      let a : g ≡ f = cc (e) in
      let b : n ≡ count ts = cc (e) in
      let c : renamed names us ≡ tokens_of_all ts ++ rest = cc (e) in
      let h = trees_named names ts us rest c in
      let m : n ≡ count h.named = b ∙ sym h.many in
      record {
        named = app g h.named;
        behind = h.behind;
        split = ap (λ z. App g n ∷ z) h.split ∙ ap (λ k. App g k ∷ (tokens_of_all h.named ++ h.behind)) m;
        back = ap (app g) h.back ∙ ap (λ k. app k ts) a;
        others = h.others;
      }

  trees_named : (names : List ℕ) (ts : Trees) (us rest : List Token) → renamed names us ≡ tokens_of_all ts ++ rest → AreNamedTrees names ts us rest
  trees_named names nil us rest e = record { named = nil; behind = us; split = refl; back = refl; many = refl; others = e }
  trees_named names (cons t ts) us rest e =
      let h = tree_named names t us (tokens_of_all ts ++ rest) (e ∙ append_assoc (tokens_of t) (tokens_of_all ts) rest) in
      let k = trees_named names ts h.behind rest h.others in
      record {
        named = cons h.named k.named;
        behind = k.behind;
        split = h.split ∙ (ap (λ z. tokens_of h.named ++ z) k.split ∙ sym (append_assoc (tokens_of h.named) (tokens_of_all k.named) k.behind));
        back = let x = h.back in let y = k.back in cc (x, y);
        many = ap (λ n. 1 + n) k.many;
        others = k.others;
      }

nothing_behind : (names : List ℕ) (us : List Token) → renamed names us ≡ [] → us ≡ []
nothing_behind names [] e = refl
nothing_behind names (Var i ∷ us) e = absurd cc
nothing_behind names (App f n ∷ us) e = absurd cc

mutual
  below_of : (n : ℕ) (t : Tree) (rest : List Token) → AreBelow n (tokens_of t ++ rest) → ((v : ℕ) → IsTrue (has_var v t) → v < n) × AreBelow n rest
  below_of n (var i) rest h = (λ v k. let same : i ≡ v = has_var_same v i k in let low = h.0 in omega (arith, same, low), h.1)
  below_of n (app f ts) rest h = below_of_all n ts rest h

  below_of_all : (n : ℕ) (ts : Trees) (rest : List Token) → AreBelow n (tokens_of_all ts ++ rest) → ((v : ℕ) → IsTrue (some_has_var v ts) → v < n) × AreBelow n rest
  below_of_all n nil rest h = (λ v k. absurd cc, h)
  below_of_all n (cons t ts) rest h =
      let a = below_of n t (tokens_of_all ts ++ rest) (subst (AreBelow n) (append_assoc (tokens_of t) (tokens_of_all ts) rest) h) in
      let b = below_of_all n ts rest a.1 in
      (λ v k. elim (has_var_cons v t ts k) as (λ _. v < n) [ inl x ↦ a.0 v x | inr x ↦ b.0 v x ], b.1)

-- the tokens of the named term
pub record IsOneTree (names : List ℕ) (t : Tree) (us : List Token) : Type 0 where
  pub named : Tree
  pub tokens : us ≡ tokens_of named
  pub back : apply (λ v. var (old_name names v)) named ≡ t
  pub inside : (v : ℕ) → IsTrue (has_var v named) → v < length names

pub one_tree : (names : List ℕ) (t : Tree) (us : List Token) → renamed names us ≡ tokens_of t → AreBelow (length names) us → IsOneTree names t us
one_tree names t us e h =
    let n = tree_named names t us [] (e ∙ sym (append-nil (tokens_of t))) in
    let none : n.behind ≡ [] = nothing_behind names n.behind n.others in
    let whole : us ≡ tokens_of n.named = n.split ∙ (ap (λ z. tokens_of n.named ++ z) none ∙ append-nil (tokens_of n.named)) in
    record {
      named = n.named;
      tokens = whole;
      back = n.back;
      inside = (below_of (length names) n.named [] (subst (AreBelow (length names)) (whole ∙ sym (append-nil (tokens_of n.named))) h)).0;
    }
