-- Caps that are put beside left sides, place by place.
use Rattle.std.specs.Prelude.{◌≡◌, ◌≤◌, ◌<◌, ◌+◌, ◌↔◌, ◌⊎◌, ℕ, Bool, true, false, ◌&&◌, ◌==◌, List, [], ◌∷◌, drop, length, Option, None, Some, get_or, IsTrue, refl, Result, Ok, Err, IfOk, OnOk}
use Rattle.std.proofs.Common.{suc, ap, sym, ◌∙◌, subst, arith, inl, inr, nat_cmp}
use Rattle.std.specs.BTreeMap.{is_at, get, Updates}
use Rattle.std.proofs.lemmas.Bool.{and_parts}
use Rattle.std.proofs.lemmas.Bool.Decides.{nat_tests}
use Rattle.std.proofs.lemmas.List.{drop_all}
use native.Mathlib.Decide.{ℕ_discrete}
use Rattle.trs_defs.specs.Tree.{Tree, Trees, var, app, cons}
use Rattle.trs_defs.specs.Substitution.{apply, apply_all}
use Rattle.trs_defs.specs.System.{RewriteRule}
use Rattle.trs_defs.proofs.ArgumentLists.{cell}
use Rattle.trs_core.specs.declared.terms.Term.{Term}
use Rattle.trs_core.specs.View.{tree, forest}
use Rattle.trs_caps.specs.HoledTree.{HoledTree, HoledTrees, hole, own, symbol, more, Fits, EachFits, fits_hole, fits_symbol, fits_none, fits_more}
use Rattle.trs_caps.specs.HoledCap.{IsHoledCap, AreHoledCaps, MeetsLeft, MeetsSome}
use Rattle.trs_caps.specs.KnownCaps.{IsWhole}
use Rattle.trs_caps.specs.Clash.{clash}
use Rattle.trs_caps.proofs.CapSteps.{kept_symbol, opened_symbol}
use Rattle.trs_caps.proofs.Compatible.{clash_disjoint, filled, filled_fits}
use Rattle.trs_caps.proofs.AddedParts.{not_at}
use Rattle.trs_caps.proofs.Fitting.{fits_root}
use Rattle.conf_find.specs.SharedCaps.{cap_at, parts_at, KeepsCaps, AreFirsts, FitFirsts, StillFits, Suffices}
use Rattle.conf_find.specs.declared.first_parts.FirstParts.{FirstParts}
use Rattle.conf_find.proofs.SharedCapLaws.{keeps_on}
use Rattle.conf_find.proofs.MarkLaws.{new_or_kept, nothing_there}

fit_first : (c : HoledTree) (cs : HoledTrees) (t : Tree) (ts : Trees) → EachFits (more c cs) (cons t ts) → Fits c t × EachFits cs ts
fit_first c cs t ts (fits_more p ps) = (p, ps)

fit_args : (f g : ℕ) (cs : HoledTrees) (ts : Trees) → Fits (symbol f cs) (app g ts) → EachFits cs ts
fit_args f g cs ts (fits_symbol p) = p

module _ (caps : List HoledTree) where
  fit_lengths : (τ : ℕ → Tree) (parts : List ℕ) (args : List Term) → EachFits (parts_at caps parts) (apply_all τ (forest args)) → length parts ≡ length args
  fit_lengths τ [] [] p = refl
  fit_lengths τ [] (t ∷ ts) p = elim p [ ]
  fit_lengths τ (k ∷ ks) [] p = elim p [ ]
  fit_lengths τ (k ∷ ks) (t ∷ ts) p = ap suc (fit_lengths τ ks ts (fit_first (cap_at caps k) (parts_at caps ks) (apply τ (tree t)) (apply_all τ (forest ts)) p).1)

  -- a hole tells nothing
  pub open_fits : (c : HoledTree) (l : Tree) (firsts : FirstParts) → StillFits caps c l firsts firsts false
  open_fits c l firsts = record { each = λ τ agrees p. (refl, agrees) }

  -- and each term fits it
  pub hole_suffices : (c : HoledTree) (l : Tree) (firsts : FirstParts) → c ≡ hole → Suffices caps c l firsts firsts false
  hole_suffices c l firsts is = rw is (record { each = λ alike all. (all, λ τ h. (h, fits_hole)) })

  -- an own variable is no instance of a symbol with arguments
  pub own_differs : (c : HoledTree) (l : Tree) (firsts : FirstParts) (v g : ℕ) (ts : Trees) → c ≡ own v → l ≡ app g ts → StillFits caps c l firsts firsts true
  own_differs c l firsts v g ts is_c is_l = rw (is_c, is_l) (record { each = λ τ agrees p. elim p [ ] })

  -- nor is a symbol one of another
  pub heads_differ : (c : HoledTree) (l : Tree) (firsts : FirstParts) (f g : ℕ) (parts : List ℕ) (args : List Term) → c ≡ symbol g (parts_at caps parts) → l ≡ app f (forest args)
      → (f ≡ g → length args ≡ length parts → ⊥) → StillFits caps c l firsts firsts true
  heads_differ c l firsts f g parts args is_c is_l differ = rw (is_c, is_l) (record {
    each = λ τ agrees p. absurd (differ (sym (fits_root g f (parts_at caps parts) (apply_all τ (forest args)) p))
        (sym (fit_lengths τ parts args (fit_args g f (parts_at caps parts) (apply_all τ (forest args)) p))));
  })

  -- what is left to be fitted of the arguments
  abbrev pub FitsFrom : FirstParts → List ℕ → List Term → (ℕ → Tree) → Type 0
  FitsFrom firsts parts args τ = FitFirsts caps firsts τ × EachFits (parts_at caps parts) (apply_all τ (forest args))

  module _ (c : HoledTree) (l : Tree) (old : FirstParts) where
    -- the instances that fit the whole fit what is left
    pub record FitsOn (firsts : FirstParts) (parts : List ℕ) (args : List Term) : Type 0 where
      pub each : (τ : ℕ → Tree) → FitFirsts caps old τ → Fits c (apply τ l) → FitsFrom firsts parts args τ

    pub all_left : (f g : ℕ) (parts : List ℕ) (args : List Term) → c ≡ symbol g (parts_at caps parts) → l ≡ app f (forest args) → FitsOn old parts args
    all_left f g parts args is_c is_l = record {
      each = λ τ agrees p.
          let whole : Fits (symbol g (parts_at caps parts)) (apply τ (app f (forest args))) = subst (λ z. Fits (symbol g (parts_at caps parts)) (apply τ z)) is_l (subst (λ z. Fits z (apply τ l)) is_c p) in
          (agrees, fit_args g f (parts_at caps parts) (apply_all τ (forest args)) whole);
    }

    module _ (firsts next : FirstParts) (parts : List ℕ) (args : List Term) (i k : ℕ) (arg : Term) (here : Bool) (below : i < length args) (as_long : length args ≡ length parts) (is_k : k ≡ get_or parts i k) (is_arg : arg ≡ get_or args i arg)
        (left : FitsOn firsts (drop i parts) (drop i args)) (this : StillFits caps (cap_at caps k) (tree arg) firsts next here) where
      cells : FitsOn firsts (k ∷ drop (i + 1) parts) (arg ∷ drop (i + 1) args)
      cells = subst (λ ts. FitsOn firsts (k ∷ drop (i + 1) parts) ts) (cell args i arg below is_arg) (subst (λ ks. FitsOn firsts ks (drop i args)) (cell parts i k (omega (arith, below, as_long)) is_k) left)

      both : (τ : ℕ → Tree) → FitFirsts caps old τ → Fits c (apply τ l) → (here ≡ false) × FitsFrom next (drop (i + 1) parts) (drop (i + 1) args) τ
      both τ agrees p =
          let h = cells.each τ agrees p in
          let split = fit_first (cap_at caps k) (parts_at caps (drop (i + 1) parts)) (apply τ (tree arg)) (apply_all τ (forest (drop (i + 1) args))) h.1 in
          let now = this.each τ h.0 split.0 in
          (now.0, (now.1, split.1))

      pub fits_further : FitsOn next (drop (i + 1) parts) (drop (i + 1) args)
      fits_further = record { each = λ τ agrees p. (both τ agrees p).1 }

      pub argument_differs : here ≡ true → StillFits caps c l old next true
      argument_differs told = record { each = λ τ agrees p. (let e = (both τ agrees p).0 in absurd (cc (e, told))) }

    -- ---- what suffices

    -- what is noted and what is left suffice for the whole
    pub record SufficesOn (firsts : FirstParts) (parts : List ℕ) (args : List Term) : Type 0 where
      pub each : firsts.are_all ≡ true → (old.are_all ≡ true) × ((τ : ℕ → Tree) → FitFirsts caps firsts τ → FitFirsts caps old τ × (EachFits (parts_at caps parts) (apply_all τ (forest args)) → Fits c (apply τ l)))

    pub all_suffice : (f g : ℕ) (parts : List ℕ) (args : List Term) → c ≡ symbol g (parts_at caps parts) → l ≡ app f (forest args) → f ≡ g → SufficesOn old parts args
    all_suffice f g parts args is_c is_l same = rw (is_c, is_l, same) (record { each = λ all. (all, λ τ h. (h, fits_symbol)) })

    module _ (firsts next : FirstParts) (parts : List ℕ) (args : List Term) (i k : ℕ) (arg : Term) (below : i < length args) (as_long : length args ≡ length parts) (is_k : k ≡ get_or parts i k) (is_arg : arg ≡ get_or args i arg)
        (left : SufficesOn firsts (drop i parts) (drop i args)) (this : Suffices caps (cap_at caps k) (tree arg) firsts next false) where
      left_cells : SufficesOn firsts (k ∷ drop (i + 1) parts) (arg ∷ drop (i + 1) args)
      left_cells = subst (λ ts. SufficesOn firsts (k ∷ drop (i + 1) parts) ts) (cell args i arg below is_arg) (subst (λ ks. SufficesOn firsts ks (drop i args)) (cell parts i k (omega (arith, below, as_long)) is_k) left)

      pub suffices_further : SufficesOn next (drop (i + 1) parts) (drop (i + 1) args)
      suffices_further = record {
        each = λ all.
            let here = this.each refl all in
            let rest = left_cells.each here.0 in (
              rest.0,
              λ τ h.
                  let now = here.1 τ h in
                  let before = rest.1 τ now.0 in
                  (before.0, λ others. before.1 (fits_more now.1 others)),
            );
      }

    pub all_suffices : (firsts : FirstParts) (parts : List ℕ) (args : List Term) (i : ℕ) → length args ≤ i → length args ≡ length parts → SufficesOn firsts (drop i parts) (drop i args) → Suffices caps c l old firsts false
    all_suffices firsts parts args i done as_long left =
        let end : SufficesOn firsts [] [] = subst (λ ts. SufficesOn firsts [] ts) (drop_all i args done) (subst (λ ks. SufficesOn firsts ks (drop i args)) (drop_all i parts (omega (arith, done, as_long))) left) in
        record {
          each = λ alike all.
              let h = end.each all in
              (h.0, λ τ fit. (let whole = h.1 τ fit in (whole.0, whole.1 fits_none)));
        }

    pub none_differs : (firsts : FirstParts) (parts : List ℕ) (args : List Term) → FitsOn firsts parts args → StillFits caps c l old firsts false
    none_differs firsts parts args left = record { each = λ τ agrees p. (refl, (left.each τ agrees p).0) }

  -- ---- the first part at a variable

  module _ (old new : FirstParts) (v k first : ℕ) (there : get nat_cmp old.numbers v ≡ Some first) (same : new.numbers ≡ old.numbers) where
    as_noted : (τ : ℕ → Tree) → FitFirsts caps new τ → FitFirsts caps old τ
    as_noted τ h w n at = h w n (ap (λ m. get nat_cmp m w) same ∙ at)

    pub not_first : (b : Bool) → b ≡ clash (cap_at caps first) (cap_at caps k) → StillFits caps (cap_at caps k) (var v) old new b
    not_first true is = record {
      each = λ τ agrees p. absurd (clash_disjoint (cap_at caps first) (cap_at caps k) (τ v) (sym is) (agrees v first there) p);
    }
    not_first false is = record { each = λ τ agrees p. (refl, λ w n at. agrees w n (ap (λ m. get nat_cmp m w) (sym same) ∙ at)) }

    pub first_suffices : (b : Bool) → new.are_all ≡ (old.are_all && (first == k)) → Suffices caps (cap_at caps k) (var v) old new b
    first_suffices b is = record {
      each = λ alike all.
          let both = and_parts old.are_all (first == k) (sym is ∙ all) in
          let numbers : first ≡ k = grind (arith, nat_tests, both) in
          (both.0, λ τ h. (as_noted τ h, subst (λ z. Fits (cap_at caps z) (τ v)) numbers (as_noted τ h v first there)));
    }

  first_or_before : (old new : FirstParts) (v k : ℕ) → Updates nat_cmp old.numbers new.numbers v (Some k) → (w n : ℕ) → get nat_cmp new.numbers w ≡ Some n → (get nat_cmp old.numbers w ≡ Some n) ⊎ ((v ≡ w) × (k ≡ n))
  first_or_before old new v k updates w n at = new_or_kept (get nat_cmp old.numbers) (get nat_cmp new.numbers) v k updates.1 (λ i other. updates.2 i (not_at v i other)) w n at

  pub first_noted : (old new : FirstParts) (v k : ℕ) → Updates nat_cmp old.numbers new.numbers v (Some k) → StillFits caps (cap_at caps k) (var v) old new false
  first_noted old new v k updates = record {
    each = λ τ agrees p. (
      refl,
      λ w n at. elim (first_or_before old new v k updates w n at) as (λ _. Fits (cap_at caps n) (τ w)) [
        | inl before ↦ agrees w n before
        | inr now ↦ subst (λ z. Fits (cap_at caps n) (τ z)) now.0 (subst (λ z. Fits (cap_at caps z) (τ v)) now.1 p)
      ],
    );
  }

  pub noted_suffices : (old new : FirstParts) (v k : ℕ) → Updates nat_cmp old.numbers new.numbers v (Some k) → new.are_all ≡ old.are_all → get nat_cmp old.numbers v ≡ None → Suffices caps (cap_at caps k) (var v) old new false
  noted_suffices old new v k updates same free = record {
    each = λ alike all. (
      sym same ∙ all,
      λ τ h. (
        λ w n at. elim (ℕ_discrete w v) as (λ _. Fits (cap_at caps n) (τ w)) [
          | yes here ↦ (let wrong : None ≡ Some n = sym free ∙ subst (λ z. get nat_cmp old.numbers z ≡ Some n) here at in absurd cc)
          | no other ↦ h w n (updates.2 w (not_at v w other) ∙ at)
        ],
        h v k updates.1,
      ),
    );
  }

  pub one_more_first : (old new : FirstParts) (v k : ℕ) → Updates nat_cmp old.numbers new.numbers v (Some k) → k < length caps → AreFirsts caps old → AreFirsts caps new
  one_more_first old new v k updates below firsts w n at = elim (first_or_before old new v k updates w n at) as (λ _. n < length caps) [
    | inl before ↦ firsts w n before
    | inr now ↦ subst (λ z. z < length caps) now.1 below
  ]

  -- ---- left sides

  no_firsts : (firsts : FirstParts) (τ : ℕ → Tree) → firsts.numbers.entries ≡ [] → FitFirsts caps firsts τ
  no_firsts firsts τ empty v k at = absurd (nothing_there firsts.numbers.entries (is_at (nat_cmp v)) k empty at)

  pub none_first : (firsts : FirstParts) → firsts.numbers.entries ≡ [] → AreFirsts caps firsts
  none_first firsts empty v k at = absurd (nothing_there firsts.numbers.entries (is_at (nat_cmp v)) k empty at)

  pub never_meets : (c : HoledTree) (l : Tree) (old new : FirstParts) → old.numbers.entries ≡ [] → StillFits caps c l old new true → IsTrue false ↔ MeetsLeft c l
  never_meets c l old new empty fits = (λ e. absurd cc, λ (τ, p). (let h = fits.each τ (no_firsts old τ empty) p in absurd (cc (h.0))))

  abbrev noted_cap : Option ℕ → HoledTree
  noted_cap None = hole
  noted_cap (Some k) = cap_at caps k

  -- terms that fit what is noted
  abbrev chosen : FirstParts → ℕ → Tree
  chosen firsts v = filled (noted_cap (get nat_cmp firsts.numbers v))

  chosen_fits : (firsts : FirstParts) → FitFirsts caps firsts (chosen firsts)
  chosen_fits firsts v k at = subst (λ z. Fits (cap_at caps k) (filled (noted_cap z))) (sym at) (filled_fits (cap_at caps k))

  pub surely_meets : (c : HoledTree) (l : Tree) (old new : FirstParts) → Suffices caps c l old new false → new.are_all ≡ true → IsTrue true ↔ MeetsLeft c l
  surely_meets c l old new suffices all = (λ e. (chosen new, ((suffices.each refl all).1 (chosen new) (chosen_fits new)).1), λ meets. refl)

  pub meets_made : {E : Type 0} (c d : HoledTree) (l : Tree) (result : Result Bool E) → c ≡ d → IfOk result (λ yes. IsTrue yes ↔ MeetsLeft c l) → IfOk result (λ yes. IsTrue yes ↔ MeetsLeft d l)
  meets_made c d l result same h = subst (λ z. IfOk result (λ yes. IsTrue yes ↔ MeetsLeft z l)) same h

-- ---- what stays of a symbol

module _ (rules : List RewriteRule) (f : ℕ) where
  whole : (ts : Trees) (cs : HoledTrees) → AreHoledCaps rules true ts cs → IsWhole rules true (app f ts) (symbol f cs)
  whole ts cs each = record { root = f; args = ts; caps = cs; term = refl; cap = refl; each = each }

  pub symbol_stays : (ts : Trees) (cs : HoledTrees) → AreHoledCaps rules true ts cs → (c : HoledTree) → c ≡ symbol f cs → MeetsSome c rules false → IsHoledCap rules true (app f ts) c
  symbol_stays ts cs each c is free = rw is (kept_symbol rules true (app f ts) (symbol f cs) (whole ts cs each) (rw is at free))

  pub symbol_opens : {E : Type 0} (old : List HoledTree) (parts : List ℕ) (c : HoledTree) (new : List HoledTree) (result : Result ℕ E) → c ≡ symbol f (parts_at old parts) → MeetsSome c rules true
      → IfOk result (λ k. cap_at new k ≡ hole) → IfOk result (λ k. (ts : Trees) → AreHoledCaps rules true ts (parts_at old parts) → IsHoledCap rules true (app f ts) (cap_at new k))
  symbol_opens old parts c new (Ok k) is meets empty = λ ts each. rw empty (opened_symbol rules true (app f ts) (symbol f (parts_at old parts)) (whole ts (parts_at old parts) each) (rw is at meets))
  symbol_opens old parts c new (Err e) is meets empty = empty

pub then_kept : {X E : Type 0} (a b c : List HoledTree) (result : Result X E) → KeepsCaps a b → KeepsCaps b c → OnOk result (KeepsCaps a c)
then_kept a b c (Ok x) h k = keeps_on a b c h k
then_kept a b c (Err e) h k = tt
