-- A path at pairwise parallel positions is one parallel step.
use Rattle.std.specs.Prelude.{◌≡◌, ℕ, List, [], ◌∷◌, Some, slice_get, slice_set}
use Rattle.std.specs.Option.{option_and_then}
use Rattle.std.proofs.Common.{zero, suc, refl, sym, ◌∙◌, ap, subst, inl, inr}
use Rattle.trs_defs.specs.Tree.{Tree, Trees, var, app, nil, cons, trees, items, trees_items}
use Rattle.trs_defs.specs.Position.{subterm_at, replaced_at}
use Rattle.trs_defs.specs.System.{RewriteRule, Among}
use Rattle.trs_defs.specs.Step.{RootStep}
use Rattle.trs_defs.specs.Path.{PlacedRule, Follows}
use Rattle.confluence_theory.specs.ParallelStep.{ParallelStep, ParallelSteps, at_variable, at_root, below_root, no_more, one_more, ParallelStepBy}
use Rattle.confluence_theory.specs.ParallelPositions.{AreParallel, IsParallelToAll, ArePairwiseParallel}
use Rattle.trs_defs.proofs.Members.{in_of_get}
use Rattle.trs_defs.proofs.Positions.{IsReplacedInside, replaced_inside}

-- where a parallel step has its redexes
mutual
  data Mask : Type 0 where
    redex : Mask
    inner : Masks → Mask

  data Masks : Type 0 where
    no_mask : Masks
    masks : Mask → Masks → Masks

-- a parallel step with its redexes there
mutual
  data Masked (R : Tree → Tree → Type 0) : Mask → Tree → Tree → Type 0 where
    masked_variable : {v : ℕ} → Masked R (inner no_mask) (var v) (var v)
    masked_redex : {s t : Tree} → R s t → Masked R redex s t
    masked_symbol : {f : ℕ} {m : Masks} {ss ts : Trees} → EachMasked R m ss ts → Masked R (inner m) (app f ss) (app f ts)

  data EachMasked (R : Tree → Tree → Type 0) : Masks → Trees → Trees → Type 0 where
    masked_nil : EachMasked R no_mask nil nil
    masked_cons : {m : Mask} {ms : Masks} {s t : Tree} {ss ts : Trees} → Masked R m s t → EachMasked R ms ss ts → EachMasked R (masks m ms) (cons s ss) (cons t ts)

-- no redex
abbrev mutual
  IsIdle : Mask → Type 0
  IsIdle redex = ⊥
  IsIdle (inner m) = AreIdle m

  AreIdle : Masks → Type 0
  AreIdle no_mask = Unit {0}
  AreIdle (masks m ms) = IsIdle m × AreIdle ms

-- no redex at the position, above it or below it
abbrev mutual
  IsClear : Mask → List ℕ → Type 0
  IsClear redex p = ⊥
  IsClear (inner m) [] = AreIdle m
  IsClear (inner m) (zero ∷ p) = Unit {0}
  IsClear (inner m) (suc i ∷ p) = ItemClear m i p

  ItemClear : Masks → ℕ → List ℕ → Type 0
  ItemClear no_mask i p = Unit {0}
  ItemClear (masks m ms) zero p = IsClear m p
  ItemClear (masks m ms) (suc i) p = ItemClear ms i p

mutual
  idle_clear : (m : Mask) (p : List ℕ) → IsIdle m → IsClear m p
  idle_clear redex p h = h
  idle_clear (inner m) [] h = h
  idle_clear (inner m) (zero ∷ p) h = tt
  idle_clear (inner m) (suc i ∷ p) h = item_idle_clear m i p h

  item_idle_clear : (m : Masks) (i : ℕ) (p : List ℕ) → AreIdle m → ItemClear m i p
  item_idle_clear no_mask i p h = tt
  item_idle_clear (masks m ms) zero p h = idle_clear m p h.0
  item_idle_clear (masks m ms) (suc i) p h = item_idle_clear ms i p h.1

module _ (R : Tree → Tree → Type 0) where
  mutual
    idle_same : {m : Mask} {s t : Tree} → Masked R m s t → IsIdle m → s ≡ t
    idle_same masked_variable h = refl
    idle_same (masked_redex r) h = absurd h
    idle_same (masked_symbol {f = f} d) h = ap (app f) (idle_all_same d h)

    idle_all_same : {m : Masks} {ss ts : Trees} → EachMasked R m ss ts → AreIdle m → ss ≡ ts
    idle_all_same masked_nil h = refl
    idle_all_same (masked_cons {t = t} {ss = ss} d ds) h = ap (λ z. cons z ss) (idle_same d h.0) ∙ ap (cons t) (idle_all_same ds h.1)

  mutual
    idle : (t : Tree) → (m : Mask) × Masked R m t t × IsIdle m
    idle (var v) = (inner no_mask, masked_variable, tt)
    idle (app f ts) = let (m, d, h) = all_idle ts in (inner m, masked_symbol d, h)

    all_idle : (ts : Trees) → (m : Masks) × EachMasked R m ts ts × AreIdle m
    all_idle nil = (no_mask, masked_nil, tt)
    all_idle (cons t ts) = let (m, d, h) = idle t in let (ms, ds, hs) = all_idle ts in (masks m ms, masked_cons d ds, (h, hs))

  mutual
    unmasked : {m : Mask} {s t : Tree} → Masked R m s t → ParallelStep R s t
    unmasked masked_variable = at_variable
    unmasked (masked_redex r) = at_root r
    unmasked (masked_symbol d) = below_root (all_unmasked d)

    all_unmasked : {m : Masks} {ss ts : Trees} → EachMasked R m ss ts → ParallelSteps R ss ts
    all_unmasked masked_nil = no_more
    all_unmasked (masked_cons d ds) = one_more (unmasked d) (all_unmasked ds)

  -- one more redex at p: what was clear and is parallel to p stays clear
  abbrev Extended : Mask → List ℕ → Tree → Tree → Type 0
  Extended m p s u = (m' : Mask) × Masked R m' s u × ((q : List ℕ) → AreParallel p q → IsClear m q → IsClear m' q)

  abbrev AllExtended : Masks → ℕ → List ℕ → Trees → Trees → Type 0
  AllExtended m i p ss us =
      (m' : Masks) × EachMasked R m' ss us × ((j : ℕ) (q : List ℕ) → AreParallel (suc i ∷ p) (suc j ∷ q) → ItemClear m j q → ItemClear m' j q)

  extended_here : {m : Mask} {s t : Tree} → Masked R m s t → IsIdle m → (old new u : Tree) → subterm_at [] t ≡ Some old → R old new → replaced_at [] t new ≡ Some u → Extended m [] s u
  extended_here {m} {s} {t} d h old new u from r to =
      let is_old : old ≡ s = cc (idle_same d h, from) in
      let is_new : new ≡ u = cc to in
      (redex, masked_redex (rw (← is_old, ← is_new) r), λ q k. absurd k)

  extended_symbol : (f : ℕ) (m : Masks) {ss us : Trees} (i : ℕ) (p : List ℕ) (u : Tree) → app f us ≡ u → AllExtended m i p ss us → Extended (inner m) (suc i ∷ p) (app f ss) u
  extended_symbol f m {ss} i p u e (m', d, keeps) =
      (inner m', subst (λ z. Masked R (inner m') (app f ss) z) e (masked_symbol d), kept)
    where
      kept : (q : List ℕ) → AreParallel (suc i ∷ p) q → IsClear (inner m) q → IsClear (inner m') q
      kept [] k h = absurd k
      kept (zero ∷ q) k h = tt
      kept (suc j ∷ q) k h = keeps j q k h

  extended_first : (m : Mask) (ms : Masks) {s u : Tree} {ss ts : Trees} (p : List ℕ) → EachMasked R ms ss ts → Extended m p s u → AllExtended (masks m ms) zero p (cons s ss) (cons u (trees (items ts)))
  extended_first m ms {s} {u} {ss} {ts} p ds (m', d, keeps) =
      (masks m' ms, subst (λ z. EachMasked R (masks m' ms) (cons s ss) (cons u z)) (sym (trees_items ts)) (masked_cons d ds), kept)
    where
      kept : (j : ℕ) (q : List ℕ) → AreParallel (1 ∷ p) (suc j ∷ q) → ItemClear (masks m ms) j q → ItemClear (masks m' ms) j q
      kept zero q (inl n) h = absurd (n refl)
      kept zero q (inr k) h = keeps q k h
      kept (suc j) q k h = h

  extended_later : (m : Mask) (ms : Masks) {s t : Tree} {ss us : Trees} (i : ℕ) (p : List ℕ) → Masked R m s t → AllExtended ms i p ss us → AllExtended (masks m ms) (suc i) p (cons s ss) (cons t us)
  extended_later m ms i p d (ms', ds, keeps) = (masks m ms', masked_cons d ds, kept)
    where
      fewer : (j : ℕ) (q : List ℕ) → AreParallel (suc (suc i) ∷ p) (suc (suc j) ∷ q) → AreParallel (suc i ∷ p) (suc j ∷ q)
      fewer j q (inl n) = inl (λ e. n (ap suc e))
      fewer j q (inr k) = inr k

      kept : (j : ℕ) (q : List ℕ) → AreParallel (suc (suc i) ∷ p) (suc j ∷ q) → ItemClear (masks m ms) j q → ItemClear (masks m ms') j q
      kept zero q k h = h
      kept (suc j) q k h = keeps j q (fewer j q k) h

  mutual
    extended : {m : Mask} {s t : Tree} → Masked R m s t → (p : List ℕ) → IsClear m p → (old new u : Tree) → subterm_at p t ≡ Some old → R old new → replaced_at p t new ≡ Some u → Extended m p s u
    extended masked_variable [] h old new u from r to = extended_here masked_variable h old new u from r to
    extended masked_variable (a ∷ p) h old new u from r to = absurd cc
    extended (masked_redex k) p h old new u from r to = absurd h
    extended (masked_symbol d) [] h old new u from r to = extended_here (masked_symbol d) h old new u from r to
    extended (masked_symbol d) (zero ∷ p) h old new u from r to = absurd cc
    extended (masked_symbol {f = f} {m = m} {ts = ts} d) (suc i ∷ p) h old new u from r to =
        let at : IsReplacedInside (suc i) p (app f ts) new u = replaced_inside (suc i) p (app f ts) new u to in
        let below : subterm_at p at.argument ≡ Some old = ap (option_and_then (subterm_at p)) (sym at.there) ∙ from in
        extended_symbol f m i p u at.whole (item_extended d i p h at.argument old new at.changed at.there below r at.below)

    item_extended : {m : Masks} {ss ts : Trees} → EachMasked R m ss ts → (i : ℕ) (p : List ℕ) → ItemClear m i p → (item old new changed : Tree)
        → slice_get (items ts) i ≡ Some item → subterm_at p item ≡ Some old → R old new → replaced_at p item new ≡ Some changed
        → AllExtended m i p ss (trees (slice_set (items ts) i changed))
    item_extended masked_nil i p h item old new changed there from r to = absurd cc
    item_extended (masked_cons {m = m} {ms = ms} {t = t} d ds) zero p h item old new changed there from r to =
        let is_item : item ≡ t = cc there in
        extended_first m ms p ds
        (extended d p h old new changed (subst (λ z. subterm_at p z ≡ Some old) is_item from) r (subst (λ z. replaced_at p z new ≡ Some changed) is_item to))
    item_extended (masked_cons {m = m} {ms = ms} d ds) (suc i) p h item old new changed there from r to =
        extended_later m ms i p d (item_extended ds i p h item old new changed there from r to)

abbrev EachClear : Mask → List PlacedRule → Type 0
EachClear m [] = Unit {0}
EachClear m (s ∷ path) = IsClear m s.place × EachClear m path

stay_clear : (m m' : Mask) (p : List ℕ) (path : List PlacedRule) → ((q : List ℕ) → AreParallel p q → IsClear m q → IsClear m' q) → IsParallelToAll p path
    → EachClear m path → EachClear m' path
stay_clear m m' p [] keeps k h = tt
stay_clear m m' p (s ∷ path) keeps k h = (keeps s.place k.0 h.0, stay_clear m m' p path keeps k.1 h.1)

all_clear : (m : Mask) (path : List PlacedRule) → IsIdle m → EachClear m path
all_clear m [] h = tt
all_clear m (s ∷ path) h = (idle_clear m s.place h, all_clear m path h)

module _ (rules : List RewriteRule) where
  made : (path : List PlacedRule) (m : Mask) (s t u : Tree) → Masked (RootStep (Among rules)) m s t → EachClear m path → ArePairwiseParallel path
      → Follows rules path t u → ParallelStepBy rules s u
  made [] m s t u d h k e = subst (λ z. ParallelStepBy rules s z) e (unmasked (RootStep (Among rules)) d)
  made (x ∷ path) m s t u d h k (t', step, limits, rest) =
      let r : RootStep (Among rules) _ _ =
      (step.rule.left, step.rule.right, step.substitution, in_of_get rules x.rule step.rule step.numbered, refl, refl) in
      let (m', d', keeps) = extended (RootStep (Among rules)) d x.place h.0 _ _ t' step.from r step.to in
      made path m' s t' u d' (stay_clear m m' x.place path keeps k.0 h.1) k.1 rest

  pub parallel_path : (path : List PlacedRule) (s t : Tree) → ArePairwiseParallel path → Follows rules path s t → ParallelStepBy rules s t
  parallel_path path s t k follows =
      let (m, d, h) = idle (RootStep (Among rules)) s in made path m s s t d (all_clear m path h) k follows
