-- The critical peaks of a system cover it.
use Rattle.std.specs.Prelude.{◌≡◌, ◌≢◌, ℕ, ◌<◌, List, [], ◌∷◌, Some, IsTrue, slice_get, slice_set}
use Rattle.std.specs.Option.{option_and_then, option_map}
use Rattle.std.proofs.Common.{zero, suc, refl, sym, ◌∙◌, ap, subst}
use Rattle.trs_defs.specs.Member.{In}
use Rattle.trs_defs.specs.Tree.{Tree, Trees, app, cons, trees, items, trees_items}
use Rattle.trs_defs.specs.Variable.{has_var, some_has_var, IsVariable}
use Rattle.trs_defs.specs.Renaming.{shifted}
use Rattle.trs_defs.specs.Substitution.{apply, apply_all}
use Rattle.trs_defs.specs.Position.{subterm_at, with_argument, replaced_at}
use Rattle.trs_defs.specs.System.{RewriteRule, System, IsSystem, Numbered}
use Rattle.trs_defs.specs.Step.{RootStep}
use Rattle.confluence_theory.specs.Overlap.{Overlap, OverlapOne, overlap_here, overlap_deep, overlap_first, overlap_later}
use Rattle.confluence_theory.specs.Peak.{Peak, HasPeak, Covers}
use Rattle.confluence_theory.specs.CriticalPeak.{Overlaps, HasCriticalPeaks}
use Rattle.trs_defs.proofs.Substitutions.{same_instance, same_instances}
use Rattle.trs_defs.proofs.VariableLaws.{has_var_first, has_var_rest}
use Rattle.confluence_theory.proofs.Apart.{glue, glue_low, apply_high, part_variable, renumbered}

-- θ is σ at the variables of the pattern
abbrev Agrees : (ℕ → Tree) → (ℕ → Tree) → Tree → Type 0
Agrees θ σ l = (v : ℕ) → IsTrue (has_var v l) → θ v ≡ σ v

abbrev AllAgree : (ℕ → Tree) → (ℕ → Tree) → Trees → Type 0
AllAgree θ σ ls = (v : ℕ) → IsTrue (some_has_var v ls) → θ v ≡ σ v

agrees_first : (θ σ : ℕ → Tree) (l : Tree) (ls : Trees) → AllAgree θ σ (cons l ls) → Agrees θ σ l
agrees_first θ σ l ls h v k = h v (has_var_first v l ls k)

agree_later : (θ σ : ℕ → Tree) (l : Tree) (ls : Trees) → AllAgree θ σ (cons l ls) → AllAgree θ σ ls
agree_later θ σ l ls h v k = h v (has_var_rest v l ls k)

-- what stands at an overlap's place, and what round it: the step goes from `apply σ l` to t
record Spot (rule : Tree → Tree → Type 0) (σ : ℕ → Tree) (l t : Tree) : Type 0 where
  left : Tree
  right : Tree
  is_rule : rule left right
  ρ : ℕ → Tree
  place : List ℕ
  part : Tree
  there : subterm_at place l ≡ Some part
  no_variable : IsVariable part → ⊥
  meet : apply σ part ≡ apply ρ left
  same : (θ : ℕ → Tree) → Agrees θ σ l → apply θ part ≡ apply σ part
  hole : Tree → Tree
  replaced : (new : Tree) → replaced_at place l new ≡ Some (hole new)
  result : (new : Tree) (θ : ℕ → Tree) → Agrees θ σ l → apply θ new ≡ apply ρ right → apply θ (hole new) ≡ t

-- the same in one item of a list of patterns
record SpotOne (rule : Tree → Tree → Type 0) (σ : ℕ → Tree) (ls ts : Trees) : Type 0 where
  index : ℕ
  item : Tree
  item_there : slice_get (items ls) index ≡ Some item
  left : Tree
  right : Tree
  is_rule : rule left right
  ρ : ℕ → Tree
  below : List ℕ
  part : Tree
  there : subterm_at below item ≡ Some part
  no_variable : IsVariable part → ⊥
  meet : apply σ part ≡ apply ρ left
  same : (θ : ℕ → Tree) → AllAgree θ σ ls → apply θ part ≡ apply σ part
  hole : Tree → Tree
  replaced : (new : Tree) → replaced_at below item new ≡ Some (hole new)
  filled : Tree → Trees
  whole : (new : Tree) → trees (slice_set (items ls) index (hole new)) ≡ filled new
  result : (new : Tree) (θ : ℕ → Tree) → AllAgree θ σ ls → apply θ new ≡ apply ρ right → apply_all θ (filled new) ≡ ts

module _ (rule : Tree → Tree → Type 0) (σ : ℕ → Tree) where
  spot_here : (l t : Tree) → (IsVariable l → ⊥) → RootStep rule (apply σ l) t → Spot rule σ l t
  spot_here l t h (l', r', ρ, q, e, e') =
      record {
        left = l';
        right = r';
        is_rule = q;
        ρ = ρ;
        place = [];
        part = l;
        there = refl;
        no_variable = h;
        meet = e;
        same = λ θ a. same_instance θ σ l a;
        hole = λ new. new;
        replaced = λ new. refl;
        result = λ new θ a k. k ∙ sym e';
      }

  spot_deep : (f : ℕ) (ls ts : Trees) → SpotOne rule σ ls ts → Spot rule σ (app f ls) (app f ts)
  spot_deep f ls ts s =
      let around : Tree → Tree = with_argument (app f ls) (suc s.index) in
      record {
        left = s.left;
        right = s.right;
        is_rule = s.is_rule;
        ρ = s.ρ;
        place = suc s.index ∷ s.below;
        part = s.part;
        there = ap (option_and_then (subterm_at s.below)) s.item_there ∙ s.there;
        no_variable = s.no_variable;
        meet = s.meet;
        same = s.same;
        hole = λ new. app f (s.filled new);
        replaced = λ new.
            ap (option_and_then (λ a. option_map around (replaced_at s.below a new))) s.item_there
            ∙ (ap (option_map around) (s.replaced new) ∙ ap (λ us. Some (app f us)) (s.whole new));
        result = λ new θ a k. ap (app f) (s.result new θ a k);
      }

  not_root : (f : ℕ) (ls ts : Trees) (s : SpotOne rule σ ls ts) → (spot_deep f ls ts s).place ≡ [] → ⊥
  unfolding spot_deep
  not_root f ls ts s e = absurd cc

  spot_first : (l t : Tree) (ls : Trees) → Spot rule σ l t → SpotOne rule σ (cons l ls) (cons t (apply_all σ ls))
  spot_first l t ls s =
      record {
        index = zero;
        item = l;
        item_there = refl;
        left = s.left;
        right = s.right;
        is_rule = s.is_rule;
        ρ = s.ρ;
        below = s.place;
        part = s.part;
        there = s.there;
        no_variable = s.no_variable;
        meet = s.meet;
        same = λ θ a. s.same θ (agrees_first θ σ l ls a);
        hole = s.hole;
        replaced = s.replaced;
        filled = λ new. cons (s.hole new) ls;
        whole = λ new. ap (cons (s.hole new)) (trees_items ls);
        result = λ new θ a k.
            ap (λ z. cons z (apply_all θ ls)) (s.result new θ (agrees_first θ σ l ls a) k)
            ∙ ap (cons t) (same_instances θ σ ls (agree_later θ σ l ls a));
      }

  spot_later : (l : Tree) (ls ts : Trees) → SpotOne rule σ ls ts → SpotOne rule σ (cons l ls) (cons (apply σ l) ts)
  spot_later l ls ts s =
      record {
        index = suc s.index;
        item = s.item;
        item_there = s.item_there;
        left = s.left;
        right = s.right;
        is_rule = s.is_rule;
        ρ = s.ρ;
        below = s.below;
        part = s.part;
        there = s.there;
        no_variable = s.no_variable;
        meet = s.meet;
        same = λ θ a. s.same θ (agree_later θ σ l ls a);
        hole = s.hole;
        replaced = s.replaced;
        filled = λ new. cons l (s.filled new);
        whole = λ new. ap (cons l) (s.whole new);
        result = λ new θ a k.
            ap (λ z. cons z (apply_all θ (s.filled new))) (same_instance θ σ l (agrees_first θ σ l ls a))
            ∙ ap (cons (apply σ l)) (s.result new θ (agree_later θ σ l ls a) k);
      }

  mutual
    spot : {l t : Tree} → Overlap (RootStep rule) σ l t → Spot rule σ l t
    spot (overlap_here {f = f} {ps = ls} {t = t} r) = spot_here (app f ls) t (λ v. absurd cc) r
    spot (overlap_deep {f = f} {ps = ls} {ts = ts} d) = spot_deep f ls ts (spot_one d)

    spot_one : {ls ts : Trees} → OverlapOne (RootStep rule) σ ls ts → SpotOne rule σ ls ts
    spot_one (overlap_first {p = l} {t = t} {ps = ls} d) = spot_first l t ls (spot d)
    spot_one (overlap_later {p = l} {ps = ls} {ts = ts} d) = spot_later l ls ts (spot_one d)

-- where rules overlap, they have a unifier once the inner one is renamed apart
pub overlap_unifies : (rules : List RewriteRule) (i j : ℕ) (inner outer : RewriteRule) (p : List ℕ) (o : Overlaps rules i j inner outer p) (k : ℕ)
    → ((v : ℕ) → IsTrue (has_var v outer.left) → v < k) → (θ : ℕ → Tree) × (apply θ o.part ≡ apply θ (shifted k inner.left))
overlap_unifies rules i j inner outer p o k low =
    let θ : ℕ → Tree = glue k o.outer_instance o.inner_instance in
    let agrees : Agrees θ o.outer_instance o.part =
    λ v has. glue_low k o.outer_instance o.inner_instance v (low v (part_variable p outer.left o.part v o.there has)) in
    (θ, same_instance θ o.outer_instance o.part agrees ∙ (o.meet ∙ sym (apply_high k o.outer_instance o.inner_instance inner.left)))

listed_as : (peaks : List Peak) (peak : Peak) (i j : ℕ) → In peak peaks → peak.inner ≡ i → peak.outer ≡ j
    → In (record { inner = i; outer = j; top = peak.top; left = peak.left; right = peak.right }) peaks
listed_as peaks peak i j h e e' =
    let P : ℕ → Type 0 = λ z. In (record { inner = z; outer = peak.outer; top = peak.top; left = peak.left; right = peak.right }) peaks in
    let Q : ℕ → Type 0 = λ z. In (record { inner = i; outer = z; top = peak.top; left = peak.left; right = peak.right }) peaks in
    subst Q e' (subst P e h)

module _ (system : System) (peaks : List Peak) (is_system : IsSystem system) (listed : HasCriticalPeaks system.rules peaks) where
  cover : (i j : ℕ) (l r t : Tree) (σ : ℕ → Tree) → Numbered system.rules j l r → (s : Spot (Numbered system.rules i) σ l t) → (s.place ≡ [] → i ≢ j)
      → HasPeak peaks i j (apply σ l) t (apply σ r)
  cover i j l r t σ h s not_itself =
      let inner : RewriteRule = record { left = s.left; right = s.right } in
      let outer : RewriteRule = record { left = l; right = r } in
      let overlaps : Overlaps system.rules i j inner outer s.place =
      record {
        inner_numbered = s.is_rule;
        outer_numbered = h;
        not_itself = not_itself;
        part = s.part;
        there = s.there;
        no_variable = s.no_variable;
        outer_instance = σ;
        inner_instance = s.ρ;
        meet = s.meet;
      } in
      let (peak, is_in, e_inner, e_outer, c) = listed i j inner outer s.place overlaps in
      let k : ℕ = c.offset in
      let θ : ℕ → Tree = glue k σ s.ρ in
      let agrees : Agrees θ σ l = λ v has. glue_low k σ s.ρ v (c.apart v has) in
      let right_agrees : Agrees θ σ r = λ v has. agrees v ((is_system.each j outer h).variables v has) in
      let part : c.part ≡ s.part = cc (c.there, s.there) in
      let unified : apply θ c.part ≡ apply θ (shifted k s.left) =
      ap (apply θ) part ∙ (s.same θ agrees ∙ (s.meet ∙ sym (apply_high k σ s.ρ s.left))) in
      let (τ, e) = c.most_general.most_general θ unified in
      let new : Tree = shifted k s.right in
      let reduct : s.hole new ≡ c.reduct = cc (s.replaced new, c.replaced) in
      record {
        top = peak.top;
        left = peak.left;
        right = peak.right;
        listed = listed_as peaks peak i j is_in e_inner e_outer;
        substitution = λ v. τ (c.names v);
        from = sym (same_instance θ σ l agrees) ∙ renumbered θ τ c.unifier c.names l peak.top e c.top;
        inner_to = sym (s.result new θ agrees (apply_high k σ s.ρ s.right))
            ∙ (ap (apply θ) reduct ∙ renumbered θ τ c.unifier c.names c.reduct peak.left e c.left);
        outer_to = sym (same_instance θ σ r right_agrees) ∙ renumbered θ τ c.unifier c.names r peak.right e c.right;
      }

  pub covered : Covers system.rules peaks
  covered =
      record {
        at_root = λ i j l r t σ h n d.
            cover i j l r t σ h
            (spot_here (Numbered system.rules i) σ l t (is_system.each j (record { left = l; right = r }) h).left_no_variable d) (λ e. n);
        below_root = λ i j f ls ts r σ h d.
            let s = spot_one (Numbered system.rules i) σ d in
            cover i j (app f ls) r (app f ts) σ h (spot_deep (Numbered system.rules i) σ f ls ts s)
            (λ e. absurd (not_root (Numbered system.rules i) σ f ls ts s e));
      }
