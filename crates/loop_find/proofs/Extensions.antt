-- A closure that is extended, and those that are added.
use Rattle.std.proofs.Common.{◌≡◌, ℕ, ◌+◌, ◌<◌, ◌≤◌, All, List, [], ◌∷◌, ◌++◌, length, map, get_or, Some, refl, ap, sym, ◌∙◌, subst, arith, slice_get, length-append}
use Rattle.std.proofs.lemmas.Option.{same_Some, slice_get_within, get_or_from_slice_get}
use Rattle.trs_defs.specs.Tree.{Tree, app}
use Rattle.trs_defs.specs.System.{RewriteRule}
use Rattle.trs_defs.specs.Position.{subterm_at}
use Rattle.trs_defs.specs.Path.{PlacedRule}
use Rattle.trs_defs.proofs.ListItems.{last_item, item_of_longer}
use Rattle.trs_core.specs.declared.terms.Term.{Term}
use Rattle.trs_core.specs.View.{tree, forest}
use Rattle.term_pool.specs.Redexes.{IsNarrow}
use Rattle.term_pool.proofs.NarrowLaws.{narrow_of_well_formed}
use Rattle.crit_pairs.specs.PeakList.{symbol_places}
use Rattle.crit_pairs.proofs.SpotWalk.{part_below}
use Rattle.loop_find.proofs.Tried.{from_the_root}
use Rattle.loop_find.specs.ApartRules.{AreCopies}
use Rattle.loop_find.specs.Closures.{Closure, IsNarrowing, IsNarrowed, IsSmall, attempts_of}
use Rattle.loop_find.specs.Links.{closures_of, path_to, path_of_found, IsFit, IsLink, IsSound}
use Rattle.loop_find.specs.Narrowed.{NarrowsTo, NarrowsNot}
use Rattle.loop_find.specs.Tries.{Ends}
use Rattle.loop_find.specs.Trials.{IsTrial, IsPart, ShowsLoop, Extended}
use Rattle.loop_find.specs.declared.closures.Closures.{Closures}
use Rattle.loop_find.specs.declared.tokens.SideTokens.{SideTokens}
use Rattle.loop_find.specs.declared.trying.Trial.{Trial}
use Rattle.loop_find.specs.declared.trying.Turn.{Turn}
use Rattle.loop_find.proofs.LinkLists.{length_of}
use Rattle.loop_find.proofs.WellFormedSides.{narrowing_well_formed}

-- ---- rules by their numbers

pub rule_read : (rules read : List RewriteRule) → read ≡ rules → (k : ℕ) (x rule : RewriteRule) → x ≡ get_or read k x → slice_get rules k ≡ Some rule → x ≡ rule
rule_read rules read same k x rule e at = e ∙ get_or_from_slice_get read k rule x (ap (λ z. slice_get z k) same ∙ at)

pub placed : (p q : List ℕ) (k : ℕ) → p ≡ q → ◌≡◌ {A = PlacedRule} (record { place = p; rule = k }) (record { place = q; rule = k })
placed p q k e = ap (λ z. record { place = z; rule = k }) e

-- ---- a narrowing of the closure

narrowing_from : (rule : RewriteRule) (p : List ℕ) (t u left right l r : Tree) → t ≡ left → u ≡ right → IsNarrowing rule p left right l r → IsNarrowing rule p t u l r
narrowing_from rule p t u left right l r a b h = subst (λ z. IsNarrowing rule p z u l r) (sym a) (subst (λ z. IsNarrowing rule p left z l r) (sym b) h)

narrowing_to : (rule : RewriteRule) (p : List ℕ) (t u left right l r : Tree) → t ≡ left → u ≡ right → IsNarrowing rule p t u l r → IsNarrowing rule p left right l r
narrowing_to rule p t u left right l r a b h = subst (λ z. IsNarrowing rule p z right l r) a (subst (λ z. IsNarrowing rule p t z l r) b h)

module _ (t : Trial) (k : Closures) (trial : IsTrial t k) where
  -- a rule that narrows to nothing small
  pub nothing_given : (c : Closure) → slice_get (closures_of k) t.number ≡ Some c → (p : List ℕ) (i : ℕ)
      → ((rule : RewriteRule) → slice_get t.trs.now.rules i ≡ Some rule → NarrowsNot rule p (tree t.left.now) (tree t.right.now))
      → (new : Closure) → IsNarrowed t.trs.now.rules c (record { place = p; rule = i }) new → IsSmall new → ⊥
  nothing_given c at p i none new n small =
      let sides = trial.sides c at in
      (none n.rule n.numbered).none new.left new.right (narrowing_from n.rule p (tree t.left.now) (tree t.right.now) c.left c.right new.left new.right sides.0 sides.1 n.narrowing) small.0 small.1

  pub trial_counted : (new : Closures) → new.tokens ≡ k.tokens → new.links ≡ k.links → new.attempts ≡ k.attempts + 1 → k.attempts < t.budget
      → AreCopies t.trs.now.rules new.copies.items → IsTrial t new
  trial_counted new a b counted h copies = record {
    system = trial.system;
    arities = trial.arities;
    few = trial.few;
    copies = copies;
    sound = record { each = λ i l e. subst (λ z. IsLink t.trs.now.arities z.items i l) (sym a) (trial.sound.each i l (subst (λ z. slice_get z.items i ≡ Some l) b e)) };
    there = subst (λ z. t.number < length z.items) (sym b) trial.there;
    sides = λ c e. trial.sides c (subst (λ cs. slice_get cs t.number ≡ Some c) (same_closures new a b) e);
    left_fit = trial.left_fit;
    right_fit = trial.right_fit;
    right_size = trial.right_size;
    within = omega (arith, counted, h);
  }
    where
      same_closures : (new : Closures) → new.tokens ≡ k.tokens → new.links ≡ k.links → closures_of new ≡ closures_of k
      same_closures new a b = cc (a, b)

  module _ (p : List ℕ) (i : ℕ) (rule : RewriteRule) (numbered : slice_get t.trs.now.rules i ≡ Some rule) (s : SideTokens) (h : NarrowsTo rule p (tree t.left.now) (tree t.right.now) s) where
    pub sides_fit : IsFit t.trs.now.arities h.new_left × IsFit t.trs.now.arities h.new_right
    sides_fit =
        let r = trial.system.each i rule numbered in
        let both = narrowing_well_formed t.trs.now.arities rule p (tree t.left.now) (tree t.right.now) h.new_left h.new_right h.narrows.narrowing r.left_well_formed r.right_well_formed
        trial.left_fit.well_formed trial.right_fit.well_formed in
        (record { well_formed = both.0; variables = h.narrows.left_variables }, record { well_formed = both.1; variables = h.narrows.right_variables })

    pub right_narrow : IsNarrow h.new_right
    right_narrow = narrow_of_well_formed t.trs.now.arities trial.arities h.new_right sides_fit.1.well_formed

    pub rule_number : i ≤ 4095
    rule_number = let within = slice_get_within t.trs.now.rules i rule numbered in let few = trial.few in omega (arith, within, few)

    module _ (new : Closures) (step : PlacedRule) (step_is : step ≡ record { place = p; rule = i })
        (added : closures_of new ≡ closures_of k ++ (record { left = h.new_left; right = h.new_right; path = path_to (closures_of k) (Some t.number) ++ step ∷ [] }) ∷ []) where
      abbrev extension : Closure
      extension = record { left = h.new_left; right = h.new_right; path = path_to (closures_of k) (Some t.number) ++ step ∷ [] }

      at_end : (n : ℕ) → n ≡ length k.links.items → slice_get (closures_of new) n ≡ Some extension
      at_end n e =
          let place : length (closures_of k) ≡ n = length_of k ∙ sym e in
          ap (λ cs. slice_get cs n) added ∙ subst (λ m. slice_get (closures_of k ++ extension ∷ []) m ≡ Some extension) place (last_item (closures_of k) extension [])

      pub one_longer : length new.links.items ≡ length k.links.items + 1
      one_longer = let e = ap length added in omega (arith, e, length-append (closures_of k) (extension ∷ []), length_of k, length_of new)

      pub sides_at_end : (n : ℕ) → n ≡ length k.links.items → (c : Closure) → slice_get (closures_of new) n ≡ Some c → (h.new_left ≡ c.left) × (h.new_right ≡ c.right)
      sides_at_end n e c h =
          let same : extension ≡ c = same_Some extension c (sym (at_end n e) ∙ h) in
          (ap (λ (z : Closure). z.left) same, ap (λ (z : Closure). z.right) same)

      pub trial_on : IsSound t.trs.now.arities new → new.attempts ≡ k.attempts → new.copies ≡ k.copies → IsTrial t new
      trial_on sound counted same = record {
        system = trial.system;
        arities = trial.arities;
        few = trial.few;
        copies = subst (λ z. AreCopies t.trs.now.rules z.items) (sym same) trial.copies;
        sound = sound;
        there = let before = trial.there in omega (arith, before, one_longer);
        sides = λ c e. trial.sides c (item_of_longer (closures_of k) (extension ∷ []) t.number c (let before = trial.there in omega (arith, before, length_of k)) (subst (λ cs. slice_get cs t.number ≡ Some c) added e));
        left_fit = trial.left_fit;
        right_fit = trial.right_fit;
        right_size = trial.right_size;
        within = let before = trial.within in omega (arith, before, counted);
      }

      module _ (c : Closure) (at : slice_get (closures_of k) t.number ≡ Some c) where
        narrowed : IsNarrowed t.trs.now.rules c (record { place = p; rule = i }) extension
        narrowed =
            let sides = trial.sides c at in
            record {
              rule = rule;
              numbered = numbered;
              narrowing = narrowing_to rule p (tree t.left.now) (tree t.right.now) c.left c.right h.new_left h.new_right sides.0 sides.1 h.narrows.narrowing;
              path = ap (λ o. path_of_found o ++ step ∷ []) at ∙ ap (λ z. c.path ++ z ∷ []) step_is;
            }

        -- what is found of the closure at the end
        pub extended : (n : ℕ) → n ≡ length k.links.items → (last : Closures) → last ≡ new → new.attempts ≡ k.attempts → (turn : Turn)
            → ((d : Closure) → slice_get (closures_of new) n ≡ Some d → ShowsLoop t.trs.now.rules d turn) → Extended t.trs.now.rules (record { closure = c; at = record { place = p; rule = i } }) k last turn
        extended n e last same counted turn shows = record {
          closure = extension;
          narrowed = narrowed;
          small = (h.narrows.left_small, h.narrows.right_small);
          longer = ap closures_of same ∙ added;
          counted = ap (λ (z : Closures). z.attempts) same ∙ counted;
          shows = shows extension (at_end n e);
        }

-- ---- parts of the right side

pub part_of_argument : (t : Trial) (p q : List ℕ) (part : Tree) (f : ℕ) (ts : List Term) (i : ℕ) (x : Term) → IsPart t p part → part ≡ app f (forest ts) → i < length ts → x ≡ get_or ts i x → q ≡ p ++ (i + 1) ∷ []
    → All (λ n. 0 < n) q → IsNarrow (tree x) → IsPart t q (tree x)
part_of_argument t p q part f ts i x h is within read longer positive narrow =
    let r : RewriteRule = record { left = tree t.right.now; right = tree t.right.now } in
    let o = part_below (r ∷ []) 0 p q part f ts i x is within read longer (record { outer = r; numbered = refl; there = h.there }) in
    record {
      there = subst (λ (z : RewriteRule). subterm_at q z.left ≡ Some (tree x)) (sym (same_Some r o.outer o.numbered)) o.there;
      positive = positive;
      narrow = narrow;
    }

-- ---- all attempts at the closure

pub whole_turn : (rules : List RewriteRule) (budget : ℕ) (c : Closure) (p : List ℕ) (t : Tree) → p ≡ [] → t ≡ c.right → (old new : Closures) (rose : Type 0) (turn : Turn)
    → Ends rules budget (attempts_of rules c (map (λ q. p ++ q) (symbol_places t))) old new rose turn → Ends rules budget (attempts_of rules c (symbol_places c.right)) old new rose turn
whole_turn rules budget c p t none is old new rose turn h =
    let same : attempts_of rules c (map (λ q. p ++ q) (symbol_places t)) ≡ attempts_of rules c (symbol_places c.right) =
    ap (attempts_of rules c) (from_the_root (symbol_places t) p none ∙ ap symbol_places is) in
    subst (λ zs. Ends rules budget zs old new rose turn) same h
