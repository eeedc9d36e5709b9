-- The rules of a run: each goes down, and is converted by the equations.
use Rattle.std.proofs.Common.{ℕ, inl, inr, sym, subst, List, [], ◌∷◌, ◌++◌, Ok}
use Rattle.trs_defs.specs.Tree.{Tree, var}
use Rattle.trs_defs.specs.Substitution.{apply}
use Rattle.trs_defs.specs.WellFormed.{IsWellFormed}
use Rattle.trs_defs.specs.Member.{In, in_first}
use Rattle.trs_defs.specs.System.{RewriteRule, System, IsRule, IsSystem, Among}
use Rattle.trs_defs.specs.Step.{Step, here}
use Rattle.trs_defs.specs.Run.{Run, Stay, Go}
use Rattle.trs_defs.proofs.Runs.{run_keeps}
use Rattle.trs_defs.proofs.Places.{step_of_place}
use Rattle.trs_defs.proofs.Members.{in_of_get, in_right, in_or, no_in, each_of_both}
use Rattle.pair_theory.proofs.Over.{step_over, over_of_well_formed, well_formed_of_over, declared}
use Rattle.pair_theory.proofs.Systems.{right_over, no_new_variables}
use Rattle.completion.specs.Conversion.{Converted, by_step, backwards, onwards}
use Rattle.completion.specs.Endings.{with_rules}
use Rattle.completion.specs.ReductionOrder.{GoesDown, IsReductionOrder}
use Rattle.completion.specs.Normalizing.{Leads, at_once, by_first, Normalizes, to_normal_form}
use Rattle.completion.specs.Orienting.{AreVariants, IsNewRule, IsOriented}
use Rattle.completion.proofs.Conversions.{converted_apply, converted_run, conversions_convert, more_converted}
use Rattle.trs_defs.proofs.WellFormedInstances.{well_formed_image}

-- both sides are well-formed, and the equations convert them
pub record IsSoundPair (equations : System) (pair : RewriteRule) : Type 0 where
  pub left_well_formed : IsWellFormed equations.arities pair.left
  pub right_well_formed : IsWellFormed equations.arities pair.right
  pub converted : Converted (Step equations.rules) pair.left pair.right

pub record IsSoundRule (equations : System) (greater : Tree → Tree → Type 0) (r : RewriteRule) : Type 0 where
  pub goes_down : GoesDown equations.arities greater r
  pub converted : Converted (Step equations.rules) r.left r.right

abbrev pub AreSound : System → (Tree → Tree → Type 0) → List RewriteRule → Type 0
AreSound equations greater rules = (r : RewriteRule) → In r rules → IsSoundRule equations greater r

pub leads_run : {rules : List RewriteRule} {n : ℕ} {t u : Tree} → Leads rules n t u → Run (Step rules) t u
leads_run at_once = Stay
leads_run {rules} (by_first {t = t} {u = u} s h steps small l) = Go (step_of_place rules s.place s.rule t u steps) (leads_run l)

pub form_run : {rules : List RewriteRule} {units left : ℕ} {t u : Tree} → Normalizes rules units t (Ok (u, left)) → Run (Step rules) t u
form_run (to_normal_form n left u l normal sum) = leads_run l

pub run_well_formed : (system : System) → IsSystem system → {t u : Tree} → IsWellFormed system.arities t → Run (Step system.rules) t u → IsWellFormed system.arities u
run_well_formed system valid w p =
    run_keeps (IsWellFormed system.arities)
    (λ s t v d. well_formed_of_over system.arities t
    (step_over (declared system.arities) (Among system.rules) (λ l r i. over_of_well_formed system.arities r (right_over system valid l r i))
    (no_new_variables system valid) d (over_of_well_formed system.arities s v)))
    w p

-- a step by a new rule
module _ (rules : List RewriteRule) (r : RewriteRule) where
  abbrev more : List RewriteRule
  more = rules ++ r ∷ []

  by_new : (s t : Tree) → IsNewRule s t r → Step more s t
  by_new s t h = here (r.left, r.right, (λ v. var (h.variants.names v)), in_right rules in_first, sym h.variants.left_from, sym h.variants.right_from)

  by_oriented : (greater : Tree → Tree → Type 0) (s t : Tree) → IsOriented greater s t r → Converted (Step more) s t
  by_oriented greater s t (inl o) = by_step (by_new s t o.1)
  by_oriented greater s t (inr o) = backwards (by_step (by_new t s o.1))

  pub pair_converted : (greater : Tree → Tree → Type 0) (left right s t : Tree) → Run (Step rules) left s → Run (Step rules) right t
      → IsOriented greater s t r → Converted (Step more) left right
  pair_converted greater left right s t p q o =
      onwards (more_converted rules r (converted_run p)) (onwards (by_oriented greater s t o) (backwards (more_converted rules r (converted_run q))))

module _ (equations : System) (greater : Tree → Tree → Type 0) (order : IsReductionOrder equations.arities greater) where
  sound_rule : (r : RewriteRule) → IsSoundRule equations greater r → IsRule equations.arities r
  sound_rule r h = record {
    left_well_formed = h.goes_down.left_well_formed;
    right_well_formed = h.goes_down.right_well_formed;
    left_no_variable = order.no_variable r h.goes_down;
    variables = order.variables r h.goes_down;
  }

  pub sound_system : (rules : List RewriteRule) → AreSound equations greater rules → IsSystem (with_rules equations rules)
  sound_system rules sound = record { each = λ k r e. sound_rule r (sound r (in_of_get rules k r e)) }

  pub no_rules_sound : AreSound equations greater []
  no_rules_sound r i = absurd (no_in i)

  pub one_more_sound : (rules : List RewriteRule) (r : RewriteRule) → AreSound equations greater rules → IsSoundRule equations greater r
      → AreSound equations greater (rules ++ r ∷ [])
  one_more_sound rules r sound h =
      each_of_both (IsSoundRule equations greater) rules (r ∷ []) sound
      (λ x i. elim (in_or i) as (λ _. IsSoundRule equations greater x) [
        | inl e ↦ subst (IsSoundRule equations greater) (sym e) h
        | inr j ↦ absurd (no_in j)
      ])

  -- what such rules convert, the equations convert
  pub sound_conversions : (rules : List RewriteRule) → AreSound equations greater rules → {s t : Tree} → Converted (Step rules) s t → Converted (Step equations.rules) s t
  sound_conversions rules sound c = conversions_convert rules equations.rules (λ l r i. (sound _ i).converted) c

  -- what a pair leads to is such a pair
  pub sound_forms : (rules : List RewriteRule) → AreSound equations greater rules → (pair : RewriteRule) (s t : Tree) → IsSoundPair equations pair
      → Run (Step rules) pair.left s → Run (Step rules) pair.right t → IsSoundPair equations (record { left = s; right = t })
  sound_forms rules sound pair s t h p q =
      let valid : IsSystem (with_rules equations rules) = sound_system rules sound in
      record {
        left_well_formed = run_well_formed (with_rules equations rules) valid h.left_well_formed p;
        right_well_formed = run_well_formed (with_rules equations rules) valid h.right_well_formed q;
        converted = onwards (backwards (sound_conversions rules sound (converted_run p))) (onwards h.converted (sound_conversions rules sound (converted_run q)));
      }

  pub variant_converted : (s t l r : Tree) → AreVariants s t l r → Converted (Step equations.rules) s t → Converted (Step equations.rules) l r
  variant_converted s t l r v c =
      let C : Tree → Tree → Type 0 = Converted (Step equations.rules) in
      let back : ℕ → Tree = λ x. var (v.back x) in
      subst (λ x. C x r) v.left_to (subst (C (apply back s)) v.right_to (converted_apply equations.rules back c))

  pub new_rule_sound : (s t : Tree) (r : RewriteRule) → IsSoundPair equations (record { left = s; right = t }) → greater s t → IsNewRule s t r
      → IsSoundRule equations greater r
  new_rule_sound s t r h g new =
      let back : ℕ → Tree = λ x. var (new.variants.back x) in
      let W : Tree → Type 0 = IsWellFormed equations.arities in
      record {
        goes_down = record {
          left_well_formed = subst W new.variants.left_to (well_formed_image equations.arities back (λ x. tt) s h.left_well_formed);
          right_well_formed = subst W new.variants.right_to (well_formed_image equations.arities back (λ x. tt) t h.right_well_formed);
          greater_side = subst (λ x. greater x r.right) new.variants.left_to (subst (greater (apply back s)) new.variants.right_to (order.instance back s t g));
        };
        converted = variant_converted s t r.left r.right new.variants h.converted;
      }

  pub oriented_sound : (s t : Tree) (r : RewriteRule) → IsSoundPair equations (record { left = s; right = t }) → IsOriented greater s t r
      → IsSoundRule equations greater r
  oriented_sound s t r h (inl o) = new_rule_sound s t r h o.0 o.1
  oriented_sound s t r h (inr o) =
      new_rule_sound t s r
      (record { left_well_formed = h.right_well_formed; right_well_formed = h.left_well_formed; converted = backwards h.converted })
      o.0 o.1
