-- Steps by places and rule numbers are the steps, and each has at most one result.
use Rattle.std.specs.Prelude.{◌≡◌, ℕ, List, [], ◌∷◌, ◌++◌, Some, length, refl}
use Rattle.std.proofs.Common.{sym, subst}
use Rattle.trs_defs.specs.Derivation.{Derivation}
use Rattle.trs_defs.specs.Tree.{Tree}
use Rattle.trs_defs.specs.Substitution.{apply}
use Rattle.trs_defs.specs.Position.{subterm_at, replaced_at}
use Rattle.trs_defs.specs.System.{RewriteRule, System, IsSystem, IsRule, Among}
use Rattle.trs_defs.specs.Step.{RootStep, Step, here}
use Rattle.trs_defs.specs.Path.{PlacedRule, StepsAt, Follows}
use Rattle.trs_defs.proofs.Members.{in_of_get, get_of_in}
use Rattle.trs_defs.proofs.Substitutions.{same_values, same_instance}
use Rattle.trs_defs.proofs.Contexts.{inside_at, place_of_inside}

-- A step at a position is a step.
pub step_of_place : (rules : List RewriteRule) (p : List ℕ) (k : ℕ) (t u : Tree) → StepsAt rules p k t u → Step rules t u
step_of_place rules p k t u s =
    let root : RootStep (Among rules) (apply s.substitution s.rule.left) (apply s.substitution s.rule.right) =
    (s.rule.left, s.rule.right, s.substitution, in_of_get rules k s.rule s.numbered, refl, refl) in
    inside_at (RootStep (Among rules)) p t _ _ u s.from s.to (here root)

-- a position and the number of a rule that lead from t to u
pub record StepPlace (rules : List RewriteRule) (t u : Tree) : Type 0 where
  pub place : List ℕ
  pub number : ℕ
  pub steps : StepsAt rules place number t u

-- Each step is made at some position, by a rule of some number.
pub place_of_step : (rules : List RewriteRule) (t u : Tree) → Step rules t u → StepPlace rules t u
place_of_step rules t u step =
    let at = place_of_inside (RootStep (Among rules)) step in
    let number = get_of_in at.related.3 in
    let from : subterm_at at.place t ≡ Some (apply at.related.2 at.related.0) = rw (← at.related.4) at.from in
    let to : replaced_at at.place t (apply at.related.2 at.related.1) ≡ Some u = rw (← at.related.5) at.to in
    record {
      place = at.place;
      number = number.0;
      steps = record {
        rule = record { left = at.related.0; right = at.related.1 };
        numbered = number.1;
        substitution = at.related.2;
        from = from;
        to = to;
      };
    }

-- A path that is followed is a derivation of its length.
pub derivation_of_follows : (rules : List RewriteRule) (path : List PlacedRule) (t u : Tree) → Follows rules path t u → Derivation (Step rules) (length path) t u
derivation_of_follows rules [] t u h = h
derivation_of_follows rules (s ∷ path) t u h =
    (h.0, step_of_place rules s.place s.rule t h.0 h.1, derivation_of_follows rules path h.0 u h.3)

-- one path after another
pub follows_joined : (rules : List RewriteRule) (p q : List PlacedRule) (t u v : Tree) → Follows rules p t u → Follows rules q u v → Follows rules (p ++ q) t v
follows_joined rules [] q t u v a b = subst (λ x. Follows rules q x v) (sym a) b
follows_joined rules (s ∷ p) q t u v a b = (a.0, a.1, a.2, follows_joined rules p q a.0 u v a.3 b)

same_right : (arities : List ℕ) (rule : RewriteRule) (s r : ℕ → Tree) → IsRule arities rule
    → apply s rule.left ≡ apply r rule.left → apply s rule.right ≡ apply r rule.right
same_right arities rule s r valid e = same_instance s r rule.right (λ v h. same_values s r rule.left v e (valid.variables v h))

-- A rule has at most one result at a place.
pub steps_at_once : (system : System) (p : List ℕ) (k : ℕ) (t u v : Tree) → IsSystem system
    → StepsAt system.rules p k t u → StepsAt system.rules p k t v → u ≡ v
steps_at_once system p k t u v valid a b =
    let same : a.rule ≡ b.rule = cc (a.numbered, b.numbered) in
    let left : apply a.substitution a.rule.left ≡ apply b.substitution a.rule.left = rw same (cc (a.from, b.from, same)) in
    let right = same_right system.arities a.rule a.substitution b.substitution (valid.each k a.rule a.numbered) left in
    let to : replaced_at p t (apply b.substitution a.rule.right) ≡ Some v = rw same b.to in
    cc (a.to, to, right)

-- A path has at most one end.
pub follows_once : (system : System) (path : List PlacedRule) (t u v : Tree) → IsSystem system
    → Follows system.rules path t u → Follows system.rules path t v → u ≡ v
follows_once system [] t u v valid a b = cc
follows_once system (s ∷ path) t u v valid a b =
    let same = steps_at_once system s.place s.rule t a.0 b.0 valid a.1 b.1 in
    follows_once system path a.0 u v valid a.3 (subst (λ x. Follows system.rules path x v) (sym same) b.3)
