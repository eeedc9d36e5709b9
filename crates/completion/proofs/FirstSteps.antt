-- Steps at first redexes in a row.
use Rattle.std.proofs.Common.{◌≡◌, ◌<◌, ℕ, ◌+◌, ◌-◌, suc, sym, subst, arith, ◌∙◌, List, [], Result, Ok, Err, IfOk, IsTrue, length}
use Rattle.std.proofs.lemmas.Option.{same_Some}
use Rattle.trs_defs.specs.Tree.{Tree}
use Rattle.trs_defs.specs.Size.{within_limits}
use Rattle.term_pool.specs.Pooled.{StandsFor, Extends, tree_at}
use Rattle.term_pool.proofs.PoolTrees.{stands, stands_at, stands_within}
use Rattle.trs_defs.specs.WellFormed.{IsWellFormed}
use Rattle.trs_defs.specs.System.{RewriteRule, System, IsSystem}
use Rattle.trs_defs.specs.Path.{PlacedRule, StepsAt}
use Rattle.trs_defs.specs.Step.{Step}
use Rattle.trs_defs.specs.Run.{Stay, Go}
use Rattle.trs_defs.specs.NormalForm.{IsNormalForm}
use Rattle.trs_defs.proofs.Members.{in_of_get, no_in}
use Rattle.trs_defs.proofs.Places.{place_of_step, step_of_place}
use Rattle.term_pool.specs.Steps.{IsStepFault}
use Rattle.completion.specs.declared.unfinished.Unfinished.{Unfinished}
use Rattle.completion.specs.declared.unfinished.Unfinished.TheVariants as unfinished
use Rattle.completion.specs.Normalizing.{IsFirstRedex, Leads, at_once, by_first, Normalizes, to_normal_form, to_no_unit, to_too_large}
use Rattle.completion.specs.Moving.{IsFirstStep, IsStopped, IsMove, IsStopOf}
use Rattle.completion.specs.declared.first_steps.Move.{Move}
use Rattle.completion.specs.Taking.{IsTermOver}
use Rattle.trs_core.specs.declared.memory.OutOfMemory.{OutOfMemory}
use Rattle.term_pool.specs.declared.steps.StepFault.{StepFault}
use Rattle.completion.proofs.SoundRules.{run_well_formed}

-- a step of a well-formed term
pub next_well_formed : (system : System) → IsSystem system → (s : PlacedRule) (t u : Tree) → StepsAt system.rules s.place s.rule t u → IsWellFormed system.arities t
    → IsWellFormed system.arities u
next_well_formed system valid s t u steps w =
    run_well_formed system valid w (Go (step_of_place system.rules s.place s.rule t u steps) Stay)

-- one step more
leads_on : {rules : List RewriteRule} {n : ℕ} {t u : Tree} (v : Tree) (s : PlacedRule) → Leads rules n t u → IsFirstRedex rules u s → StepsAt rules s.place s.rule u v
    → IsTrue (within_limits v) → Leads rules (suc n) t v
leads_on v s at_once first steps small = by_first s first steps small at_once
leads_on v s (by_first r first' steps' small' rest) first steps small = by_first r first' steps' small' (leads_on v s rest first steps small)

-- without rules each term is its normal form
pub its_own_form : (rules : List RewriteRule) (units : ℕ) (t : Tree) → rules ≡ [] → Normalizes rules units t (Ok (t, units))
its_own_form rules units t none =
    let N : List RewriteRule → Type 0 = λ rs. Normalizes rs units t (Ok (t, units)) in
    subst N (sym none) (to_normal_form 0 units t at_once no_step (omega arith))
  where
    no_step : IsNormalForm (Step []) t
    no_step u step = let at = place_of_step [] t u step in no_in (in_of_get [] at.number at.steps.rule at.steps.numbered)

-- what the loop keeps: steps at first redexes led to the id's term, and so many units are left
pub record IsOnTheWay (system : System) (units left : ℕ) (t : Tree) (pool : List Tree) (id : ℕ) : Type 0 where
  pub steps : ℕ
  pub leads : Leads system.rules steps t (tree_at pool id)
  pub sum : steps + left ≡ units
  pub well_formed : IsWellFormed system.arities (tree_at pool id)
  pub there : id < length pool

pub way_begins : (system : System) (units : ℕ) (t : Tree) (pool : List Tree) (id : ℕ) → StandsFor pool id t
    → IsTermOver system.arities t → IsOnTheWay system units units t pool id
way_begins system units t pool id e h =
    let same : tree_at pool id ≡ t = stands_at pool id t e in
    let W : Tree → Type 0 = IsWellFormed system.arities in
    let P : Tree → Type 0 = Leads system.rules 0 t in
    record {
      steps = 0;
      leads = subst P (sym same) at_once;
      sum = omega arith;
      well_formed = subst W (sym same) h.well_formed;
      there = stands_within pool id t e;
    }

-- the step, and the id of its result in the pool that goes on
pub way_goes_on : (system : System) → IsSystem system → (units left : ℕ) (t : Tree) (pool next kept : List Tree) (id new same : ℕ) → IsOnTheWay system units left t pool id
    → IsFirstStep system.rules left (tree_at pool id) (tree_at next new) → tree_at kept same ≡ tree_at next new → same < length kept
    → IsOnTheWay system units (left - 1) t kept same
way_goes_on system valid units left t pool next kept id new same h s e there =
    let sum : h.steps + left ≡ units = h.sum in
    let unit : 0 < left = s.unit_there in
    let L : Tree → Type 0 = Leads system.rules (suc h.steps) t in
    let W : Tree → Type 0 = IsWellFormed system.arities in
    record {
      steps = suc h.steps;
      leads = subst L (sym e) (leads_on (tree_at next new) s.step h.leads s.first s.steps s.limits);
      sum = omega (arith, sum, unit);
      well_formed = subst W (sym e) (next_well_formed system valid s.step (tree_at pool id) (tree_at next new) s.steps h.well_formed);
      there = there;
    }

-- at a normal form, which is read from the pool that goes on
pub way_ends : (system : System) (units left : ℕ) (t u : Tree) (pool next : List Tree) (id : ℕ) → IsOnTheWay system units left t pool id
    → IsNormalForm (Step system.rules) (tree_at pool id) → Extends pool next → StandsFor next id u → Normalizes system.rules units t (Ok (u, left))
way_ends system units left t u pool next id h normal more e =
    let same : tree_at pool id ≡ u = same_Some (tree_at pool id) u (sym (more.kept id (tree_at pool id) (stands pool id h.there)) ∙ e) in
    let P : Tree → Type 0 = λ x. Normalizes system.rules units t (Ok (x, left)) in
    subst P same (to_normal_form h.steps left (tree_at pool id) h.leads normal h.sum)

pub way_stops : (system : System) (units left : ℕ) (t : Tree) (pool : List Tree) (id : ℕ) (why : Unfinished) → IsOnTheWay system units left t pool id
    → IsStopped system.rules left (tree_at pool id) why → Normalizes system.rules units t (Err why)
way_stops system units left t pool id unfinished.NoUnit h s =
    let sum : h.steps + left ≡ units = h.sum in
    let none : left ≡ 0 = s.0 in
    let all : h.steps ≡ units = omega (arith, sum, none) in
    let P : ℕ → Type 0 = λ n. Leads system.rules n t (tree_at pool id) in
    to_no_unit (tree_at pool id) s.1.0 (subst P all h.leads) s.1.1
way_stops system units left t pool id unfinished.TooLarge h s =
    let sum : h.steps + left ≡ units = h.sum in
    let there : 0 < left = s.0 in
    to_too_large h.steps (tree_at pool id) s.1.0 (omega (arith, sum, there)) h.leads s.1.1 s.1.2

-- a step at the first redex that is refused
pub stops_move : (rules : List RewriteRule) (units : ℕ) (t : Tree) (pool : List Tree) (s : PlacedRule) (why : StepFault) (answer : Result Move OutOfMemory)
    → IfOk answer (IsStopOf why) → IsStepFault rules s.place s.rule t why → IsFirstRedex rules t s → 0 < units → IfOk answer (IsMove rules units t pool)
stops_move rules units t pool s why (Ok m) h fault first there =
    let M : Move → Type 0 = IsMove rules units t pool in
    let F : StepFault → Type 0 = IsStepFault rules s.place s.rule t in
    subst M (sym h.1) (there, (s, first, subst F h.0 fault))
stops_move rules units t pool s why (Err e) h fault first there = tt

-- a pool extends itself
pub unmoved : (pool : List Tree) → Extends pool pool
unmoved pool = record { longer = omega arith; kept = λ i t e. e }

pub same_pool : (pool other : List Tree) → other ≡ pool → Extends pool other
same_pool pool other e = let P : List Tree → Type 0 = Extends pool in subst P (sym e) (unmoved pool)
