-- A term and its reducts.
use Rattle.std.specs.Prelude.{◌≡◌, ◌≢◌, ◌<◌, ◌≤◌, ℕ, ◌+◌, false, List, [], ◌∷◌, ◌++◌, length, take, Some, IsTrue, refl, IfOk, OnOk, MatchOption, Result, Ok, Err, Option, None}
use Rattle.std.proofs.Common.{suc, ap, sym, subst, ◌∙◌, append_assoc, append-nil, get_or, arith}
use Rattle.std.proofs.Math.Seq.{take-suc}
use Rattle.std.proofs.lemmas.List.{take_all}
use Rattle.std.specs.Global.{Vec}
use Rattle.trs_defs.specs.Tree.{Tree}
use Rattle.trs_defs.specs.Size.{size_of, within_limits}
use Rattle.trs_defs.specs.System.{RewriteRule}
use Rattle.trs_defs.specs.Path.{PlacedRule, StepsAt}
use Rattle.term_pool.specs.Pooled.{AreDistinct, Extends, StandsFor, tree_at}
use Rattle.term_pool.specs.Redexes.{HasRedexes, IsRedexAt}
use Rattle.term_pool.specs.Steps.{IsStepFault}
use Rattle.term_pool.specs.declared.steps.StepFault.{StepFault}
use Rattle.term_pool.specs.declared.steps.StepFault.TheVariants as fault
use Rattle.term_pool.specs.Listed.{Listed}
use Rattle.term_pool.specs.Reach.{AreReducts, no_step, kept, left_out, after_step, is_kept}
use Rattle.term_pool.proofs.ListingLaws.{reducts_append, too_large_not_kept, small_kept, refused_step}
use Rattle.term_pool.proofs.Extending.{same_tree_at}
use Rattle.term_pool.proofs.PoolTrees.{stands, stands_within}
use Rattle.rewrite_core.specs.PathsOfJoin.{PathsOfJoin}
use Rattle.join_find.specs.Common.{IsFirstCommon, HasNoCommon}
use Rattle.join_find.specs.CommonIds.{Reached, IsSifted, sifted_none, sifted_there, sifted_out}
use Rattle.join_find.specs.StrongRow.{IsNearList, itself, IsFirstHalf, HasNoHalf}
use Rattle.join_find.specs.NewmanRow.{IsReach}
use Rattle.join_find.specs.Near.{IsSiftedNear, AddsReducts, AddsReduct, HasNear}

pub sifted_append : (pool : List Tree) {es fs : List Listed} {ks ls : List Reached} → IsSifted pool es ks → IsSifted pool fs ls → IsSifted pool (es ++ fs) (ks ++ ls)
sifted_append pool sifted_none more = more
sifted_append pool (sifted_there is path rest) more = sifted_there is path (sifted_append pool rest more)
sifted_append pool (sifted_out none rest) more = sifted_out none (sifted_append pool rest more)

module _ (rules : List RewriteRule) (pool : List Tree) (t : Tree) where
  pub adds_none : (near : List Reached) → AddsReducts rules pool t [] near near
  adds_none near = record { reducts = []; are_reducts = no_step; more = []; sifted = sifted_none; longer = sym (append-nil near) }

  pub adds_append : {ss us : List PlacedRule} {a b c : List Reached} → AddsReducts rules pool t ss a b → AddsReducts rules pool t us b c → AddsReducts rules pool t (ss ++ us) a c
  adds_append {a = a} h k = record {
    reducts = h.reducts ++ k.reducts;
    are_reducts = reducts_append rules 65536 (itself t) h.are_reducts k.are_reducts;
    more = h.more ++ k.more;
    sifted = sifted_append pool h.sifted k.sifted;
    longer = k.longer ∙ (ap (λ xs. xs ++ k.more) h.longer ∙ append_assoc a h.more k.more);
  }

  -- a step whose result is too large adds nothing
  pub adds_no_large : (s : PlacedRule) (near : List Reached) (u : Tree) → StepsAt rules s.place s.rule t u → within_limits u ≡ false → AddsReduct rules pool t s near near
  adds_no_large s near u step large = record {
    reducts = [];
    are_reducts = left_out step (too_large_not_kept 65536 u large) no_step;
    more = [];
    sifted = sifted_none;
    longer = sym (append-nil near);
  }

  module _ (s : PlacedRule) (near : List Reached) (u : Tree) (step : StepsAt rules s.place s.rule t u) (small : size_of u ≤ 65536) (limits : IsTrue (within_limits u)) where
    is_small : IsTrue (is_kept 65536 u)
    is_small = small_kept 65536 u small limits

    -- the pool has the result
    pub adds_known : (new : List Reached) (id : ℕ) (path : Vec PlacedRule) → StandsFor pool id u → path.items ≡ [] ++ s ∷ [] → new ≡ near ++ (id, path) ∷ []
        → AddsReduct rules pool t s near new
    adds_known new id path is one made = record {
      reducts = after_step (itself t) s u ∷ [];
      are_reducts = kept step is_small no_step;
      more = (id, path) ∷ [];
      sifted = sifted_there is one sifted_none;
      longer = made;
    }

    -- it does not
    pub adds_unknown : ((i : ℕ) → StandsFor pool i u → ⊥) → AddsReduct rules pool t s near near
    adds_unknown none = record {
      reducts = after_step (itself t) s u ∷ [];
      are_reducts = kept step is_small no_step;
      more = [];
      sifted = sifted_out none sifted_none;
      longer = sym (append-nil near);
    }

-- an id behind a mark is that of no term before it
pub not_before : (old new : List Tree) (id mark i : ℕ) → AreDistinct new → Extends old new → id < length new → mark ≡ length old → mark ≤ id
    → StandsFor old i (tree_at new id) → ⊥
not_before old new id mark i distinct extends there is behind stands_old =
    let same : i ≡ id = distinct.same i id (tree_at new id) (extends.kept i (tree_at new id) stands_old) (stands new id there) in
    let below : i < length old = stands_within old i (tree_at new id) stands_old in
    absurd (omega (arith, same, below, is, behind))

-- an id before the mark keeps its term
pub before_mark : (old new : List Tree) (id mark : ℕ) → Extends old new → mark ≡ length old → id < mark → StandsFor old id (tree_at new id)
before_mark old new id mark extends is below =
    let there : id < length old = omega (arith, is, below) in
    stands old id there ∙ ap (λ t. Some t) (sym (same_tree_at old new extends id there))

pub near_starts : (rules : List RewriteRule) (pool : List Tree) (t : Tree) (id : ℕ) (start : Vec PlacedRule) (near empty_list : List Reached) → start.items ≡ [] → empty_list ≡ []
    → near ≡ empty_list ++ (id, start) ∷ [] → HasNear rules pool t id [] near
near_starts rules pool t id start near empty_list empty none made =
    let same : near ≡ (id, start) ∷ [] = made ∙ ap (λ xs. xs ++ (id, start) ∷ []) none in
    record { start = start; empty = empty; adds = subst (λ xs. AddsReducts rules pool t [] ((id, start) ∷ []) xs) (sym same) (adds_none rules pool t ((id, start) ∷ [])) }

pub near_goes_on : (rules : List RewriteRule) (pool : List Tree) (t : Tree) (id : ℕ) (steps : List PlacedRule) (near new : List Reached) (k : ℕ) (s : PlacedRule) → k < length steps → s ≡ get_or steps k s
    → HasNear rules pool t id (take k steps) near → AddsReduct rules pool t s near new → HasNear rules pool t id (take (k + 1) steps) new
near_goes_on rules pool t id steps near new k s below is h adds =
    let n : k + 1 ≡ suc k = omega arith in
    let G : PlacedRule → Type 0 = λ x. AddsReducts rules pool t (take k steps ++ x ∷ []) ((id, h.start) ∷ []) new in
    let X : List PlacedRule → Type 0 = λ xs. AddsReducts rules pool t xs ((id, h.start) ∷ []) new in
    record {
      start = h.start;
      empty = h.empty;
      adds = subst X (sym (ap (λ j. take j steps) n ∙ take-suc steps k s below)) (subst G is (adds_append rules pool t h.adds adds));
    }

pub near_ends : (rules : List RewriteRule) (pool : List Tree) (t : Tree) (id : ℕ) (steps : List PlacedRule) (near : List Reached) (k : ℕ) → length steps ≤ k → StandsFor pool id t
    → HasRedexes rules t steps → HasNear rules pool t id (take k steps) near → IsSiftedNear rules t pool near
near_ends rules pool t id steps near k all is redexes h =
    let S : List PlacedRule → Type 0 = λ xs. AreReducts rules 65536 (itself t) xs h.adds.reducts in
    record {
      near = itself t ∷ h.adds.reducts;
      are_near = record { redexes = steps; reducts = h.adds.reducts; are_redexes = redexes; are_reducts = subst S (take_all k steps all) h.adds.are_reducts; listed = refl };
      sifted = subst (λ xs. IsSifted pool (itself t ∷ h.adds.reducts) xs) (sym h.adds.longer) (sifted_there is h.empty h.adds.sifted);
    }

-- halves by what is common
pub halves_of : {E : Type 0} (rules : List RewriteRule) (from to : Tree) (reached near : List Listed) (found : Result (Option PathsOfJoin) E) → IsReach rules from reached → IsNearList rules to near
    → IfOk found (λ o. MatchOption o (HasNoCommon reached near) (IsFirstCommon reached near))
    → IfOk found (λ o. MatchOption o (HasNoHalf rules from to) (IsFirstHalf rules from to))
halves_of rules from to reached near (Ok None) from_there to_there h = record { reached = reached; near = near; from_there = from_there; to_there = to_there; none = h }
halves_of rules from to reached near (Ok (Some paths)) from_there to_there h = record { reached = reached; near = near; from_there = from_there; to_there = to_there; common = h }
halves_of rules from to reached near (Err e) from_there to_there h = tt

-- a step that is refused adds nothing, unless memory ran out
pub fault_adds : {X E : Type 0} (rules : List RewriteRule) (pool : List Tree) (t : Tree) (s : PlacedRule) (near : List Reached) (f : StepFault) (r : Result X E) → IsRedexAt rules t s
    → IsStepFault rules s.place s.rule t f → OnOk r (f ≢ fault.OutOfMemory) → OnOk r (AddsReduct rules pool t s near near)
fault_adds rules pool t s near f (Ok x) redex is memory =
    let (u, step, large) = refused_step rules t s f redex is memory in
    adds_no_large rules pool t s near u step large
fault_adds rules pool t s near f (Err e) redex is memory = memory
