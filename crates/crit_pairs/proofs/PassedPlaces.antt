-- Places where no rule has the root of the subterm add no peak.
use Rattle.std.specs.Prelude.{◌==◌, not, Result}
use Rattle.std.specs.List.{filter}
use Rattle.std.proofs.Common.{◌≡◌, ℕ, Bool, true, false, cond, List, [], ◌∷◌, ◌++◌, length, Some, refl, ap, sym, ◌∙◌, subst, arith, slice_get, append_assoc}
use Rattle.std.proofs.lemmas.Bool.{eq-eqb}
use Rattle.rewrite_core.proofs.PathLemmas.{is_empty}
use Rattle.rewrite_core.specs.PlacedPeak.{PlacedPeak}
use Rattle.trs_defs.specs.Member.{In, in_first, in_rest}
use Rattle.trs_defs.specs.Tree.{Trees, app}
use Rattle.trs_defs.specs.Position.{subterm_at}
use Rattle.trs_defs.specs.System.{RewriteRule, System, IsSystem}
use Rattle.trs_core.specs.SystemLimits.{HaveSmallVariables}
use Rattle.term_pool.specs.Roots.{with_root}
use Rattle.crit_pairs.specs.Parts.{has_rule, has_rule_at, rooted_places}
use Rattle.crit_pairs.specs.PeakList.{Spot, Lists, symbol_places, spots_at, spots_of}
use Rattle.crit_pairs.specs.Walk.{Stops, Adds, IsPartOf}
use Rattle.crit_pairs.specs.declared.faults.PeakFault.{PeakFault}
use Rattle.crit_pairs.specs.declared.listing.Peaks.{Peaks}
use Rattle.crit_pairs.proofs.SpotWalk.{OverlapsUnify, after_spot, spots_by, all_spots}
use Rattle.crit_pairs.proofs.Spots.{symbol_there}

-- where the second spots lead, the first lead too, whatever is behind them
abbrev pub LeadAsWell : List RewriteRule → List Spot → List Spot → Type 0
LeadAsWell rules from to = (rest : List Spot) (total : ℕ) (answer : Result (List PlacedPeak) PeakFault) → Lists rules total (to ++ rest) answer → Lists rules total (from ++ rest) answer

-- the same behind some more spots
behind : (rules : List RewriteRule) (from to : List Spot) → ((total : ℕ) (answer : Result (List PlacedPeak) PeakFault) → Lists rules total to answer → Lists rules total from answer) → (first : List Spot)
    → (total : ℕ) (answer : Result (List PlacedPeak) PeakFault) → Lists rules total (first ++ to) answer → Lists rules total (first ++ from) answer
behind rules from to lead [] total answer l = lead total answer l
behind rules from to lead (s ∷ first) total answer l = after_spot rules (first ++ from) (first ++ to) (behind rules from to lead first) s total answer l

-- what adds the peaks at the second spots, adds those at the first
pub adds_as_well : {T M S : Type 0} (rules : List RewriteRule) (from to : List Spot) (old new : Peaks T M S) → LeadAsWell rules from to → Adds rules old to new → Adds rules old from new
adds_as_well rules from to old new lead adds = λ before h.
    let r = adds before h in
    record {
      all = r.all;
      keeps = r.keeps;
      same_most = r.same_most;
      moves = record {
        back = λ rest answer l. let m = r.moves.back rest answer l in record { tail = m.tail; lists = lead rest old.nodes m.tail m.lists; is = m.is };
      };
    }

pub stops_as_well : (rules : List RewriteRule) (from to : List Spot) (before : List PlacedPeak) (total : ℕ) (fault : PeakFault) → LeadAsWell rules from to → Stops rules before total to fault → Stops rules before total from fault
stops_as_well rules from to before total fault lead stop = record {
  stops = λ rest. let m = stop.stops rest in record { tail = m.tail; lists = lead rest total m.tail m.lists; is = m.is };
}

module _ (unified : OverlapsUnify) (system : System) (valid : IsSystem system) (small : HaveSmallVariables system.rules) (j : ℕ) (outer : RewriteRule) (numbered : slice_get system.rules j ≡ Some outer) where
  -- no rule has the root of the subterm
  module _ (p : List ℕ) (rest : List Spot) where
    no_peak : (f : ℕ) (us : Trees) → subterm_at p outer.left ≡ Some (app f us) → has_rule_at system.rules outer.left p ≡ false
        → (total : ℕ) (answer : Result (List PlacedPeak) PeakFault) → Lists system.rules total rest answer → Lists system.rules total (spots_at j p 0 system.rules ++ rest) answer
    no_peak f us there none total answer l =
        let at : IsPartOf system.rules j p (app f us) = record { outer = outer; numbered = numbered; there = there } in
        let empty : not (length (with_root f system.rules) == 0) ≡ false = sym (ap (has_rule system.rules) there) ∙ none in
        let no_rule : with_root f system.rules ≡ [] = is_empty (with_root f system.rules) (length (with_root f system.rules) == 0) refl (not_false _ empty) in
        let P : List ℕ → Type 0 = λ ks. Lists system.rules total (spots_by j p ks ++ rest) answer in
        all_spots unified system valid small j p (app f us) at f (eq-eqb f f refl) rest 0 system.rules (λ i k r e read. let same : k ≡ i = omega (arith, e) in rw same read) total answer (subst P (sym no_rule) l)
      where
        not_false : (b : Bool) → not b ≡ false → b ≡ true
        not_false true e = refl
        not_false false e = absurd cc

  kept_places : (places : List (List ℕ)) → ((p : List ℕ) → In p places → In p (symbol_places outer.left)) → LeadAsWell system.rules (spots_of system.rules j places)
      (spots_of system.rules j (filter (has_rule_at system.rules outer.left) places))
  kept_places [] within rest total answer l = l
  kept_places (p ∷ places) within rest total answer l =
      subst (λ ss. Lists system.rules total ss answer) (sym (append_assoc here every rest))
      (go (has_rule_at system.rules outer.left p) refl (kept_places places (λ q h. within q (in_rest h)) rest) l)
    where
      test : List ℕ → Bool
      test = has_rule_at system.rules outer.left

      here : List Spot
      here = spots_at j p 0 system.rules

      every : List Spot
      every = spots_of system.rules j places

      rooted : List Spot
      rooted = spots_of system.rules j (filter test places)

      go : (b : Bool) → test p ≡ b → ((total : ℕ) (answer : Result (List PlacedPeak) PeakFault) → Lists system.rules total (rooted ++ rest) answer → Lists system.rules total (every ++ rest) answer)
          → Lists system.rules total (spots_of system.rules j (cond b (p ∷ filter test places) (filter test places)) ++ rest) answer → Lists system.rules total (here ++ (every ++ rest)) answer
      go true is later l = behind system.rules (every ++ rest) (rooted ++ rest) later here total answer (subst (λ ss. Lists system.rules total ss answer) (append_assoc here rooted rest) l)
      go false is later l =
          let (f, us, there) = symbol_there outer.left p (within p in_first) in
          no_peak p (every ++ rest) f us there is total answer (later total answer l)

  -- the places of all symbols, and those where some rule has the root
  pub rooted_lead : LeadAsWell system.rules (spots_of system.rules j (symbol_places outer.left)) (spots_of system.rules j (rooted_places system.rules outer.left))
  rooted_lead = kept_places (symbol_places outer.left) (λ p h. h)
