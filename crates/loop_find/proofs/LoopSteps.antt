-- What is found is a loop as a step of a proof has it.
use Rattle.std.proofs.Common.{◌≡◌, ◌≢◌, ℕ, ◌+◌, ◌<◌, ◌≤◌, inl, inr, All, List, [], ◌∷◌, ◌++◌, length, Some, IsTrue, refl, ap, sym, ◌∙◌, subst, zero, suc, arith, slice_get, length-append}
use Rattle.std.proofs.lemmas.Option.{slice_get_within, get_or_from_slice_get}
use Rattle.trs_defs.specs.Member.{In, in_first, in_rest}
use Rattle.trs_defs.specs.Size.{size_of, within_limits}
use Rattle.trs_defs.specs.WellFormed.{IsWellFormed}
use Rattle.trs_defs.specs.System.{RewriteRule, System, IsSystem}
use Rattle.trs_defs.specs.Path.{PlacedRule}
use Rattle.trs_defs.proofs.Limits.{limits_kept}
use Rattle.trs_defs.proofs.Members.{in_either, in_or, in_left, in_right}
use Rattle.trs_core.specs.SystemLimits.{IsWithinLimits, IsShallow, HaveSmallVariables, nodes_of}
use Rattle.std.specs.Prelude.{Ok}
use Rattle.rewrite_core.specs.LoopConditions.{loop_conditions}
use Rattle.rewrite_core.proofs.LoopLaws.{conditions_of_loop}
use Rattle.crit_pairs.specs.PeakList.{symbol_places}
use Rattle.loop_find.specs.Closures.{Closure, Attempt, Give, no_attempt, gives, left_out, rule_closure, rule_closures, attempts_at, attempts_of, attempts_in, IsNarrowed, IsSmall, IsClosureList}
use Rattle.crit_pairs.proofs.SpotWalk.{small_of}
use Rattle.loop_find.specs.Links.{IsFit}
use Rattle.loop_find.specs.Laws.{FoundLoopsAreLoops}
use Rattle.loop_find.proofs.WellFormedSides.{narrowing_well_formed}

-- ---- where closures come from

rule_source : (k : ℕ) (rules : List RewriteRule) (c : Closure) → In c (rule_closures k rules) → (i : ℕ) × (r : RewriteRule) × (slice_get rules i ≡ Some r) × (c ≡ rule_closure (k + i) r)
rule_source k [] c i = elim i [ ]
rule_source k (r ∷ rules) c i = elim (in_or i) [
  | inl same ↦ (zero, r, refl, same ∙ ap (λ n. rule_closure n r) (let e : k ≡ k + zero = omega arith in e))
  | inr j ↦ let (n, s, at, is) = rule_source (k + 1) rules c j in (suc n, s, at, is ∙ ap (λ m. rule_closure m s) (let e : k + 1 + n ≡ k + suc n = omega arith in e))
]

-- the closure was given by one of the attempts
record IsGivenBy (rules : List RewriteRule) (tried : List Attempt) (c : Closure) : Type 0 where
  attempt : Attempt
  among : In attempt tried
  narrowed : IsNarrowed rules attempt.closure attempt.at c
  small : IsSmall c

one_later : (rules : List RewriteRule) (tried : List Attempt) (a : Attempt) (c : Closure) → IsGivenBy rules tried c → IsGivenBy rules (a ∷ tried) c
one_later rules tried a c h = record { attempt = h.attempt; among = in_rest h.among; narrowed = h.narrowed; small = h.small }

give_source : (rules : List RewriteRule) {tried : List Attempt} {made : List Closure} → Give rules tried made → (c : Closure) → In c made → IsGivenBy rules tried c
give_source rules no_attempt c i = elim i [ ]
give_source rules (gives {a = a} {more = more} {new = new} n s h) c i = elim (in_or i) [
  | inl same ↦ subst (IsGivenBy rules (a ∷ more)) (sym same) (record { attempt = a; among = in_first; narrowed = n; small = s })
  | inr j ↦ one_later rules more a c (give_source rules h c j)
]
give_source rules (left_out {a = a} {more = more} n h) c i = one_later rules more a c (give_source rules h c i)

of_closure_at : (c : Closure) (p : List ℕ) (k : ℕ) (rules : List RewriteRule) (a : Attempt) → In a (attempts_at c p k rules) → a.closure ≡ c
of_closure_at c p k [] a i = elim i [ ]
of_closure_at c p k (r ∷ rules) a i = elim (in_or i) [
  | inl same ↦ ap (λ (z : Attempt). z.closure) same
  | inr j ↦ of_closure_at c p (k + 1) rules a j
]

of_closure : (rules : List RewriteRule) (c : Closure) (ps : List (List ℕ)) (a : Attempt) → In a (attempts_of rules c ps) → a.closure ≡ c
of_closure rules c [] a i = elim i [ ]
of_closure rules c (p ∷ ps) a i = elim (in_either (attempts_at c p 0 rules) (attempts_of rules c ps) i) [
  | inl j ↦ of_closure_at c p 0 rules a j
  | inr j ↦ of_closure rules c ps a j
]

pub attempt_source : (rules : List RewriteRule) (cs : List Closure) (a : Attempt) → In a (attempts_in rules cs) → In a.closure cs
attempt_source rules [] a i = elim i [ ]
attempt_source rules (c ∷ cs) a i = elim (in_either (attempts_of rules c (symbol_places c.right)) (attempts_in rules cs) i) [
  | inl j ↦ subst (λ z. In z (c ∷ cs)) (sym (of_closure rules c (symbol_places c.right) a j)) in_first
  | inr j ↦ in_rest (attempt_source rules cs a j)
]

-- ---- the sides of rules

sides_counted : (rules : List RewriteRule) (i : ℕ) (r : RewriteRule) → slice_get rules i ≡ Some r → size_of r.left + size_of r.right ≤ nodes_of rules
sides_counted [] i r e = absurd cc
sides_counted (s ∷ rules) zero r e = let same : s ≡ r = cc (e) in subst (λ z. size_of z.left + size_of z.right ≤ nodes_of (s ∷ rules)) same (omega arith)
sides_counted (s ∷ rules) (suc i) r e = omega (arith, sides_counted rules i r e)

pub rule_nodes : (system : System) → IsWithinLimits system → (i : ℕ) (r : RewriteRule) → slice_get system.rules i ≡ Some r → (size_of r.left ≤ 65536) × (size_of r.right ≤ 65536)
rule_nodes system limits i r e =
    let counted = sides_counted system.rules i r e in
    let few = limits.nodes in
    (omega (arith, counted, few), omega (arith, counted, few))

pub rule_shallow : (rules : List RewriteRule) → All IsShallow rules → (i : ℕ) (r : RewriteRule) → slice_get rules i ≡ Some r → IsShallow r
rule_shallow rules all i r e = subst IsShallow (get_or_from_slice_get rules i r r e) (all i r (slice_get_within rules i r e))

-- ---- closures of a list

record IsGood (arities : List ℕ) (c : Closure) : Type 0 where
  left : IsWellFormed arities c.left
  right : IsWellFormed arities c.right
  small : IsTrue (within_limits c.left)
  steps : c.path ≢ []

module _ (system : System) (valid : IsSystem system) (limits : IsWithinLimits system) (attempts : ℕ) (cs : List Closure) (listed : IsClosureList system.rules attempts cs) where
  good_rule : (c : Closure) → In c (rule_closures 0 system.rules) → IsGood system.arities c
  good_rule c i =
      let (k, r, at, is) = rule_source 0 system.rules c i in
      let rule = valid.each k r at in
      let few = rule_nodes system limits k r at in
      let low = rule_shallow system.rules limits.shallow k r at in
      subst (IsGood system.arities) (sym is) (record {
        left = rule.left_well_formed;
        right = rule.right_well_formed;
        small = limits_kept r.left few.0 low.0;
        steps = λ e. absurd cc;
      })

  longer_path : (p q : List PlacedRule) (s : PlacedRule) → q ≡ p ++ s ∷ [] → q ≢ []
  longer_path p q s e none = let a = ap length e in let b = ap length none in absurd (omega (arith, a, b, length-append p (s ∷ [])))

  module _ (n : ℕ) (shorter : (c : Closure) → length c.path < n → In c cs → IsGood system.arities c) where
    good_made : (c : Closure) → length c.path ≤ n → In c listed.made → IsGood system.arities c
    good_made c h i =
        let g = give_source system.rules listed.give c i in
        let path = ap length g.narrowed.path in
        let before = shorter g.attempt.closure (omega (arith, h, path, length-append g.attempt.closure.path (g.attempt.at ∷ [])))
        (attempt_source system.rules cs g.attempt (subst (In g.attempt) (sym listed.split) (in_left listed.later g.among))) in
        let rule = valid.each g.attempt.at.rule g.narrowed.rule g.narrowed.numbered in
        let both = narrowing_well_formed system.arities g.narrowed.rule g.attempt.at.place g.attempt.closure.left g.attempt.closure.right c.left c.right g.narrowed.narrowing
        rule.left_well_formed rule.right_well_formed before.left before.right in
        let few = g.small.0.nodes in
        record {
          left = both.0;
          right = both.1;
          small = limits_kept c.left (omega (arith, few)) g.small.0.depth;
          steps = longer_path g.attempt.closure.path c.path g.attempt.at g.narrowed.path;
        }

    good_listed : (c : Closure) → length c.path ≤ n → In c cs → IsGood system.arities c
    good_listed c h i = elim (in_either (rule_closures 0 system.rules) listed.made (subst (In c) listed.listed i)) [
      | inl j ↦ good_rule c j
      | inr j ↦ good_made c h j
    ]

  -- by the length of the path
  good_within : (n : ℕ) (c : Closure) → length c.path ≤ n → In c cs → IsGood system.arities c
  good_within zero c h i = good_listed zero (λ d l j. absurd (omega (arith, l))) c h i
  good_within (suc n) c h i = good_listed (suc n) (λ d l j. good_within n d (omega (arith, l)) j) c h i

  good : (c : Closure) → In c cs → IsGood system.arities c
  good c i = good_within (length c.path) c (omega arith) i

pub found_loops : FoundLoopsAreLoops
found_loops system budget start path place valid limits h =
    let g = good system valid limits h.attempts (h.before ++ h.closure ∷ h.after) h.listed h.closure (in_right h.before in_first) in
    let l = h.loop in
    let (part, there, instance) = l.loops.returns.recurs in
    let conditions = conditions_of_loop system.rules h.closure.left h.closure.path place
    (record { steps = g.steps; end = h.closure.right; follows = l.loops.runs; part = part; there = there; instance = instance }) in
    record {
      conditions = subst (λ s. loop_conditions system.rules s path place (Ok tt)) (sym l.start_is) (subst (λ q. loop_conditions system.rules h.closure.left q place (Ok tt)) (sym l.path_is) conditions);
      well_formed = subst (IsWellFormed system.arities) (sym l.start_is) g.left;
      small = subst (λ t. IsTrue (within_limits t)) (sym l.start_is) g.small;
    }

pub rule_fit : (system : System) → IsSystem system → HaveSmallVariables system.rules → (i : ℕ) (r : RewriteRule) → slice_get system.rules i ≡ Some r
    → IsFit system.arities r.left × IsFit system.arities r.right
rule_fit system valid small i r e =
    let rule = valid.each i r e in
    let low = small_of system.rules i r small e in
    (record { well_formed = rule.left_well_formed; variables = low.0 }, record { well_formed = rule.right_well_formed; variables = low.1 })
