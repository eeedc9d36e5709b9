-- The next attempt is at a closure that was given before.
use Rattle.std.specs.Prelude.{◌≡◌, ◌<◌, ◌≤◌, ℕ, ◌+◌, List, [], ◌∷◌, ◌++◌, length}
use Rattle.std.proofs.Common.{zero, suc, ap, sym, ◌∙◌, subst, inl, inr, append_assoc, length-append, arith}
use native.Mathlib.Decide.{dec_lt}
use Rattle.trs_defs.specs.Member.{In, in_first, in_rest}
use Rattle.trs_defs.specs.System.{RewriteRule}
use Rattle.trs_defs.specs.Path.{PlacedRule}
use Rattle.trs_defs.proofs.Members.{in_or, in_left, in_right}
use Rattle.loop_find.specs.Closures.{Closure, rule_closures, Attempt, attempts_in}
use Rattle.loop_find.specs.Closures.{IsNarrowed, Give, no_attempt, gives, left_out}
use Rattle.loop_find.proofs.LoopSteps.{attempt_source}
use Rattle.text_determinism.proofs.VariantAttempts.{attempts_joined}

-- ---- where attempts and closures come from

longer_path : (rules : List RewriteRule) (c d : Closure) (at : PlacedRule) → IsNarrowed rules c at d → length d.path ≡ length c.path + 1
longer_path rules c d at h = ap length h.path ∙ length-append c.path (at ∷ [])

given_by : (rules : List RewriteRule) {tried : List Attempt} {made : List Closure} → Give rules tried made → (c : Closure) → In c made
    → (a : Attempt) × In a tried × (length c.path ≡ length a.closure.path + 1)
given_by rules no_attempt c i = elim i [ ]
given_by rules (gives {a = a} {new = new} n s h) c i = elim (in_or i) [
  | inl same ↦ (a, in_first, ap (λ (z : Closure). length z.path) same ∙ longer_path rules a.closure new a.at n)
  | inr j ↦ (let (b, there, longer) = given_by rules h c j in (b, in_rest there, longer))
]
given_by rules (left_out n h) c i = let (b, there, longer) = given_by rules h c i in (b, in_rest there, longer)

-- No closures come from one another alone: one with the least path would come from one with a shorter path.
none_from_themselves : (rules : List RewriteRule) (tried : List Attempt) (made : List Closure) → Give rules tried made
    → ((a : Attempt) → In a tried → In a.closure made) → (n : ℕ) (c : Closure) → length c.path < n → In c made → ⊥
none_from_themselves rules tried made g all zero c less i = absurd (omega (arith, less))
none_from_themselves rules tried made g all (suc n) c less i =
    let (a, there, longer) = given_by rules g c i in
    none_from_themselves rules tried made g all n a.closure (omega (arith, less, longer)) (all a there)

in_behind : {T : Type 0} (ps ts qs us : List T) {x : T} → ps ++ qs ≡ ts ++ us → length ps ≤ length ts → In x us → In x qs
in_behind [] ts qs us {x = x} e le i = subst (λ z. In x z) (sym e) (in_right ts i)
in_behind (p ∷ ps) [] qs us e le i = absurd (omega (arith, le))
in_behind (p ∷ ps) (t ∷ ts) qs us e le i = in_behind ps ts qs us (cc (e)) (omega (arith, le)) i

module _ (rules : List RewriteRule) where
  abbrev pub listed : List Closure → List Closure
  listed made = rule_closures 0 rules ++ made

  module _ (made : List Closure) (later : List Attempt) where
    -- the attempts that were tried gave the first closures, and those that are to do give the second ones
    pub record IsDone (first second : List Closure) (tried todo : List Attempt) : Type 0 where
      pub is : made ≡ first ++ second
      pub attempts : attempts_in rules (listed made) ≡ tried ++ (todo ++ later)

    pub parted : {first second : List Closure} {tried todo : List Attempt} → IsDone first second tried todo
        → attempts_in rules (listed first) ++ attempts_in rules second ≡ tried ++ (todo ++ later)
    parted {first = first} {second = second} h =
        let whole : listed made ≡ listed first ++ second =
        ap (λ (cs : List Closure). listed cs) h.is ∙ sym (append_assoc (rule_closures 0 rules) first second) in
        sym (attempts_joined rules (listed first) second) ∙ (sym (ap (attempts_in rules) whole) ∙ h.attempts)

    from_rest : {first second : List Closure} {tried todo : List Attempt} → IsDone first second tried todo
        → length (attempts_in rules (listed first)) ≤ length tried → (a : Attempt) → In a todo → In a.closure second
    from_rest {first = first} {second = second} {tried = tried} {todo = todo} h le a i =
        attempt_source rules second a
        (in_behind (attempts_in rules (listed first)) tried (attempts_in rules second) (todo ++ later) (parted h) le (in_left later i))

    pub next_there : {first second : List Closure} {tried todo : List Attempt} → IsDone first second tried todo → Give rules todo second
        → 0 < length todo → length tried < length (attempts_in rules (listed first))
    next_there {todo = []} h g some = absurd (omega (arith, some))
    next_there {first = first} {second = second} {tried = tried} {todo = a ∷ todo} h g some =
        elim (dec_lt (length tried) (length (attempts_in rules (listed first)))) [
          | yes less ↦ less
          | no l ↦
              let inside : (b : Attempt) → In b (a ∷ todo) → In b.closure second = from_rest h (omega (arith, l)) in
              let n : ℕ = suc (length a.closure.path) in
              absurd (none_from_themselves rules (a ∷ todo) second g inside n a.closure (omega arith) (inside a in_first))
        ]

    one_on : {T : Type 0} {all : List T} (first rest : List T) (x : T) → all ≡ first ++ (x ∷ rest) → all ≡ (first ++ x ∷ []) ++ rest
    one_on first rest x e = e ∙ sym (append_assoc first (x ∷ []) rest)

    pub one_given : {first second : List Closure} {tried todo : List Attempt} {c : Closure} {a : Attempt}
        → IsDone first (c ∷ second) tried (a ∷ todo) → IsDone (first ++ c ∷ []) second (tried ++ a ∷ []) todo
    one_given {first = first} {second = second} {tried = tried} {todo = todo} {c = c} {a = a} h = record {
      is = one_on first second c h.is;
      attempts = one_on tried (todo ++ later) a h.attempts;
    }

    pub one_passed : {first second : List Closure} {tried todo : List Attempt} {a : Attempt} → IsDone first second tried (a ∷ todo)
        → IsDone first second (tried ++ a ∷ []) todo
    one_passed {tried = tried} {todo = todo} {a = a} h = record { is = h.is; attempts = one_on tried (todo ++ later) a h.attempts }
