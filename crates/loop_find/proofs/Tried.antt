-- Attempts one part after another.
use Rattle.std.proofs.Common.{◌≡◌, ℕ, ◌+◌, ◌<◌, ◌≤◌, inl, inr, List, [], ◌∷◌, ◌++◌, length, map, drop, get_or, Some, refl, ap, sym, ◌∙◌, subst, zero, suc, arith, slice_get, length-append, append_assoc, append-nil}
use Rattle.std.proofs.lemmas.List.{drop_all, map-append}
use Rattle.trs_defs.specs.Tree.{Tree, Trees, var, app}
use Rattle.trs_defs.specs.System.{RewriteRule}
use Rattle.trs_defs.proofs.ArgumentLists.{cell}
use Rattle.trs_defs.proofs.Members.{each_of_both, in_or}
use Rattle.trs_core.specs.declared.terms.Term.{Term}
use Rattle.trs_core.specs.View.{tree, forest}
use Rattle.crit_pairs.specs.PeakList.{symbol_places, symbol_places_of_all}
use Rattle.crit_pairs.proofs.SpotWalk.{below_below}
use Rattle.loop_find.specs.Closures.{Closure, Attempt, Give, no_attempt, gives, left_out, IsNarrowed, IsSmall, attempts_at, attempts_of}
use Rattle.loop_find.specs.LoopRow.{LoopsNot, LoopNone}
use Rattle.loop_find.specs.Links.{closures_of}
use Rattle.loop_find.specs.Tries.{Tries, TriesAll, Ends}
use Rattle.loop_find.specs.Trials.{Extended, one_attempt}
use Rattle.loop_find.specs.declared.closures.Closures.{Closures}
use Rattle.loop_find.specs.declared.trying.Turn.{Turn}
use Rattle.loop_find.specs.declared.trying.Turn.TheVariants as turn
use Rattle.trs_defs.proofs.ListItems.{kept_item}

pub give_both : (rules : List RewriteRule) {xs ys : List Attempt} {cs ds : List Closure} → Give rules xs cs → Give rules ys ds → Give rules (xs ++ ys) (cs ++ ds)
give_both rules no_attempt k = k
give_both rules (gives n s h) k = gives n s (give_both rules h k)
give_both rules (left_out n h) k = left_out n (give_both rules h k)

pub give_few : (rules : List RewriteRule) {xs : List Attempt} {cs : List Closure} → Give rules xs cs → length cs ≤ length xs
give_few rules no_attempt = omega arith
give_few rules (gives n s h) = omega (arith, give_few rules h)
give_few rules (left_out n h) = omega (arith, give_few rules h)

pub none_loops : (rules : List RewriteRule) → LoopNone rules []
none_loops rules c i = elim i [ ]

pub one_loops_not : (rules : List RewriteRule) (c : Closure) → LoopsNot rules c → LoopNone rules (c ∷ [])
one_loops_not rules c none d i = elim (in_or i) as (λ _. LoopsNot rules d) [
  | inl same ↦ subst (LoopsNot rules) (sym same) none
  | inr k ↦ elim k [ ]
]

module _ (rules : List RewriteRule) (budget : ℕ) where
  pub tries_none : (k : Closures) → k.attempts ≤ budget → Tries rules budget [] k k
  tries_none k h = record { made = []; give = no_attempt; longer = sym (append-nil (closures_of k)); counted = omega arith; within = h; none = none_loops rules }

  module _ (xs : List Attempt) (old mid : Closures) (first : Tries rules budget xs old mid) where
    longer_both : (new : Closures) (more : List Closure) → closures_of new ≡ closures_of mid ++ more → closures_of new ≡ closures_of old ++ (first.made ++ more)
    longer_both new more e = e ∙ (ap (λ cs. cs ++ more) first.longer ∙ append_assoc (closures_of old) first.made more)

    counted_both : (new : Closures) (ys : List Attempt) → new.attempts ≡ mid.attempts + length ys → new.attempts ≡ old.attempts + length (xs ++ ys)
    counted_both new ys e = let before = first.counted in omega (arith, e, before, length-append xs ys)

    pub tries_both : (ys : List Attempt) (new : Closures) → Tries rules budget ys mid new → Tries rules budget (xs ++ ys) old new
    tries_both ys new h = record {
      made = first.made ++ h.made;
      give = give_both rules first.give h.give;
      longer = longer_both new h.made h.longer;
      counted = counted_both new ys h.counted;
      within = h.within;
      none = each_of_both (LoopsNot rules) first.made h.made first.none h.none;
    }

    split_both : (ys tried rest : List Attempt) → ys ≡ tried ++ rest → xs ++ ys ≡ (xs ++ tried) ++ rest
    split_both ys tried rest e = ap (λ zs. xs ++ zs) e ∙ sym (append_assoc xs tried rest)

    pub ends_both : (rose rose2 : Type 0) → (rose → rose2) → (ys : List Attempt) (new : Closures) (t : Turn) → Ends rules budget ys mid new rose t → Ends rules budget (xs ++ ys) old new rose2 t
    ends_both rose rose2 more ys new turn.Next h = tries_both ys new h
    ends_both rose rose2 more ys new (turn.Found found) h = record {
      tried = xs ++ h.tried;
      rest = h.rest;
      split = split_both ys h.tried h.rest h.split;
      before = first.made ++ h.before;
      closure = h.closure;
      give = subst (λ cs. Give rules (xs ++ h.tried) cs) (sym (append_assoc first.made h.before (h.closure ∷ []))) (give_both rules first.give h.give);
      longer = longer_both new (h.before ++ h.closure ∷ []) h.longer ∙ ap (λ cs. closures_of old ++ cs) (sym (append_assoc first.made h.before (h.closure ∷ [])));
      counted = counted_both new h.tried h.counted;
      within = h.within;
      none_before = each_of_both (LoopsNot rules) first.made h.before first.none h.none_before;
      loop = h.loop;
    }
    ends_both rose rose2 more ys new turn.Spent h = record {
      tried = xs ++ h.tried;
      rest = h.rest;
      split = split_both ys h.tried h.rest h.split;
      tries = tries_both h.tried new h.tries;
      spent = h.spent;
    }
    ends_both rose rose2 more ys new turn.Stopped h = more h

  -- more attempts are left behind the end
  pub ends_early : (xs ys : List Attempt) (old new : Closures) (rose : Type 0) (t : Turn) → (t ≡ turn.Next → ⊥) → Ends rules budget xs old new rose t → Ends rules budget (xs ++ ys) old new rose t
  ends_early xs ys old new rose turn.Next ne h = absurd (ne refl)
  ends_early xs ys old new rose (turn.Found found) ne h = record {
    tried = h.tried;
    rest = h.rest ++ ys;
    split = ap (λ zs. zs ++ ys) h.split ∙ append_assoc h.tried h.rest ys;
    before = h.before;
    closure = h.closure;
    give = h.give;
    longer = h.longer;
    counted = h.counted;
    within = h.within;
    none_before = h.none_before;
    loop = h.loop;
  }
  ends_early xs ys old new rose turn.Spent ne h = record { tried = h.tried; rest = h.rest ++ ys; split = ap (λ zs. zs ++ ys) h.split ∙ append_assoc h.tried h.rest ys; tries = h.tries; spent = h.spent }
  ends_early xs ys old new rose turn.Stopped ne h = h

  -- some attempts were made, and these are left
  pub record Going (todo : List Attempt) (old mid : Closures) (left : List Attempt) : Type 0 where
    pub tried : List Attempt
    pub split : todo ≡ tried ++ left
    pub tries : Tries rules budget tried old mid

  pub sets_out : (todo left : List Attempt) (old : Closures) → old.attempts ≤ budget → todo ≡ left → Going todo old old left
  sets_out todo left old h e = record { tried = []; split = e; tries = tries_none old h }

  module _ (todo left first rest : List Attempt) (old mid : Closures) (going : Going todo old mid left) (is : left ≡ first ++ rest) where
    whole : todo ≡ going.tried ++ (first ++ rest)
    whole = going.split ∙ ap (λ zs. going.tried ++ zs) is

    pub goes_on : (new : Closures) (rose : Type 0) (t : Turn) → t ≡ turn.Next → Ends rules budget first mid new rose t → Going todo old new rest
    goes_on new rose t next h = record {
      tried = going.tried ++ first;
      split = whole ∙ sym (append_assoc going.tried first rest);
      tries = tries_both going.tried old mid going.tries first new (subst (λ z. Ends rules budget first mid new rose z) next h);
    }

    pub comes_out : (new : Closures) (rose rose2 : Type 0) (t : Turn) → (t ≡ turn.Next → ⊥) → (rose → rose2) → Ends rules budget first mid new rose t → Ends rules budget todo old new rose2 t
    comes_out new rose rose2 t ne more h =
        subst (λ z. Ends rules budget z old new rose2 t) (sym whole)
        (ends_both going.tried old mid going.tries rose rose2 more (first ++ rest) new t (ends_early first rest mid new rose t ne h))

  pub arrives : (todo left : List Attempt) (old new : Closures) → left ≡ [] → Going todo old new left → Tries rules budget todo old new
  arrives todo left old new none going =
      let e : todo ≡ going.tried = going.split ∙ (ap (λ zs. going.tried ++ zs) none ∙ append-nil going.tried) in
      subst (λ z. Tries rules budget z old new) (sym e) going.tries

  -- the closure that is extended stays where it is
  pub still_there : (todo left : List Attempt) (old mid : Closures) (n : ℕ) (c : Closure) → Going todo old mid left → slice_get (closures_of old) n ≡ Some c → slice_get (closures_of mid) n ≡ Some c
  still_there todo left old mid n c going e = subst (λ cs. slice_get cs n ≡ Some c) (sym going.tries.longer) (kept_item (closures_of old) going.tries.made n c e)

  -- ---- one attempt

  pub spent_at_once : (todo : List Attempt) (old : Closures) → old.attempts ≤ budget → budget ≤ old.attempts → TriesAll rules budget todo old old
  spent_at_once todo old h k = record { tried = []; rest = todo; split = refl; tries = tries_none old h; spent = omega (arith, h, k) }

  pub attempt_left_out : (a : Attempt) (old new : Closures) → closures_of new ≡ closures_of old → new.attempts ≡ old.attempts + 1 → old.attempts < budget
      → ((c : Closure) → IsNarrowed rules a.closure a.at c → IsSmall c → ⊥) → Tries rules budget (a ∷ []) old new
  attempt_left_out a old new same counted h none = record {
    made = [];
    give = left_out none no_attempt;
    longer = same ∙ sym (append-nil (closures_of old));
    counted = counted;
    within = omega (arith, counted, h);
    none = none_loops rules;
  }

  module _ (a : Attempt) (old mid new : Closures) (same : closures_of mid ≡ closures_of old) (counted : mid.attempts ≡ old.attempts + 1) (h : old.attempts < budget) where
    pub attempt_given : (rose : Type 0) (t : Turn) → Extended rules a mid new t → Ends rules budget (a ∷ []) old new rose t
    attempt_given rose turn.Next e = record {
      made = e.closure ∷ [];
      give = gives e.narrowed e.small no_attempt;
      longer = e.longer ∙ ap (λ cs. cs ++ e.closure ∷ []) same;
      counted = e.counted ∙ counted;
      within = let k = e.counted in omega (arith, k, counted, h);
      none = one_loops_not rules e.closure e.shows;
    }
    attempt_given rose (turn.Found found) e = record {
      tried = a ∷ [];
      rest = [];
      split = refl;
      before = [];
      closure = e.closure;
      give = gives e.narrowed e.small no_attempt;
      longer = e.longer ∙ ap (λ cs. cs ++ e.closure ∷ []) same;
      counted = e.counted ∙ counted;
      within = let k = e.counted in omega (arith, k, counted, h);
      none_before = none_loops rules;
      loop = e.shows;
    }
    attempt_given rose turn.Spent e = absurd e.shows
    attempt_given rose turn.Stopped e = absurd e.shows

-- ---- the attempts at a place, and below it

same_get : {X : Type 0} (xs : List X) (k : ℕ) (d : X) → k < length xs → get_or xs k d ≡ get_or xs k (get_or xs k d)
same_get [] k d h = absurd (omega arith)
same_get (x ∷ xs) zero d h = refl
same_get (x ∷ xs) (suc k) d h = same_get xs k d (omega (arith, h))

pub next_rule : (c : Closure) (p : List ℕ) (rules : List RewriteRule) (k : ℕ) → k < length rules
    → attempts_at c p k (drop k rules) ≡ one_attempt c p k ++ attempts_at c p (k + 1) (drop (k + 1) rules)
next_rule c p rules k h =
    let d : RewriteRule = record { left = var 0; right = var 0 } in
    ap (attempts_at c p k) (cell rules k (get_or rules k d) h (same_get rules k d h))

pub no_rule_left : (c : Closure) (p : List ℕ) (rules : List RewriteRule) (k : ℕ) → length rules ≤ k → attempts_at c p k (drop k rules) ≡ []
no_rule_left c p rules k h = ap (attempts_at c p k) (drop_all k rules h)

attempts_both : (rules : List RewriteRule) (c : Closure) (ps qs : List (List ℕ)) → attempts_of rules c (ps ++ qs) ≡ attempts_of rules c ps ++ attempts_of rules c qs
attempts_both rules c [] qs = refl
attempts_both rules c (p ∷ ps) qs =
    ap (λ zs. attempts_at c p 0 rules ++ zs) (attempts_both rules c ps qs) ∙ sym (append_assoc (attempts_at c p 0 rules) (attempts_of rules c ps) (attempts_of rules c qs))

-- the attempts below a place, in arguments from number k on
abbrev pub attempts_below : List RewriteRule → Closure → List ℕ → ℕ → Trees → List Attempt
attempts_below rules c p k ts = attempts_of rules c (map (λ q. p ++ q) (symbol_places_of_all k ts))

pub root_then_arguments : (rules : List RewriteRule) (c : Closure) (p : List ℕ) (f : ℕ) (ts : Trees) (part : Tree) → part ≡ app f ts
    → attempts_of rules c (map (λ q. p ++ q) (symbol_places part)) ≡ attempts_at c p 0 rules ++ attempts_below rules c p 1 ts
root_then_arguments rules c p f ts part is =
    ap (λ t. attempts_of rules c (map (λ q. p ++ q) (symbol_places t))) is ∙ ap (λ q. attempts_at c q 0 rules ++ attempts_below rules c p 1 ts) (append-nil p)

pub next_argument : (rules : List RewriteRule) (c : Closure) (p q : List ℕ) (ts : List Term) (i : ℕ) (t : Term) → i < length ts → t ≡ get_or ts i t → q ≡ p ++ (i + 1) ∷ []
    → attempts_below rules c p (i + 1) (forest (drop i ts)) ≡ attempts_of rules c (map (λ u. q ++ u) (symbol_places (tree t))) ++ attempts_below rules c p (i + 1 + 1) (forest (drop (i + 1) ts))
next_argument rules c p q ts i t h e is =
    let first : List (List ℕ) = map (λ u. (i + 1) ∷ u) (symbol_places (tree t)) in
    let rest : List (List ℕ) = symbol_places_of_all (i + 1 + 1) (forest (drop (i + 1) ts)) in
    ap (λ us. attempts_below rules c p (i + 1) (forest us)) (cell ts i t h e)
    ∙ (ap (attempts_of rules c) (map-append (λ u. p ++ u) first rest)
    ∙ (attempts_both rules c (map (λ u. p ++ u) first) (map (λ u. p ++ u) rest)
    ∙ ap (λ ps. attempts_of rules c ps ++ attempts_of rules c (map (λ u. p ++ u) rest)) (below_below p (i + 1) (symbol_places (tree t)) ∙ ap (λ z. map (λ u. z ++ u) (symbol_places (tree t))) (sym is))))

pub no_argument_left : (rules : List RewriteRule) (c : Closure) (p : List ℕ) (ts : List Term) (i : ℕ) → length ts ≤ i → attempts_below rules c p (i + 1) (forest (drop i ts)) ≡ []
no_argument_left rules c p ts i h = ap (λ us. attempts_below rules c p (i + 1) (forest us)) (drop_all i ts h)

-- the whole term, from its root
pub from_the_root : (ps : List (List ℕ)) (p : List ℕ) → p ≡ [] → map (λ q. p ++ q) ps ≡ ps
from_the_root ps p none = ap (λ z. map (λ q. z ++ q) ps) none ∙ same ps
  where
    same : (qs : List (List ℕ)) → map (λ q. [] ++ q) qs ≡ qs
    same [] = refl
    same (q ∷ qs) = ap (λ zs. q ∷ zs) (same qs)

-- a variable has no place for an attempt
pub nothing_tried : (rules : List RewriteRule) (budget : ℕ) (c : Closure) (p : List ℕ) (v : ℕ) (part : Tree) → part ≡ var v → (k : Closures) → k.attempts ≤ budget
    → Tries rules budget (attempts_of rules c (map (λ q. p ++ q) (symbol_places part))) k k
nothing_tried rules budget c p v part is k h =
    subst (λ t. Tries rules budget (attempts_of rules c (map (λ q. p ++ q) (symbol_places t))) k k) (sym is) (tries_none rules budget k h)
