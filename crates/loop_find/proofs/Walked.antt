-- The closures one after another: what the attempts at those before one leave.
use Rattle.std.proofs.Common.{◌≡◌, ℕ, ◌+◌, ◌-◌, ◌<◌, ◌≤◌, List, [], ◌∷◌, ◌++◌, length, Some, refl, ap, sym, ◌∙◌, subst, zero, suc, arith, slice_get, length-append, append_assoc, append-nil}
use Rattle.std.proofs.lemmas.Option.{same_Some}
use Rattle.trs_defs.specs.System.{RewriteRule}
use Rattle.trs_defs.proofs.Members.{each_of_both}
use Rattle.trs_core.specs.View.{tree}
use Rattle.crit_pairs.specs.PeakList.{symbol_places}
use Rattle.loop_find.specs.Closures.{Closure, Attempt, Give, no_attempt, attempts_of, attempts_in, rule_closures, IsClosureList}
use Rattle.loop_find.specs.LoopRow.{LoopsNot, LoopNone, FindsLoop, LoopNotThere, LoopSpent}
use Rattle.loop_find.specs.Links.{closures_of}
use Rattle.loop_find.specs.Tries.{Tries, TriesTo, TriesAll}
use Rattle.loop_find.specs.declared.closures.Closures.{Closures}
use Rattle.loop_find.specs.declared.found.LoopFound.{LoopFound}
use Rattle.loop_find.proofs.LinkLists.{length_of}
use Rattle.loop_find.proofs.Tried.{give_both, give_few}

module _ (rules : List RewriteRule) where
  attempts_in_both : (cs ds : List Closure) → attempts_in rules (cs ++ ds) ≡ attempts_in rules cs ++ attempts_in rules ds
  attempts_in_both [] ds = refl
  attempts_in_both (c ∷ cs) ds =
      ap (λ zs. attempts_of rules c (symbol_places c.right) ++ zs) (attempts_in_both cs ds)
      ∙ sym (append_assoc (attempts_of rules c (symbol_places c.right)) (attempts_in rules cs) (attempts_in rules ds))

  -- the attempts at the first closures, so many of them, were made, and no closure loops
  pub record HasWalked (n : ℕ) (k : Closures) : Type 0 where
    pub seen : List Closure
    pub unseen : List Closure
    pub split : closures_of k ≡ seen ++ unseen
    pub number : n ≡ length seen
    pub made : List Closure
    pub give : Give rules (attempts_in rules seen) made
    pub listed : closures_of k ≡ rule_closures 0 rules ++ made
    pub counted : k.attempts ≡ length (attempts_in rules seen)
    pub none : LoopNone rules (closures_of k)

  pub walk_begins : (k : Closures) → closures_of k ≡ rule_closures 0 rules → k.attempts ≡ 0 → LoopNone rules (rule_closures 0 rules) → HasWalked 0 k
  walk_begins k is counted none = record {
    seen = [];
    unseen = closures_of k;
    split = refl;
    number = refl;
    made = [];
    give = no_attempt;
    listed = is ∙ sym (append-nil (rule_closures 0 rules));
    counted = counted;
    none = subst (LoopNone rules) (sym is) none;
  }

  -- the next closure
  head_of : (xs ys : List Closure) (n : ℕ) (c : Closure) → n ≡ length xs → slice_get (xs ++ ys) n ≡ Some c → (more : List Closure) × (ys ≡ c ∷ more)
  head_of [] [] n c e h = absurd cc
  head_of [] (y ∷ ys) n c e h = let first : slice_get (y ∷ ys) 0 ≡ Some c = subst (λ i. slice_get (y ∷ ys) i ≡ Some c) e h in (ys, ap (λ z. z ∷ ys) (same_Some y c first))
  head_of (x ∷ xs) ys zero c e h = absurd (omega (arith, e))
  head_of (x ∷ xs) ys (suc n) c e h = head_of xs ys n c (omega (arith, e)) h

  module _ (n : ℕ) (old new : Closures) (c : Closure) (walked : HasWalked n old) (at : slice_get (closures_of old) n ≡ Some c) where
    abbrev here : List Attempt
    here = attempts_of rules c (symbol_places c.right)

    rest_of : (more : List Closure) × (walked.unseen ≡ c ∷ more)
    rest_of = head_of walked.seen walked.unseen n c walked.number (subst (λ z. slice_get z n ≡ Some c) walked.split at)

    with_next : closures_of old ≡ (walked.seen ++ c ∷ []) ++ rest_of.0
    with_next = walked.split ∙ (ap (λ zs. walked.seen ++ zs) rest_of.1 ∙ sym (append_assoc walked.seen (c ∷ []) rest_of.0))

    attempts_next : attempts_in rules (walked.seen ++ c ∷ []) ≡ attempts_in rules walked.seen ++ here
    attempts_next = attempts_in_both walked.seen (c ∷ []) ∙ ap (λ zs. attempts_in rules walked.seen ++ zs) (append-nil here)

    -- the attempts of the longer list: those that were made, and others
    attempts_of_longer : (made : List Closure) (tried rest : List Attempt) → closures_of new ≡ closures_of old ++ made → here ≡ tried ++ rest
        → attempts_in rules (closures_of new) ≡ (attempts_in rules walked.seen ++ tried) ++ (rest ++ attempts_in rules (rest_of.0 ++ made))
    attempts_of_longer made tried rest longer split =
        let whole : closures_of new ≡ (walked.seen ++ c ∷ []) ++ (rest_of.0 ++ made) = longer ∙ (ap (λ cs. cs ++ made) with_next ∙ append_assoc (walked.seen ++ c ∷ []) rest_of.0 made) in
        let others : List Attempt = attempts_in rules (rest_of.0 ++ made) in
        let first : attempts_in rules (walked.seen ++ c ∷ []) ≡ (attempts_in rules walked.seen ++ tried) ++ rest =
        attempts_next ∙ (ap (λ zs. attempts_in rules walked.seen ++ zs) split ∙ sym (append_assoc (attempts_in rules walked.seen) tried rest)) in
        ap (attempts_in rules) whole ∙ (attempts_in_both (walked.seen ++ c ∷ []) (rest_of.0 ++ made)
        ∙ (ap (λ zs. zs ++ others) first ∙ append_assoc (attempts_in rules walked.seen ++ tried) rest others))

    listed_longer : (made : List Closure) → closures_of new ≡ closures_of old ++ made → closures_of new ≡ rule_closures 0 rules ++ (walked.made ++ made)
    listed_longer made longer = longer ∙ (ap (λ cs. cs ++ made) walked.listed ∙ append_assoc (rule_closures 0 rules) walked.made made)

    list_so_far : (made : List Closure) (tried rest : List Attempt) → closures_of new ≡ closures_of old ++ made → here ≡ tried ++ rest → Give rules tried made → new.attempts ≡ old.attempts + length tried
        → IsClosureList rules new.attempts (closures_of new)
    list_so_far made tried rest longer split give counted = record {
      tried = attempts_in rules walked.seen ++ tried;
      later = rest ++ attempts_in rules (rest_of.0 ++ made);
      split = attempts_of_longer made tried rest longer split;
      counted = let before = walked.counted in omega (arith, counted, before, length-append (attempts_in rules walked.seen) tried);
      made = walked.made ++ made;
      give = give_both rules walked.give give;
      listed = listed_longer made longer;
    }

    none_longer : (made : List Closure) → closures_of new ≡ closures_of old ++ made → LoopNone rules made → LoopNone rules (closures_of new)
    none_longer made longer none = subst (LoopNone rules) (sym longer) (each_of_both (LoopsNot rules) (closures_of old) made walked.none none)

    module _ (budget : ℕ) where
      pub walks_on : Tries rules budget here old new → HasWalked (n + 1) new
      walks_on h = record {
        seen = walked.seen ++ c ∷ [];
        unseen = rest_of.0 ++ h.made;
        split = h.longer ∙ (ap (λ cs. cs ++ h.made) with_next ∙ append_assoc (walked.seen ++ c ∷ []) rest_of.0 h.made);
        number = let before = walked.number in omega (arith, before, length-append walked.seen (c ∷ []));
        made = walked.made ++ h.made;
        give = subst (λ zs. Give rules zs (walked.made ++ h.made)) (sym attempts_next) (give_both rules walked.give h.give);
        listed = listed_longer h.made h.longer;
        counted = let a = h.counted in let b = walked.counted in let e = ap length attempts_next in omega (arith, a, b, e, length-append (attempts_in rules walked.seen) here);
        none = none_longer h.made h.longer h.none;
      }

      pub found_here : (found : LoopFound) → TriesTo rules budget here old new found → FindsLoop rules budget (tree found.start) found.path.items found.place
      found_here found h = record {
        attempts = new.attempts;
        in_budget = h.within;
        before = closures_of old ++ h.before;
        closure = h.closure;
        after = [];
        listed = subst (IsClosureList rules new.attempts) (h.longer ∙ sym (append_assoc (closures_of old) h.before (h.closure ∷ [])))
            (list_so_far (h.before ++ h.closure ∷ []) h.tried h.rest h.longer h.split h.give h.counted);
        none_before = each_of_both (LoopsNot rules) (closures_of old) h.before walked.none h.none_before;
        loop = h.loop;
      }

      pub spent_here : TriesAll rules budget here old new → LoopSpent rules budget
      spent_here h = record {
        closures = closures_of new;
        listed = subst (λ m. IsClosureList rules m (closures_of new)) h.spent (list_so_far h.tries.made h.tried h.rest h.tries.longer h.split h.tries.give h.tries.counted);
        none = none_longer h.tries.made h.tries.longer h.tries.none;
      }

      -- the sum of what is left of the budget and of the closures falls
      pub falls : n < length old.links.items → old.attempts ≤ budget → Tries rules budget here old new
          → (budget - new.attempts) + (length new.links.items - (n + 1)) < (budget - old.attempts) + (length old.links.items - n)
      falls h b t =
          let few = give_few rules t.give in
          let counted = t.counted in
          let within = t.within in
          let longer = ap length t.longer in
          omega (arith, h, b, few, counted, within, longer, length-append (closures_of old) t.made, length_of old, length_of new)

  -- ---- no closure is left

  module _ (n : ℕ) (k : Closures) (walked : HasWalked n k) (past : length k.links.items ≤ n) where
    nothing : (xs : List Closure) → length xs ≤ 0 → xs ≡ []
    nothing [] h = refl
    nothing (x ∷ xs) h = absurd (omega (arith, h))

    all_seen : closures_of k ≡ walked.seen
    all_seen =
        let whole = ap length walked.split in
        let number = walked.number in
        let none : walked.unseen ≡ [] = nothing walked.unseen (omega (arith, whole, number, past, length_of k, length-append walked.seen walked.unseen)) in
        walked.split ∙ (ap (λ zs. walked.seen ++ zs) none ∙ append-nil walked.seen)

    whole_list : IsClosureList rules k.attempts (closures_of k)
    whole_list = record {
      tried = attempts_in rules walked.seen;
      later = [];
      split = ap (attempts_in rules) all_seen ∙ sym (append-nil (attempts_in rules walked.seen));
      counted = walked.counted;
      made = walked.made;
      give = walked.give;
      listed = walked.listed;
    }

    pub not_there : (budget : ℕ) → k.attempts < budget → LoopNotThere rules budget
    not_there budget h = record {
      attempts = k.attempts;
      few = h;
      closures = closures_of k;
      listed = whole_list;
      ends = walked.counted ∙ ap (λ cs. length (attempts_in rules cs)) (sym all_seen);
      none = walked.none;
    }

    pub just_spent : (budget : ℕ) → k.attempts ≤ budget → budget ≤ k.attempts → LoopSpent rules budget
    just_spent budget a b = record { closures = closures_of k; listed = let e : k.attempts ≡ budget = omega (arith, a, b) in subst (λ m. IsClosureList rules m (closures_of k)) e whole_list; none = walked.none }
