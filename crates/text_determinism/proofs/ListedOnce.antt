-- Of two lists of closures the one after more attempts begins with variants of the other.
use Rattle.std.specs.Prelude.{◌≡◌, ◌<◌, ◌≤◌, ℕ, ◌+◌, List, [], ◌∷◌, ◌++◌, length, refl}
use Rattle.std.proofs.Common.{suc, ap, sym, ◌∙◌, subst, append_assoc, append-nil, length-append, arith}
use native.Mathlib.Decide.{dec_le}
use Rattle.trs_defs.specs.System.{RewriteRule}
use Rattle.loop_find.specs.Closures.{Closure, rule_closures, Attempt, attempts_in, IsNarrowed, IsSmall}
use Rattle.loop_find.specs.Closures.{Give, no_attempt, gives, left_out, IsClosureList}
use Rattle.text_determinism.proofs.Variants.{AreVariants, variant_back}
use Rattle.text_determinism.proofs.NarrowedOnce.{narrowed_too, narrowed_variants}
use Rattle.text_determinism.proofs.VariantAttempts.{AllVariants, no_variants, more_variants, all_joined, all_same}
use Rattle.text_determinism.proofs.VariantAttempts.{AreAlike, AllAlike, alike_in, alike_length, alike_next}
use Rattle.text_determinism.proofs.NextAttempts.{listed, IsDone, parted, next_there, one_given, one_passed}

-- ---- what attempts that are alike give

alike_back : (a b : Attempt) → AreAlike a b → AreAlike b a
alike_back a b h = record { closures = variant_back a.closure b.closure h.closures; at = sym h.at }

-- the step of an attempt gives a small closure
record Gives (rules : List RewriteRule) (a : Attempt) : Type 0 where
  closure : Closure
  narrowed : IsNarrowed rules a.closure a.at closure
  small : IsSmall closure

module _ (rules : List RewriteRule) (a b : Attempt) (alike : AreAlike a b) (c : Closure) (h : IsNarrowed rules a.closure a.at c) where
  gives_too : IsSmall c → Gives rules b
  gives_too small =
      let d : Closure = record { left = c.left; right = c.right; path = b.closure.path ++ a.at ∷ [] } in
      let first : IsNarrowed rules b.closure a.at d = narrowed_too rules a.closure b.closure alike.closures a.at c h in
      record { closure = d; narrowed = subst (λ z. IsNarrowed rules b.closure z d) alike.at first; small = small }

  both_given : (d : Closure) → IsNarrowed rules b.closure b.at d → AreVariants c d
  both_given d k =
      let second : IsNarrowed rules b.closure a.at d = subst (λ z. IsNarrowed rules b.closure z d) (sym alike.at) k in
      narrowed_variants rules a.closure b.closure alike.closures a.at c d h second

-- ---- what is given, attempt by attempt

module _ (rules : List RewriteRule) (made results : List Closure) (later others : List Attempt) (n m : ℕ) (few : n ≤ m) where
  -- the closures that were given after m attempts, beside those after n
  record Begin : Type 0 where
    first : List Closure
    second : List Closure
    split : results ≡ first ++ second
    variants : AllVariants made first
    further : n < m → n < length (attempts_in rules (listed rules first))

  -- as many attempts are done on both sides, and gave variants
  record Stand (first firsts second seconds : List Closure) (tried done todo left : List Attempt) : Type 0 where
    here : IsDone rules made later first second tried todo
    there : IsDone rules results others firsts seconds done left
    same : length tried ≡ length done
    variants : AllVariants first firsts
    counted : n ≡ length tried + length todo
    all : m ≡ length done + length left

  one_longer : (tried : List Attempt) (a : Attempt) (k l : ℕ) → l ≡ length tried + suc k → l ≡ length (tried ++ a ∷ []) + k
  one_longer tried a k l e = omega (arith, e, length-append tried (a ∷ []))

  as_long : (tried done : List Attempt) (a b : Attempt) → length tried ≡ length done → length (tried ++ a ∷ []) ≡ length (done ++ b ∷ [])
  as_long tried done a b e = omega (arith, e, length-append tried (a ∷ []), length-append done (b ∷ []))

  ended : {first firsts seconds : List Closure} {tried done left : List Attempt} → Stand first firsts [] seconds tried done [] left
      → Give rules left seconds → Begin
  ended {first = first} {firsts = firsts} {seconds = seconds} s k = record {
    first = firsts;
    second = seconds;
    split = s.there.is;
    variants = subst (λ cs. AllVariants cs firsts) (sym (s.here.is ∙ append-nil first)) s.variants;
    further = λ less.
        let counted = s.counted in
        let all = s.all in
        let same = s.same in
        let next = next_there rules results others s.there k (omega (arith, less, counted, all, same)) in
        omega (arith, next, counted, same);
  }

  too_many : {first firsts second seconds : List Closure} {tried done todo : List Attempt} {a : Attempt}
      → Stand first firsts second seconds tried done (a ∷ todo) [] → ⊥
  too_many s =
      let counted = s.counted in
      let all = s.all in
      let same = s.same in
      omega (arith, few, counted, all, same)

  next_alike : {first firsts second seconds : List Closure} {tried done todo left : List Attempt} (a b : Attempt)
      → Stand first firsts second seconds tried done (a ∷ todo) (b ∷ left) → Give rules (a ∷ todo) second → AreAlike a b
  next_alike {first} {firsts} {second} {seconds} {tried} {done} {todo} {left} a b s g =
      let attempts : AllAlike (attempts_in rules (listed rules first)) (attempts_in rules (listed rules firsts)) =
      alike_in rules (all_joined (all_same (rule_closures 0 rules)) s.variants) in
      alike_next attempts tried done (attempts_in rules second) (attempts_in rules seconds) (todo ++ later) (left ++ others) a b s.same
      (next_there rules made later s.here g (omega arith)) (parted rules made later s.here) (parted rules results others s.there)

  given : {first firsts second seconds : List Closure} {tried done todo left : List Attempt} (a b : Attempt) (c d : Closure) → AreVariants c d
      → Stand first firsts (c ∷ second) (d ∷ seconds) tried done (a ∷ todo) (b ∷ left)
      → Stand (first ++ c ∷ []) (firsts ++ d ∷ []) second seconds (tried ++ a ∷ []) (done ++ b ∷ []) todo left
  given {tried = tried} {done = done} {todo = todo} {left = left} a b c d v s = record {
    here = one_given rules made later s.here;
    there = one_given rules results others s.there;
    same = as_long tried done a b s.same;
    variants = all_joined s.variants (more_variants v no_variants);
    counted = one_longer tried a (length todo) n s.counted;
    all = one_longer done b (length left) m s.all;
  }

  passed : {first firsts second seconds : List Closure} {tried done todo left : List Attempt} (a b : Attempt)
      → Stand first firsts second seconds tried done (a ∷ todo) (b ∷ left)
      → Stand first firsts second seconds (tried ++ a ∷ []) (done ++ b ∷ []) todo left
  passed {tried = tried} {done = done} {todo = todo} {left = left} a b s = record {
    here = one_passed rules made later s.here;
    there = one_passed rules results others s.there;
    same = as_long tried done a b s.same;
    variants = s.variants;
    counted = one_longer tried a (length todo) n s.counted;
    all = one_longer done b (length left) m s.all;
  }

  begin : {first firsts second seconds : List Closure} {tried done todo left : List Attempt} → Give rules todo second → Give rules left seconds
      → Stand first firsts second seconds tried done todo left → Begin
  begin no_attempt k s = ended s k
  begin (gives x small g) no_attempt s = absurd (too_many s)
  begin (left_out x g) no_attempt s = absurd (too_many s)
  begin (gives {a = a} {new = c} x small g) (gives {a = b} {new = d} y fits k) s =
      let alike = next_alike a b s (gives x small g) in
      begin g k (given a b c d (both_given rules a b alike c x d y) s)
  begin (gives {a = a} {new = c} x small g) (left_out {a = b} y k) s =
      let alike = next_alike a b s (gives x small g) in
      let other = gives_too rules a b alike c x small in
      absurd (y other.closure other.narrowed other.small)
  begin (left_out {a = a} x g) (gives {a = b} {new = d} y fits k) s =
      let alike = next_alike a b s (left_out x g) in
      let other = gives_too rules b a (alike_back a b alike) d y fits in
      absurd (x other.closure other.narrowed other.small)
  begin (left_out {a = a} x g) (left_out {a = b} y k) s = begin g k (passed a b s)

-- ---- lists

-- the closures that are listed after m attempts, beside those after n
pub record BeginsWith (rules : List RewriteRule) (n m : ℕ) (cs ds : List Closure) : Type 0 where
  pub front : List Closure
  pub rest : List Closure
  pub split : ds ≡ front ++ rest
  pub variants : AllVariants cs front
  pub further : n < m → n < length (attempts_in rules cs)

module _ (rules : List RewriteRule) (n m : ℕ) (cs ds : List Closure) (h : IsClosureList rules n cs) (k : IsClosureList rules m ds) where
  from_begin : (few : n ≤ m) → Begin rules h.made k.made h.later k.later n m few → BeginsWith rules n m cs ds
  from_begin few b =
      let all : AllVariants (listed rules h.made) (listed rules b.first) = all_joined (all_same (rule_closures 0 rules)) b.variants in
      let variants : AllVariants cs (listed rules b.first) = subst (λ z. AllVariants z (listed rules b.first)) (sym h.listed) all in
      let whole : listed rules k.made ≡ listed rules b.first ++ b.second =
      ap (λ (z : List Closure). listed rules z) b.split ∙ sym (append_assoc (rule_closures 0 rules) b.first b.second) in
      record {
        front = listed rules b.first;
        rest = b.second;
        split = k.listed ∙ whole;
        variants = variants;
        further = λ less.
            let more = b.further less in
            let same = alike_length (alike_in rules variants) in
            omega (arith, more, same);
      }

  stand : (few : n ≤ m) → Stand rules h.made k.made h.later k.later n m few [] [] h.made k.made [] [] h.tried k.tried
  stand few = record {
    here = record { is = refl; attempts = sym (ap (attempts_in rules) h.listed) ∙ h.split };
    there = record { is = refl; attempts = sym (ap (attempts_in rules) k.listed) ∙ k.split };
    same = refl;
    variants = no_variants;
    counted = omega (arith, h.counted);
    all = omega (arith, k.counted);
  }

  pub begins_with : n ≤ m → BeginsWith rules n m cs ds
  begins_with few = from_begin few (begin rules h.made k.made h.later k.later n m few h.give k.give (stand few))

  -- where all attempts were made, no list has more
  pub no_further : n ≡ length (attempts_in rules cs) → m ≤ n
  no_further ends = elim (dec_le m n) [
    | yes le ↦ le
    | no more ↦
        let b = begins_with (omega (arith, more)) in
        let less = b.further (omega (arith, more)) in
        absurd (omega (arith, less, ends))
  ]
