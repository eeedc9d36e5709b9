-- The terms that were met: some are forgotten, and others come while rules are added.
use Rattle.std.proofs.Common.{◌≡◌, ◌<◌, ◌≤◌, ℕ, zero, suc, inl, inr, refl, sym, ap, subst, arith, ◌∙◌, List, [], ◌∷◌, ◌++◌, length, length-append, take, Option, Some, IfSome, slice_get}
use Rattle.std.proofs.Math.Decide.{dec_lt}
use Rattle.std.proofs.lemmas.List.{take_all, get_or-take}
use Rattle.std.proofs.lemmas.Option.{same_Some, slice_get_within}
use Rattle.trs_defs.specs.Tree.{Tree, var}
use Rattle.trs_defs.specs.Substitution.{IsInstance}
use Rattle.trs_defs.specs.System.{RewriteRule}
use Rattle.trs_defs.proofs.ListItems.{item_of_more, item_of_longer, last_item}
use Rattle.term_pool.specs.Pooled.{AreDistinct, Extends, StandsFor, tree_at}
use Rattle.term_pool.specs.LeftSides.{IsGround}
use Rattle.term_pool.proofs.PoolTrees.{taken_item, stands, stands_at, stands_within}
use Rattle.term_pool.proofs.Extending.{extends_itself}
use Rattle.term_pool.proofs.LeftSideLaws.{ground_stays}
use Rattle.crit_pairs.proofs.PooledLaws.{kept_below}
use Rattle.completion.specs.declared.met.Met.{Met}
use Rattle.completion.specs.PassedIds.{mark_of}
use Rattle.completion.specs.Searching.{HasNoneOf, ArePassed, AreGroundSides}
use Rattle.completion.specs.MetTerms.{IsMet, KeepsBase}
use Rattle.completion.specs.Taking.{IsTermOver, IsIdOver}
use Rattle.completion.proofs.SearchLaws.{passed_still}

-- ---- pools that are cut

length_cut : (n : ℕ) (pool : List Tree) → n ≤ length pool → length (take n pool) ≡ n
length_cut zero pool h = refl
length_cut (suc n) [] h = absurd (omega (arith, h))
length_cut (suc n) (t ∷ pool) h = omega (arith, length_cut n pool (omega (arith, h)))

cut_shorter : (n : ℕ) (pool : List Tree) → length (take n pool) ≤ length pool
cut_shorter zero pool = omega arith
cut_shorter (suc n) [] = omega arith
cut_shorter (suc n) (t ∷ pool) = omega (arith, cut_shorter n pool)

pub cut_no_longer : (n : ℕ) (pool : List Tree) → length (take n pool) ≤ n
cut_no_longer zero pool = omega arith
cut_no_longer (suc n) [] = omega arith
cut_no_longer (suc n) (t ∷ pool) = omega (arith, cut_no_longer n pool)

-- what is below a mark
pub cut_extends : (n : ℕ) (pool : List Tree) → Extends (take n pool) pool
cut_extends n pool = record { longer = cut_shorter n pool; kept = λ i t h. taken_item n pool i t h }

cut_twice : (m n : ℕ) (pool : List Tree) → m ≤ n → take m (take n pool) ≡ take m pool
cut_twice zero n pool h = refl
cut_twice (suc m) zero pool h = absurd (omega (arith, h))
cut_twice (suc m) (suc n) [] h = refl
cut_twice (suc m) (suc n) (t ∷ pool) h = ap (λ ts. t ∷ ts) (cut_twice m n pool (omega (arith, h)))

-- ---- left sides with no variable

pub sides_still : (rules : List RewriteRule) (pool next : List Tree) (ids : List (Option ℕ)) → Extends pool next → AreGroundSides rules pool ids → AreGroundSides rules next ids
sides_still rules pool next ids more h = record {
  count = h.count;
  each = λ k id r at there. let e = h.each k id r at there in (more.kept id r.left e.0, e.1);
}

pub sides_there : (rules : List RewriteRule) (met : Met) → IsMet rules met → AreGroundSides rules met.pool met.sides.items
sides_there rules met h = sides_still rules (take met.base met.pool) met.pool met.sides.items (cut_extends met.base met.pool) h.sides

-- the id of such a left side is the one of its instance
pub ground_instance : (rules : List RewriteRule) (pool : List Tree) (ids : List (Option ℕ)) (k side id : ℕ) → AreDistinct pool → AreGroundSides rules pool ids
    → slice_get ids k ≡ Some (Some side) → id < length pool → (r : RewriteRule) → slice_get rules k ≡ Some r
    → (side ≡ id → IsInstance r.left (tree_at pool id)) × (IsInstance r.left (tree_at pool id) → side ≡ id)
ground_instance rules pool ids k side id distinct h at within r there =
    let e = h.each k side r at there in (
      (λ same. (λ v. var v, ground_stays (λ v. var v) r.left e.1 ∙ (sym (stands_at pool side r.left e.0) ∙ ap (tree_at pool) same))),
      (λ (s, is).
          let one : r.left ≡ tree_at pool id = sym (ground_stays s r.left e.1) ∙ is in
          distinct.same side id (tree_at pool id) (subst (StandsFor pool side) one e.0) (stands pool id within)),
    )

-- ---- the terms

-- the id of a term that a pool takes
pub id_over : (arities : List ℕ) (pool : List Tree) (id : ℕ) (t : Tree) → StandsFor pool id t → IsTermOver arities t → IsIdOver arities pool id
id_over arities pool id t is over = (stands_within pool id t is, subst (IsTermOver arities) (sym (stands_at pool id t is)) over)

pub id_still_over : (arities : List ℕ) (pool next : List Tree) (id : ℕ) → Extends pool next → IsIdOver arities pool id → IsIdOver arities next id
id_still_over arities pool next id more over = id_over arities next id (tree_at pool id) (more.kept id (tree_at pool id) (stands pool id over.0)) over.1

-- no terms, and no rules
pub none_met : (met : Met) → met.pool ≡ [] → met.passed ≡ [] → met.sides.items ≡ [] → met.base ≡ 0 → IsMet [] met
none_met met no_terms no_marks no_sides zero_base = record {
  within = omega (arith, zero_base);
  passed = λ id some. let none : mark_of met.passed id ≡ 0 = ap (λ xs. mark_of xs id) no_marks in absurd (omega (arith, none, some));
  sides = record {
    count = ap length no_sides;
    each = λ k id r at there. let e : slice_get {X = RewriteRule} [] k ≡ Some r = there in absurd (empty_at k r e);
  };
}
  where
    empty_at : (k : ℕ) (r : RewriteRule) → slice_get {X = RewriteRule} [] k ≡ Some r → ⊥
    empty_at k r e = absurd cc

-- what is below the base is all, once it was raised
pub whole_of : (new : Met) (pool : List Tree) → new.pool ≡ pool → new.base ≡ length pool → take new.base new.pool ≡ pool
whole_of new pool same base = ap (λ n. take n new.pool) base ∙ (ap (λ ts. take (length pool) ts) same ∙ take_all (length pool) pool (omega arith))

pub whole_pool : (old new : Met) → new.pool ≡ old.pool → new.base ≡ length old.pool → take new.base new.pool ≡ old.pool
whole_pool old new pool base = whole_of new old.pool pool base

module _ (rules : List RewriteRule) (old new : Met) (h : IsMet rules old) where
  -- more terms
  pub more_met : Extends old.pool new.pool → new.passed ≡ old.passed → new.sides.items ≡ old.sides.items → new.base ≡ old.base → IsMet rules new
  more_met more marks same base =
      let longer : length old.pool ≤ length new.pool = more.longer in
      let within : old.base ≤ length old.pool = h.within in
      let cut : take new.base new.pool ≡ take old.base old.pool = ap (λ n. take n new.pool) base ∙ kept_below old.base old.pool new.pool more within in
      let P : List ℕ → Type 0 = ArePassed rules new.pool in
      let S : List (Option ℕ) → Type 0 = AreGroundSides rules (take new.base new.pool) in
      let T : List Tree → Type 0 = λ pool. AreGroundSides rules pool old.sides.items in
      record {
        within = omega (arith, longer, within, base);
        passed = subst P (sym marks) (passed_still rules old.pool new.pool old.passed more h.passed);
        sides = subst S (sym same) (subst T (sym cut) h.sides);
      }

  -- more ids were passed
  pub passed_more : new.pool ≡ old.pool → new.sides.items ≡ old.sides.items → new.base ≡ old.base → ArePassed rules old.pool new.passed → IsMet rules new
  passed_more pool same base passed =
      let cut : take new.base new.pool ≡ take old.base old.pool = ap (λ n. take n new.pool) base ∙ ap (λ ts. take old.base ts) pool in
      let P : List Tree → Type 0 = λ ts. ArePassed rules ts new.passed in
      let S : List (Option ℕ) → Type 0 = AreGroundSides rules (take new.base new.pool) in
      let T : List Tree → Type 0 = λ ts. AreGroundSides rules ts old.sides.items in
      record { within = omega (arith, base, ap length pool, h.within); passed = subst P (sym pool) passed; sides = subst S (sym same) (subst T (sym cut) h.sides) }

  -- the terms from the mark on are forgotten
  module _ (mark : ℕ) (pool : new.pool ≡ take mark old.pool) (below : (v : ℕ) → v < mark → mark_of new.passed v ≡ mark_of old.passed v)
      (above : (v : ℕ) → mark ≤ v → mark_of new.passed v ≡ 0) (same : new.sides.items ≡ old.sides.items) (base : new.base ≡ old.base) (marked : mark ≤ length old.pool) (low : old.base ≤ mark) where
    short : length new.pool ≡ mark
    short = ap length pool ∙ length_cut mark old.pool marked

    passed_below : ArePassed rules new.pool new.passed
    passed_below v some = elim (dec_lt v mark) as (λ _. (v < length new.pool) × (mark_of new.passed v ≤ length rules) × HasNoneOf (mark_of new.passed v) rules (tree_at new.pool v)) [
      | yes less ↦
          let count : mark_of new.passed v ≡ mark_of old.passed v = below v less in
          let b = h.passed v (omega (arith, some, count)) in
          let one : tree_at new.pool v ≡ tree_at old.pool v = ap (λ ts. tree_at ts v) pool ∙ get_or-take mark old.pool v (var 0) less in
          let N : ℕ → Type 0 = λ n. HasNoneOf n rules (tree_at new.pool v) in
          (omega (arith, less, short), omega (arith, b.1, count), subst N (sym count) (subst (HasNoneOf (mark_of old.passed v) rules) (sym one) b.2))
      | no past ↦ absurd (let none : mark_of new.passed v ≡ 0 = above v (omega (arith, past)) in omega (arith, none, some))
    ]

    pub forgotten : IsMet rules new
    forgotten =
        let cut : take new.base new.pool ≡ take old.base old.pool = ap (λ n. take n new.pool) base ∙ (ap (λ ts. take old.base ts) pool ∙ cut_twice old.base mark old.pool low) in
        let S : List (Option ℕ) → Type 0 = AreGroundSides rules (take new.base new.pool) in
        let T : List Tree → Type 0 = λ ts. AreGroundSides rules ts old.sides.items in
        record {
          within = omega (arith, base, low, short);
          passed = passed_below;
          sides = subst S (sym same) (subst T (sym cut) h.sides);
        }

  -- all terms are below the base now
  pub raised : new.pool ≡ old.pool → new.passed ≡ old.passed → new.sides.items ≡ old.sides.items → new.base ≡ length old.pool → IsMet rules new
  raised pool marks same base =
      let whole : take new.base new.pool ≡ old.pool = whole_pool old new pool base in
      let P : List ℕ → Type 0 = ArePassed rules new.pool in
      let Q : List Tree → Type 0 = λ ts. ArePassed rules ts old.passed in
      let S : List (Option ℕ) → Type 0 = AreGroundSides rules (take new.base new.pool) in
      let T : List Tree → Type 0 = λ ts. AreGroundSides rules ts old.sides.items in
      record {
        within = omega (arith, base, ap length pool);
        passed = subst P (sym marks) (subst Q (sym pool) h.passed);
        sides = subst S (sym same) (subst T (sym whole) (sides_there rules old h));
      }

  -- one rule more
  module _ (r : RewriteRule) (side : Option ℕ) (pool : new.pool ≡ old.pool) (marks : new.passed ≡ old.passed) (base : new.base ≡ old.base) (put : new.sides.items ≡ old.sides.items ++ side ∷ [])
      (stands_there : IfSome side (λ id. StandsFor (take old.base old.pool) id r.left)) (ground : IfSome side (λ _. IsGround r.left)) where
    none_more : (n : ℕ) (t : Tree) → n ≤ length rules → HasNoneOf n rules t → HasNoneOf n (rules ++ r ∷ []) t
    none_more n t few none u less q =
        none u less (record { rule = q.rule; numbered = item_of_longer rules (r ∷ []) u.rule q.rule (omega (arith, less, few)) q.numbered; part = q.part; there = q.there; instance = q.instance })

    last_side : (id : ℕ) → Some id ≡ side → StandsFor (take old.base old.pool) id r.left × IsGround r.left
    last_side id is =
        let P : Option ℕ → Type 0 = λ o. IfSome o (λ id. StandsFor (take old.base old.pool) id r.left) in
        let G : Option ℕ → Type 0 = λ o. IfSome o (λ _. IsGround r.left) in
        (subst P (sym is) stands_there, subst G (sym is) ground)

    one_side : AreGroundSides (rules ++ r ∷ []) (take old.base old.pool) (old.sides.items ++ side ∷ [])
    one_side = record {
      count = omega (arith, h.sides.count, length-append old.sides.items (side ∷ []), length-append rules (r ∷ []));
      each = λ k id q at there. elim (item_of_more old.sides.items side (Some id) k at) as (λ _. StandsFor (take old.base old.pool) id q.left × IsGround q.left) [
        | inl earlier ↦ h.sides.each k id q earlier (item_of_longer rules (r ∷ []) k q (omega (arith, slice_get_within old.sides.items k (Some id) earlier, h.sides.count)) there)
        | inr last ↦
            let place : k ≡ length rules = last.0 ∙ h.sides.count in
            let is : r ≡ q = same_Some r q (sym (last_item rules r []) ∙ subst (λ n. slice_get (rules ++ r ∷ []) n ≡ Some q) place there) in
            let L : RewriteRule → Type 0 = λ p. StandsFor (take old.base old.pool) id p.left × IsGround p.left in
            subst L is (last_side id last.1)
      ];
    }

    pub one_rule_more : IsMet (rules ++ r ∷ []) new
    one_rule_more =
        let cut : take new.base new.pool ≡ take old.base old.pool = ap (λ n. take n new.pool) base ∙ ap (λ ts. take old.base ts) pool in
        let P : List ℕ → Type 0 = ArePassed (rules ++ r ∷ []) new.pool in
        let Q : List Tree → Type 0 = λ ts. ArePassed (rules ++ r ∷ []) ts old.passed in
        let S : List (Option ℕ) → Type 0 = AreGroundSides (rules ++ r ∷ []) (take new.base new.pool) in
        let T : List Tree → Type 0 = λ ts. AreGroundSides (rules ++ r ∷ []) ts (old.sides.items ++ side ∷ []) in
        record {
          within = omega (arith, base, ap length pool, h.within);
          passed = subst P (sym marks) (subst Q (sym pool) (λ id some.
              let b = h.passed id some in
              (b.0, omega (arith, b.1, length-append rules (r ∷ [])), none_more (mark_of old.passed id) (tree_at old.pool id) b.1 b.2)));
          sides = subst S (sym put) (subst T (sym cut) one_side);
        }

-- the base is kept
pub base_kept : (old new : Met) → new.base ≡ old.base → Extends old.pool new.pool → KeepsBase old new
base_kept old new base more = record {
  base = base;
  kept = record { longer = omega (arith, cut_shorter old.base old.pool, more.longer); kept = λ i t e. more.kept i t (taken_item old.base old.pool i t e) };
}

pub cut_kept : (old new : Met) → new.base ≡ old.base → new.pool ≡ take old.base old.pool → KeepsBase old new
cut_kept old new base pool =
    let P : List Tree → Type 0 = Extends (take old.base old.pool) in
    record { base = base; kept = subst P (sym pool) (extends_itself (take old.base old.pool)) }

pub base_itself : (met : Met) → KeepsBase met met
base_itself met = base_kept met met refl (extends_itself met.pool)
