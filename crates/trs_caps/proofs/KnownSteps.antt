-- What is known of terms for their caps, as it is read, noted and kept.
use Rattle.std.proofs.Common.{◌≡◌, ℕ, ◌+◌, ◌<◌, inl, inr, Bool, List, [], ◌∷◌, Option, Some, None, IfSome, length, get_or, slice_get, nat_cmp, refl, ap, sym, ◌∙◌, subst, add-one}
use Rattle.std.specs.Option.{option_map, option_and_then}
use Rattle.std.specs.BTreeMap.{BTreeMap, get, Updates}
use Rattle.std.proofs.lemmas.Option.{same_Some, slice_get_read, slice_get_within}
use native.Mathlib.Decide.{ℕ_discrete}
use Rattle.trs_defs.specs.Tree.{Tree, app}
use Rattle.trs_defs.specs.Position.{argument_at, subterm_at}
use Rattle.trs_defs.specs.System.{RewriteRule}
use Rattle.trs_core.specs.declared.terms.Term.{Term}
use Rattle.trs_core.specs.View.{tree, forest}
use Rattle.trs_core.proofs.Lookups.{items_forest, slice_get_map}
use Rattle.term_pool.specs.Pooled.{Extends, StandsFor, tree_at}
use Rattle.term_pool.proofs.PoolTrees.{stands, stands_at}
use Rattle.trs_caps.specs.HoledTree.{HoledTree, symbol}
use Rattle.trs_caps.specs.HoledCap.{MeetsSome}
use Rattle.trs_caps.specs.KnownCaps.{Opens, AreKnown, IsIdOf, IsWhole, Notes}
use Rattle.trs_caps.proofs.Fitting.{same_caps}
use Rattle.trs_caps.proofs.AddedParts.{not_at}

-- an argument of a term
pub argument_there : (t : Tree) (f : ℕ) (args : List Term) (i : ℕ) (arg : Term) → t ≡ app f (forest args) → i < length args → arg ≡ get_or args i arg → argument_at t (i + 1) ≡ Some (tree arg)
argument_there t f args i arg is h at =
    let read : slice_get args i ≡ Some arg = slice_get_read args (length args) i arg refl h at in
    let there : argument_at (app f (forest args)) (i + 1) ≡ Some (tree arg) =
    rw add-one (ap (λ us. slice_get us i) (items_forest args) ∙ (slice_get_map args i ∙ ap (option_map tree) read)) in
    subst (λ z. argument_at z (i + 1) ≡ Some (tree arg)) (sym is) there

-- the id of an argument
pub argument_id : (pool : List Tree) (k i : ℕ) (t u : Tree) (places : List ℕ) (found : Option ℕ) → places ≡ (i + 1) ∷ [] → StandsFor pool k t → argument_at t (i + 1) ≡ Some u
    → option_map (tree_at pool) found ≡ subterm_at places (tree_at pool k) → IfSome found (λ j. j < length pool) → IsIdOf pool found u
argument_id pool k i t u places None is at arg e low = tt
argument_id pool k i t u places (Some j) is at arg e low =
    let whole : tree_at pool k ≡ t = stands_at pool k t at in
    let below : subterm_at ((i + 1) ∷ []) t ≡ Some u = ap (option_and_then (subterm_at [])) arg in
    let found : Some (tree_at pool j) ≡ Some u = e ∙ (ap (λ p. subterm_at p (tree_at pool k)) is ∙ (ap (subterm_at ((i + 1) ∷ [])) whole ∙ below)) in
    subst (StandsFor pool j) (same_Some (tree_at pool j) u found) (stands pool j low)

pub ids_within : (pool : List Tree) (id : Option ℕ) (t : Tree) → IsIdOf pool id t → IfSome id (λ k. k < length pool)
ids_within pool None t h = tt
ids_within pool (Some k) t h = slice_get_within pool k t h

pub note_made : (old new : BTreeMap ℕ Bool) (id : Option ℕ) (i : ℕ) (answer : Bool) → id ≡ Some i → Updates nat_cmp old new i (Some answer) → Notes id answer old new
note_made old new id i answer is updates j b at = elim (ℕ_discrete j i) [
  | yes same ↦
      let here : get nat_cmp new j ≡ Some answer = subst (λ z. get nat_cmp new z ≡ Some answer) (sym same) updates.1 in
      inr (is ∙ ap (λ z. Some z) (sym same), same_Some b answer (sym at ∙ here))
  | no other ↦ inl (sym (updates.2 j (not_at i j other)) ∙ at)
]

pub noted_so : (opens : BTreeMap ℕ Bool) (id : Option ℕ) (i : ℕ) (found : Option Bool) → id ≡ Some i → found ≡ get nat_cmp opens i
    → IfSome found (λ b. (j : ℕ) × (id ≡ Some j) × (get nat_cmp opens j ≡ Some b))
noted_so opens id i None is e = tt
noted_so opens id i (Some b) is e = (i, is, sym e)

pub none_noted : (opens : BTreeMap ℕ Bool) (id : Option ℕ) (answer : Bool) → Notes id answer opens opens
none_noted opens id answer i b at = inl at

module _ (rules : List RewriteRule) (fixed : Bool) where
  -- a pool that has grown
  pub grown : (old new : List Tree) (opens : BTreeMap ℕ Bool) → AreKnown rules fixed old opens → Extends old new → AreKnown rules fixed new opens
  grown old new opens known h i answer at = let (t, there, holds) = known i answer at in (t, h.kept i t there, holds)

  module _ (pool : List Tree) (t : Tree) (c : HoledTree) (whole : IsWhole rules fixed t c) where
    -- what is known of the term
    pub known_meets : (opens : BTreeMap ℕ Bool) (i : ℕ) (answer : Bool) → AreKnown rules fixed pool opens → StandsFor pool i t → get nat_cmp opens i ≡ Some answer → MeetsSome c rules answer
    known_meets opens i answer known at noted =
        let (u, there, holds) = known i answer noted in
        let same : u ≡ app whole.root whole.args = same_Some u t (sym there ∙ at) ∙ whole.term in
        let opened : Opens rules fixed (app whole.root whole.args) answer = subst (λ z. Opens rules fixed z answer) same holds in
        subst (λ z. MeetsSome z rules answer) (sym whole.cap) (opened whole.caps whole.each)

    pub noted_meets : (opens : BTreeMap ℕ Bool) (id : Option ℕ) (answer : Bool) → AreKnown rules fixed pool opens → IsIdOf pool id t → (i : ℕ) × (id ≡ Some i) × (get nat_cmp opens i ≡ Some answer)
        → MeetsSome c rules answer
    noted_meets opens id answer known is (i, same, noted) = known_meets opens i answer known (subst (λ o. IsIdOf pool o t) same is) noted

    -- the caps of the arguments are unique, so that what is found out of one cap holds for the term
    opens_so : (answer : Bool) → MeetsSome c rules answer → Opens rules fixed t answer
    opens_so answer meets =
        let found : MeetsSome (symbol whole.root whole.caps) rules answer = subst (λ z. MeetsSome z rules answer) whole.cap meets in
        let opens : Opens rules fixed (app whole.root whole.args) answer = λ cs each. subst (λ z. MeetsSome (symbol whole.root z) rules answer) (same_caps rules fixed whole.each each) found in
        subst (λ z. Opens rules fixed z answer) (sym whole.term) opens

    -- what was found out is noted
    pub one_more_known : (old new : BTreeMap ℕ Bool) (id : Option ℕ) (answer : Bool) → AreKnown rules fixed pool old → IsIdOf pool id t → MeetsSome c rules answer → Notes id answer old new
        → AreKnown rules fixed pool new
    one_more_known old new id answer known is meets notes i b at = elim (notes i b at) [
      | inl h ↦ known i b h
      | inr h ↦ (t, subst (λ o. IsIdOf pool o t) h.0 is, subst (Opens rules fixed t) (sym h.1) (opens_so answer meets))
    ]
