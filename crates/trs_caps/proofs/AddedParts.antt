-- Parts of a cap, added one after another.
use Rattle.std.proofs.Common.{◌≡◌, ℕ, ◌+◌, ◌<◌, ◌≤◌, ◌↔◌, Bool, false, IsTrue, List, [], ◌∷◌, ◌++◌, Option, Some, None, length, drop, get_or, zero, suc, refl, ap, sym, ◌∙◌, subst, arith, nat_cmp, Vec, Global, Result, Ok, Err, IfOk}
use Rattle.std.proofs.lemmas.List.{drop_all}
use Rattle.std.proofs.lemmas.Grind.{common_steps}
use Rattle.std.specs.Borrow.{Bor}
use Rattle.std.specs.BTreeMap.{BTreeMap, is_at, get, Updates}
use native.Mathlib.Decide.{ℕ_discrete}
use Rattle.trs_defs.specs.Tree.{Tree, Trees, var, app, cons}
use Rattle.trs_defs.specs.Substitution.{apply, apply_all}
use Rattle.trs_defs.proofs.ArgumentLists.{cell}
use Rattle.trs_core.specs.declared.terms.Term.{Term}
use Rattle.trs_core.specs.View.{tree, forest}
use Rattle.trs_caps.specs.HoledTree.{HoledTree, HoledTrees, hole, own, symbol, more, Fits, EachFits, fits_hole, fits_symbol, fits_none, fits_more}
use Rattle.trs_caps.specs.HoledCap.{MeetsLeft}
use Rattle.trs_caps.specs.Parts.{FitsEach, HaveInstance, Holds, HaveInstances, Adds, Refutes}
use Rattle.trs_caps.specs.PartLists.{caps_of, entry_parts, parts_at}
use Rattle.trs_caps.specs.declared.holed.Cap.{Cap}
use Rattle.trs_caps.specs.View.{holed, holed_all}
use Rattle.trs_caps.proofs.Fitting.{fits_root}
use Rattle.trs_caps.proofs.Rows.{caps_last}

fits_more_each : (cs : List HoledTree) (d : HoledTree) (t : Tree) → FitsEach cs t → Fits d t → FitsEach (cs ++ d ∷ []) t
fits_more_each [] d t h p = (p, tt)
fits_more_each (c ∷ cs) d t h p = (h.0, fits_more_each cs d t h.1 p)

fits_less_each : (cs : List HoledTree) (d : HoledTree) (t : Tree) → FitsEach (cs ++ d ∷ []) t → FitsEach cs t × Fits d t
fits_less_each [] d t h = (tt, h.0)
fits_less_each (c ∷ cs) d t h = let k = fits_less_each cs d t h.1 in ((h.0, k.0), k.1)

-- one more part at a variable
pub added : (old new : ℕ → List HoledTree) (v : ℕ) (c : HoledTree) → new v ≡ old v ++ c ∷ [] → ((w : ℕ) → (w ≡ v → ⊥) → new w ≡ old w)
    → Adds c (var v) old new
added old new v c here others = record {
  sound = λ τ h.
      let both : FitsEach (old v) (τ v) × Fits c (τ v) = fits_less_each (old v) c (τ v) (subst (λ z. FitsEach z (τ v)) here (h v)) in (
        λ w. elim (ℕ_discrete w v) [
          | yes same ↦ subst (λ z. FitsEach (old z) (τ z)) (sym same) both.0
          | no other ↦ subst (λ z. FitsEach z (τ w)) (others w other) (h w)
        ],
        both.1,
      );
  complete = λ τ h p w. elim (ℕ_discrete w v) [
    | yes same ↦ subst (λ z. FitsEach (new z) (τ z)) (sym same) (subst (λ z. FitsEach z (τ v)) (sym here) (fits_more_each (old v) c (τ v) (h v) p))
    | no other ↦ subst (λ z. FitsEach z (τ w)) (sym (others w other)) (h w)
  ];
}

pub not_at : (v w : ℕ) → (w ≡ v → ⊥) → is_at (nat_cmp v) w ≡ false
not_at v w other = grind (arith, common_steps)

-- parts stand at other variables as before
pub others_stay : (old new : BTreeMap ℕ (Vec (Bor Cap) Global)) (v : ℕ) (entry : Option (Vec (Bor Cap) Global)) → Updates nat_cmp old new v entry
    → (w : ℕ) → (w ≡ v → ⊥) → parts_at new w ≡ parts_at old w
others_stay old new v entry updates w other = ap entry_parts (updates.2 w (not_at v w other))

pub part_added : (old rest new : BTreeMap ℕ (Vec (Bor Cap) Global)) (v : ℕ) (part : Bor Cap) (c : HoledTree) (there : List (Bor Cap)) (more_there : Vec (Bor Cap) Global)
    → c ≡ holed part.now → caps_of there ≡ parts_at old v → ((w : ℕ) → (w ≡ v → ⊥) → parts_at rest w ≡ parts_at old w)
    → more_there.items ≡ there ++ part ∷ [] → Updates nat_cmp rest new v (Some more_there)
    → Adds c (var v) (parts_at old) (parts_at new)
part_added old rest new v part c there more_there is_c taken others pushed updates =
    let here : parts_at new v ≡ parts_at old v ++ c ∷ [] =
    ap entry_parts updates.1 ∙ (ap caps_of pushed ∙ (caps_last there part ∙ rw (taken, is_c) refl)) in
    added (parts_at old) (parts_at new) v c here (λ w other. others_stay rest new v (Some more_there) updates w other ∙ others w other)

-- what is left of two argument lists: the parts so far, and these arguments
abbrev pub IsFit : (ℕ → List HoledTree) → List Cap → List Term → (ℕ → Tree) → Type 0
IsFit parts cs ts τ = Holds parts τ × EachFits (holed_all cs) (apply_all τ (forest ts))

-- The same substitutions fit what was to be fitted at first and what is left.
pub record SameFits (old : ℕ → List HoledTree) (cs : List Cap) (ts : List Term) (new : ℕ → List HoledTree) (ds : List Cap) (us : List Term) : Type 0 where
  pub onward : (τ : ℕ → Tree) → IsFit old cs ts τ → IsFit new ds us τ
  pub back : (τ : ℕ → Tree) → IsFit new ds us τ → IsFit old cs ts τ

pub all_to_fit : (old : ℕ → List HoledTree) (cs : List Cap) (ts : List Term) → SameFits old cs ts old cs ts
all_to_fit old cs ts = record { onward = λ τ h. h; back = λ τ h. h }

pub first_fits : (c : HoledTree) (cs : HoledTrees) (t : Tree) (ts : Trees) → EachFits (more c cs) (cons t ts) → Fits c t × EachFits cs ts
first_fits c cs t ts (fits_more p ps) = (p, ps)

with_cells : (old new : ℕ → List HoledTree) (cs : List Cap) (ts : List Term) (i : ℕ) (c : Cap) (t : Term) → length cs ≡ length ts → i < length cs → c ≡ get_or cs i c → t ≡ get_or ts i t
    → SameFits old cs ts new (drop i cs) (drop i ts) → SameFits old cs ts new (c ∷ drop (i + 1) cs) (t ∷ drop (i + 1) ts)
with_cells old new cs ts i c t l h is_c is_t same = rw (← cell cs i c h is_c, ← cell ts i t (omega arith) is_t) same

one_less : (old mid new : ℕ → List HoledTree) (cs ds : List Cap) (ts us : List Term) (c : Cap) (t : Term) → SameFits old cs ts mid (c ∷ ds) (t ∷ us)
    → Adds (holed c) (tree t) mid new → SameFits old cs ts new ds us
one_less old mid new cs ds ts us c t same adds = record {
  onward = λ τ h. let k = same.onward τ h in let p = first_fits (holed c) (holed_all ds) (apply τ (tree t)) (apply_all τ (forest us)) k.1 in (adds.complete τ k.0 p.0, p.1);
  back = λ τ h. let k = adds.sound τ h.0 in same.back τ (k.0, fits_more k.1 h.1);
}

pub next_walk : (old mid new : ℕ → List HoledTree) (cs : List Cap) (ts : List Term) (i : ℕ) (c : Cap) (t : Term) → length cs ≡ length ts → i < length cs → c ≡ get_or cs i c → t ≡ get_or ts i t
    → SameFits old cs ts mid (drop i cs) (drop i ts) → Adds (holed c) (tree t) mid new → SameFits old cs ts new (drop (i + 1) cs) (drop (i + 1) ts)
next_walk old mid new cs ts i c t l h is_c is_t same adds =
    one_less old mid new cs (drop (i + 1) cs) ts (drop (i + 1) ts) c t (with_cells old mid cs ts i c t l h is_c is_t same) adds

pub args_fit : (f g : ℕ) (cs : HoledTrees) (ts : Trees) → Fits (symbol f cs) (app g ts) → EachFits cs ts
args_fit f g cs ts (fits_symbol p) = p

pub no_next_walk : (old mid : ℕ → List HoledTree) (cs : List Cap) (ts : List Term) (i f g : ℕ) (c : Cap) (t : Term) → length cs ≡ length ts → i < length cs → c ≡ get_or cs i c → t ≡ get_or ts i t
    → SameFits old cs ts mid (drop i cs) (drop i ts) → Refutes (holed c) (tree t) mid → Refutes (symbol f (holed_all cs)) (app g (forest ts)) old
no_next_walk old mid cs ts i f g c t l h is_c is_t same refutes = record {
  none = λ τ holds p.
      let k = (with_cells old mid cs ts i c t l h is_c is_t same).onward τ (holds, args_fit f g (holed_all cs) (apply_all τ (forest ts)) p) in
      refutes.none τ k.0 (first_fits (holed c) (holed_all (drop (i + 1) cs)) (apply τ (tree t)) (apply_all τ (forest (drop (i + 1) ts))) k.1).0;
}

pub no_more_walks : (old mid : ℕ → List HoledTree) (cs : List Cap) (ts : List Term) (i f g : ℕ) → f ≡ g → length cs ≡ length ts → length cs ≤ i
    → SameFits old cs ts mid (drop i cs) (drop i ts) → Adds (symbol f (holed_all cs)) (app g (forest ts)) old mid
no_more_walks old mid cs ts i f g same_symbol l h same =
    let done : SameFits old cs ts mid [] [] = rw (drop_all i cs h, drop_all i ts (omega arith)) at same in
    record {
      sound = λ τ holds. let k = done.back τ (holds, fits_none) in (k.0, rw same_symbol (fits_symbol k.1));
      complete = λ τ holds p. (done.onward τ (holds, args_fit f g (holed_all cs) (apply_all τ (forest ts)) p)).0;
    }

each_length : (τ : ℕ → Tree) (cs : List Cap) (ts : List Term) → EachFits (holed_all cs) (apply_all τ (forest ts)) → length cs ≡ length ts
each_length τ [] [] p = refl
each_length τ [] (t ∷ ts) p = elim p [ ]
each_length τ (c ∷ cs) [] p = elim p [ ]
each_length τ (c ∷ cs) (t ∷ ts) p = ap suc (each_length τ cs ts (first_fits (holed c) (holed_all cs) (apply τ (tree t)) (apply_all τ (forest ts)) p).1)

pub unlike_heads : (old : ℕ → List HoledTree) (c : HoledTree) (l : Tree) (cs : List Cap) (ts : List Term) (f g : ℕ) → c ≡ symbol f (holed_all cs) → l ≡ app g (forest ts)
    → (f ≡ g → length cs ≡ length ts → ⊥) → Refutes c l old
unlike_heads old c l cs ts f g is_c is_l differ = rw (is_c, is_l) (record {
  none = λ τ holds p. differ (fits_root f g (holed_all cs) (apply_all τ (forest ts)) p) (each_length τ cs ts (args_fit f g (holed_all cs) (apply_all τ (forest ts)) p));
})

-- what no instance fits, whatever terms the variables have
pub never_meets : (c : HoledTree) (l : Tree) → Refutes c l (λ v. []) → MeetsLeft c l → ⊥
never_meets c l refutes (τ, p) = refutes.none τ (λ v. tt) p

part_fits : (τ : ℕ → Tree) (cs : List Cap) (ts : List Term) (i : ℕ) (c : Cap) (t : Term) → i < length cs → c ≡ get_or cs i c → t ≡ get_or ts i t
    → EachFits (holed_all cs) (apply_all τ (forest ts)) → Fits (holed c) (apply τ (tree t))
part_fits τ [] ts i c t h is_c is_t p = absurd (omega arith)
part_fits τ (d ∷ cs) [] i c t h is_c is_t p = elim p [ ]
part_fits τ (d ∷ cs) (u ∷ ts) zero c t h is_c is_t p =
    let first = first_fits (holed d) (holed_all cs) (apply τ (tree u)) (apply_all τ (forest ts)) p in
    subst (λ z. Fits (holed z) (apply τ (tree t))) (sym is_c) (subst (λ z. Fits (holed d) (apply τ (tree z))) (sym is_t) first.0)
part_fits τ (d ∷ cs) (u ∷ ts) (suc i) c t h is_c is_t p =
    part_fits τ cs ts i c t (omega arith) is_c is_t (first_fits (holed d) (holed_all cs) (apply τ (tree u)) (apply_all τ (forest ts)) p).1

-- where an argument meets none, the whole does not
pub part_never_meets : (c : HoledTree) (l : Tree) (cs : List Cap) (ts : List Term) (f g i : ℕ) (part : Cap) (t : Term) → c ≡ symbol f (holed_all cs) → l ≡ app g (forest ts) → i < length cs
    → part ≡ get_or cs i part → t ≡ get_or ts i t → (MeetsLeft (holed part) (tree t) → ⊥) → MeetsLeft c l → ⊥
part_never_meets c l cs ts f g i part t is_c is_l h is_part is_t never (τ, p) =
    let whole : Fits (symbol f (holed_all cs)) (apply τ (app g (forest ts))) = subst (λ z. Fits (symbol f (holed_all cs)) (apply τ z)) is_l (subst (λ z. Fits z (apply τ l)) is_c p) in
    never (τ, part_fits τ cs ts i part t h is_part is_t (args_fit f g (holed_all cs) (apply_all τ (forest ts)) whole))

pub hole_walks : (old : ℕ → List HoledTree) (c : HoledTree) (l : Tree) → c ≡ hole → Adds c l old old
hole_walks old c l is = rw is (record { sound = λ τ h. (h, fits_hole); complete = λ τ h p. h })

pub own_walks_not : (old : ℕ → List HoledTree) (c : HoledTree) (l : Tree) (v g : ℕ) (ts : Trees) → c ≡ own v → l ≡ app g ts → Refutes c l old
own_walks_not old c l v g ts is_c is_l = rw (is_c, is_l) (record { none = λ τ h p. elim p [ ] })

pub no_parts : (parts : BTreeMap ℕ (Vec (Bor Cap) Global)) (τ : ℕ → Tree) → parts.entries ≡ [] → Holds (parts_at parts) τ
no_parts parts τ e v = rw e tt

pub no_entries : {X : Type 0} (xs : List X) → (0 < length xs → ⊥) → xs ≡ []
no_entries [] h = refl
no_entries (x ∷ xs) h = absurd (h (omega arith))

walked : (c : HoledTree) (l : Tree) (old new : BTreeMap ℕ (Vec (Bor Cap) Global)) (b : Bool) → old.entries ≡ [] → Adds c l (parts_at old) (parts_at new)
    → IsTrue b ↔ HaveInstances (parts_at new) → IsTrue b ↔ MeetsLeft c l
walked c l old new b empty adds has = (
  λ e. let (τ, holds) = has.0 e in (τ, (adds.sound τ holds).1),
  λ (τ, fits). has.1 (τ, adds.complete τ (no_parts old τ empty) fits),
)

pub all_walked : {E : Type 0} (c : HoledTree) (l : Tree) (old new : BTreeMap ℕ (Vec (Bor Cap) Global)) (result : Result Bool E) → old.entries ≡ [] → Adds c l (parts_at old) (parts_at new)
    → IfOk result (λ b. IsTrue b ↔ HaveInstances (parts_at new)) → IfOk result (λ b. IsTrue b ↔ MeetsLeft c l)
all_walked c l old new (Ok b) empty adds has = walked c l old new b empty adds has
all_walked c l old new (Err e) empty adds has = has

pub walked_not : (c : HoledTree) (l : Tree) (old : BTreeMap ℕ (Vec (Bor Cap) Global)) → old.entries ≡ [] → Refutes c l (parts_at old) → IsTrue false ↔ MeetsLeft c l
walked_not c l old empty refutes = (λ e. absurd cc, λ (τ, fits). absurd (refutes.none τ (no_parts old τ empty) fits))

-- the parts of one variable have been taken out
module _ (old new : BTreeMap ℕ (Vec (Bor Cap) Global)) (v : ℕ) (there : Vec (Bor Cap) Global) (here : get nat_cmp old v ≡ Some there) (updates : Updates nat_cmp old new v None) where
  others_same : (w : ℕ) → (w ≡ v → ⊥) → parts_at new w ≡ parts_at old w
  others_same = others_stay old new v None updates

  holds_less : (τ : ℕ → Tree) → Holds (parts_at old) τ → Holds (parts_at new) τ
  holds_less τ h w = elim (ℕ_discrete w v) [
    | yes same ↦ subst (λ z. FitsEach (parts_at new z) (τ z)) (sym same) (subst (λ z. FitsEach z (τ v)) (sym (ap entry_parts updates.1)) tt)
    | no other ↦ subst (λ z. FitsEach z (τ w)) (sym (others_same w other)) (h w)
  ]

  -- with a term at that variable
  abbrev with_term : Tree → (ℕ → Tree) → ℕ → Tree
  with_term t τ w = elim (ℕ_discrete w v) [ yes same ↦ t | no other ↦ τ w ]

  holds_more : (t : Tree) (τ : ℕ → Tree) → FitsEach (caps_of there.items) t → Holds (parts_at new) τ → Holds (parts_at old) (with_term t τ)
  holds_more t τ fits h w = elim (ℕ_discrete w v) as (λ d. FitsEach (parts_at old w) (elim d [ yes same ↦ t | no other ↦ τ w ])) [
    | yes same ↦ subst (λ z. FitsEach (parts_at old z) t) (sym same) (subst (λ z. FitsEach z t) (sym (ap entry_parts here)) fits)
    | no other ↦ subst (λ z. FitsEach z (τ w)) (others_same w other) (h w)
  ]

  pub one_less_variable : (b : Bool) → IsTrue b ↔ HaveInstance (caps_of there.items) → IsTrue b → HaveInstances (parts_at new) ↔ HaveInstances (parts_at old)
  one_less_variable b has e = (
    λ (τ, h). let (t, fits) = has.0 e in (with_term t τ, holds_more t τ fits h),
    λ (τ, h). (τ, holds_less τ h),
  )

  pub no_instances : (b : Bool) → IsTrue b ↔ HaveInstance (caps_of there.items) → b ≡ false → HaveInstances (parts_at old) → ⊥
  no_instances b has e (τ, h) = let k : IsTrue b = has.1 (τ v, subst (λ z. FitsEach z (τ v)) (ap entry_parts here) (h v)) in absurd (cc (k, e))
