-- The least of several faults.
use Rattle.std.proofs.Common.{◌≡◌, Bool, true, false, cond, List, [], ◌∷◌, ◌++◌, Option, Some, None, Result, Ok, Err, refl, sym, ap, ◌∙◌, subst, inl, inr}
use Rattle.std.specs.List.{AllByRecursion}
use Rattle.ari_text.specs.declared.fault.AriFault.{AriFault}
use Rattle.ari_text.specs.Least.{comes_before, lesser, earlier, noted, IsAmong}
use Rattle.ari_text.specs.LesserLaws.{before_self, less, keep, lesser_associative}
use Rattle.ari_text.specs.Faults.{ari_fault, ari_faults, faults_in, symbols_of, whole_room, all_declaration_faults, all_side_faults, rule_faults, faults_of}
use Rattle.ari_text.specs.Unless.{unless_noted}
use Rattle.sexp_core.specs.Items.{Items}
use Rattle.names_text.specs.Symbols.{Declared}
use Rattle.term_text.specs.Viewed.{viewed}
use Rattle.ari_text.specs.Rules.{rules_of}
use Rattle.term_text.specs.Checked.{Faults, a_fault, both, Checked, answered, judged}

-- ---- the least of several

abbrev NotBefore : AriFault → AriFault → Type 0
NotBefore f g = comes_before g f ≡ false

-- what holds of the least of a fault and others
abbrev Least : List AriFault → Type 0
Least fs = (g f : AriFault) → noted (Some g) fs ≡ Some f → NotBefore f g × AllByRecursion (NotBefore f) fs

least_behind : (b : Bool) (fs : List AriFault) (g h f : AriFault) → Least fs → comes_before h g ≡ b → noted (Some (cond b h g)) fs ≡ Some f → NotBefore f g × (NotBefore f h × AllByRecursion (NotBefore f) fs)
least_behind true fs g h f next k e = let r = next h f e in (less f g h k r.0, (r.0, r.1))
least_behind false fs g h f next k e = let r = next g f e in (r.0, (keep f g h k r.0, r.1))

noted_least : (fs : List AriFault) → Least fs
noted_least [] g f e = let same : g ≡ f = cc in (subst (NotBefore f) (sym same) (before_self f), tt)
noted_least (h ∷ fs) g f e = least_behind (comes_before h g) fs g h f (noted_least fs) refl e

abbrev Among : List AriFault → Type 0
Among fs = (g f : AriFault) → noted (Some g) fs ≡ Some f → IsAmong f (g ∷ fs)

among_behind : (b : Bool) (fs : List AriFault) (g h f : AriFault) → Among fs → noted (Some (cond b h g)) fs ≡ Some f → IsAmong f (g ∷ h ∷ fs)
among_behind true fs g h f next e = inr (next h f e)
among_behind false fs g h f next e = elim (next g f e) [ inl same ↦ inl same | inr among ↦ inr (inr among) ]

noted_among : (fs : List AriFault) → Among fs
noted_among [] g f e = inl cc
noted_among (h ∷ fs) g f e = among_behind (comes_before h g) fs g h f (noted_among fs) e

none_behind : (b : Bool) (fs : List AriFault) (g h : AriFault) → ((k : AriFault) → noted (Some k) fs ≡ None → ⊥) → noted (Some (cond b h g)) fs ≡ None → ⊥
none_behind true fs g h next e = next h e
none_behind false fs g h next e = next g e

some_noted : (fs : List AriFault) (g : AriFault) → noted (Some g) fs ≡ None → ⊥
some_noted [] g e = cc
some_noted (h ∷ fs) g e = none_behind (comes_before h g) fs g h (some_noted fs) e

pub is_among : (fs : List AriFault) (f : AriFault) → noted None fs ≡ Some f → IsAmong f fs
is_among [] f e = absurd cc
is_among (g ∷ fs) f e = noted_among fs g f e

pub is_least : (fs : List AriFault) (f : AriFault) → noted None fs ≡ Some f → AllByRecursion (λ g. comes_before g f ≡ false) fs
is_least [] f e = absurd cc
is_least (g ∷ fs) f e = noted_least fs g f e

pub is_none : (fs : List AriFault) → noted None fs ≡ None → fs ≡ []
is_none [] e = refl
is_none (g ∷ fs) e = absurd (some_noted fs g e)

-- ---- the faults of what was read

pub noted_append : (least : Option AriFault) (fs gs : List AriFault) → noted least (fs ++ gs) ≡ noted (noted least fs) gs
noted_append least [] gs = refl
noted_append least (f ∷ fs) gs = noted_append (earlier least f) fs gs

earlier_twice : (least : Option AriFault) (f g : AriFault) → earlier (earlier least f) g ≡ earlier least (lesser f g)
earlier_twice None f g = refl
earlier_twice (Some k) f g = ap Some (lesser_associative k f g)

noted_all : (ps : Faults) (least : Option AriFault) → noted least (ari_faults ps) ≡ earlier least (answered ari_fault lesser ps)
noted_all (a_fault f) least = refl
noted_all (both ps qs) least =
    noted_append least (ari_faults ps) (ari_faults qs) ∙ ap (λ l. noted l (ari_faults qs)) (noted_all ps least)
    ∙ noted_all qs (earlier least (answered ari_fault lesser ps)) ∙ earlier_twice least (answered ari_fault lesser ps) (answered ari_fault lesser qs)

unless_viewed : {X A : Type 0} (view : X → A) (read : Result X AriFault) (least : Option AriFault) → viewed view (unless_noted read least) ≡ unless_noted (viewed view read) least
unless_viewed view (Ok x) None = refl
unless_viewed view (Ok x) (Some f) = refl
unless_viewed view (Err g) None = refl
unless_viewed view (Err g) (Some f) = refl

answer_by : {A : Type 0} (r : Checked A) (least : Option AriFault) (f : AriFault) → unless_noted (judged ari_fault lesser r) least ≡ Err f → noted least (faults_in r) ≡ Some f
answer_by (Ok x) None f e = absurd cc
answer_by (Ok x) (Some g) f e = cc
answer_by (Err ps) None f e = noted_all ps None ∙ (let same : answered ari_fault lesser ps ≡ f = cc in ap Some same)
answer_by (Err ps) (Some g) f e = noted_all ps (Some g) ∙ (let same : lesser g (answered ari_fault lesser ps) ≡ f = cc in ap Some same)

-- the fault that is answered is the least of those that are known and those of what was read
pub answer_is : {X A : Type 0} (view : X → A) (read : Result X AriFault) (r : Checked A) (least : Option AriFault) (f : AriFault) → viewed view read ≡ judged ari_fault lesser r
    → unless_noted read least ≡ Err f → noted least (faults_in r) ≡ Some f
answer_is view read r least f e h = answer_by r least f (ap (λ x. unless_noted x least) (sym e) ∙ sym (unless_viewed view read least) ∙ ap (viewed view) h)

none_by : {A : Type 0} (r : Checked A) (least : Option AriFault) (x : A) → unless_noted (judged ari_fault lesser r) least ≡ Ok x → noted least (faults_in r) ≡ None
none_by (Ok y) None x e = refl
none_by (Ok y) (Some g) x e = absurd cc
none_by (Err ps) None x e = absurd cc
none_by (Err ps) (Some g) x e = absurd cc

-- a value is answered where there is no fault
pub no_answer : {X A : Type 0} (view : X → A) (read : Result X AriFault) (r : Checked A) (least : Option AriFault) (x : X) → viewed view read ≡ judged ari_fault lesser r
    → unless_noted read least ≡ Ok x → noted least (faults_in r) ≡ None
no_answer view read r least x e h = none_by r least (view x) (ap (λ y. unless_noted y least) (sym e) ∙ sym (unless_viewed view read least) ∙ ap (viewed view) h)

-- all faults of the items behind the format, one part after the other
pub noted_of : (items : Items) (symbols : List Declared) (l0 l1 l2 : Option AriFault) → symbols ≡ symbols_of [] items → l0 ≡ noted None (all_declaration_faults [] whole_room items)
    → l1 ≡ noted l0 (all_side_faults symbols items) → noted l1 (faults_in (rules_of symbols items)) ≡ l2 → noted None (faults_of items) ≡ l2
noted_of items symbols l0 l1 l2 s e f g =
    let all = symbols_of [] items in
    let D = all_declaration_faults [] whole_room items in
    let S = all_side_faults all items in
    noted_append None D (rule_faults all items) ∙ ap (λ l. noted l (rule_faults all items)) (sym e)
    ∙ noted_append l0 S (faults_in (rules_of all items))
    ∙ ap (λ ss. noted (noted l0 (all_side_faults ss items)) (faults_in (rules_of ss items))) (sym s)
    ∙ ap (λ l. noted l (faults_in (rules_of symbols items))) (sym f) ∙ g
