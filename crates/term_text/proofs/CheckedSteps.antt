-- Steps of reading terms.
use Rattle.std.proofs.Common.{◌≡◌, ℕ, zero, suc, ◌==◌, Bool, cond, List, [], ◌∷◌, ◌++◌, length, Option, Some, None, Result, Ok, Err, refl, sym, ap, ◌∙◌}
use Rattle.std.specs.Prelude.{slice_get}
use Rattle.std.proofs.Math.Dec.{eqb-zero-suc, eqb-suc-suc}
use Rattle.sexp_core.specs.declared.sexp.Sexp.{Sexp}
use Rattle.sexp_core.specs.Items.{view, views}
use Rattle.trs_defs.specs.Tree.{Tree, Trees, nil, cons}
use Rattle.trs_core.specs.declared.terms.Term.{Term}
use Rattle.trs_core.specs.View.{tree, forest}
use Rattle.text_reading.specs.Reading.{place_of}
use Rattle.term_text.specs.declared.fault.TermFault.{TermFault}
use Rattle.term_text.specs.declared.fault.TermFault.TheVariants.{ArgumentLacks, ArgumentExtra}
use Rattle.term_text.specs.Checked.{Checked, a_fault, ◌<*>◌, judged}
use Rattle.term_text.specs.Viewed.{viewed, unless_refused, read_behind}
use Rattle.term_text.specs.Terms.{taking}
use Rattle.term_text.proofs.BuiltTerms.{behind, behind_none, behind_one, forest_push}

-- ---- the number of arguments

-- by the first argument that is too many, if any, and whether there are as many as are wanted
abbrev pub by_extra : ℕ → ℕ → Bool → Option Sexp → Checked ℕ
by_extra symbol at right (Some x) = Err (a_fault (ArgumentExtra at (place_of (view x))))
by_extra symbol at right None = cond right (Ok symbol) (Err (a_fault (ArgumentLacks at)))

pub taking_by_extra : (symbol at n : ℕ) (xs : List Sexp) → taking symbol at n (views xs) ≡ by_extra symbol at (length xs == n) (slice_get xs n)
taking_by_extra symbol at zero [] = refl
taking_by_extra symbol at zero (x ∷ xs) = refl
taking_by_extra symbol at (suc n) [] = rw (eqb-zero-suc n) refl
taking_by_extra symbol at (suc n) (x ∷ xs) = rw (eqb-suc-suc (length xs) n) (taking_by_extra symbol at n xs)

-- ---- what was read, and what is refused of it

viewed_unless : {X A F : Type 0} (view : X → A) (refused : Option F) (x : X) → viewed view (unless_refused refused x) ≡ unless_refused refused (view x)
viewed_unless view None x = refl
viewed_unless view (Some p) x = refl

-- ---- terms one by one

module _ {F : Type 0} (one_of : TermFault → F) (both_of : F → F → F) where
  -- terms and then further terms
  abbrev pub together : Result Trees F → Result Trees F → Result Trees F
  together (Ok ts) (Ok us) = Ok (behind ts us)
  together (Ok ts) (Err q) = Err q
  together (Err p) (Ok us) = Err p
  together (Err p) (Err q) = Err (both_of p q)

  abbrev one_before : Result Tree F → Result Trees F → Result Trees F
  one_before (Ok t) (Ok ts) = Ok (cons t ts)
  one_before (Ok t) (Err q) = Err q
  one_before (Err p) (Ok ts) = Err p
  one_before (Err p) (Err q) = Err (both_of p q)

  judged_cons : (r : Checked Tree) (s : Checked Trees) → judged one_of both_of (Ok (λ t ts. cons t ts) <*> r <*> s) ≡ one_before (judged one_of both_of r) (judged one_of both_of s)
  judged_cons (Ok t) (Ok ts) = refl
  judged_cons (Ok t) (Err q) = refl
  judged_cons (Err p) (Ok ts) = refl
  judged_cons (Err p) (Err q) = refl

  together_one : (before : Option F) (ts : Trees) (s : Result Tree F) (rest : Result Trees F) → ((p q r : F) → both_of (both_of p q) r ≡ both_of p (both_of q r))
      → together (viewed (λ t. behind ts (cons t nil)) (read_behind both_of before s)) rest ≡ together (unless_refused before ts) (one_before s rest)
  together_one None ts (Ok t) (Ok us) assoc = ap Ok (behind_one ts t us)
  together_one None ts (Ok t) (Err q) assoc = refl
  together_one None ts (Err p) (Ok us) assoc = refl
  together_one None ts (Err p) (Err q) assoc = refl
  together_one (Some b) ts (Ok t) (Ok us) assoc = refl
  together_one (Some b) ts (Ok t) (Err q) assoc = refl
  together_one (Some b) ts (Err p) (Ok us) assoc = refl
  together_one (Some b) ts (Err p) (Err q) assoc = ap Err (assoc b p q)

  -- one more term, and those behind it
  pub one_more_term : (before now : Option F) (ts all : List Term) (t : Term) (r : Checked Tree) (rest : Checked Trees) → ((p q r : F) → both_of (both_of p q) r ≡ both_of p (both_of q r))
      → unless_refused now (tree t) ≡ read_behind both_of before (judged one_of both_of r) → all ≡ ts ++ t ∷ []
      → together (unless_refused now (forest all)) (judged one_of both_of rest)
      ≡ together (unless_refused before (forest ts)) (judged one_of both_of (Ok (λ x xs. cons x xs) <*> r <*> rest))
  one_more_term before now ts all t r rest assoc e f =
      let right = judged one_of both_of rest in
      let pushed : Tree → Trees = λ x. behind (forest ts) (cons x nil) in
      ap (λ x. together (unless_refused now x) right) (ap forest f ∙ forest_push ts t)
      ∙ ap (λ x. together x right) (sym (viewed_unless pushed now (tree t)))
      ∙ ap (λ x. together (viewed pushed x) right) e
      ∙ together_one before (forest ts) (judged one_of both_of r) right assoc
      ∙ ap (together (unless_refused before (forest ts))) (sym (judged_cons r rest))

  -- no further term
  pub no_more_terms : (r : Result Trees F) → together r (Ok nil) ≡ r
  no_more_terms (Ok ts) = ap Ok (behind_none ts)
  no_more_terms (Err p) = refl
