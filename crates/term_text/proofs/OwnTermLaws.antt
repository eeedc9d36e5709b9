-- A term of a certificate that is read is well-formed, and one that is printed is read again.
use Rattle.std.proofs.Common.{◌≡◌, ℕ, List, nat_le, Bool, true, false, cond, [], length, min, Ok, Err, IsTrue, refl, sym, ap, ◌∙◌, arith}
use Rattle.std.proofs.lemmas.Bool.{and_from, le-leb}
use Rattle.sexp_core.specs.Items.{Item}
use Rattle.sexp_core.specs.Printed.{bare}
use Rattle.trs_defs.specs.Tree.{Tree, Trees, var, app, nil, cons, count}
use Rattle.trs_defs.specs.WellFormed.{IsWellFormed, AreWellFormed}
use Rattle.trs_core.specs.declared.terms.Term.{Term}
use Rattle.trs_core.specs.View.{tree}
use Rattle.text_reading.specs.Seen.{seen}
use Rattle.std.specs.Result.{result_ok}
use Rattle.std.specs.Prelude.{IfSome}
use Rattle.trs_defs.specs.Size.{size_of, depth_of, within_limits}
use Rattle.text_reading.specs.Reading.{Read, place_of}
use Rattle.text_reading.proofs.Made.{Makes}
use Rattle.text_reading.proofs.Again.{Spells}
use Rattle.names_text.specs.Named.{NamedSystem, IsNamed, table_of}
use Rattle.names_text.specs.VariableNames.{underscores}
use Rattle.names_text.proofs.SymbolPairs.{arity_kept}
use Rattle.names_text.specs.Symbols.{paired, arities_of}
use Rattle.term_text.specs.Checked.{Checked, judged}
use Rattle.term_text.specs.Refusals.{refused_at}
use Rattle.term_text.specs.Terms.{term}
use Rattle.term_text.specs.Limits as text
use Rattle.term_text.specs.Limits.{nodes_of, keeps_limits}
use Rattle.term_text.specs.PrintedTerm.{term_item}
use Rattle.term_text.specs.Renumbered.{in_order}
use Rattle.term_text.specs.OwnTerms.{own_term, own_term_item, IsTermOf}
use Rattle.term_text.proofs.Numbering.{next_numbered}
use Rattle.term_text.proofs.ReadTerms.{term_read}
use Rattle.term_text.proofs.PlacelessTerms.{term_placeless}
use Rattle.term_text.proofs.PrintedTerms.{FitNames, term_again, term_words, term_nesting}
use Rattle.term_text.proofs.RenumberedTerms.{IsOwn, own}

-- ---- what is read

read_same : (x y : Tree) → (let r : Read Tree = Ok x in r ≡ Ok y) → x ≡ y
read_same x y e = cc

judged_ok : (r : Checked Tree) (t : Tree) → judged refused_at min r ≡ Ok t → r ≡ Ok t
judged_ok (Ok u) t e = ap Ok (read_same u t e)
judged_ok (Err ps) t e = absurd cc

-- a term within the limits, as it is read
record IsWithin (b : Bool) (r : Checked Tree) (t : Tree) : Type 0 where
  within : b ≡ true
  read : r ≡ Ok t

is_within : (b : Bool) (r : Checked Tree) (at : ℕ) (t : Tree) → (let s : Read Tree = cond b (judged refused_at min r) (Err at) in s ≡ Ok t) → IsWithin b r t
is_within true r at t e = record { within = refl; read = judged_ok r t e }
is_within false r at t e = absurd cc

same_limits : (x : Item) (t : Tree) → size_of t ≡ nodes_of x → depth_of t ≡ text.depth_of x → within_limits t ≡ keeps_limits x
same_limits x t e f = rw (e, f) refl

mutual
  all_arities : (ns : List (List ℕ)) (as' : List ℕ) (t : Tree) → IsWellFormed (arities_of (paired ns as')) t → IsWellFormed as' t
  all_arities ns as' (var n) wf = tt
  all_arities ns as' (app f ts) wf = (arity_kept ns as' f (count ts) wf.0, all_arities_of ns as' ts wf.1)

  all_arities_of : (ns : List (List ℕ)) (as' : List ℕ) (ts : Trees) → AreWellFormed (arities_of (paired ns as')) ts → AreWellFormed as' ts
  all_arities_of ns as' nil wf = tt
  all_arities_of ns as' (cons t ts) wf = (all_arities ns as' t wf.0, all_arities_of ns as' ts wf.1)

pub own_term_made : (named : NamedSystem) → Makes (own_term named) (IsTermOf named.system)
own_term_made named x t e =
    let i = is_within (keeps_limits x) (term true (table_of named) [] x) (place_of x) t e in
    let r = term_read (table_of named) true [] x t i.read in
    (all_arities named.names named.system.arities t r.well_formed, same_limits x t r.size r.deep ∙ i.within)

-- the same, where there are as many names as arities
pub makes_own_term : (named : NamedSystem) → length named.names ≡ length named.system.arities → Makes (own_term named) (IsTermOf named.system)
makes_own_term named counts = own_term_made named

-- of the term that was read, if any
pub written_well_formed : (named : NamedSystem) (x : Item) (r : Read Term) → seen tree r ≡ own_term named x → IfSome (result_ok r) (λ t. IsWellFormed named.system.arities (tree t))
written_well_formed named x (Ok t) e = (own_term_made named x (tree t) (sym e)).0
written_well_formed named x (Err p) e = tt

pub written_within : (named : NamedSystem) (x : Item) (r : Read Term) → seen tree r ≡ own_term named x → IfSome (result_ok r) (λ t. IsTrue (within_limits (tree t)))
written_within named x (Ok t) e = (own_term_made named x (tree t) (sym e)).1
written_within named x (Err p) e = tt

-- ---- what is printed

pub fit_names : (named : NamedSystem) → IsNamed named → FitNames (underscores named.names) named.names named.system.arities
fit_names named is = record { counts = is.counts; words = is.words; distinct = is.distinct; more = omega arith }

read_again : (named : NamedSystem) → IsNamed named → (t : Tree) (y : Item) → IsOwn named.system.arities t → bare y ≡ term_item (underscores named.names) named.names t → own_term named y ≡ Ok t
read_again named is t y o e =
    let k = underscores named.names in
    let again = term_again k named.names named.system.arities (fit_names named is) true t y 0 o.number o.well_formed o.small (next_numbered 0 t o.number o.next) e in
    let r = term_read (table_of named) true [] y t again.read in
    let within : keeps_limits y ≡ true =
    sym (same_limits y t r.size r.deep) ∙ and_from (nat_le (size_of t) 65536) (nat_le (depth_of t) 1024) (le-leb (size_of t) 65536 o.size) (le-leb (depth_of t) 1024 o.depth) in
    rw (within, again.read) refl

pub spells_own_term : (named : NamedSystem) → IsNamed named → (t : Tree) → IsTermOf named.system t → Spells (own_term named) 1023 (own_term_item named t) (in_order t)
spells_own_term named is t made =
    let k = underscores named.names in
    let fit = fit_names named is in
    let o = own named.system.arities t made.0 made.1 in
    let bare_is = term_placeless k named.names (in_order t) in
    record {
      again = λ y e. read_again named is (in_order t) y o (e ∙ bare_is);
      words = term_words k named.names named.system.arities fit (in_order t) o.well_formed o.small;
      deep = omega (arith, o.depth, term_nesting k named.names named.system.arities fit (in_order t));
    }
