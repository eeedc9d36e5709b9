-- Steps of reading rules.
use Rattle.std.proofs.Common.{◌≡◌, ℕ, List, [], ◌∷◌, ◌++◌, Option, Some, None, Result, Ok, Err, Vec, Global, Bor, refl, sym, ap, ◌∙◌}
use Rattle.std.proofs.Common.{append_assoc}
use Rattle.sexp_core.specs.Items.{Item}
use Rattle.trs_defs.specs.System.{RewriteRule}
use Rattle.names_text.specs.Symbols.{Declared}
use Rattle.term_text.specs.declared.fault.TermFault.{TermFault}
use Rattle.term_text.specs.Checked.{Checked, ◌<*>◌, judged}
use Rattle.term_text.specs.Viewed.{viewed, both_viewed}
use Rattle.ari_text.specs.Entries.{Saying, rewrites, says_nothing, entry_of}
use Rattle.ari_text.specs.EntryView.{with_attribute, saying_view}
use Rattle.ari_text.specs.declared.entry.Saying as code
use Rattle.ari_text.specs.declared.entry.Saying.TheVariants as said
use Rattle.sexp_core.specs.declared.sexp.Sexp.{Sexp}
use Rattle.ari_text.specs.Rules.{rule, with_rule}

-- an attribute does not change the rule
pub rule_aside : (symbols : List Declared) (s : Saying) (attribute : Option ℕ) (rules : Checked (List RewriteRule)) → with_rule symbols (with_attribute s attribute) rules ≡ with_rule symbols s rules
rule_aside symbols s None rules = refl
rule_aside symbols s (Some at) rules = refl

-- what an item says, if it is a rule, and if it is not
pub rule_said : (symbols : List Declared) (x : Item) (left right : Item) (attribute : Option ℕ) (rules : Checked (List RewriteRule)) → with_attribute (rewrites left right) attribute ≡ entry_of x
    → with_rule symbols (entry_of x) rules ≡ Ok (λ r rs. r ∷ rs) <*> rule symbols left right <*> rules
rule_said symbols x left right attribute rules e = ap (λ s. with_rule symbols s rules) (sym e) ∙ rule_aside symbols (rewrites left right) attribute rules

pub no_rule_said : (symbols : List Declared) (x : Item) (s : code.Saying) (attribute : Option ℕ) (rules : Checked (List RewriteRule)) → with_attribute (saying_view s) attribute ≡ entry_of x
    → ((left right : Bor Sexp) → s ≡ said.Rewrites left right → ⊥) → with_rule symbols (entry_of x) rules ≡ rules
no_rule_said symbols x (said.Rewrites left right) attribute rules e h = absurd (h left right refl)
no_rule_said symbols x (said.Declares name q arity r) attribute rules e h =
    ap (λ s. with_rule symbols s rules) (sym e) ∙ rule_aside symbols (saying_view (said.Declares name q arity r)) attribute rules
no_rule_said symbols x said.Nothing attribute rules e h = ap (λ s. with_rule symbols s rules) (sym e) ∙ rule_aside symbols says_nothing attribute rules

module _ {X F : Type 0} (one_of : TermFault → F) (both_of : F → F → F) where
  -- values and then further values
  abbrev pub together : Result (List X) F → Result (List X) F → Result (List X) F
  together (Ok xs) (Ok ys) = Ok (xs ++ ys)
  together (Ok xs) (Err q) = Err q
  together (Err p) (Ok ys) = Err p
  together (Err p) (Err q) = Err (both_of p q)

  one_pushed : (r : Result (Vec X Global) F) (s : Result X F) (t : Checked X) (rest : Checked (List X)) → ((p q r : F) → both_of (both_of p q) r ≡ both_of p (both_of q r))
      → s ≡ judged one_of both_of t → together (viewed (λ p. p.0.items ++ p.1 ∷ []) (both_viewed both_of r s)) (judged one_of both_of rest)
      ≡ together (viewed (λ v. v.items) r) (judged one_of both_of (Ok (λ y ys. y ∷ ys) <*> t <*> rest))
  one_pushed r s (Ok x) (Ok ys) assoc e = rw e (one_ok r x ys)
    where
      one_ok : (r : Result (Vec X Global) F) (x : X) (ys : List X) → together (viewed (λ p. p.0.items ++ p.1 ∷ []) (both_viewed both_of r (Ok x))) (Ok ys) ≡ together (viewed (λ v. v.items) r) (Ok (x ∷ ys))
      one_ok (Ok v) x ys = ap Ok (append_assoc v.items (x ∷ []) ys)
      one_ok (Err p) x ys = refl
  one_pushed (Ok v) s (Ok x) (Err q) assoc e = rw e refl
  one_pushed (Err p) s (Ok x) (Err q) assoc e = rw e refl
  one_pushed (Ok v) s (Err q) (Ok ys) assoc e = rw e refl
  one_pushed (Err p) s (Err q) (Ok ys) assoc e = rw e refl
  one_pushed (Ok v) s (Err q) (Err r) assoc e = rw e refl
  one_pushed (Err p) s (Err q) (Err r) assoc e = rw e (ap Err (assoc p _ _))

  -- one more value, and those behind it
  pub one_more_value : (r all : Result (Vec X Global) F) (s : Result X F) (t : Checked X) (rest : Checked (List X)) → ((p q r : F) → both_of (both_of p q) r ≡ both_of p (both_of q r))
      → s ≡ judged one_of both_of t → viewed (λ v. v.items) all ≡ viewed (λ p. p.0.items ++ p.1 ∷ []) (both_viewed both_of r s)
      → together (viewed (λ v. v.items) all) (judged one_of both_of rest)
      ≡ together (viewed (λ v. v.items) r) (judged one_of both_of (Ok (λ y ys. y ∷ ys) <*> t <*> rest))
  one_more_value r all s t rest assoc e f = ap (λ xs. together xs (judged one_of both_of rest)) f ∙ one_pushed r s t rest assoc e
