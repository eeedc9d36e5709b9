-- The steps of a certificate that is read are well-made, can be printed, and are read as they are where they are printed.
use Rattle.std.proofs.Common.{◌≡◌, ℕ, ◌==◌, Bool, true, false, cond, List, [], ◌∷◌, length, map, codes, Some, None, Result, Ok, Err, IfOk, refl, ap, ap₂, subst, ◌∙◌}
use Rattle.std.specs.List.{All, AllByRecursion}
use Rattle.std.proofs.lemmas.List.Elements.{All-from_recursion}
use Rattle.sexp_core.specs.Items.{Items, no_items, item}
use Rattle.trs_defs.specs.System.{System}
use Rattle.names_text.specs.Named.{NamedSystem, IsNamed}
use Rattle.step_text.specs.cert_step.ProofStep.{ProofNodeStep, IsWellMade}
use Rattle.step_text.specs.cert_step.declared.claim.Claim.{Claim}
use Rattle.text_reading.specs.Reading.{Read, ◌<*>◌}
use Rattle.text_reading.proofs.Made.{applied, ok_same}
use Rattle.text_reading.proofs.Tables.{all_append}
use Rattle.path_text.specs.declared.sharing.Shared.{Shared}
use Rattle.path_text.specs.Sharing.{Definition, Sharing, nothing_defined, with_definition}
use Rattle.path_text.specs.Paths.{◌then_read◌, begins_with, in_turn}
use Rattle.path_text.specs.Defining.{define}
use Rattle.path_text.specs.Ranges.{IsPlacedInRange, AreDefinedInRange}
use Rattle.path_text.proofs.PathMade.{then_ok, made_in_turn}
use Rattle.path_text.proofs.DefineLaws.{define_made}
use Rattle.step_text.specs.Ranges.{IsWellMadeInRange, IsReadStep, IsPrintable}
use Rattle.step_text.specs.Steps.{step, paths_of_step, step_renumbered}
use Rattle.step_text.proofs.StepLaws.{step_made}
use Rattle.cert_text.specs.declared.fault.CertFault.{CertFault}
use Rattle.cert_text.specs.declared.fault.CertFault.TheVariants.{Version}
use Rattle.cert_text.specs.ProofText.{ProofText, proof_text_of}
use Rattle.cert_text.specs.declared.certificate.Certificate.{Certificate}
use Rattle.cert_text.specs.Answers.{Answers}
use Rattle.cert_text.specs.Renumbered.{renumbered}
use Rattle.cert_text.specs.declared.head.Head.{Head}
use Rattle.cert_text.specs.Head.{headline, head}
use Rattle.cert_text.specs.CertificateText.{◌>>=◌, says_of, steps_alone, steps_behind, body, behind_head, behind_headline, certificate, SaysCertificate}

abbrev AreMade : NamedSystem → ProofText → Type 0
AreMade named says = AllByRecursion (IsReadStep named.system) says.steps

read_first : {A : Type 0} (r : Read A) (behind : A → Result ProofText CertFault) (says : ProofText) → r >>= behind ≡ Ok says → (x : A) × (r ≡ Ok x) × (behind x ≡ Ok says)
read_first (Ok x) behind says e = (x, refl, e)
read_first (Err p) behind says e = absurd cc

module _ (named : NamedSystem) (is : IsNamed named) (says : ProofText) where
  abbrev Made : List ProofNodeStep → Type 0
  Made steps = AllByRecursion (IsReadStep named.system) steps

  in_turn_made : (sharing : Sharing) → AreDefinedInRange sharing → (xs : Items) (vs : List ProofNodeStep) → in_turn (step named) paths_of_step sharing xs ≡ Ok vs → Made vs
  in_turn_made sharing defined xs vs e = made_in_turn (step named) paths_of_step (IsReadStep named.system) (λ s h. step_made named is s h) sharing defined xs vs e

  behind_made : (shared : Shared) → AreDefinedInRange (Some shared) → (xs : Items) (vs : List ProofNodeStep) → steps_behind named shared xs ≡ Ok vs → Made vs
  behind_made shared defined no_items vs e = subst Made (ok_same [] vs e) tt
  behind_made shared defined (item x xs) vs e =
      by_test (begins_with (codes "define") x) e
      (λ d in_range behind. behind_made (with_definition shared d) (all_append (λ (c : Definition). AllByRecursion IsPlacedInRange c.1) shared.definitions (d ∷ []) defined (in_range, tt)) xs vs behind)
    where
      by_test : (b : Bool) → cond b (define shared x then_read (λ d. steps_behind named (with_definition shared d) xs)) (in_turn (step named) paths_of_step (Some shared) (item x xs)) ≡ Ok vs
          → ((d : Definition) → AllByRecursion IsPlacedInRange d.1 → steps_behind named (with_definition shared d) xs ≡ Ok vs → Made vs) → Made vs
      by_test false e again = in_turn_made (Some shared) defined (item x xs) vs e
      by_test true e again =
          let (d, read, behind) = then_ok (define shared x) (λ d. steps_behind named (with_definition shared d) xs) vs e in
          again d (define_made shared defined x d read) behind

  body_made : (version : ℕ) (positive : Bool) (claim : Read Claim) (r : Read (List ProofNodeStep)) → ((vs : List ProofNodeStep) → r ≡ Ok vs → Made vs) → body version positive claim r ≡ Ok says → AreMade named says
  body_made version positive claim r made e =
      let (read, is_read, is) = read_first (Ok (says_of version positive) <*> claim <*> r) (λ s. Ok s) says e in
      let b = applied (Ok (says_of version positive) <*> claim) r read is_read in
      let a = applied (Ok (says_of version positive)) claim b.make b.is_make in
      let make : says_of version positive ≡ a.make = ok_same (says_of version positive) a.make a.is_make in
      let same : says_of version positive a.value b.value ≡ read =
      ap (λ (f : Claim → List ProofNodeStep → ProofText). f a.value b.value) make ∙ ap (λ (f : List ProofNodeStep → ProofText). f b.value) a.made ∙ b.made in
      let is_says : read ≡ says = cc in
      subst Made (ap (λ (t : ProofText). t.steps) (same ∙ is_says)) (made b.value b.is_value)

  version_made : (is_one is_two positive : Bool) (h : Head) (items : Items)
      → cond is_one (body 1 positive h.claim (steps_alone named items)) (cond is_two (body 2 positive h.claim (steps_behind named nothing_defined items)) (Err (Version h.version))) ≡ Ok says → AreMade named says
  version_made true is_two positive h items e = body_made 1 positive h.claim (steps_alone named items) (λ vs is. in_turn_made None tt items vs is) e
  version_made false true positive h items e = body_made 2 positive h.claim (steps_behind named nothing_defined items) (λ vs is. behind_made nothing_defined tt items vs is) e
  version_made false false positive h items e = absurd cc

  headline_made : (size : ℕ) (positive : Bool) (xs : Items) → behind_headline named size positive xs ≡ Ok says → AreMade named says
  headline_made size positive no_items e = absurd cc
  headline_made size positive (item x xs) e =
      let (h, is, behind) = read_first (head x) (λ h. behind_head named positive h xs) says e in
      version_made (h.version == 1) (h.version == 2) positive h xs behind

  certificate_made : (size : ℕ) (xs : Items) → certificate named size xs ≡ Ok says → AreMade named says
  certificate_made size no_items e = absurd cc
  certificate_made size (item x xs) e =
      let (positive, is, behind) = read_first (headline x) (λ b. behind_headline named size b xs) says e in
      headline_made size positive xs behind

well_made_only : (system : System) (steps : List ProofNodeStep) → AllByRecursion (IsReadStep system) steps → AllByRecursion (λ s. IsWellMade system s.step) steps
well_made_only system [] h = tt
well_made_only system (s ∷ steps) h = (h.0.made.well_made, well_made_only system steps h.1)

printable_only : (system : System) (steps : List ProofNodeStep) → AllByRecursion (IsReadStep system) steps → AllByRecursion (IsPrintable system) steps
printable_only system [] h = tt
printable_only system (s ∷ steps) h = ((h.0.made.well_made, h.0.made.node), printable_only system steps h.1)

in_range_only : (system : System) (steps : List ProofNodeStep) → AllByRecursion (IsReadStep system) steps → AllByRecursion (IsWellMadeInRange system) steps
in_range_only system [] h = tt
in_range_only system (s ∷ steps) h = (h.0.made, in_range_only system steps h.1)

same_renumbered : (system : System) (steps : List ProofNodeStep) → AllByRecursion (IsReadStep system) steps → map step_renumbered steps ≡ steps
same_renumbered system [] h = refl
same_renumbered system (s ∷ steps) h = ap₂ (λ t ts. t ∷ ts) h.0.in_order (same_renumbered system steps h.1)

pub well_made_steps : (named : NamedSystem) (text : List ℕ) (says : ProofText) → IsNamed named → SaysCertificate named text says
    → All (λ s. IsWellMade named.system s.step) says.steps
well_made_steps named text says is h =
    All-from_recursion (λ s. IsWellMade named.system s.step) says.steps
    (well_made_only named.system says.steps (certificate_made named is says (length text) h.items h.read))

pub printable_steps : (named : NamedSystem) (text : List ℕ) (says : ProofText) → IsNamed named → SaysCertificate named text says
    → All (IsPrintable named.system) says.steps
printable_steps named text says is h =
    All-from_recursion (IsPrintable named.system) says.steps
    (printable_only named.system says.steps (certificate_made named is says (length text) h.items h.read))

pub steps_in_range : (named : NamedSystem) (text : List ℕ) (says : ProofText) → IsNamed named → SaysCertificate named text says
    → AllByRecursion (IsWellMadeInRange named.system) says.steps
steps_in_range named text says is h = in_range_only named.system says.steps (certificate_made named is says (length text) h.items h.read)

-- the variables of their terms are numbered in the order of their first occurrences
pub steps_in_order : (named : NamedSystem) (text : List ℕ) (says : ProofText) → IsNamed named → SaysCertificate named text says
    → map step_renumbered says.steps ≡ says.steps
steps_in_order named text says is h = same_renumbered named.system says.steps (certificate_made named is says (length text) h.items h.read)

-- ---- answers of the code

pub well_made_answer : (named : NamedSystem) (size : ℕ) (xs : Items) (r : Result Certificate CertFault) → IsNamed named → Answers r (certificate named size xs)
    → IfOk r (λ c. All (λ s. IsWellMade named.system s.step) (proof_text_of c).steps)
well_made_answer named size xs (Ok c) is e =
    let steps = (proof_text_of c).steps in
    All-from_recursion (λ s. IsWellMade named.system s.step) steps (well_made_only named.system steps (certificate_made named is (proof_text_of c) size xs e))
well_made_answer named size xs (Err f) is e = tt

pub printable_answer : (named : NamedSystem) (size : ℕ) (xs : Items) (r : Result Certificate CertFault) → IsNamed named → Answers r (certificate named size xs)
    → IfOk r (λ c. All (IsPrintable named.system) (proof_text_of c).steps)
printable_answer named size xs (Ok c) is e =
    let steps = (proof_text_of c).steps in
    All-from_recursion (IsPrintable named.system) steps (printable_only named.system steps (certificate_made named is (proof_text_of c) size xs e))
printable_answer named size xs (Err f) is e = tt

pub in_order_answer : (named : NamedSystem) (size : ℕ) (xs : Items) (r : Result Certificate CertFault) → IsNamed named → Answers r (certificate named size xs)
    → IfOk r (λ c. renumbered c.version (proof_text_of c) ≡ proof_text_of c)
in_order_answer named size xs (Ok c) is e =
    let says = proof_text_of c in
    ap (says_of c.version c.headline c.claim) (same_renumbered named.system says.steps (certificate_made named is says size xs e))
in_order_answer named size xs (Err f) is e = tt
