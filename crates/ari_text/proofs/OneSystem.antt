-- A text has one reading: at most one system or fault.
use Rattle.std.proofs.Common.{◌≡◌, ◌≢◌, ◌⊎◌, inl, inr, ℕ, List, Some, Ok, refl, sym, ap, ◌∙◌}
use Rattle.sexp_core.specs.Reads.{fault_of}
use Rattle.sexp_core.specs.declared.fault.TextFault.{TextFault}
use Rattle.sexp_core.proofs.Viewing.{text_read_once}
use Rattle.ari_text.specs.declared.fault.AriFault.{AriFault}
use Rattle.ari_text.specs.declared.fault.AriFault.TheVariants as fault
use Rattle.term_text.specs.Checked.{Checked}
use Rattle.term_text.proofs.CheckedParts.{ok_same}
use Rattle.names_text.specs.Named.{NamedSystem}
use Rattle.ari_text.specs.Problem.{later_items, system_of, SaysSystem, HasProblemFault, IsProblemRefused}

read_once : (r q : Checked NamedSystem) (s t : NamedSystem) → r ≡ Ok s → q ≡ Ok t → r ≡ q → s ≡ t
read_once r q s t e f h = ok_same s t (sym e ∙ h ∙ f)

pub one_system : (text : List ℕ) (s t : NamedSystem) → SaysSystem text s → SaysSystem text t → s ≡ t
one_system text s t h k =
    let same : h.items ≡ k.items = text_read_once text h.items k.items h.reads k.reads in
    read_once (system_of (later_items h.items)) (system_of (later_items k.items)) s t h.system k.system (ap (λ items. system_of (later_items items)) same)

-- the cause of a fault that is not want of memory
abbrev Cause : List ℕ → AriFault → Type 0
Cause text f = ((g : TextFault) × (f ≡ fault.Text g) × (fault_of 300 text ≡ Some g)) ⊎ HasProblemFault text f

memory_or_cause : (text : List ℕ) (f : AriFault) → IsProblemRefused text f → (f ≡ fault.OutOfMemory) ⊎ Cause text f
memory_or_cause text (fault.Text g) h = inr (inl (g, refl, h))
memory_or_cause text fault.NoFormat h = inr (inr h)
memory_or_cause text (fault.OtherFormat p) h = inr (inr h)
memory_or_cause text (fault.BadItem p) h = inr (inr h)
memory_or_cause text (fault.Twice p) h = inr (inr h)
memory_or_cause text (fault.BadArity p) h = inr (inr h)
memory_or_cause text (fault.Unknown p) h = inr (inr h)
memory_or_cause text (fault.WrongArity p) h = inr (inr h)
memory_or_cause text (fault.LeftIsVariable p) h = inr (inr h)
memory_or_cause text (fault.ExtraVariable p) h = inr (inr h)
memory_or_cause text (fault.Attribute p) h = inr (inr h)
memory_or_cause text (fault.TooMany p) h = inr (inr h)
memory_or_cause text (fault.TooDeep p) h = inr (inr h)
memory_or_cause text fault.OutOfMemory h = inl refl

no_cause : (text : List ℕ) (s : NamedSystem) (f : AriFault) → SaysSystem text s → Cause text f → ⊥
no_cause text s f h (inl k) = let none = h.readable in let some = k.2 in cc
no_cause text s f h (inr k) =
    let same : h.items ≡ k.items = text_read_once text h.items k.items h.reads k.reads in
    let none = h.faultless in let some = k.fault in cc

-- a text that says a system is refused for want of memory alone
pub no_refusal : (text : List ℕ) (s : NamedSystem) (f : AriFault) → SaysSystem text s → IsProblemRefused text f → f ≡ fault.OutOfMemory
no_refusal text s f h k = elim (memory_or_cause text f k) as (λ _. f ≡ fault.OutOfMemory) [
  | inl memory ↦ memory
  | inr c ↦ absurd (no_cause text s f h c)
]

same_cause : (text : List ℕ) (f g : AriFault) → Cause text f → Cause text g → f ≡ g
same_cause text f g (inl h) (inl k) = let a = h.1 in let b = k.1 in let c = h.2 in let d = k.2 in cc
same_cause text f g (inl h) (inr k) = let some = h.2 in let none = k.readable in absurd cc
same_cause text f g (inr h) (inl k) = let none = h.readable in let some = k.2 in absurd cc
same_cause text f g (inr h) (inr k) =
    let same : h.items ≡ k.items = text_read_once text h.items k.items h.reads k.reads in
    let a = h.fault in let b = k.fault in cc

-- want of memory aside, a text is refused for one fault at most
pub one_refusal : (text : List ℕ) (f g : AriFault) → IsProblemRefused text f → IsProblemRefused text g → f ≢ fault.OutOfMemory → g ≢ fault.OutOfMemory → f ≡ g
one_refusal text f g h k n m = elim (memory_or_cause text f h) as (λ _. f ≡ g) [
  | inl memory ↦ absurd (n memory)
  | inr c ↦ elim (memory_or_cause text g k) as (λ _. f ≡ g) [
    | inl memory ↦ absurd (m memory)
    | inr d ↦ same_cause text f g c d
  ]
]
