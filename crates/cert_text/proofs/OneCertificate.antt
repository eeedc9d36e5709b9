-- A certificate text has one reading: at most one proof or fault.
use Rattle.std.proofs.Common.{◌≡◌, ◌≢◌, ◌⊎◌, inl, inr, ℕ, List, refl, sym, ap, ◌∙◌}
use Rattle.names_text.specs.Named.{NamedSystem}
use Rattle.sexp_core.proofs.Viewing.{text_read_once}
use Rattle.cert_text.specs.declared.fault.CertFault.{CertFault}
use Rattle.cert_text.specs.declared.fault.CertFault.TheVariants.{Text, Version, OutOfMemory}
use Rattle.cert_text.specs.ProofText.{ProofText}
use Rattle.cert_text.specs.Unreadable.{from_text}
use Rattle.cert_text.specs.CertificateText.{SaysCertificate, HasCertificateFault, IsUnreadable, IsCertificateRefused}

pub one_certificate : (named : NamedSystem) (text : List ℕ) (s t : ProofText) → SaysCertificate named text s → SaysCertificate named text t → s ≡ t
one_certificate named text s t h k =
    let same : h.items ≡ k.items = text_read_once text h.items k.items h.reads k.reads in
    let first = h.read in let second = k.read in cc

-- the cause of a fault that is not want of memory
abbrev Cause : NamedSystem → List ℕ → CertFault → Type 0
Cause named text f = ((p : ℕ) × (f ≡ Text p) × IsUnreadable text p) ⊎ HasCertificateFault named text f

memory_or_cause : (named : NamedSystem) (text : List ℕ) (f : CertFault) → IsCertificateRefused named text f → (f ≡ OutOfMemory) ⊎ Cause named text f
memory_or_cause named text (Text p) (inl h) = inr (inl (p, refl, h))
memory_or_cause named text (Text p) (inr h) = inr (inr h)
memory_or_cause named text (Version n) h = inr (inr h)
memory_or_cause named text OutOfMemory h = inl refl

no_cause : (named : NamedSystem) (text : List ℕ) (s : ProofText) (f : CertFault) → SaysCertificate named text s → Cause named text f → ⊥
no_cause named text s f h (inl k) = let none = h.readable in let some = k.2.fault in cc
no_cause named text s f h (inr k) =
    let same : h.items ≡ k.items = text_read_once text h.items k.items h.reads k.reads in
    let read = h.read in let fault = k.read in cc

-- a text that says a proof is refused for want of memory alone
pub no_refusal : (named : NamedSystem) (text : List ℕ) (s : ProofText) (f : CertFault) → SaysCertificate named text s → IsCertificateRefused named text f → f ≡ OutOfMemory
no_refusal named text s f h k = elim (memory_or_cause named text f k) as (λ _. f ≡ OutOfMemory) [
  | inl memory ↦ memory
  | inr c ↦ absurd (no_cause named text s f h c)
]

same_cause : (named : NamedSystem) (text : List ℕ) (f g : CertFault) → Cause named text f → Cause named text g → f ≡ g
same_cause named text f g (inl h) (inl k) =
    let first = h.2.fault in let second = k.2.fault in
    let same : h.2.cause ≡ k.2.cause = cc in
    h.1 ∙ sym h.2.place ∙ ap from_text same ∙ k.2.place ∙ sym k.1
same_cause named text f g (inl h) (inr k) = let some = h.2.fault in let none = k.readable in absurd cc
same_cause named text f g (inr h) (inl k) = let none = h.readable in let some = k.2.fault in absurd cc
same_cause named text f g (inr h) (inr k) =
    let same : h.items ≡ k.items = text_read_once text h.items k.items h.reads k.reads in
    let first = h.read in let second = k.read in cc

-- want of memory aside, a text is refused for one fault at most
pub one_refusal : (named : NamedSystem) (text : List ℕ) (f g : CertFault) → IsCertificateRefused named text f → IsCertificateRefused named text g → f ≢ OutOfMemory → g ≢ OutOfMemory → f ≡ g
one_refusal named text f g h k n m = elim (memory_or_cause named text f h) as (λ _. f ≡ g) [
  | inl memory ↦ absurd (n memory)
  | inr c ↦ elim (memory_or_cause named text g k) as (λ _. f ≡ g) [
    | inl memory ↦ absurd (m memory)
    | inr d ↦ same_cause named text f g c d
  ]
]
