-- Why a text is refused.
use Rattle.std.proofs.Common.{◌≡◌, ◌≢◌, ℕ, List, Some, None}
use Rattle.sexp_core.specs.declared.fault.TextFault.{TextFault}
use Rattle.sexp_core.specs.declared.fault.TextFault.TheVariants as text
use Rattle.sexp_core.specs.Items.{Items}
use Rattle.sexp_core.specs.Reads.{Reads, Fails, fault_of}
use Rattle.ari_text.specs.declared.fault.AriFault.{AriFault}
use Rattle.ari_text.specs.declared.fault.AriFault.TheVariants as fault
use Rattle.ari_text.specs.FaultParts.{from_text}
use Rattle.ari_text.specs.Problem.{problem_fault, HasProblemFault, IsProblemRefused}
use Rattle.ari_text.proofs.ItemFaults.{of_problem}

-- a text that is not read
pub refused_text : (bytes : List ℕ) (f : TextFault) → Fails f (fault_of 300 bytes) → IsProblemRefused bytes (from_text f)
refused_text bytes (text.BadByte p) h = h
refused_text bytes (text.UnclosedAt p) h = h
refused_text bytes (text.ExtraClose p) h = h
refused_text bytes (text.TooDeep p) h = h
refused_text bytes text.OutOfMemory h = tt

has : (bytes : List ℕ) (items : Items) (f : AriFault) → Reads bytes items → fault_of 300 bytes ≡ None → problem_fault items ≡ Some f → HasProblemFault bytes f
has bytes items f r n e = record { items = items; reads = r; readable = n; fault = e }

-- a text whose items have a fault
pub refused_items : (bytes : List ℕ) (items : Items) (f : AriFault) → Reads bytes items → fault_of 300 bytes ≡ None
    → (f ≢ fault.OutOfMemory → problem_fault items ≡ Some f) → IsProblemRefused bytes f
refused_items bytes items (fault.Text g) r n h = absurd (of_problem items (fault.Text g) (h (λ k. cc)))
refused_items bytes items fault.NoFormat r n h = has bytes items fault.NoFormat r n (h (λ k. cc))
refused_items bytes items (fault.OtherFormat p) r n h = has bytes items (fault.OtherFormat p) r n (h (λ k. cc))
refused_items bytes items (fault.BadItem p) r n h = has bytes items (fault.BadItem p) r n (h (λ k. cc))
refused_items bytes items (fault.Twice p) r n h = has bytes items (fault.Twice p) r n (h (λ k. cc))
refused_items bytes items (fault.BadArity p) r n h = has bytes items (fault.BadArity p) r n (h (λ k. cc))
refused_items bytes items (fault.Unknown p) r n h = has bytes items (fault.Unknown p) r n (h (λ k. cc))
refused_items bytes items (fault.WrongArity p) r n h = has bytes items (fault.WrongArity p) r n (h (λ k. cc))
refused_items bytes items (fault.LeftIsVariable p) r n h = has bytes items (fault.LeftIsVariable p) r n (h (λ k. cc))
refused_items bytes items (fault.ExtraVariable p) r n h = has bytes items (fault.ExtraVariable p) r n (h (λ k. cc))
refused_items bytes items (fault.Attribute p) r n h = has bytes items (fault.Attribute p) r n (h (λ k. cc))
refused_items bytes items (fault.TooMany p) r n h = has bytes items (fault.TooMany p) r n (h (λ k. cc))
refused_items bytes items (fault.TooDeep p) r n h = has bytes items (fault.TooDeep p) r n (h (λ k. cc))
refused_items bytes items fault.OutOfMemory r n h = tt
