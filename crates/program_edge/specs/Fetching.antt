-- Texts that are fetched, and what is said of one that is not.
use Rattle.std.specs.Prelude.{◌≡◌, ℕ, List}
use Rattle.io_edge.specs.declared.fault.FetchFault.{FetchFault}
use Rattle.io_edge.specs.declared.fault.FetchFault.TheVariants as fetch
use Rattle.program_edge.specs.declared.fetching.Unfetched.{Unfetched}
use Rattle.program_edge.specs.declared.fetching.Unfetched.TheVariants as no
use Rattle.program_edge.specs.declared.status.Status.{Status}
use Rattle.program_edge.specs.declared.status.Status.TheVariants as status
use Rattle.program_edge.specs.Lines.{read_fault_line, too_long_line}

-- the most bytes of a problem text
abbrev pub most_problem_bytes : ℕ
most_problem_bytes = 1048576

abbrev pub unfetched_status : Unfetched → Status
unfetched_status (no.ReadFault name) = status.ReadFault
unfetched_status (no.TooLong name) = status.TooLong

abbrev pub unfetched_line : Unfetched → List ℕ
unfetched_line (no.ReadFault name) = read_fault_line name.now
unfetched_line (no.TooLong name) = too_long_line name.now

-- the status and the line where the text under a name was not fetched
abbrev pub IsUnfetched : FetchFault → List ℕ → Status → List ℕ → Type 0
IsUnfetched fetch.TooLong name s line = (s ≡ status.TooLong) × (line ≡ too_long_line name)
IsUnfetched fetch.Failed name s line = (s ≡ status.ReadFault) × (line ≡ read_fault_line name)
IsUnfetched fetch.OutOfMemory name s line = ⊥
