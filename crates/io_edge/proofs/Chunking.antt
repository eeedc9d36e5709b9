-- A text that is read chunk by chunk.
use Rattle.std.proofs.Common.{◌≡◌, ◌≤◌, ◌+◌, ◌*◌, ◌⊎◌, ℕ, inl, inr, arith}
use Rattle.io_edge.specs.Chunks.{IsChunkMore}

-- so far whole chunks were read, or all up to one byte past the limit
abbrev pub IsReadSoFar : ℕ → ℕ → Type 0
IsReadSoFar limit n = ((chunks : ℕ) × (n ≡ chunks * 4096)) ⊎ (n ≡ limit + 1)

pub one_chunk_more : (limit before now : ℕ) → IsReadSoFar limit before → before ≤ limit → IsChunkMore limit before now → IsReadSoFar limit now
one_chunk_more limit before now (inl (chunks, is)) short (inl more) = inl (chunks + 1, omega (arith, is, more))
one_chunk_more limit before now (inl h) short (inr all) = inr all
one_chunk_more limit before now (inr past) short more = absurd (omega (arith, past, short))
