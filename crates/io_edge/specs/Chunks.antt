-- Texts that are read in chunks of 4,096 bytes.
use Rattle.std.specs.Prelude.{◌≡◌, ◌≤◌, ◌⊎◌, ℕ, ◌+◌, ◌*◌}
use Rattle.io_edge.specs.Edge.{count_after}
use Rattle.io_edge.specs.Telling.{Telling, CanGive}

-- a whole chunk was read, or all up to one byte past the limit
abbrev pub IsChunkMore : ℕ → ℕ → ℕ → Type 0
IsChunkMore limit before now = (now ≡ before + 4096) ⊎ (now ≡ limit + 1)

-- so many bytes are a number of chunks, within the limit
abbrev pub AreChunks : ℕ → ℕ → Type 0
AreChunks limit bytes = (chunks : ℕ) × (bytes ≡ chunks * 4096) × (bytes ≤ limit)

-- so many bytes were counted as read: none, or a number of chunks within the limit that may be there
abbrev pub CountsChunks : ℕ → Telling → ℕ → ℕ → Type 0
CountsChunks limit telling before now =
    (now ≡ before) ⊎ ((bytes : ℕ) × AreChunks limit bytes × CanGive bytes telling × (now ≡ count_after bytes before))
