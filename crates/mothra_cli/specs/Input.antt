-- What is read from a reader. A reader is given by the bytes that it has left, or None where these
-- are not known.
use Rattle.std.specs.Prelude.{◌≡◌, ◌≤◌, ◌<◌, ℕ, List, length, Option, Some, None, ⊤}
use Rattle.std.specs.Io.KnownBytes.{Consumes, IsAtEnd}

-- the most bytes that are read: one more than a job may have
abbrev pub limit : ℕ
limit = 1048577

-- the reader gave these bytes: all that it had, or the first `most`
abbrev pub ReadsUpTo : ℕ → Option (List ℕ) → Option (List ℕ) → List ℕ → Type 0
ReadsUpTo most old new bytes =
    Consumes old new bytes × (length bytes ≤ most) × (length bytes < most → IsAtEnd new)

-- the reader was read to its end, or to this limit
abbrev pub IsRead : ℕ → Option (List ℕ) → Option (List ℕ) → Type 0
IsRead most old new = (bytes : List ℕ) × ReadsUpTo most old new bytes

-- at most `most` bytes were taken from the front of the reader
abbrev pub TakesAtMost : ℕ → Option (List ℕ) → Option (List ℕ) → Type 0
TakesAtMost most old new = (bytes : List ℕ) × (length bytes ≤ most) × Consumes old new bytes

-- the bytes are all that the reader has, where these are known
abbrev pub AreAll : Option (List ℕ) → List ℕ → Type 0
AreAll None bytes = ⊤
AreAll (Some left) bytes = bytes ≡ left
