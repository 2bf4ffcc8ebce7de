-- The rules 1 and 2 of a configuration as document 01 writes them: statements over the bytes s. Nothing of what the reader computes stands
-- here.
--   most_bytes  ==  the most bytes that a configuration may have: 4,096
--   Rule1 s    ==  L is 9 to 4,096
--   Rule2 s    ==  the bytes open with 09 02, and bytes 2..3 are L
use Rattle.std.specs.Prelude.{ℕ, ◌≤◌, ◌≡◌, List, length}
use Rattle.ground.specs.Numbers.{byte, word}

abbrev pub most_bytes : ℕ
most_bytes = 4096

abbrev pub Rule1 : List ℕ → Type 0
Rule1 s = (9 ≤ length s) × (length s ≤ most_bytes)

abbrev pub Rule2 : List ℕ → Type 0
Rule2 s = (byte s 0 ≡ 9) × ((byte s 1 ≡ 2) × (word s 2 ≡ length s))
