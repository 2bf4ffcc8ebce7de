-- "Given the left sheet's records and, for each line, the right one's record, the right sheet's set of records can be built again" (document
-- 02, No. 4), up to a Selector's kind, 05 or 15 hex (No. 6).
--   Handed          ==  a line with the right one's record; a line for an ID that stands on the left only has none
--   handed r ls     ==  the lines ls, each with the record of its ID in r
--   OwnRecord r     ==  the record of an ID in r is the one that bears it, and there is none exactly where no record does, whatever finds it
--   touched hs a    ==  the test that one of the lines bears the ID of the record a
--   untouched rs hs ==  those of the records rs whose ID no line bears
--   if_any x        ==  the record x, if there is one
--   brought hs      ==  the records that were handed over with the lines
--   rebuilt rs hs   ==  the right sheet's records, from the left sheet's records rs and the lines hs: what no line names stays, and what was
--                       handed over comes in
--   Rebuilt l r     ==  for the sheets l and r it has exactly the records of r, but for that byte
use Rattle.std.specs.Prelude.{ℕ, ◌≡◌, Bool, ◌↔◌, List, [], ◌∷◌, ◌++◌, map, eqb}
use Rattle.std.proofs.Math.Option.{Option, none, some}
use Rattle.ground.specs.Pick.{pick}
use Rattle.ground.specs.Lists.{any}
use Rattle.graph.specs.Members.{◌∈◌}
use Rattle.legal.specs.Sheet.{records_in, id_of}
use Rattle.differences.specs.Mended.{mended}
use Rattle.differences.specs.Lines.{Line, line_id, record_bearing, lines_of}

pub record Handed : Type 0 where
  pub line : Line
  pub after : Option (List ℕ)

abbrev pub handed : List ℕ → List Line → List Handed
handed r ls = map (λ x. record { line = x; after = record_bearing r (line_id x) }) ls

abbrev pub OwnRecord : List ℕ → Type 0
OwnRecord r = (i : ℕ) (b : List ℕ) → (record_bearing r i ≡ some b) ↔ (b ∈ records_in r × (id_of b ≡ i))

abbrev pub touched : List Handed → List ℕ → Bool
touched hs a = any (λ h. eqb (line_id h.line) (id_of a)) hs

unfoldable pub untouched : List (List ℕ) → List Handed → List (List ℕ)
untouched [] hs = []
untouched (a ∷ rs) hs = pick (touched hs a) (untouched rs hs) (a ∷ untouched rs hs)

abbrev pub if_any : Option (List ℕ) → List (List ℕ)
if_any none = []
if_any (some b) = b ∷ []

unfoldable pub brought : List Handed → List (List ℕ)
brought [] = []
brought (h ∷ hs) = if_any h.after ++ brought hs

unfoldable pub rebuilt : List (List ℕ) → List Handed → List (List ℕ)
rebuilt rs hs = untouched rs hs ++ brought hs

abbrev pub Rebuilt : List ℕ → List ℕ → Type 0
Rebuilt l r = (a : List ℕ) → a ∈ map mended (rebuilt (records_in l) (handed r (lines_of l r))) ↔ a ∈ map mended (records_in r)
