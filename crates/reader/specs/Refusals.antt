-- The papers' table of refusals of a configuration (document 01; row 17 is document 02's, No. 6), row by row: number, rule, place.
--   run_rows k cluster room  ==  the rows 14 to 16, with the clusters on IDs and a sheet of room bytes
--   kept_rows k room         ==  the rows 10 to 16 of a configuration that keeps the rules 1 to 9
--   table_of_rows s room      ==  THE TABLE: all seventeen rows, 17 between 9 and 10
--   Refused s room n p      ==  number n at place p: every rule before n is kept, n is not, and p is its place
--   Shown s room            ==  the bytes s are a configuration, and its records have room
use Rattle.std.specs.Prelude.{ℕ, List}
use Rattle.ground.specs.Rows.{Rows, end, row, FirstBroken}
use Rattle.layout.specs.declared.Cluster.{Cluster}
use Rattle.cutting.specs.Rules1to9.{header_place, Kept, BrokenAt, cutting_rows}
use Rattle.connections.specs.JudgementLaws.{connected_rows}
use Rattle.streaming.specs.Rule14.{Breaks14}
use Rattle.records.specs.Sheet.{Rule16}
use Rattle.reader.specs.Configuration.{run_of, place_of_run, Streams, FewControls, Configuration}

module _ {s : List ℕ} (k : Kept s) where
  abbrev pub run_rows : (ℕ → Cluster) → ℕ → Rows
  run_rows cluster room =
      row 14 (Streams k cluster) (Breaks14 (run_of k) cluster k.opened.descriptors) (λ a.
      row 15 (FewControls k cluster) (BrokenAt (header_place k.opened) (FewControls k cluster)) (λ b.
      row 16 (Rule16 (run_of k) room) (BrokenAt (header_place k.opened) (Rule16 (run_of k) room)) (λ c. end)))

  abbrev pub kept_rows : ℕ → Rows
  kept_rows room = connected_rows (place_of_run k) (run_of k) (λ a b c e. run_rows e.0 room)

abbrev pub table_of_rows : List ℕ → ℕ → Rows
table_of_rows s room = cutting_rows s (λ k. kept_rows k room)

abbrev pub Refused : List ℕ → ℕ → ℕ → ℕ → Type 0
Refused s room n p = FirstBroken (table_of_rows s room) n p

abbrev pub Shown : List ℕ → ℕ → Type 0
Shown s room = (t : Configuration s) × Rule16 (run_of t.kept) room
