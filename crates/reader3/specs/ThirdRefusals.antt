-- The table of refusals of the 3.0 edition, row by row: number, rule, place. Document 02, No. 12: "51 .., after 8, with the place in that buffer; 52 at the
-- first entity whose cluster ID is unknown, between 12 and 13"; 7, 14, 15 and 17 are not applied.
--   link_rows p ds ks behind  ==  the rows 10 to 13 of the run's descriptors ds from place p on, where ks are the cluster descriptors
--   third_room_rows k room     ==  the row 16; kept_third_rows k room: the rows behind 9
--   third_rows o b behind  ==  the rows 5, 6, 8, 51 and 9, and behind them what may speak of them kept
--   third_table s b room ==  THE TABLE: all its rows, for a sheet of room bytes
--   RefusedThird s b room n p  ==  number n at place p: every rule before n is kept, n is not, and p is its place
--   ShownThird s b room ==  the bytes are a configuration and a cluster buffer of the edition, and its records have room
use Rattle.std.specs.Prelude.{ℕ, ◌+◌, List, length}
use Rattle.ground.specs.First.{Breaks}
use Rattle.ground.specs.Rows.{Rows, end, row, FirstBroken}
use Rattle.buffer.specs.Clusters.{Buffer, Broken51}
use Rattle.edition3.specs.Third.{third, UnknownCluster, Rule52}
use Rattle.groups.specs.Rules5and6.{Rule5By, Rule6By}
use Rattle.groups.specs.Third.{third_form}
use Rattle.cutting.specs.Rules1to9.{Rule8, Rule9, Opened, header_place, BrokenAt, opening_rows}
use Rattle.ids.specs.Rule10.{WrongId, Rule10}
use Rattle.links3.specs.Rules.{WrongLinks, Rule11Third}
use Rattle.ranks.specs.Rule12.{Endless, Rule12}
use Rattle.clusters.specs.Rule13.{Broken, Rule13}
use Rattle.records.specs.Sheet.{Rule16}
use Rattle.reader3.specs.ThirdConfiguration.{KeptThird, run_in3, place_in3, clusters_in, ThirdConfiguration}

module _ (p : ℕ) (ds ks : List (List ℕ)) where
  abbrev pub link_rows : (Rule10 ds → Rule11Third ks ds → Rule12 (third ks) ds → Rule52 ks ds → Rule13 (third ks) ds → Rows) → Rows
  link_rows behind =
      row 10 (Rule10 ds) (Breaks WrongId p ds) (λ a.
      row 11 (Rule11Third ks ds) (Breaks (λ x d. WrongLinks ks ds d) p ds) (λ b.
      row 12 (Rule12 (third ks) ds) (Breaks (λ x d. Endless (third ks) ds d) p ds) (λ c.
      row 52 (Rule52 ks ds) (Breaks (λ x d. UnknownCluster ks d) p ds) (λ u.
      row 13 (Rule13 (third ks) ds) (Breaks (λ x d. Broken (third ks) ds d) p ds) (λ e. behind a b c u e)))))

abbrev pub third_room_rows : {s b : List ℕ} → KeptThird s b → ℕ → Rows
third_room_rows k room = row 16 (Rule16 (run_in3 k) room) (BrokenAt (header_place k.opened) (Rule16 (run_in3 k) room)) (λ c. end)

abbrev pub kept_third_rows : {s b : List ℕ} → KeptThird s b → ℕ → Rows
kept_third_rows k room = link_rows (place_in3 k) (run_in3 k) (clusters_in k) (λ a b c u e. third_room_rows k room)

abbrev pub third_rows : {s : List ℕ} → Opened s → (b : List ℕ) → (KeptThird s b → Rows) → Rows
third_rows o b behind =
    row 5 (Rule5By third_form o.tail) (BrokenAt (header_place o) (Rule5By third_form o.tail)) (λ h.
    row 6 (Rule6By third_form h.header h.others) (BrokenAt (header_place o) (Rule6By third_form h.header h.others)) (λ t.
    row 8 (Rule8 t.run) (BrokenAt (header_place o) (Rule8 t.run)) (λ m.
    row 51 (Buffer b) (Broken51 b) (λ c.
    row 9 (Rule9 (third c.pieces) t.run) (Breaks (λ x d. (third c.pieces).LaidOut d → ⊥) (header_place o + length h.header) t.run) (λ l.
    behind (record { opened = o; rule5 = h; rule6 = t; rule8 = m; rule51 = c; rule9 = l }))))))

abbrev pub third_table : List ℕ → List ℕ → ℕ → Rows
third_table s b room = opening_rows s (λ o. third_rows o b (λ k. kept_third_rows k room))

abbrev pub RefusedThird : List ℕ → List ℕ → ℕ → ℕ → ℕ → Type 0
RefusedThird s b room n p = FirstBroken (third_table s b room) n p

abbrev pub ShownThird : List ℕ → List ℕ → ℕ → Type 0
ShownThird s b room = (t : ThirdConfiguration s b) × Rule16 (run_in3 t.kept) room
