-- Document 02, No. 9, as statements over the definitions, with no proof among them: "For every list whose entities keep the rules, what it writes,
-- set within a configuration that keeps the remaining rules, is read back as the same list; and every accepted header and run can be had from the
-- writer, from the fields that the reader found, byte for byte."
--   EntitiesKeep ls     ==  the entities of the list keep the rules: the rows 8, 9, 17 and 10 to 13 of its descriptors (writing/specs/Writing)
--   EntitiesRefused ls n i  ==  the first of these rows that is not kept is number n, at index i
--   SetIn s ls cs      ==  the bytes s are what the writer writes of ls and cs, set within a frame that keeps the rules 1 to 7: 1 to 4; header and run
--                           stand 9 bytes behind the AudioControl interface; behind them the group's other descriptors, none of type 24, then the
--                           next group (6); the collection list is right (7)
--   Within s ls cs      ==  .. set within a configuration that keeps the remaining rules: besides, streaming and the number of controls, with the clusters
--                           that the entities give out (14, 15)
--   Fitting ls          ==  each entity of the list has a kind's fields and does not pass 255 bytes, so that the reader can be shown its descriptor
--   OfEntities n        ==  "8 to 13 and 17"
--   reader_place f n i   ==  where the reader gives the number n for the entity at index i: at the header for 8, else where its descriptor stands
--   AsReader f          ==  "8 to 13 and 17 as the reader would give them": what the rows give at an index, the reader gives of s at that place (given); and
--                           where it gives one of these numbers, so do the rows, at the index of that place (only)
--   list_read t          ==  the list that the reader finds in a configuration: of each descriptor of the run the entity with all its fields
--   collection_read t    ==  the collection list that it finds: the numbers of its header
--   ReadBack s ls cs    ==  s is a configuration, and whatever shows that it is one, what is read there are the list and the collection list
--   bytes_of_both t       ==  header and run of a configuration, as they stand
--   WrittenAgain s t    ==  these bytes stand in s where the header does, the writer writes them from the list and the collection list that were read, and refuses nothing
--                           where it has room
--   Had s t             ==  header and run can be had from the writer, out of the configuration s alone: there is a list of 32 places, as the writer takes it
--                           (places), whose first ones are each what is read of its descriptor, its parts moved to where that stands in s (each), which with s lent is the list
--                           that the reader found (found); from it, whatever buffer with room is lent, the writer writes header and run into the front,
--                           byte for byte, and refuses nothing (written)
--   OurBox              ==  the refusals are exactly the rules of the list, by the first row that is not kept, at its index (refused), and there is none where
--                           every row is kept (accepted); those of the entities are the reader's own (as_reader); a printed Selector of the list is one to the reader too, so that 17 is its row (withdrawn); a refusal leaves the buffer, and bytes past what is written stay (untouched, stays);
--                           there is one answer and one buffer afterwards (one_result); read-back, written_again, had
use Rattle.std.specs.Prelude.{ℕ, ◌+◌, ◌≤◌, ◌<◌, ◌≡◌, ◌⊎◌, ◌↔◌, length, get_or, take, drop, eqb}
use mathlib.Core.List.{List, [], ◌++◌, map, flatten, Memᴰ}
use Rattle.ground.specs.Numbers.{Bytes}
use Rattle.ground.specs.Refuse.{none}
use Rattle.ground.specs.Pick.{pick}
use Rattle.ground.specs.Lists.{total}
use Rattle.ground.specs.Rows.{end, AllKept, FirstBroken}
use Rattle.scan.specs.Cutting.{Cutting}
use Rattle.search.specs.Want.{Interface, Class}
use Rattle.layout.specs.declared.Cluster.{Cluster}
use Rattle.layout.specs.Layouts.{Pins}
use Rattle.layout.specs.Withdrawn.{Printed}
use Rattle.edition.specs.Audio.{audio}
use Rattle.entities.specs.Run.{most_entities}
use Rattle.collection.specs.Rule7.{Rule7}
use Rattle.groups.specs.Rules5and6.{listed_of, GroupEnds}
use Rattle.cutting.specs.Rules1to9.{Opened, header_place}
use Rattle.clusters.specs.Rule13.{GivenOut}
use Rattle.streaming.specs.Rule14.{Rule14}
use Rattle.controls.specs.Rule15.{Rule15}
use Rattle.reader.specs.Configuration.{run_of, place_of_run, Configuration}
use Rattle.fields.specs.declared.Item.{Item}
use Rattle.reader.specs.Refusals.{Refused}
use Rattle.fields.specs.Listed.{Listed, wrong, printed, written_as, blank_item, moved_by, fields_found, ReadAs}
use Rattle.writing.specs.declared.EntityList.{EntityList}
use Rattle.writing.specs.declared.Wrote.{Wrote}
use Rattle.writing.specs.Writing.{list_of, descriptors_of, header_with, written_of, TooLong, entity_rows, writer_rows, writer_verdict, Writes}

abbrev pub EntitiesKeep : List Listed → Type 0
EntitiesKeep ls = AllKept (entity_rows (descriptors_of ls) end)

abbrev pub EntitiesRefused : List Listed → ℕ → ℕ → Type 0
EntitiesRefused ls n i = FirstBroken (entity_rows (descriptors_of ls) end) n i

pub record SetIn (s : List ℕ) (ls : List Listed) (cs : List ℕ) : Type 0 where
  pub before : List ℕ
  pub behind : List ℕ
  pub whole : s ≡ before ++ (written_of ls cs ++ behind)
  pub opened : Opened s
  pub place : length before ≡ header_place opened
  pub later : List (List ℕ)
  pub after : List (List ℕ)
  pub cut : Cutting behind (later ++ after)
  pub no_class : (d : List ℕ) → Memᴰ d later → Class d → ⊥
  pub in_group : (d : List ℕ) → Memᴰ d later → Interface d → ⊥
  pub ends : GroupEnds after
  pub rule7 : Rule7 opened.descriptors cs

pub record Within (s : List ℕ) (ls : List Listed) (cs : List ℕ) : Type 0 where
  pub frame : SetIn s ls cs
  pub rule14 : (cluster : ℕ → Cluster) → GivenOut audio (descriptors_of ls) cluster → Rule14 (descriptors_of ls) cluster frame.opened.descriptors
  pub rule15 : (cluster : ℕ → Cluster) → GivenOut audio (descriptors_of ls) cluster → Rule15 (descriptors_of ls) cluster

abbrev pub Fitting : List Listed → Type 0
Fitting ls = (l : Listed) → Memᴰ l ls → (l ≡ wrong → ⊥) × (TooLong (written_as l) → ⊥)

abbrev pub OfEntities : ℕ → Type 0
OfEntities n = ((8 ≤ n) × (n ≤ 13)) ⊎ (n ≡ 17)

module _ {s : List ℕ} {ls : List Listed} {cs : List ℕ} (f : SetIn s ls cs) where
  abbrev pub reader_place : ℕ → ℕ → ℕ
  reader_place n i =
      pick (eqb n 8) (header_place f.opened) (header_place f.opened + length (header_with cs (length (flatten (descriptors_of ls)))) + total (take i (descriptors_of ls)))

  pub record AsReader : Type 0 where
    pub given : (room n i : ℕ) → EntitiesRefused ls n i → Refused s room n (reader_place n i)
    pub only : (room n p : ℕ) → OfEntities n → Refused s room n p → (i : ℕ) × EntitiesRefused ls n i × (p ≡ reader_place n i)

module _ {s : List ℕ} (t : Configuration s) where
  abbrev pub list_read : List Listed
  list_read = map fields_found (run_of t.kept)

  abbrev pub collection_read : List ℕ
  collection_read = listed_of t.kept.rule5.header

  abbrev pub bytes_of_both : List ℕ
  bytes_of_both = t.kept.rule5.header ++ flatten (run_of t.kept)

pub record ReadBack (s : List ℕ) (ls : List Listed) (cs : List ℕ) : Type 0 where
  pub accepted : Configuration s
  pub same_list : (t : Configuration s) → list_read t ≡ ls
  pub same_collection : (t : Configuration s) → collection_read t ≡ cs

pub record WrittenAgain (s : List ℕ) (t : Configuration s) : Type 0 where
  pub stands : take (length (bytes_of_both t)) (drop (header_place t.kept.opened) s) ≡ bytes_of_both t
  pub same : written_of (list_read t) (collection_read t) ≡ bytes_of_both t
  pub accepted : (m : ℕ) → length (bytes_of_both t) ≤ m → writer_verdict (list_read t) (collection_read t) m ≡ none

pub record Had (s : List ℕ) (t : Configuration s) : Type 0 where
  pub list : EntityList
  pub places : length list.items ≡ most_entities
  pub each : (i : ℕ) → i < length (run_of t.kept)
      → (r : Item) × ReadAs (get_or (run_of t.kept) i []) r × (get_or list.items i blank_item ≡ moved_by (place_of_run t.kept + total (take i (run_of t.kept))) r)
  pub found : list_of s list ≡ list_read t
  pub written : (before after : List ℕ) (r : Wrote) → length (bytes_of_both t) ≤ length before → Writes (list_of s list) (collection_read t) before after r
      → (r.number ≡ 0) × (after ≡ bytes_of_both t ++ drop (length (bytes_of_both t)) before)

pub record OurBox : Type 0 where
  pub refused : (ls : List Listed) (cs : List ℕ) (m n p : ℕ) → (n ≡ 0 → ⊥)
      → (writer_verdict ls cs m ≡ record { number = n; place = p }) ↔ FirstBroken (writer_rows ls cs m) n p
  pub accepted : (ls : List Listed) (cs : List ℕ) (m : ℕ) → ((writer_verdict ls cs m).number ≡ 0) ↔ AllKept (writer_rows ls cs m)
  pub as_reader : (s : List ℕ) (ls : List Listed) (cs : List ℕ) (f : SetIn s ls cs) → Fitting ls → AsReader f
  pub withdrawn : (i n : ℕ) (s : List ℕ) → Pins (length s) → Printed (written_as (printed i s n))
  pub untouched : (ls : List Listed) (cs before after : List ℕ) (r : Wrote) → Writes ls cs before after r → (r.number ≡ 0 → ⊥) → (after ≡ before) × (r.written ≡ 0)
  pub stays : (ls : List Listed) (cs before after : List ℕ) (r : Wrote) → Writes ls cs before after r → r.number ≡ 0
      → (take r.written after ≡ written_of ls cs) × (drop r.written after ≡ drop r.written before)
  pub one_result : (ls : List Listed) (cs before a b : List ℕ) (r q : Wrote) → Writes ls cs before a r → Writes ls cs before b q → (r ≡ q) × (a ≡ b)
  pub read_back : (s : List ℕ) (ls : List Listed) (cs : List ℕ) → EntitiesKeep ls → Within s ls cs → ReadBack s ls cs
  pub written_again : (s : List ℕ) (t : Configuration s) → Bytes s → WrittenAgain s t
  pub had : (s : List ℕ) (t : Configuration s) → Bytes s → Had s t
