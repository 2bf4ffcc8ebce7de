use Prim.Native.Nat.{ℕ, ◌+◌, ◌*◌, ◌≤◌, ◌<◌}
use mathlib.Core.Path.{◌≡◌, refl, ap, ◌∙◌}
use mathlib.Core.List.{List, ◌++◌}
use native.Mathlib.Omega.{arith}
use native.Mathlib.Numerals.{add-one}
use lib.ListN.{length, get_or, replicate, length-replicate}
use Rattle.ground.specs.Lists.{part}
use Rattle.scan.specs.Cutting.{end_at}
use Rattle.layout.specs.declared.Cluster.{Cluster}
use Rattle.layout.specs.Layout.{no_cluster, entity_of}
use Rattle.entities.specs.declared.Node.{Node}
use Rattle.entities.specs.declared.Run.{Run}
use Rattle.entities.specs.Run.{most_entities, blank_node, held}
use Rattle.table.specs.declared.Table.{Table}
use Rattle.table.specs.Controls.{most_controls, blank_control}
use Rattle.controls.specs.Controls.{entity_controls, controls_to, controls_of_run}
use Rattle.controls.specs.Growth.{grown, table_of, table_empty, table_grown}
use Rattle.controls.specs.Told.{table_by, table_from, Come, Room, room_more, room_grown, notes_empty, notes_front}
use Rattle.controls.proofs.read_controls.Given as goal

module _ (s : List ℕ) (run : Run) (cs : List Cluster) where
  pub record Listed (t : Table) (n i : ℕ) : Type 0 where
    pub low : i ≤ n
    pub told : n ≡ held run
    pub few : n ≤ most_entities
    pub same : t ≡ table_of (controls_to i s run cs)
    pub room : Room t (1 + 2560 * i)

  pub start : (n : ℕ) → n ≡ held run → Listed (table_by (replicate most_controls 0) 0) n 0
  unfolding controls_to
  start n e = record {
    low = omega arith;
    told = e;
    few = omega arith;
    same = notes_empty ∙ table_empty;
    room = rw notes_empty (record { places = length-replicate most_controls blank_control; few = omega arith });
  }

  module _ (l : List ℕ) (m n i : ℕ) (g : Listed (table_by l m) n i) where
    pub below : i < n → i < most_entities
    below h = let f = g.few in omega arith

    pub room_next : Room (table_by l m) 900000
    room_next = let f = g.few in let b = g.low in room_more (table_by l m) (1 + 2560 * i) 900000 g.room (omega arith)

    pub on : (node : Node) → node ≡ get_or run.nodes i blank_node → (cluster : Cluster) → cluster ≡ get_or cs i no_cluster → (d : List ℕ) → d ≡ part s node.place (end_at s node.place)
        → (x : List ℕ) (y : ℕ) → i < n → Come l m (entity_controls (entity_of d) d cluster.channels) 2560 x y → Listed (table_by x y) n (i + 1)
    unfolding controls_to
    on node a cluster b d p x y h k =
        let e : d ≡ part s (get_or run.nodes i blank_node).place (end_at s (get_or run.nodes i blank_node).place) = p ∙ ap (λ (w : Node). part s w.place (end_at s w.place)) a in
        let f : Come l m (entity_controls (entity_of d) d (get_or cs i no_cluster).channels) 2560 x y = rw b at k in
        let z : 1 + 2560 * i + 2560 ≡ 1 + 2560 * (i + 1) = omega arith in
        record {
          low = omega arith;
          told = g.told;
          few = g.few;
          same =
              f.same
              ∙ ap (λ (x : Table). grown x (entity_controls (entity_of d) d (get_or cs i no_cluster).channels)) g.same
              ∙ table_grown (controls_to i s run cs) (entity_controls (entity_of d) d (get_or cs i no_cluster).channels)
              ∙ ap (λ (x : List ℕ). table_of (controls_to i s run cs ++ entity_controls (entity_of x) x (get_or cs i no_cluster).channels)) e
              ∙ rw add-one refl;
          room = rw (f.same, ← z) (room_grown (table_by l m) (entity_controls (entity_of d) d (get_or cs i no_cluster).channels) (1 + 2560 * i) 2560 g.room f.few);
        }

  pub over : (l : List ℕ) (m n i : ℕ) → Listed (table_by l m) n i → n ≤ i → (r : Table) → r ≡ table_from l m → r ≡ table_of (controls_of_run s run cs)
  unfolding controls_of_run
  over l m n i g h r e =
      let b = g.low in
      let f = g.told in
      let z : i ≡ held run = omega arith in
      e ∙ notes_front l m (controls_to i s run cs) g.same ∙ ap (λ (j : ℕ). table_of (controls_to j s run cs)) z

abbrev pub invariant-loop-node : goal.invariant-loop-node
invariant-loop-node l = Listed l.config l.fn.run l.fn.clusters (table_by l.notes.notes l.notes.count) l.n (length l.yielded)
