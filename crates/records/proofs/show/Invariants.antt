use Prim.Native.Nat.{ℕ, suc, ◌+◌, ◌-◌, ◌*◌, ◌≤◌, ◌<◌}
use mathlib.Core.Path.{◌≡◌, refl, sym, ap, ◌∙◌}
use mathlib.Core.Bool.{Bool, true, false, not}
use mathlib.Core.List.{List, ◌++◌}
use native.Mathlib.Omega.{arith}
use native.Mathlib.Numerals.{add-one}
use lib.ListN.{length, get_or, take, drop, length-append, length-drop}
use lib.Seq.{paste, take_at, take_all, drop_at, drop-drop}
use mir.Val.{Fits}
use mir.Syntax.{w64}
use borrow.Rule.Slice.PartMut.{put_mid}
use borrow.Author.Tests.{not-true, not-false, leb-true, le-leb}
use Rattle.std.proofs.lemmas.Slice.{put_mid-paste}
use Rattle.ground.specs.Pick.{yes, no}
use Rattle.layout.specs.declared.Cluster.{Cluster}
use Rattle.layout.specs.Layout.{no_cluster}
use Rattle.entities.specs.declared.Run.{Run}
use Rattle.entities.specs.Run.{most_entities, blank_node, held, node_at}
use Rattle.records.specs.Records.{record_size, record_of, records_to, room_for, shown_in, record_length, records_length}
use Rattle.records.proofs.show.Given as goal

-- a record put behind the bytes p
pub grown : (p d b : List ℕ) (at n : ℕ) → length p ≡ at → length b ≡ n → paste (p ++ drop at d) at b n ≡ p ++ b ++ drop (at + n) d
grown p d b at n l m =
    ap (λ (x : List ℕ). x ++ take n b ++ drop (at + n) (p ++ drop at d)) (take_at p (drop at d) at l)
    ∙ ap (λ (x : List ℕ). p ++ x ++ drop (at + n) (p ++ drop at d)) (take_all n b (omega arith))
    ∙ ap (λ (x : List ℕ). p ++ b ++ x) (sym (drop-drop n at (p ++ drop at d)) ∙ ap (drop n) (drop_at p (drop at d) at l) ∙ drop-drop n at d)

module _ (s : List ℕ) (run : Run) (cs : List Cluster) (d : List ℕ) where
  pub record Shown (t : List ℕ) (n i : ℕ) : Type 0 where
    pub low : i ≤ n
    pub told : n ≡ held run
    pub few : n ≤ most_entities
    pub room : n * record_size ≤ length d
    pub same : t ≡ records_to i s run cs ++ drop (i * record_size) d

  module _ (r : Bool) (e : r ≡ room_for run (length d)) where
    pub no_room : not r ≡ true → d ≡ shown_in s run cs d
    unfolding shown_in
    no_room h = sym (no _ _ (sym e ∙ not-true r h))

    pub start : not r ≡ false → (n : ℕ) → n ≡ held run → Shown d n 0
    unfolding records_to room_for
    start h n f =
        let room : held run * record_size ≤ length d = leb-true _ _ (sym e ∙ not-false r h) in
        record { low = omega arith; told = f; few = omega arith; room = omega arith; same = refl }

  module _ (t : List ℕ) (n i : ℕ) (g : Shown t n i) where
    pub long : length t ≡ length d
    long =
        let l = g.low in
        let r = g.room in
        let k = records_length i s run cs in
        let m : length (drop (i * record_size) d) ≡ length d - i * record_size = length-drop (i * record_size) d in
        ap length g.same ∙ length-append (records_to i s run cs) (drop (i * record_size) d) ∙ omega arith

    pub next_room : i < n → i * record_size + record_size ≤ length t
    next_room h = let l = long in let r = g.room in omega arith

    pub below : i < n → i < most_entities
    below h = let f = g.few in omega arith

    pub place_fits : i < n → Fits w64 (i * record_size)
    place_fits h = let f = g.few in record { fits = omega arith }

    -- past the array's end the model reads zeros, as a spare place is
    pub on : (v : List ℕ) → i < n
        → v ≡ record_of s (get_or run.nodes i (record { place = 0; first = 0; pins = 0; id = 0; kind = 0; feeds = false })) (get_or cs i no_cluster)
        → Shown (put_mid (i * record_size) (i * record_size + record_size - i * record_size) t v) n (i + 1)
    unfolding records_to blank_node
    on v h f =
        let k : record_size ≡ i * record_size + record_size - i * record_size = omega arith in
        let y : i * record_size + record_size ≡ suc i * record_size = omega arith in
        record {
          low = omega arith;
          told = g.told;
          few = g.few;
          room = g.room;
          same =
              put_mid-paste (i * record_size) (i * record_size + record_size - i * record_size) t v (record_of s (node_at run i) (get_or cs i no_cluster)) record_size f k (sym (record_length s (node_at run i) (get_or cs i no_cluster)))
              ∙ ap (λ (x : List ℕ). paste x (i * record_size) (record_of s (node_at run i) (get_or cs i no_cluster)) record_size) g.same
              ∙ grown (records_to i s run cs) d (record_of s (node_at run i) (get_or cs i no_cluster)) (i * record_size) record_size (records_length i s run cs) (record_length s (node_at run i) (get_or cs i no_cluster))
              ∙ rw add-one (ap (λ (j : ℕ). records_to i s run cs ++ record_of s (node_at run i) (get_or cs i no_cluster) ++ drop j d) y);
        }

    pub over : n ≤ i → t ≡ shown_in s run cs d
    unfolding shown_in room_for
    over h =
        let l = g.low in
        let f = g.told in
        let r = g.room in
        let z : i ≡ held run = omega arith in
        let room : held run * record_size ≤ length d = omega arith in
        g.same ∙ ap (λ (j : ℕ). records_to j s run cs ++ drop (j * record_size) d) z ∙ sym (yes _ _ (le-leb _ _ room))

abbrev pub invariant-loop-i : goal.invariant-loop-i
invariant-loop-i l = Shown l.config l.run l.clusters l.initial.sheet l.sheet l.n l.i
