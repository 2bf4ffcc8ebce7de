-- What the reader gives out in one sweep along a run of the 3.0 edition: by entity ID the ID of a cluster descriptor, 0 where none was given out.
--   id_on given x       ==  what stands on the ID x
--   first_id cs         ==  what enters by pin 1; 0 where there is no pin
--   gives_id s n cl     ==  what the entity n gives out where cl are given out on IDs; gives_id_at s run i cs: the i-th, where cs enter
--   given_ids s run x   ==  what the ID x gives out along the run
--   given_after s run i x  ==  .. after its first i entities
--   Sweeps s run given ==  given is that, as an array by ID
--   Sweeping s run given i  ==  the loop along the run has come to the i-th entity
--   sweeping_start, sweeping_long, sweeping_more, sweeping_over  ==  its start, its array's length, its step and its end
use Rattle.std.specs.Prelude.{ℕ, suc, ◌+◌, ◌≤◌, ◌<◌, ◌≡◌, false, eqb, get_or, set, replicate}
use Rattle.std.proofs.Math.Path.{sym, ap}
use Rattle.std.proofs.Common.{◌∙◌, get_or-set_other}
use mathlib.Core.List.{List, map}
use Rattle.std.proofs.Math.Logic.{⊎_elim}
use native.Mathlib.Omega.{arith}
use Rattle.std.proofs.Math.Numerals.{add-one}
use Rattle.std.proofs.Math.ListN.{length, take, length-set, length-replicate}
use Rattle.std.proofs.Math.Seq.{take_all, get_or-set_same}
use Rattle.ground.specs.Pick.{pick, decided, reads_eq}
use Rattle.ground.specs.Lists.{replicate_at}
use Rattle.graph.specs.Members.{map_same}
use Rattle.graph.specs.Tables.{tabulate, tabulate_same, tabulate_get_d, get_d_tabulate, below, length_below}
use Rattle.graph.specs.Along.{put, put_at, put_other, given, given_take}
use Rattle.entities.specs.declared.Node.{Node}
use Rattle.entities.specs.declared.Run.{Run}
use Rattle.entities.specs.Run.{blank_node, held, node_at, id_at, sources_of, sources_at, descriptor_of}
use Rattle.edition3.specs.Third.{said_by}

abbrev pub id_on : List ℕ → ℕ → ℕ
id_on ids x = get_or ids x 0

unfoldable pub first_id : List ℕ → ℕ
first_id cs = get_or cs 0 0

unfoldable pub gives_id : List ℕ → Node → (ℕ → ℕ) → ℕ
gives_id s n cl = pick (said_by (descriptor_of s n)).declares (said_by (descriptor_of s n)).cluster (first_id (map cl (sources_of s n)))

abbrev pub gives_id_at : List ℕ → Run → ℕ → List ℕ → ℕ
gives_id_at s run i cs = pick (said_by (descriptor_of s (node_at run i))).declares (said_by (descriptor_of s (node_at run i))).cluster (first_id cs)

unfoldable pub given_ids : List ℕ → Run → ℕ → ℕ
given_ids s run = given (id_at run) (sources_at s run) (gives_id_at s run) (λ x. 0) (below (held run))

-- an ID is a byte, so that what is given out on any other is nothing
pub record Sweeps (s : List ℕ) (run : Run) (ids : List ℕ) : Type 0 where
  pub whole : ids ≡ tabulate 256 (given_ids s run)
  pub holds : (x : ℕ) → id_on ids x ≡ given_ids s run x

abbrev blank : Node
blank = record { place = 0; first = 0; pins = 0; id = 0; kind = 0; feeds = false }

module _ (s : List ℕ) (run : Run) where
  abbrev pub given_after : ℕ → ℕ → ℕ
  given_after i = given (id_at run) (sources_at s run) (gives_id_at s run) (λ x. 0) (take i (below (held run)))

  after_more : (i : ℕ) → i < held run → given_after (suc i) ≡ put (given_after i) (id_at run i) (gives_id s (node_at run i) (given_after i))
  unfolding gives_id
  after_more i l =
      let k : i < length (below (held run)) = rw (length_below (held run)) l in
      let step = given_take (id_at run) (sources_at s run) (gives_id_at s run) (λ x. 0) (below (held run)) i k in
      rw (get_d_tabulate (held run) (λ j. j) i 0 l) at step

  pub record Sweeping (ids : List ℕ) (i : ℕ) : Type 0 where
    pub low : i ≤ held run
    pub long : length ids ≡ 256
    pub same : (x : ℕ) → id_on ids x ≡ given_after i x

  pub sweeping_start : Sweeping (replicate 256 0) 0
  unfolding given
  sweeping_start = record { low = omega arith; long = length-replicate {A = ℕ} 256 0; same = λ x. replicate_at {A = ℕ} 0 256 x }

  module _ (ids : List ℕ) (i : ℕ) (g : Sweeping ids i) where
    pub sweeping_long : length ids ≡ 256
    sweeping_long = g.long

    module _ (n : ℕ) (m : n ≡ held run) where
      pub sweeping_over : n ≤ i → Sweeps s run ids
      unfolding given_ids
      sweeping_over h =
          let l = g.low in
          let long : length (below (held run)) ≤ i = rw (length_below (held run)) (omega arith) in
          let all_below : take i (below (held run)) ≡ below (held run) = take_all i (below (held run)) long in
          let whole : (x : ℕ) → id_on ids x ≡ given_ids s run x = λ x. rw all_below at (g.same x) in
          record {
            whole = sym (tabulate_get_d ids 0) ∙ ap (λ (k : ℕ). tabulate k (λ x. id_on ids x)) g.long ∙ tabulate_same 256 (λ x. id_on ids x) (given_ids s run) (λ x b. whole x);
            holds = whole;
          }

      pub sweeping_more : i < n → (c : ℕ) → c ≡ gives_id s (get_or run.nodes i blank) (id_on ids)
          → (x : ℕ) → (x ≡ (get_or run.nodes i blank).id) × (x < 256) → Sweeping (set ids x c) (i + 1)
      unfolding blank_node gives_id put
      sweeping_more h c e x q =
          let l : i < held run = omega arith in
          let u = q.1 in
          let a = g.long in
          let d = said_by (descriptor_of s (node_at run i)) in
          let entering = map_same (id_on ids) (given_after i) (sources_at s run i) (λ y k. g.same y) in
          let f : c ≡ gives_id s (node_at run i) (given_after i) = e ∙ ap (λ (cs : List ℕ). pick d.declares d.cluster (first_id cs)) entering in
          record {
            low = omega arith;
            long = length-set ids x c ∙ a;
            same = λ y. ⊎_elim (here l f y) (other l y) (decided (eqb y x) (reads_eq y x));
          }
        where
          here : i < held run → c ≡ gives_id s (node_at run i) (given_after i) → (y : ℕ) → y ≡ x → id_on (set ids x c) y ≡ given_after (i + 1) y
          here l f y z =
              let a = g.long in
              let u = q.1 in
              let r = get_or-set_same ids x c 0 (omega arith) in
              let w : y ≡ id_at run i = z ∙ q.0 in
              rw (z, r, add-one, after_more i l, q.0, put_at (given_after i) (id_at run i) (gives_id s (node_at run i) (given_after i))) f

          other : i < held run → (y : ℕ) → (y ≡ x → ⊥) → id_on (set ids x c) y ≡ given_after (i + 1) y
          other l y z =
              let r = get_or-set_other ids x y c 0 z in
              rw (r, add-one, after_more i l, put_other (given_after i) (id_at run i) (gives_id s (node_at run i) (given_after i)) y (λ w. z (w ∙ sym q.0))) (g.same y)
