-- Laws of the sweep: what its loop holds in three arrays by ID.
--   Sweeping s run channels locations names i  ==  the loop along the run has come to the i-th entity: the arrays hold what was given out
--   sweeping_start, sweeping_long, sweeping_more, sweeping_over  ==  its start, its arrays' lengths, its step and its end
--   given_after s run i x  ==  what the ID x gives out after the first i entities of the run
--   names_on         ==  the name indices of the clusters on some IDs are those IDs' name indices
--   clusters_same    ==  clusters that agree on every ID are shown alike
use Prim.Native.Nat.{ℕ, zero, suc, ◌+◌, ◌≤◌, ◌<◌}
use Rattle.std.specs.Prelude.{◌≡◌, refl, false, eqb, get_or, set, replicate}
use Rattle.std.proofs.Common.{sym, ◌∙◌, ⊎_elim, add-one, get_or-set_same, get_or-set_other}
use Rattle.std.proofs.Math.Path.{ap}
use mathlib.Core.List.{List, [], ◌∷◌, map}
use native.Mathlib.Omega.{arith}
use Rattle.std.proofs.Math.ListN.{length, take, length-set, length-replicate}
use Rattle.std.proofs.Math.Seq.{take_all}
use Rattle.ground.specs.Pick.{decided, reads_eq}
use Rattle.layout.specs.declared.Cluster.{Cluster}
use Rattle.layout.specs.Layout.{entity_of, no_cluster}
use Rattle.graph.specs.Members.{map_same}
use Rattle.graph.specs.Tables.{tabulate, tabulate_same, tabulate_get_d, get_d_tabulate, below, length_below}
use Rattle.graph.specs.Along.{put, put_at, put_other, given, given_take}
use Rattle.entities.specs.declared.Node.{Node}
use Rattle.entities.specs.declared.Run.{Run}
use Rattle.entities.specs.Run.{most_entities, blank_node, held, node_at, id_at, sources_at, descriptor_of}
use Rattle.pins.specs.Same.{numbers_at}
use Rattle.edition.specs.Audio.{names_each, give_out}
use Rattle.sweep.specs.declared.Given.{Given}
use Rattle.sweep.specs.Sweep.{cluster_by, gives_by, gives_at, given_in, swept, Sweeps, clusters_of}

pub names_on : (channels locations names ids : List ℕ) → numbers_at names ids ≡ names_each (map (cluster_by channels locations names) ids)
unfolding numbers_at
names_on channels locations names [] = refl
names_on channels locations names (x ∷ ids) = ap (λ (l : List ℕ). get_or names x 0 ∷ l) (names_on channels locations names ids)

-- clusters that agree on every ID are shown alike
module _ (run : Run) (f g : ℕ → Cluster) (same : (x : ℕ) → f x ≡ g x) where
  pub clusters_same : clusters_of run f ≡ clusters_of run g
  unfolding clusters_of
  clusters_same = tabulate_same most_entities (λ i. f (id_at run i)) (λ i. g (id_at run i)) (λ i l. same (id_at run i))

-- three arrays by ID, one ID's cluster written
module _ (channels locations names : List ℕ) (x : ℕ) (c : Cluster) where
  abbrev now : ℕ → Cluster
  now = cluster_by channels locations names

  abbrev next : ℕ → Cluster
  next = cluster_by (set channels x c.channels) (set locations x c.locations) (set names x c.names)

  written : x < length channels → x < length locations → x < length names → (y : ℕ) → next y ≡ put now x c y
  written a b d y = ⊎_elim here other (decided (eqb y x) (reads_eq y x))
    where
      here : y ≡ x → next y ≡ put now x c y
      here e =
          let p = get_or-set_same channels x c.channels 0 a in
          let q = get_or-set_same locations x c.locations 0 b in
          let r = get_or-set_same names x c.names 0 d in
          rw (e, put_at now x c, p, q, r) refl

      other : (y ≡ x → ⊥) → next y ≡ put now x c y
      other f =
          let p = get_or-set_other channels x y c.channels 0 f in
          let q = get_or-set_other locations x y c.locations 0 f in
          let r = get_or-set_other names x y c.names 0 f in
          rw (put_other now x c y f, p, q, r) refl

abbrev none : ℕ
none = 0

zeros_at : (k x : ℕ) → get_or (replicate k none) x none ≡ none
zeros_at zero x = refl
zeros_at (suc k) zero = refl
zeros_at (suc k) (suc x) = zeros_at k x

table_of : (xs : List ℕ) (f : ℕ → ℕ) → length xs ≡ 256 → ((x : ℕ) → get_or xs x 0 ≡ f x) → xs ≡ tabulate 256 f
table_of xs f l h =
    sym (tabulate_get_d xs 0)
    ∙ ap (λ (k : ℕ). tabulate k (λ x. get_or xs x 0)) l
    ∙ tabulate_same 256 (λ x. get_or xs x 0) f (λ x b. h x)

abbrev given_by : List ℕ → List ℕ → List ℕ → Given
given_by channels locations names = record { channels = channels; locations = locations; names = names }

abbrev blank : Node
blank = record { place = 0; first = 0; pins = 0; id = 0; kind = 0; feeds = false }

module _ (s : List ℕ) (run : Run) where
  abbrev pub given_after : ℕ → ℕ → Cluster
  given_after i = given (id_at run) (sources_at s run) (gives_at s run) (λ x. no_cluster) (take i (below (held run)))

  after_more : (i : ℕ) → i < held run → given_after (suc i) ≡ put (given_after i) (id_at run i) (gives_by s (node_at run i) (given_after i))
  unfolding gives_by
  after_more i l =
      let k : i < length (below (held run)) = rw (length_below (held run)) l in
      let step = given_take (id_at run) (sources_at s run) (gives_at s run) (λ x. no_cluster) (below (held run)) i k in
      rw (get_d_tabulate (held run) (λ j. j) i 0 l) at step

  pub record Sweeping (channels locations names : List ℕ) (i : ℕ) : Type 0 where
    pub low : i ≤ held run
    pub long_channels : length channels ≡ 256
    pub long_locations : length locations ≡ 256
    pub long_names : length names ≡ 256
    pub same : (x : ℕ) → cluster_by channels locations names x ≡ given_after i x

  pub sweeping_start : Sweeping (replicate 256 0) (replicate 256 0) (replicate 256 0) 0
  unfolding given
  sweeping_start = record {
    low = omega arith;
    long_channels = length-replicate 256 none;
    long_locations = length-replicate 256 none;
    long_names = length-replicate 256 none;
    same = λ x. rw (zeros_at 256 x) refl;
  }

  module _ (channels locations names : List ℕ) (i : ℕ) (g : Sweeping channels locations names i) where
    pub sweeping_long : (length channels ≡ 256) × (length locations ≡ 256) × (length names ≡ 256)
    sweeping_long = (g.long_channels, g.long_locations, g.long_names)

    module _ (n : ℕ) (m : n ≡ held run) where
      pub sweeping_over : n ≤ i → Sweeps s run (given_by channels locations names)
      unfolding swept given_in
      sweeping_over h =
          let l = g.low in
          let long : length (below (held run)) ≤ i = rw (length_below (held run)) (omega arith) in
          let all_below : take i (below (held run)) ≡ below (held run) = take_all i (below (held run)) long in
          let whole : (x : ℕ) → cluster_by channels locations names x ≡ given_in s run x = λ x. rw all_below at (g.same x) in
          let out : ℕ → Cluster = given_in s run in
          let a = table_of channels (λ x. (out x).channels) g.long_channels (λ x. ap (λ (c : Cluster). c.channels) (whole x)) in
          let b = table_of locations (λ x. (out x).locations) g.long_locations (λ x. ap (λ (c : Cluster). c.locations) (whole x)) in
          let d = table_of names (λ x. (out x).names) g.long_names (λ x. ap (λ (c : Cluster). c.names) (whole x)) in
          record {
            whole =
                ap (λ (t : List ℕ). given_by t locations names) a
                ∙ ap (λ (t : List ℕ). given_by (tabulate 256 (λ x. (given_in s run x).channels)) t names) b
                ∙ ap (given_by (tabulate 256 (λ x. (given_in s run x).channels)) (tabulate 256 (λ x. (given_in s run x).locations))) d;
            holds = whole;
          }

      pub sweeping_more : i < n → (c : Cluster) → c ≡ gives_by s (get_or run.nodes i blank) (cluster_by channels locations names)
          → (x : ℕ) → (x ≡ (get_or run.nodes i blank).id) × (x < 256)
          → Sweeping (set channels x c.channels) (set locations x c.locations) (set names x c.names) (i + 1)
      unfolding blank_node gives_by put
      sweeping_more h c e x q =
          let l : i < held run = omega arith in
          let u = q.1 in
          let a = g.long_channels in
          let b = g.long_locations in
          let d = g.long_names in
          let entering = map_same (cluster_by channels locations names) (given_after i) (sources_at s run i) (λ y k. g.same y) in
          let f : c ≡ gives_by s (node_at run i) (given_after i) = e ∙ ap (give_out (entity_of (descriptor_of s (node_at run i)))) entering in
          record {
            low = omega arith;
            long_channels = length-set channels x c.channels ∙ a;
            long_locations = length-set locations x c.locations ∙ b;
            long_names = length-set names x c.names ∙ d;
            same = λ y.
                written channels locations names x c (omega arith) (omega arith) (omega arith) y
                ∙ rw (add-one, after_more i l, q.0, g.same y, f) refl;
          }
