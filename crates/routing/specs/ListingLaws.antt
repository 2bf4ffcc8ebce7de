-- What is computed from the run, said of its descriptors: the sources of an ID's bearer, and whether it is an Output Terminal.
--   bearer_own      ==  where no two entities bear the same ID, the bearer of an entity's ID is that entity
--   named_own       ==  .. so its source IDs are those of its descriptor
--   reads_output    ==  the test decides that an Output Terminal of the run bears the ID
--   tables_named    ==  the tables by ID have the sources of each byte's bearer
--   named_bytes     ==  which are bytes
use Prim.Native.Nat.{ℕ, zero, suc, ◌≤◌, ◌<◌}
use Rattle.std.specs.Prelude.{◌≡◌, Bool, eqb, length, get_or, take, drop}
use Rattle.std.proofs.Common.{sym, ◌∙◌, subst, arith, take-append-drop, eq-eqb, ne_eqb, eqb-true}
use Rattle.std.proofs.Math.Path.{ap}
use Rattle.std.proofs.Math.Bool.{false, not}
use Rattle.std.proofs.Math.Logic.{⊎_elim}
use mathlib.Core.List.Memᴰ
use mathlib.Core.List.{List, []}
use Rattle.std.proofs.lemmas.Bool.{not-true, not-false}
use Rattle.ground.specs.Pick.{yes, no, Reads, reads_eq, decided, true≠false}
use Rattle.ground.specs.Lists.{member_at, member_index, take_in}
use Rattle.ground.specs.Places.{Finding, nothing, first, finding}
use Rattle.graph.specs.Members.{◌∈◌, along}
use Rattle.graph.specs.Tables.{get_d_tabulate}
use Rattle.graph.specs.Ranked.{Distinct}
use Rattle.layout.specs.Layout.{LaidOut}
use Rattle.edition.specs.Edition.{own_id, sources}
use Rattle.edition.specs.Audio.{audio}
use Rattle.entities.specs.declared.Run.{Run}
use Rattle.entities.specs.Run.{held, node_at, id_at, feeds_at, sources_of}
use Rattle.entities.specs.Represents.{Represents}
use Rattle.ids.specs.Breach.{bears}
use Rattle.ids.specs.Rule10.{Rule10}
use Rattle.ids.specs.Rule10Laws.{inside, distinct_run}
use Rattle.upstream.specs.Telling.{sources_by}
use Rattle.routing.specs.declared.SourcePlaces.{SourcePlaces}
use Rattle.routing.specs.Routes.{OutputOf}
use Rattle.routing.specs.RoutesLaws.{no_output}
use Rattle.routing.specs.Listing.{bearer_below, bearer, named_in, source_places_of, is_output}

module _ (run : Run) (distinct : Distinct (id_at run) (held run)) (i : ℕ) where
  bearer_below_lem : (n : ℕ) → n ≤ held run → i < n → bearer_below run n (id_at run i) ≡ node_at run i
  unfolding bearer_below
  bearer_below_lem zero h l = absurd (omega arith)
  bearer_below_lem (suc n) h l =
      ⊎_elim
      (λ (e : id_at run n ≡ id_at run i). yes _ _ (eq-eqb (id_at run n) (id_at run i) e) ∙ ap (node_at run) (distinct n i (omega arith) (omega arith) e))
      (λ (f : id_at run n ≡ id_at run i → ⊥). no _ _ (ne_eqb (id_at run n) (id_at run i) f) ∙ bearer_below_lem n (omega arith) (before f))
      (decided (eqb (id_at run n) (id_at run i)) (reads_eq (id_at run n) (id_at run i)))
    where
      before : (id_at run n ≡ id_at run i → ⊥) → i < n
      before f = ⊎_elim (λ (q : n ≡ i). absurd (f (ap (id_at run) q))) (λ (q : n ≡ i → ⊥). omega arith) (decided (eqb n i) (reads_eq n i))

  pub bearer_own : i < held run → bearer run (id_at run i) ≡ node_at run i
  bearer_own l = bearer_below_lem (held run) (omega arith) l

module _ {s : List ℕ} {p : ℕ} {ds : List (List ℕ)} {run : Run} (k : Represents audio s p ds run) (r10 : Rule10 ds) where
  pub named_own : (d : List ℕ) → d ∈ ds → named_in s run (own_id d) ≡ sources audio d
  unfolding named_in
  named_own d m =
      let j = member_index [] m in
      let own : id_at run j.0 ≡ own_id d = k.id j.0 j.1 ∙ ap own_id j.2 in
      ap (λ (x : ℕ). sources_of s (bearer run x)) (sym own)
      ∙ ap (sources_of s) (bearer_own run (distinct_run k r10) j.0 (rw k.counted j.1))
      ∙ k.sources j.0 j.1 ∙ ap (sources audio) j.2

  module _ (laid : (d : List ℕ) → d ∈ ds → LaidOut d) (x : ℕ) where
    pub reads_output : Reads (is_output run x) ((d : List ℕ) × OutputOf ds x d)
    unfolding is_output
    reads_output = go (finding (bears run x) (λ i. not (feeds_at run i)) false (held run))
      where
        -- an Output Terminal of the run that bears the ID, by its index
        at : (d : List ℕ) × OutputOf ds x d → (i : ℕ) × (i < held run) × (id_at run i ≡ x) × (feeds_at run i ≡ false)
        at (d, o) =
            let j = member_index [] o.among in (
              j.0,
              rw k.counted j.1,
              k.id j.0 j.1 ∙ ap own_id j.2 ∙ o.bears,
              k.feeds j.0 j.1 ∙ ap audio.feeds j.2 ∙ (no_output d (laid d o.among)).1 o.output,
            )

        go : {b : Bool} → Finding (bears run x) (λ i. not (feeds_at run i)) false (held run) b → Reads b ((d : List ℕ) × OutputOf ds x d)
        go (nothing h) = record {
          says = λ e. absurd (true≠false (sym e));
          denies = λ e o. let a = at o in true≠false (sym (eq-eqb (id_at run a.0) x a.2) ∙ h a.0 a.1);
        }
        go (first {i} f) =
            let l : i < length ds = inside k f.inside in
            let d = get_or ds i [] in
            let m = member_at [] ds i l in
            let own : id_at run i ≡ x = eqb-true (id_at run i) x f.passes in
            record {
              says = λ e. (d, record { among = m; bears = sym (k.id i l) ∙ own; output = (no_output d (laid d m)).0 (sym (k.feeds i l) ∙ not-true (feeds_at run i) e) });
              denies = λ e o.
                  let a = at o in
                  let q : a.0 ≡ i = distinct_run k r10 a.0 i a.1 f.inside (a.2 ∙ sym own) in
                  true≠false (sym (not-false (feeds_at run i) e) ∙ ap (feeds_at run) (sym q) ∙ a.3);
            }

pub tables_named : (s : List ℕ) (run : Run) (t : SourcePlaces) → t ≡ source_places_of run → (x : ℕ) → x < 256 → sources_by s t.firsts t.counts x ≡ named_in s run x
unfolding sources_by named_in source_places_of
tables_named s run t e x l =
    ap (λ (u : SourcePlaces). take (get_or u.counts x 0) (drop (get_or u.firsts x 0) s)) e
    ∙ ap (λ (n : ℕ). take n (drop (get_or (source_places_of run).firsts x 0) s)) (get_d_tabulate 256 (λ y. (bearer run y).pins) x 0 l)
    ∙ ap (λ (n : ℕ). take (bearer run x).pins (drop n s)) (get_d_tabulate 256 (λ y. (bearer run y).first) x 0 l)

pub named_bytes : (s : List ℕ) → ((k : ℕ) → get_or s k 0 < 256) → (run : Run) (x y : ℕ) → y ∈ named_in s run x → y < 256
unfolding named_in
named_bytes s h run x y m =
    let start = (bearer run x).first in
    let k = member_index 0 (along (take-append-drop start s) (Memᴰ.append_right (take start s) (take_in (bearer run x).pins m))) in
    subst (λ (z : ℕ). z < 256) k.2 (h k.0)
