-- The reader of the 3.0 edition gives exactly the first row of its table that applies, at exactly its place.
--   third_answers        ==  the verdict is put together by the table's rows, each by what decides it
--   shown_third_rows     ==  every rule is kept exactly where the bytes are a configuration of the edition, and its records have room
--   third_accepted, third_refused  ==  THE THEOREMS, for every configuration, every cluster buffer and every room
use Prim.Native.Nat.{ℕ, ◌+◌, ◌<◌}
use mathlib.Core.Path.{◌≡◌, refl, subst}
use mathlib.Core.List.{List, []}
use mathlib.Core.Logic.{◌↔◌, ⊎_elim}
use lib.ListN.{length, take}
use native.Mathlib.Omega.{arith}
use Rattle.std.specs.Prelude.{None}
use Rattle.ground.specs.declared.Refusal.{Refusal}
use Rattle.ground.specs.Pick.{within, reads_within}
use Rattle.ground.specs.First.{Sound, Breaks, first_from, first_nowhere, first_at, sound_each}
use Rattle.ground.specs.Refuse.{none, kept_at}
use Rattle.ground.specs.Rows.{Rows, AllKept, Numbered, Answers, Decides, kept_decides, answers_kept, answers_broken}
use Rattle.scan.specs.Search.{searched}
use Rattle.graph.specs.Members.{◌∈◌}
use Rattle.layout3.specs.Layouts.{LaidOut}
use Rattle.layout3.specs.Layout.{entity_of, is_unknown}
use Rattle.layout3.specs.LayoutLaws.{reads_unknown, laid_decided}
use Rattle.buffer.specs.Clusters.{Buffer}
use Rattle.buffer.specs.Reading.{pieces, breach51}
use Rattle.buffer.specs.BufferLaws.{rule51_nowhere, rule51_at, buffer_pieces}
use Rattle.edition3.specs.Third.{third, UnknownCluster, Rule52}
use Rattle.entities.specs.declared.Run.{Run}
use Rattle.entities.specs.Run.{most_entities}
use Rattle.entities.specs.Represents.{Represents}
use Rattle.groups.specs.Rules5and6.{Rule5By, Rule6By}
use Rattle.groups.specs.Reading.{frame_of, header_of}
use Rattle.groups.specs.Third.{third_form, reads_third, third_breach5, third_breach6, third_group_judged, third_judged}
use Rattle.groups.specs.FrameLaws.{reads_rule5}
use Rattle.cutting.specs.Rules1to9.{Rule8, Rule9, Opened, header_place, BrokenAt}
use Rattle.cutting.specs.Survey.{run_found}
use Rattle.cutting.specs.Context.{frame_told, header_place_lem, rule6_reads, run_is, run_first, run_cut}
use Rattle.cutting.specs.Exact.{opening_answers, opening_numbered, four_kept, all_four}
use Rattle.ids.specs.Rule10.{Rule10}
use Rattle.sources.specs.Rule11.{Rule11}
use Rattle.ranks.specs.Rule12.{Rule12}
use Rattle.clusters.specs.Rule13.{Broken, Rule13}
use Rattle.clusters.specs.Topology.{connected_parts}
use Rattle.connections.specs.JudgementLaws.{decides_10, decides_12}
use Rattle.links3.specs.Links.{breach11_third, breach52}
use Rattle.links3.specs.Rules.{WrongLinks, Rule11Third, rule11_third_parts}
use Rattle.links3.specs.RulesLaws.{rule11_third_nowhere, rule11_third_at, rule52_nowhere, rule52_at}
use Rattle.keeping3.specs.Keeping.{breach13}
use Rattle.clusters3.specs.Given.{given_clusters}
use Rattle.clusters3.specs.Rule13Laws.{third13_nowhere, third13_at}
use Rattle.records.specs.Sheet.{reads_room}
use Rattle.third.specs.Judgement.{unlaid, run_for, run_judged, clusters_judged, links_judged, frame_judged, third_then, room_refused, third_verdict}
use Rattle.reader3.proofs.KeptRun.{run_kept, represented}
use Rattle.reader3.specs.ThirdConfiguration.{KeptThird, run_in3, clusters_in}
use Rattle.reader3.specs.ThirdRefusals.{link_rows, third_room_rows, kept_third_rows, third_rows, third_table, RefusedThird, ShownThird}

-- the rows 10 to 13, of a run that stands for descriptors
module _ {s : List ℕ} {p : ℕ} {ds ks : List (List ℕ)} {run : Run} (k : Represents (third ks) s p ds run)
    (b : List ℕ) (buf : Buffer b) (e : pieces b ≡ ks) (some : (d : List ℕ) → d ∈ ds → 0 < length d) where
  decides_11 : Rule10 ds → Decides (breach11_third s run) (Rule11Third ks ds) (Breaks (λ x d. WrongLinks ks ds d) p ds)
  decides_11 a = record { kept = rule11_third_nowhere ks k a; broken = rule11_third_at ks k a some }

  plain : Rule11Third ks ds → Rule11 (third ks) ds
  plain r = ((rule11_third_parts ks ds).0 r).0

  decides_52 : Decides (breach52 s b run) (Rule52 ks ds) (Breaks (λ x d. UnknownCluster ks d) p ds)
  decides_52 = record { kept = rule52_nowhere ks k b e; broken = rule52_at ks k b e }

  decides_13 : Rule10 ds → Rule11 (third ks) ds → Rule12 (third ks) ds
      → Decides (breach13 s b run (given_clusters b s run)) (Rule13 (third ks) ds) (Breaks (λ x d. Broken (third ks) ds d) p ds)
  decides_13 =
      subst (λ (l : List (List ℕ)). Represents (third l) s p ds run → Rule10 ds → Rule11 (third l) ds → Rule12 (third l) ds
      → Decides (breach13 s b run (given_clusters b s run)) (Rule13 (third l) ds) (Breaks (λ x d. Broken (third l) ds d) p ds)) e
      (λ j r10 r11 r12. record { kept = third13_nowhere j buf r10 r11 r12; broken = third13_at j buf r10 r11 r12 })
      k

  links_answers : (behind : Rule10 ds → Rule11Third ks ds → Rule12 (third ks) ds → Rule52 ks ds → Rule13 (third ks) ds → Rows) (r : Refusal)
      → ((a : Rule10 ds) (l : Rule11Third ks ds) (c : Rule12 (third ks) ds) (u : Rule52 ks ds) (x : Rule13 (third ks) ds) → Answers (behind a l c u x) r)
      → Answers (link_rows p ds ks behind) (links_judged s b run r)
  unfolding links_judged clusters_judged
  links_answers behind r h = (
    _,
    _,
    refl,
    decides_10 k,
    λ a. (
      _,
      _,
      refl,
      decides_11 a,
      λ l. (_, _, refl, decides_12 k a (plain l), λ c. (_, _, refl, decides_52, λ u. (_, r, refl, decides_13 a (plain l) c, λ x. h a l c u x))),
    ),
  )

-- the rows 5 to 9, behind the rules 1 to 4
module _ (s b : List ℕ) (o : Opened s) where
  decides_5 : Decides (third_breach5 s (frame_of s)) (Rule5By third_form o.tail) (BrokenAt (header_place o) (Rule5By third_form o.tail))
  unfolding third_breach5
  decides_5 = subst (λ (i : ℕ). Decides (third_breach5 s (frame_of s)) (Rule5By third_form o.tail) (BrokenAt i (Rule5By third_form o.tail))) (header_place_lem s o) (kept_decides (frame_of s).header (reads_rule5 s o.tail (frame_told s o).behind third_form _ (reads_third (header_of s (frame_of s)))))

  module _ (h : Rule5By third_form o.tail) where
    decides_6 : Decides (third_breach6 s (frame_of s)) (Rule6By third_form h.header h.others) (BrokenAt (header_place o) (Rule6By third_form h.header h.others))
    unfolding third_breach6
    decides_6 = subst (λ (i : ℕ). Decides (third_breach6 s (frame_of s)) (Rule6By third_form h.header h.others) (BrokenAt i (Rule6By third_form h.header h.others))) (header_place_lem s o) (kept_decides (frame_of s).header (rule6_reads s o h))

    module _ (t : Rule6By third_form h.header h.others) where
      decides_8 : Decides (kept_at (within 1 (length (run_found s (frame_of s))) most_entities) (frame_of s).header) (Rule8 t.run) (BrokenAt (header_place o) (Rule8 t.run))
      decides_8 = rw (run_is s o h t, header_place_lem s o) (kept_decides (header_place o) (reads_within 1 (length t.run) most_entities))

      decides_9 : (ks : List (List ℕ)) → Decides (searched unlaid (take (frame_of s).end s) (frame_of s).run) (Rule9 (third ks) t.run)
          (Breaks (λ x d. LaidOut d → ⊥) (header_place o + length h.header) t.run)
      decides_9 ks = rw (run_first s o h t (λ d. is_unknown (entity_of d))) (record { kept = (λ e d m. laid d (each.0 (first.0 e) d m), λ k. first.1 (each.1 (λ d m n. n (k d m)))); broken = first_at unlaid (λ x d. LaidOut d → ⊥) (λ x d. reads_unknown d) (header_place o + length h.header) t.run })
        where
          first : (first_from unlaid (header_place o + length h.header) [] t.run ≡ None) ↔ Sound (λ x d. LaidOut d → ⊥) t.run
          first = first_nowhere unlaid (λ x d. LaidOut d → ⊥) (λ x d. reads_unknown d) (header_place o + length h.header) t.run

          each : Sound (λ x d. LaidOut d → ⊥) t.run ↔ ((d : List ℕ) → d ∈ t.run → (LaidOut d → ⊥) → ⊥)
          each = sound_each (λ d. LaidOut d → ⊥) t.run

          laid : (d : List ℕ) → ((LaidOut d → ⊥) → ⊥) → LaidOut d
          laid d n = ⊎_elim (λ x. x) (λ x. absurd (n x)) (laid_decided d)

  module _ (behind : KeptThird s b → Rows) (r : Refusal) (h : (k : KeptThird s b) → Answers (behind k) r) where
    group_answers : Answers (third_rows o b behind) (third_group_judged s (frame_of s) (run_judged s b (frame_of s) r))
    unfolding third_group_judged run_judged run_found
    group_answers = (
      _,
      _,
      refl,
      decides_5,
      λ e. (
        _,
        _,
        refl,
        decides_6 e,
        λ t. (
          _,
          _,
          refl,
          decides_8 e t,
          λ m. (
            breach51 b,
            _,
            refl,
            record { kept = rule51_nowhere b; broken = rule51_at b },
            λ c. (_, r, refl, decides_9 e t c.pieces, λ l. h (record { opened = o; rule5 = e; rule6 = t; rule8 = m; rule51 = c; rule9 = l })),
          ),
        ),
      ),
    )

module _ (s b : List ℕ) (k : KeptThird s b) (room : ℕ) where
  some : (d : List ℕ) → d ∈ run_in3 k → 0 < length d
  some d m = let l = (run_cut s k.opened k.rule5 k.rule6 d m).long in omega arith

  room_answers : Answers (third_room_rows k room) (room_refused s room none)
  unfolding room_refused
  room_answers = (
    _,
    none,
    refl,
    rw (run_kept s b k, header_place_lem s k.opened) (kept_decides (header_place k.opened) (reads_room (represented s b k) room)),
    λ c. refl,
  )

  kept_answers : Answers (kept_third_rows k room) (links_judged s b (run_for s (frame_of s)) (room_refused s room none))
  kept_answers =
      rw (run_kept s b k)
      (links_answers (represented s b k) b k.rule51 (buffer_pieces b k.rule51) some (λ a l c u x. third_room_rows k room) (room_refused s room none)
      (λ a l c u x. room_answers))

  kept_numbered : Numbered (kept_third_rows k room)
  kept_numbered = (
    λ e. omega arith,
    λ a. (λ e. omega arith, λ l. (λ e. omega arith, λ c. (λ e. omega arith, λ u. (λ e. omega arith, λ x. (λ e. omega arith, λ y. tt))))),
  )

module _ (s b : List ℕ) (room : ℕ) where
  pub third_answers : Answers (third_table s b room) (third_verdict s b room)
  unfolding third_verdict third_then third_judged frame_judged
  third_answers =
      opening_answers s (λ o. third_rows o b (λ k. kept_third_rows k room)) _
      (λ o. group_answers s b o (λ k. kept_third_rows k room) _ (λ k. kept_answers s b k room))

  numbered : Numbered (third_table s b room)
  numbered =
      opening_numbered s (λ o. third_rows o b (λ k. kept_third_rows k room))
      (λ o. (λ e. omega arith, λ h. (λ e. omega arith, λ t. (λ e. omega arith, λ m. (λ e. omega arith, λ c. (λ e. omega arith, λ l. kept_numbered s b (record { opened = o; rule5 = h; rule6 = t; rule8 = m; rule51 = c; rule9 = l }) room))))))

  pub shown_third_rows : AllKept (third_table s b room) ↔ ShownThird s b room
  shown_third_rows = (to, from)
    where
      links : (k : KeptThird s b) → AllKept (kept_third_rows k room) → ShownThird s b room
      links k (a, (l, (c, (u, (x, (z, y)))))) =
          let v = (rule11_third_parts (clusters_in k) (run_in3 k)).0 l in
          (record { kept = k; connected = (connected_parts (represented s b k) a v.0).1 (c, x); clocks = v.1; rule52 = u }, z)

      to : AllKept (third_table s b room) → ShownThird s b room
      to h = of (four_kept s (λ o. third_rows o b (λ k. kept_third_rows k room)) h)
        where
          of : (o : Opened s) × AllKept (third_rows o b (λ k. kept_third_rows k room)) → ShownThird s b room
          of (o, (e, (t, (m, (c, (l, y)))))) = links (record { opened = o; rule5 = e; rule6 = t; rule8 = m; rule51 = c; rule9 = l }) y

      from : ShownThird s b room → AllKept (third_table s b room)
      from (t, z) =
          let k = t.kept in
          let c = t.connected in
          let h = (connected_parts (represented s b k) c.rule10 c.rule11).0 c in
          all_four s (λ o. third_rows o b (λ x. kept_third_rows x room)) k.opened (
            k.rule5,
            (
              k.rule6,
              (
                k.rule8,
                (
                  k.rule51,
                  (
                    k.rule9,
                    (c.rule10, ((rule11_third_parts (clusters_in k) (run_in3 k)).1 (c.rule11, t.clocks), (h.0, (t.rule52, (h.1, (z, tt)))))),
                  ),
                ),
              ),
            ),
          )

  -- THE THEOREMS
  pub third_accepted : ((third_verdict s b room).number ≡ 0) ↔ ShownThird s b room
  third_accepted =
      let a = answers_kept (third_table s b room) (third_verdict s b room) numbered third_answers in
      (λ e. shown_third_rows.0 (a.0 e), λ t. a.1 (shown_third_rows.1 t))

  pub third_refused : (n p : ℕ) → (n ≡ 0 → ⊥) → (third_verdict s b room ≡ record { number = n; place = p }) ↔ RefusedThird s b room n p
  third_refused = answers_broken (third_table s b room) (third_verdict s b room) numbered third_answers
