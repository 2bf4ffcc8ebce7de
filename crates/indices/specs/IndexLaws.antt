-- What is computed by index, and the reader's rules of the descriptors: the two are tied once, for any rule.
--   FirstIndex w ds q  ==  q is the index of the first of ds that is wrong by w
--   indexed run r      ==  the refusal r, by the index of its entity
--   indexed_refuse     ==  .. of refusals in a row
--   connected_refusal, connected_kept  ==  what connections answers is the first of 10 to 13 that applies, or the clusters where none does
--   indexed_judged     ==  so the rules 10 to 13 as connections computes them, by index, are connected_then
--   index_own          ==  the index of an entity's place is its own, since places rise
--   decides_index      ==  what decides a rule by place decides it by index
--   indexed_rows ds behind    ==  the rows 10 to 13 of the papers' table, by index, and the rows behind them
--   judged_rows ds behind  ==  the rows 17 and 10 to 13 of the papers' table, by index, and the rows behind them
--   judged_rows_lem        ==  THE LAW: of descriptors one behind another, 32 at most, of which none has a wrong layout, what is judged is put together by
--                          these rows
--   judged_chain       ==  what comes behind is reached exactly where none of them is given
use Prim.Native.Nat.{ℕ, ◌+◌, ◌≤◌, ◌<◌}
use Rattle.std.proofs.Math.Path.{◌≡◌, refl, sym, ap}
use Rattle.std.proofs.Common.{subst, ◌∙◌}
use Rattle.std.specs.Prelude.{length, take, Ok, Err, Option, Some, None}
use mathlib.Core.List.{List, [], flatten, append-nil}
use native.Mathlib.Omega.{arith}
use Rattle.std.proofs.Math.Dec.{eqb}
use borrow.Author.Tests.{eq-eqb, ne_eqb}
use Rattle.ground.specs.declared.Refusal.{Refusal}
use Rattle.ground.specs.Pick.{pick, no}
use Rattle.ground.specs.Lists.{total, total_rises}
use Rattle.ground.specs.First.{Breaks, first_nowhere, first_at, sound_each}
use Rattle.ground.specs.Places.{FirstPlace, first_some}
use Rattle.ground.specs.Indexed.{WrongAt, breaks_index}
use Rattle.ground.specs.Refuse.{none, refuse, Chain, chain_end, chain_more, chain_none}
use Rattle.ground.specs.Told.{ok_told, err_told}
use Rattle.ground.specs.Rows.{Rows, row, Decides, Answers}
use Rattle.graph.specs.Members.{◌∈◌}
use Rattle.scan.specs.Cutting.{Descriptor, rest}
use Rattle.scan.specs.CuttingLaws.{cutting_rest}
use Rattle.scan.specs.Search.{searched}
use Rattle.layout.specs.Layout.{entity_of, is_unknown}
use Rattle.layout.specs.Withdrawn.{is_wrong, is_printed, reads_printed, Printed}
use Rattle.layout.proofs.WithdrawnLemmas.{reads_wrong, layout_or}
use Rattle.edition.specs.Audio.{audio}
use Rattle.entities.specs.declared.Node.{Node}
use Rattle.entities.specs.declared.Run.{Run}
use Rattle.entities.specs.Run.{most_entities, held, place_at, node_of, run_in, walk_of}
use Rattle.entities.specs.Represents.{Represents}
use Rattle.entities.proofs.RepresentsLemmas.{run_at, run_represents}
use Rattle.cutting.specs.Rules1to9.{WrongLayout, NoneWithdrawn, laid_out}
use Rattle.cutting.specs.Survey.{unlaid_refused}
use Rattle.cutting.proofs.VerdictLemmas.{unlaid_judged}
use Rattle.ids.specs.Rule10.{WrongId, Rule10}
use Rattle.ids.specs.Breach.{breach10}
use Rattle.sources.specs.Rule11.{WrongSources, Rule11}
use Rattle.sources.specs.Breach.{breach11}
use Rattle.ranks.specs.Rule12.{Endless, Rule12}
use Rattle.ranks.specs.Order.{ordered}
use Rattle.ranks.specs.Breach.{breach12}
use Rattle.clusters.specs.Rule13.{Broken, Rule13}
use Rattle.clusters.specs.Breach.{given_for, breach13}
use Rattle.layout.specs.declared.Cluster.{Cluster}
use Rattle.connections.specs.Judgement.{judged, clusters_for, connected_in}
use Rattle.connections.specs.JudgementLaws.{decides_10, decides_11, decides_12, decides_13, connected_chain}
use Rattle.indices.specs.Indices.{index_at, index_in, connected_then, indexed_then}

abbrev pub FirstIndex : (List (List ℕ) → List ℕ → Type 0) → List (List ℕ) → ℕ → Type 0
FirstIndex Wrong ds q = FirstPlace (length ds) (λ i. i) (WrongAt Wrong ds) q

abbrev pub indexed : Run → Refusal → Refusal
indexed run r = pick (eqb r.number 0) r (record { number = r.number; place = index_at run r.place })

pub indexed_refuse : (run : Run) (n : ℕ) → (n ≡ 0 → ⊥) → (b : Option ℕ) (r : Refusal) → indexed run (refuse n b r) ≡ refuse n (index_in run b) (indexed run r)
unfolding refuse index_in
indexed_refuse run n h None r = refl
indexed_refuse run n h (Some q) r = no _ _ (ne_eqb n 0 h)

module _ (s : List ℕ) (run : Run) where
  pub connected_refusal : (q : Refusal) → Err q ≡ connected_in s run → (q.number ≡ 0 → ⊥) × (q ≡ judged s run none)
  unfolding connected_in
  connected_refusal q e = let m = err_told (judged s run none) (clusters_for s run) q e in (λ z. m.0 (ap (λ (r : Refusal). r.number) (sym m.1) ∙ z), m.1)

  pub connected_kept : (cs : List Cluster) → Ok cs ≡ connected_in s run → judged s run none ≡ none
  unfolding connected_in
  connected_kept cs e = chain_none (judged s run) (connected_chain s run) (ok_told (judged s run none) (clusters_for s run) cs e).0

  pub indexed_judged : indexed run (judged s run none) ≡ connected_then s run none
  unfolding judged connected_then
  indexed_judged =
      indexed_refuse run 10 (λ e. omega arith) (breach10 run) _
      ∙ ap (refuse 10 (index_in run (breach10 run))) (indexed_refuse run 11 (λ e. omega arith) (breach11 s run) _
      ∙ ap (refuse 11 (index_in run (breach11 s run))) (indexed_refuse run 12 (λ e. omega arith) (breach12 run (ordered s run)) _
      ∙ ap (refuse 12 (index_in run (breach12 run (ordered s run)))) (indexed_refuse run 13 (λ e. omega arith) (breach13 s run (given_for s run)) none)))

-- the index of a place, for descriptors whose places a run has
module _ (ds : List (List ℕ)) (run : Run) (counted : held run ≡ length ds) (place : (i : ℕ) → i < length ds → place_at run i ≡ 0 + total (take i ds)) (cut : (d : List ℕ) → d ∈ ds → Descriptor d) where
  longer : (d : List ℕ) → d ∈ ds → 0 < length d
  longer d m = let t = (cut d m).long in omega arith

  pub index_own : (i : ℕ) → i < length ds → index_at run (0 + total (take i ds)) ≡ i
  unfolding index_at
  index_own i h =
      first_some (λ j. eqb (place_at run j) (0 + total (take i ds))) (λ j. j) 0 (held run) i (record {
        inside = omega arith;
        passes = eq-eqb _ _ (place i h);
        none_before = λ j l. ne_eqb (place_at run j) (0 + total (take i ds)) (λ e. let q = place j (omega arith) in let r = total_rises ds longer j i l (omega arith) in omega arith);
      })

  module _ {b : Option ℕ} {K : Type 0} (Wrong : List (List ℕ) → List ℕ → Type 0) (t : Decides b K (Breaks Wrong 0 ds)) where
    pub decides_index : Decides (index_in run b) K (FirstIndex Wrong ds)
    unfolding index_in
    decides_index = record { kept = (λ e. t.kept.0 (nowhere b e), λ h. ap (index_in run) (t.kept.1 h)); broken = λ q. (to q b refl, of q) }
      where
        nowhere : (c : Option ℕ) → index_in run c ≡ None → c ≡ None
        nowhere None e = refl
        nowhere (Some p) e = let z : ◌≡◌ {A = ℕ} 0 1 = cc in absurd (omega arith)

        to : (q : ℕ) (c : Option ℕ) → b ≡ c → index_in run c ≡ Some q → FirstIndex Wrong ds q
        to q None e f = let z : ◌≡◌ {A = ℕ} 0 1 = cc in absurd (omega arith)
        to q (Some p) e f =
            let w = (breaks_index Wrong 0 ds p).1 ((t.broken p).0 e) in
            let own : index_at run p ≡ w.offender = ap (index_at run) w.at ∙ index_own w.offender w.inside in
            let z : index_at run p ≡ q = cc in
            record { offender = w.offender; inside = w.inside; wrong = w.wrong; at = sym z ∙ own; none_before = w.none_before }

        of : (q : ℕ) → FirstIndex Wrong ds q → index_in run b ≡ Some q
        of q w =
            let p = 0 + total (take w.offender ds) in
            let e : b ≡ Some p = (t.broken p).1 ((breaks_index Wrong 0 ds p).0 (record { offender = w.offender; inside = w.inside; wrong = w.wrong; at = refl; none_before = w.none_before })) in
            ap (index_in run) e ∙ ap Some (index_own w.offender w.inside ∙ sym w.at)

module _ (ds : List (List ℕ)) where
  abbrev pub indexed_rows : (Rule10 ds → Rule11 audio ds → Rule12 audio ds → Rule13 audio ds → Rows) → Rows
  indexed_rows behind =
      row 10 (Rule10 ds) (FirstIndex WrongId ds) (λ a.
      row 11 (Rule11 audio ds) (FirstIndex (λ b d. WrongSources audio ds d) ds) (λ b.
      row 12 (Rule12 audio ds) (FirstIndex (λ b d. Endless audio ds d) ds) (λ c.
      row 13 (Rule13 audio ds) (FirstIndex (λ b d. Broken audio ds d) ds) (λ e. behind a b c e))))

  abbrev pub judged_rows : (NoneWithdrawn audio ds → Rule10 ds → Rule11 audio ds → Rule12 audio ds → Rule13 audio ds → Rows) → Rows
  judged_rows behind = row 17 (NoneWithdrawn audio ds) (FirstIndex (λ b d. audio.Withdrawn d) ds) (λ w. indexed_rows (behind w))

  module _ (cut : (d : List ℕ) → d ∈ ds → Descriptor d) (right : (d : List ℕ) → d ∈ ds → WrongLayout audio d → ⊥) (few : length ds ≤ most_entities) where
    abbrev s : List ℕ
    s = flatten ds

    all : rest s 0 ≡ ds
    all = cutting_rest s ds (record { whole = refl; each = cut })

    first_wrong : searched (λ b d. is_wrong d) s 0 ≡ None
    unfolding searched
    first_wrong = (first_nowhere (λ b d. is_wrong d) (λ b d. WrongLayout audio d) (λ b d. reads_wrong d) 0 (rest s 0)).1 (rw all ((sound_each (WrongLayout audio) ds).1 right))

    -- what has none of the layouts is the printed Selector, where nothing is wrong
    unlaid_printed : (walk_of s 0).unlaid ≡ searched (λ b d. is_printed d) s 0
    unfolding walk_of unlaid_refused refuse
    unlaid_printed = go (searched (λ b d. is_unknown (entity_of d)) s 0) (searched (λ b d. is_printed d) s 0) (unlaid_judged s 0 ∙ ap (λ (w : Option ℕ). refuse 9 w (refuse 17 (searched (λ b d. is_printed d) s 0) none)) first_wrong)
      where
        go : (u p : Option ℕ) → unlaid_refused s 0 u ≡ refuse 9 None (refuse 17 p none) → u ≡ p
        go None None e = refl
        go None (Some q) e = let z : ◌≡◌ {A = ℕ} 0 17 = ap (λ (r : Refusal). r.number) e in absurd (omega arith)
        go (Some p) None e = let z : ◌≡◌ {A = ℕ} 17 0 = ap (λ (r : Refusal). r.number) (sym (ap (λ (w : Option ℕ). refuse 9 w (refuse 17 (Some p) none)) first_wrong) ∙ e) in absurd (omega arith)
        go (Some p) (Some q) e = ap Some (ap (λ (r : Refusal). r.place) (sym (ap (λ (w : Option ℕ). refuse 9 w (refuse 17 (Some p) none)) first_wrong) ∙ e))

    decides_17 : Decides (walk_of s 0).unlaid (NoneWithdrawn audio ds) (Breaks (λ b d. audio.Withdrawn d) 0 ds)
    unfolding searched
    decides_17 =
        let n = first_nowhere (λ b d. is_printed d) (λ b d. Printed d) (λ b d. reads_printed d) 0 (rest s 0) in
        let each = sound_each Printed (rest s 0) in
        let found : Decides (searched (λ b d. is_printed d) s 0) (NoneWithdrawn audio (rest s 0)) (Breaks (λ b d. audio.Withdrawn d) 0 (rest s 0)) =
        record { kept = (λ e. each.0 (n.0 e), λ h. n.1 (each.1 h)); broken = λ p. first_at (λ b d. is_printed d) (λ b d. Printed d) (λ b d. reads_printed d) 0 (rest s 0) p } in
        rw unlaid_printed (subst (λ (l : List (List ℕ)). Decides (searched (λ b d. is_printed d) s 0) (NoneWithdrawn audio l) (Breaks (λ b d. audio.Withdrawn d) 0 l)) all found)

    abbrev run : Run
    run = run_in audio 0 ds

    counted : held run ≡ length ds
    unfolding run_in
    counted = omega arith

    place : (i : ℕ) → i < length ds → place_at run i ≡ 0 + total (take i ds)
    unfolding node_of
    place i l = ap (λ (n : Node). n.place) (run_at audio 0 ds i l (omega arith))

    run_read : (walk_of s 0).run ≡ run
    unfolding walk_of
    run_read = ap (run_in audio 0) all

    pub judged_rows_lem : (behind : NoneWithdrawn audio ds → Rule10 ds → Rule11 audio ds → Rule12 audio ds → Rule13 audio ds → Rows) (r : Refusal)
        → ((w : NoneWithdrawn audio ds) (a : Rule10 ds) (b : Rule11 audio ds) (c : Rule12 audio ds) (e : Rule13 audio ds) → Answers (behind w a b c e) r)
        → Answers (judged_rows behind) (indexed_then s r)
    unfolding indexed_then connected_then
    judged_rows_lem behind r h = rw run_read (index_in run (walk_of s 0).unlaid, connected_then s run r, refl, by_index (λ b d. audio.Withdrawn d) decides_17, λ w. connected w)
      where
        by_index : {b : Option ℕ} {K : Type 0} (Wrong : List (List ℕ) → List ℕ → Type 0) → Decides b K (Breaks Wrong 0 ds) → Decides (index_in run b) K (FirstIndex Wrong ds)
        by_index Wrong t = decides_index ds run counted place cut Wrong t

        stands : NoneWithdrawn audio ds → Represents audio s 0 ds run
        stands w = run_represents audio s 0 ds [] (sym (append-nil (flatten ds))) cut (laid_out audio ds (λ d m. layout_or d (right d m)) w) few

        connected : (w : NoneWithdrawn audio ds) → Answers (indexed_rows (behind w)) (connected_then s run r)
        connected w =
            let k = stands w in (
              index_in run (breach10 run),
              _,
              refl,
              by_index WrongId (decides_10 k),
              λ a. (
                index_in run (breach11 s run),
                _,
                refl,
                by_index (λ b d. WrongSources audio ds d) (decides_11 k a),
                λ b. (
                  index_in run (breach12 run (ordered s run)),
                  _,
                  refl,
                  by_index (λ b d. Endless audio ds d) (decides_12 k a b),
                  λ c. (index_in run (breach13 s run (given_for s run)), r, refl, by_index (λ b d. Broken audio ds d) (decides_13 k a b c), λ e. h w a b c e),
                ),
              ),
            )

pub judged_chain : (s : List ℕ) → Chain (indexed_then s)
unfolding indexed_then connected_then
judged_chain s =
    chain_more 17 (λ e. omega arith) _ _
    (chain_more 10 (λ e. omega arith) _ _
    (chain_more 11 (λ e. omega arith) _ _ (chain_more 12 (λ e. omega arith) _ _ (chain_more 13 (λ e. omega arith) _ _ chain_end))))
