-- Rule 10, and what the reader computes from its array: the two are one, number and place, for every edition and every run that stands for
-- descriptors.
--   inside           ==  an index of the run is one of the descriptors
--   reads_id         ==  the test of the ID at an index decides the rule's sentence of the descriptor there
--   rule10_nowhere, rule10_at  ==  breach10 is nowhere exactly where rule 10 is kept, and at q exactly where q is the place of the
--                        first descriptor whose ID is zero or borne by an earlier one
--   borne_at         ==  an ID is borne at an index of the run exactly where one of its descriptors bears it
--   distinct_run     ==  in graph's words: by rule 10, no two indices of the run bear the same ID
use Rattle.std.specs.Prelude.{ℕ, ◌<◌, ◌≡◌, ◌↔◌, List, [], length, get_or, take, Some, None}
use Rattle.std.proofs.Common.{sym, ap, ◌∙◌, arith, length-take-le, get_or-take}
use Rattle.std.proofs.Math.Logic.{⊎_map}
use Rattle.ground.specs.Pick.{Reads, reads_same}
use Rattle.ground.specs.Lists.{SomeOf, member_at, member_index}
use Rattle.ground.specs.First.{Breaks}
use Rattle.ground.specs.Places.{breach_nowhere, breach_at}
use Rattle.graph.specs.Members.{◌∈◌}
use Rattle.graph.specs.Ranked.{Distinct}
use Rattle.graph.specs.Borne.{reads_wrong}
use Rattle.edition.specs.Edition.{Edition, own_id}
use Rattle.entities.specs.declared.Run.{Run}
use Rattle.entities.specs.Run.{held, id_at, place_at}
use Rattle.entities.specs.Represents.{Represents}
use Rattle.entities.specs.RepresentsLaws.{sound_of_lem, breaks_of}
use Rattle.ids.specs.Rule10.{WrongId, Rule10}
use Rattle.ids.specs.Breach.{wrong_id, breach10}
use Rattle.ids.specs.OwnIds.{earlier, own_ids}

module _ {ed : Edition} {s : List ℕ} {p : ℕ} {ds : List (List ℕ)} {run : Run} (k : Represents ed s p ds run) where
  pub inside : {i : ℕ} → i < held run → i < length ds
  inside l = rw k.counted at l

  pub reads_id : (i : ℕ) → i < held run → Reads (wrong_id run i) (WrongId (take i ds) (get_or ds i []))
  reads_id i l = reads_same (reads_wrong (id_at run) i) (⊎_map (λ e. sym own ∙ e) to) (⊎_map (λ e. own ∙ e) of)
    where
      n : i < length ds
      n = inside l

      own : id_at run i ≡ own_id (get_or ds i [])
      own = k.id i n

      to : (j : ℕ) × (j < i) × (id_at run j ≡ id_at run i) → SomeOf (λ e. own_id e ≡ own_id (get_or ds i [])) (take i ds)
      to (j, h, e) = record { one = get_or ds j []; among = earlier ds i j h (omega arith); has = sym (k.id j (omega arith)) ∙ e ∙ own }

      of : SomeOf (λ e. own_id e ≡ own_id (get_or ds i [])) (take i ds) → (j : ℕ) × (j < i) × (id_at run j ≡ id_at run i)
      of b =
          let j = member_index [] b.among in
          let m = j.1 in
          let short = length-take-le i ds (omega arith) in
          let h : j.0 < i = omega arith in
          let at : get_or ds j.0 [] ≡ b.one = sym (get_or-take i ds j.0 [] h) ∙ j.2 in
          (j.0, h, k.id j.0 (omega arith) ∙ ap own_id at ∙ b.has ∙ sym own)

  pub rule10_nowhere : (breach10 run ≡ None) ↔ Rule10 ds
  unfolding breach10
  rule10_nowhere =
      let b = breach_nowhere (held run) (place_at run) (λ i. WrongId (take i ds) (get_or ds i [])) (wrong_id run) reads_id in
      let c = sound_of_lem k WrongId in
      (λ e. c.0 (b.0 e), λ r. b.1 (c.1 r))

  pub rule10_at : (q : ℕ) → (breach10 run ≡ Some q) ↔ Breaks WrongId p ds q
  unfolding breach10
  rule10_at q =
      let b = breach_at (held run) (place_at run) (λ i. WrongId (take i ds) (get_or ds i [])) (wrong_id run) reads_id q in
      let c = breaks_of k WrongId q in
      (λ e. c.0 (b.0 e), λ r. b.1 (c.1 r))

  pub borne_at : (x : ℕ) → ((i : ℕ) × (i < held run) × (id_at run i ≡ x)) ↔ ((d : List ℕ) × d ∈ ds × (own_id d ≡ x))
  borne_at x = (
    λ a. (get_or ds a.0 [], member_at [] ds a.0 (inside a.1), sym (k.id a.0 (inside a.1)) ∙ a.2),
    λ a. let j = member_index [] a.1 in (j.0, rw k.counted j.1, k.id j.0 j.1 ∙ ap own_id j.2 ∙ a.2),
  )

  pub distinct_run : Rule10 ds → Distinct (id_at run) (held run)
  distinct_run r i j l m e = own_ids ds r i j (inside l) (inside m) (sym (k.id i (inside l)) ∙ e ∙ k.id j (inside m))
