-- Rule 11, and what the reader computes from its array: the two are one, number and place, for every edition and every run that stands for
-- descriptors, where rule 10 is kept.
--   reads_source, reads_sources  ==  the test of a source ID, and of the source IDs at an index, decides the rule's sentence
--   rule11_nowhere, rule11_at  ==  breach11 is nowhere exactly where rule 11 is kept, and at q exactly where q is the place of the first
--                        descriptor that has a source ID that is 0, unknown, or borne by an entity with no output
use Rattle.std.specs.Prelude.{ℕ, ◌<◌, ◌≡◌, Bool, false, ◌⊎◌, ◌↔◌, Option, Some, None, eqb}
use Rattle.std.proofs.Math.Path.{sym, ap}
use Rattle.std.proofs.Common.{◌∙◌}
use Rattle.std.proofs.Math.Logic.{inl, inr, ⊎_elim}
use mathlib.Core.List.{List, []}
use Rattle.std.proofs.Math.ListN.{get_or}
use borrow.Author.Tests.{eqb-true, eqb-false, not-true, not-false}
use Rattle.ground.specs.Pick.{Reads, reads_eq, reads_or, reads_same, true≠false}
use Rattle.ground.specs.Lists.{any, reads_any, member_at}
use Rattle.ground.specs.First.{Breaks}
use Rattle.ground.specs.Places.{Finding, nothing, first, finding, breach_nowhere, breach_at}
use Rattle.graph.specs.Members.{◌∈◌}
use Rattle.edition.specs.Edition.{Edition, own_id}
use Rattle.edition.specs.Edition as edition
use Rattle.entities.specs.declared.Run.{Run}
use Rattle.entities.specs.Run.{held, place_at, feeds_at, sources_at}
use Rattle.entities.specs.Represents.{Represents}
use Rattle.entities.specs.RepresentsLaws.{sound_each_of, breaks_each_of}
use Rattle.ids.specs.Rule10.{Rule10}
use Rattle.ids.specs.Breach.{bears}
use Rattle.ids.specs.OwnIds.{own_one}
use Rattle.ids.specs.Rule10Laws.{inside, borne_at}
use Rattle.sources.specs.Rule11.{WrongSource, zero_source, unknown, no_output, WrongSources, Rule11}
use Rattle.sources.specs.Lookup.{lookup_below, source_number}
use Rattle.sources.specs.Breach.{refuses, wrong_source, breach11}
use Rattle.sources.specs.LookupLaws.{entity_refuses}

module _ {ed : Edition} {s : List ℕ} {p : ℕ} {ds : List (List ℕ)} {run : Run} (k : Represents ed s p ds run) where
  module _ (kept : Rule10 ds) where
    -- unknown, or borne by an entity with no output
    abbrev Useless : ℕ → Type 0
    Useless x = ((d : List ℕ) → d ∈ ds → own_id d ≡ x → ⊥) ⊎ ((d : List ℕ) × d ∈ ds × (own_id d ≡ x) × (ed.feeds d ≡ false))

    useless : (x : ℕ) {r : Option Bool} → Finding (bears run x) (λ i. Some (feeds_at run i)) None (held run) r → Reads (refuses r) (Useless x)
    unfolding source_number
    useless x (nothing h) = record {
      says = λ e. inl (λ d m q. let j = (borne_at k x).1 (d, m, q) in eqb-false _ _ (h j.0 j.1) j.2);
      denies = λ e. absurd (true≠false e);
    }
    useless x (first {i} f) =
        let l = inside k f.inside in
        let d = get_or ds i [] in
        let m : d ∈ ds = member_at [] ds i l in
        let q : own_id d ≡ x = sym (k.id i l) ∙ eqb-true _ _ f.passes in
        let fed : feeds_at run i ≡ ed.feeds d = k.feeds i l in
        let told = entity_refuses (feeds_at run i) in
        record {
          says = λ e. inr (d, m, q, sym fed ∙ not-true (feeds_at run i) (told ∙ e));
          denies = λ e.
              ⊎_elim
              (λ n. n d m q)
              (λ b. let same = own_one ds kept d b.0 m b.1 (q ∙ sym b.2) in true≠false (sym (not-false (feeds_at run i) (told ∙ e)) ∙ fed ∙ ap ed.feeds same ∙ b.3));
        }

    pub reads_source : (x : ℕ) → Reads (wrong_source run x) (WrongSource ed ds x)
    unfolding wrong_source lookup_below
    reads_source x =
        let found = finding (bears run x) (λ i. Some (feeds_at run i)) None (held run) in
        reads_same (reads_or (eqb x 0) _ (reads_eq x 0) (useless x found)) to of
      where
        to : (x ≡ 0) ⊎ Useless x → WrongSource ed ds x
        to (inl z) = zero_source z
        to (inr (inl n)) = unknown n
        to (inr (inr b)) = no_output b.0 b.1 b.2 b.3

        of : WrongSource ed ds x → (x ≡ 0) ⊎ Useless x
        of (zero_source z) = inl z
        of (unknown n) = inr (inl n)
        of (no_output d m q o) = inr (inr (d, m, q, o))

    pub reads_sources : (i : ℕ) → i < held run → Reads (any (wrong_source run) (sources_at s run i)) (WrongSources ed ds (get_or ds i []))
    reads_sources i l = rw (k.sources i (inside k l)) (reads_any (wrong_source run) (WrongSource ed ds) reads_source (edition.sources ed (get_or ds i [])))

    -- the test at an index
    abbrev wrong : ℕ → Bool
    wrong i = any (wrong_source run) (sources_at s run i)

    pub rule11_nowhere : (breach11 s run ≡ None) ↔ Rule11 ed ds
    unfolding breach11
    rule11_nowhere =
        let b = breach_nowhere (held run) (place_at run) (λ i. WrongSources ed ds (get_or ds i [])) wrong reads_sources in
        let c = sound_each_of k (WrongSources ed ds) in
        (λ e. c.0 (b.0 e), λ r. b.1 (c.1 r))

    pub rule11_at : (q : ℕ) → (breach11 s run ≡ Some q) ↔ Breaks (λ b d. WrongSources ed ds d) p ds q
    unfolding breach11
    rule11_at q =
        let b = breach_at (held run) (place_at run) (λ i. WrongSources ed ds (get_or ds i [])) wrong reads_sources q in
        let c = breaks_each_of k (WrongSources ed ds) q in
        (λ e. c.0 (b.0 e), λ r. b.1 (c.1 r))
