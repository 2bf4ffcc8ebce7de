-- Rule 12 and what the reader computes of it, tied for every edition, through a run that stands for descriptors. Chains and ranks are the
-- same of descriptors as of the run's indices. Two premises are what rules 10 and 11 tell, which stand before this one: no two entities of
-- the run bear the same ID, and each source ID is borne.
--   chains           ==  a chain of n steps goes upstream from a descriptor exactly where one goes from its index in the run
--   endless          ==  .. and so does one of more than 32
--   ranking_run      ==  a rank is lower at each source of the descriptors exactly where it is in the run
--   left_out         ==  the test of the reader, an ID that is not borne in the order, decides that an endless chain goes upstream
--   rule12_nowhere   ==  THE LAW: the reader finds rule 12 broken nowhere exactly where the rule is kept
--   rule12_at        ==  .. and at q exactly where q is the place of the first descriptor with an endless chain
--   all_ordered, ordered_all  ==  each entity of the run is in the order exactly where the rule is kept
--   rule12_ranks     ==  ranks exist exactly where the rule is kept
use Rattle.std.specs.Prelude.{ℕ, ◌≤◌, ◌<◌, ◌≡◌, refl, Bool, true, false, not, ◌↔◌, List, [], length, get_or, Some, None}
use Rattle.std.proofs.Common.{sym, ap, ◌∙◌}
use mathlib.Core.List.Memᴰ
use Rattle.std.proofs.Math.Nat.{min-le_right}
use Rattle.ground.specs.Pick.{Reads, reads_same, shows}
use Rattle.ground.specs.Lists.{member_at, member_index}
use Rattle.ground.specs.First.{Breaks}
use Rattle.ground.specs.Places.{breach_nowhere, breach_at}
use Rattle.graph.specs.Members.{◌∈◌, along, mem, reads_mem, mem_in, mem_out}
use Rattle.graph.specs.Grown.{grown_below}
use Rattle.graph.proofs.GrownLemmas.{order_grown}
use Rattle.graph.specs.Ranked.{Distinct, Known, AllIn, Chain, Longer, ends, up}
use Rattle.graph.proofs.RankedLemmas.{left_longer, in_longer, all_ranks, ranks_all}
use Rattle.graph.specs.Ranked as ranked
use Rattle.edition.specs.Edition.{Edition, own_id, sources}
use Rattle.entities.specs.declared.Run.{Run}
use Rattle.entities.specs.Run.{most_entities, held, id_at, place_at, sources_at}
use Rattle.entities.specs.Represents.{Represents}
use Rattle.entities.specs.RepresentsLaws.{sound_each_of, breaks_each_of}
use Rattle.ranks.specs.Rule12.{most_steps, Upstream, Endless, Rule12, Ranking}
use Rattle.ranks.specs.Rule12 as rules
use Rattle.ranks.specs.Order.{order_in, ordered}
use Rattle.ranks.specs.OrderLaws.{ordered_ids}
use Rattle.ranks.specs.Breach.{ids_of, breach12}

module _ {ed : Edition} {s : List ℕ} {p : ℕ} {ds : List (List ℕ)} {run : Run} (k : Represents ed s p ds run) where
  -- an index of the run is one of the descriptors
  inside : {i : ℕ} → i < held run → i < length ds
  inside l = rw k.counted at l

  outside : {i : ℕ} → i < length ds → i < held run
  outside l = rw k.counted l

  to_upstream : {n i : ℕ} → i < held run → Chain (id_at run) (sources_at s run) (held run) n i → Upstream ed ds n (get_or ds i [])
  to_upstream l ends = rules.ends
  to_upstream {i = i} l (up {j = j} b m c) =
      rules.up (member_at [] ds j (inside b)) (Memᴰ.cast (sym (k.id j (inside b))) (along (k.sources i (inside l)) m)) (to_upstream b c)

  to_chain : {n : ℕ} {d : List ℕ} → Upstream ed ds n d → (i : ℕ) → i < held run → get_or ds i [] ≡ d → Chain (id_at run) (sources_at s run) (held run) n i
  to_chain rules.ends i l q = ends
  to_chain (rules.up {e = f} e m u) i l q =
      let j = member_index [] e in
      let b : j.0 < length ds = j.1 in
      let own : id_at run j.0 ≡ own_id f = k.id j.0 b ∙ ap own_id j.2 in
      let named = along (sym (k.sources i (inside l) ∙ ap (sources ed) q)) m in
      up (outside b) (Memᴰ.cast own named) (to_chain u j.0 (outside b) j.2)

  pub chains : (n i : ℕ) → i < held run → Upstream ed ds n (get_or ds i []) ↔ Chain (id_at run) (sources_at s run) (held run) n i
  chains n i l = (λ u. to_chain u i l refl, λ c. to_upstream l c)

  pub endless : (i : ℕ) → i < held run → Endless ed ds (get_or ds i []) ↔ Longer (id_at run) (sources_at s run) (held run) most_steps i
  endless i l = (λ u. (u.0, u.1, (chains u.0 i l).0 u.2), λ c. (c.0, c.1, (chains c.0 i l).1 c.2))

  pub ranking_run : (rank : ℕ → ℕ) → Ranking ed ds rank ↔ ranked.Ranking (id_at run) (sources_at s run) (held run) rank
  ranking_run rank = (to, of)
    where
      to : Ranking ed ds rank → ranked.Ranking (id_at run) (sources_at s run) (held run) rank
      to h i l x m = rw (k.id i (inside l)) (h (get_or ds i []) (member_at [] ds i (inside l)) x (along (k.sources i (inside l)) m))

      of : ranked.Ranking (id_at run) (sources_at s run) (held run) rank → Ranking ed ds rank
      of h d m x e =
          let j = member_index [] m in
          let b : j.0 < length ds = j.1 in
          let own : id_at run j.0 ≡ own_id d = k.id j.0 b ∙ ap own_id j.2 in
          rw (← own) (h j.0 (outside b) x (along (sym (k.sources j.0 b ∙ ap (sources ed) j.2)) e))

  module _ (distinct : Distinct (id_at run) (held run)) (known : Known (id_at run) (sources_at s run) (held run)) where
    few : held run ≤ most_steps
    few = min-le_right run.count most_entities

    -- the ID of an index is borne in the order exactly where the index is in it
    borne_same : (i : ℕ) → i < held run → mem (id_at run i) (ids_of (ordered s run)) ≡ mem i (order_in s run)
    borne_same i l = go (mem i (order_in s run)) (reads_mem i (order_in s run))
      where
        in_order : id_at run i ∈ ids_of (ordered s run) → i ∈ order_in s run
        in_order m =
            let a = Memᴰ.of_map (id_at run) (order_in s run) (along (ordered_ids s run) m) in
            let b = grown_below (order_grown (id_at run) (sources_at s run) (held run)) a.1 in
            Memᴰ.cast (distinct i a.0 l b (sym a.2)) a.1

        go : (b : Bool) → Reads b (i ∈ order_in s run) → mem (id_at run i) (ids_of (ordered s run)) ≡ b
        go true r = mem_in (along (sym (ordered_ids s run)) (Memᴰ.map (id_at run) (r.says refl)))
        go false r = mem_out (λ m. r.denies refl (in_order m))

    pub left_out : (i : ℕ) → i < held run → Reads (not (mem (id_at run i) (ids_of (ordered s run)))) (Endless ed ds (get_or ds i []))
    left_out i l =
        let r = left_longer (id_at run) (sources_at s run) (held run) distinct known most_steps few i l in
        rw (borne_same i l) (reads_same r (endless i l).1 (endless i l).0)

    -- .. and whether it is in decides that none does
    in_order : (i : ℕ) → i < held run → Reads (mem i (order_in s run)) (Endless ed ds (get_or ds i []) → ⊥)
    in_order i l =
        let r = in_longer (id_at run) (sources_at s run) (held run) distinct known most_steps few i l in
        reads_same r (λ f u. f ((endless i l).0 u)) (λ f c. f ((endless i l).1 c))

    abbrev out : ℕ → Bool
    out i = not (mem (id_at run i) (ids_of (ordered s run)))

    pub rule12_nowhere : (breach12 run (ordered s run) ≡ None) ↔ Rule12 ed ds
    unfolding breach12
    rule12_nowhere =
        let b = breach_nowhere (held run) (place_at run) (λ i. Endless ed ds (get_or ds i [])) out left_out in
        let d = sound_each_of k (λ d. Endless ed ds d) in
        (λ e. d.0 (b.0 e), λ h. b.1 (d.1 h))

    pub rule12_at : (q : ℕ) → (breach12 run (ordered s run) ≡ Some q) ↔ Breaks (λ b d. Endless ed ds d) p ds q
    unfolding breach12
    rule12_at q =
        let b = breach_at (held run) (place_at run) (λ i. Endless ed ds (get_or ds i [])) out left_out q in
        let d = breaks_each_of k (λ d. Endless ed ds d) q in
        (λ e. d.0 (b.0 e), λ h. b.1 (d.1 h))

    pub all_ordered : Rule12 ed ds → AllIn (held run) (order_in s run)
    all_ordered h i l = (reads_mem i (order_in s run)).says (shows (in_order i l) ((sound_each_of k (λ d. Endless ed ds d)).1 h i l))

    pub ordered_all : AllIn (held run) (order_in s run) → Rule12 ed ds
    ordered_all h = (sound_each_of k (λ d. Endless ed ds d)).0 (λ i l. (in_order i l).says (mem_in (h i l)))

    pub rule12_ranks : ((rank : ℕ → ℕ) × Ranking ed ds rank) ↔ Rule12 ed ds
    rule12_ranks = (kept, ranks)
      where
        kept : (rank : ℕ → ℕ) × Ranking ed ds rank → Rule12 ed ds
        kept r = ordered_all (ranks_all (id_at run) (sources_at s run) (held run) distinct known (r.0, (ranking_run r.0).0 r.1))

        ranks : Rule12 ed ds → (rank : ℕ → ℕ) × Ranking ed ds rank
        ranks h = let r = all_ranks (id_at run) (sources_at s run) (held run) (all_ordered h) in (r.0, (ranking_run r.0).1 r.1)
