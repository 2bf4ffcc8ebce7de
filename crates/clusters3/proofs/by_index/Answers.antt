-- An array filled index by index, as far as there are entities.
use borrow.Author.Rules.{rules}
use Prim.Native.Nat.{ℕ, ◌≤◌, ◌<◌}
use mathlib.Core.Path.{◌≡◌, sym, ap, ◌∙◌}
use mathlib.Core.List.{List}
use mathlib.Core.Logic.{⊎_elim}
use native.Mathlib.Omega.{arith}
use borrow.Author.Tests.{lt-ltb, le-ltb}
use lib.Dec.{ltb}
use lib.ListN.{length, get_or, take, replicate, length-replicate}
use Rattle.ground.specs.Pick.{pick, yes, no, decided, reads_lt}
use Rattle.ground.specs.Lists.{replicate_at}
use Rattle.layout.specs.declared.Cluster.{Cluster}
use Rattle.layout.specs.Layout.{no_cluster}
use Rattle.graph.specs.Tables.{tabulate, tabulate_same, tabulate_get_d}
use Rattle.entities.specs.declared.Run.{Run}
use Rattle.entities.specs.Run.{held}
use Rattle.run3.proofs.Nodes.{all_taken}
use Rattle.sweep3.specs.Sweep.{id_on}
use Rattle.clusters3.specs.Shown.{clusters_by}
use Rattle.clusters3.proofs.by_index.Invariants.{shown_at, Gone}
use Rattle.clusters3.proofs.by_index.Goals as goal

module _ (b : List ℕ) (run : Run) (ids : List ℕ) where
  start : Gone b run ids (replicate 32 no_cluster) 0
  start = record {
    low = omega arith;
    long = length-replicate {A = Cluster} 32 no_cluster;
    filled = λ j l. absurd (omega arith);
    spare = λ j l. replicate_at {A = Cluster} no_cluster 32 j;
  }

  over : (n : ℕ) → n ≡ held run → length run.nodes ≡ 32 → (shown : List Cluster) (i : ℕ) → Gone b run ids shown i
      → length (take n run.nodes) ≤ i → shown ≡ clusters_by b run (id_on ids)
  unfolding clusters_by
  over n m w shown i a h =
      sym (tabulate_get_d shown no_cluster)
      ∙ ap (λ (k : ℕ). tabulate k (λ j. get_or shown j no_cluster)) a.long
      ∙ tabulate_same 32 (λ j. get_or shown j no_cluster) _ (λ j l. ⊎_elim (held_at j) (spare_at j) (decided (ltb j (held run)) (reads_lt j (held run))))
    where
      all_gone : i ≡ held run
      all_gone = let t = all_taken run n m w in let g = a.low in omega arith

      held_at : (j : ℕ) → j < held run → get_or shown j no_cluster ≡ pick (ltb j (held run)) (shown_at b run ids j) no_cluster
      held_at j l = let e = all_gone in a.filled j (omega arith) ∙ sym (yes _ _ (lt-ltb j (held run) l))

      spare_at : (j : ℕ) → (j < held run → ⊥) → get_or shown j no_cluster ≡ pick (ltb j (held run)) (shown_at b run ids j) no_cluster
      spare_at j f = let e = all_gone in a.spare j (omega arith) ∙ sym (no _ _ (le-ltb j (held run) (omega arith)))

ruleset laws = (start, over, rules)

pub loop-i-init : goal.loop-i-init
loop-i-init c = search laws

pub returns : goal.returns
returns c = search laws
