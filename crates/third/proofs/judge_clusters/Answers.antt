-- What each entity gives out is said by the sweep for every ID.
use borrow.Author.Rules.{rules}
use Prim.Native.Nat.{ℕ}
use mathlib.Core.Path.{◌≡◌, ap, ◌∙◌}
use mathlib.Core.List.{List}
use Rattle.std.specs.Prelude.{Option}
use Rattle.ground.specs.Refuse.{refuse}
use Rattle.ground.specs.Told.{told}
use Rattle.entities.specs.declared.Run.{Run}
use Rattle.ranks.specs.Order.{ordered}
use Rattle.sweep3.specs.Sweep.{id_on, given_ids, Sweeps}
use Rattle.buffer.specs.Reading.{cluster_with}
use Rattle.layout.specs.declared.Cluster.{Cluster}
use Rattle.keeping3.specs.Keeping.{cluster_behind, breach13}
use Rattle.keeping3.specs.KeepingLaws.{breach13_same}
use Rattle.clusters3.specs.Shown.{clusters_by, clusters_by_same}
use Rattle.clusters3.specs.Given.{given_clusters}
use Rattle.third.specs.Judgement.{clusters_judged, clusters_shown, clustered_in}
use Rattle.third.proofs.judge_clusters.Goals as goal

module _ (s b : List ℕ) (run o : Run) (w : o ≡ ordered s run) (given : List ℕ) (t : Sweeps s o given) where
  holds : (x : ℕ) → id_on given x ≡ given_ids s (ordered s run) x
  holds x = t.holds x ∙ ap (λ (q : Run). given_ids s q x) w

  by_order : (x : Option ℕ) → x ≡ breach13 s b run (cluster_behind b given) → x ≡ breach13 s b run (given_clusters b s run)
  by_order x y = y ∙ breach13_same s b run (cluster_behind b given) (given_clusters b s run) (λ i. ap (cluster_with b) (holds i))

  clusters : (cs : List Cluster) → cs ≡ clusters_by b run (id_on given) → cs ≡ clusters_shown s b run
  clusters cs q = q ∙ clusters_by_same b run (id_on given) (given_ids s (ordered s run)) holds

pub returns-in_err-refuse_at : goal.returns-in_err-refuse_at
unfolding clustered_in clusters_judged refuse told
returns-in_err-refuse_at c = search rules

pub returns-in_err-refuse_at-2 : goal.returns-in_err-refuse_at-2
unfolding clustered_in clusters_judged refuse told
returns-in_err-refuse_at-2 c =
    let e = by_order _ _ _ _ c.requires _ c.sweep-given.ensures _ c.check_clusters.ensures in
    search rules

pub returns : goal.returns
unfolding clustered_in clusters_judged refuse told
returns c =
    let e = by_order _ _ _ _ c.requires _ c.sweep-given.ensures _ c.check_clusters.ensures in
    let f = clusters _ _ _ _ c.requires _ c.sweep-given.ensures _ c.by_index.ensures in
    search rules
