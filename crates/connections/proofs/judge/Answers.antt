-- One law for each way out, in the order of the rules. What each ID gives out is said by the sweep for every ID.
use borrow.Author.Rules.{rules}
use Prim.Native.Nat.{ℕ}
use mathlib.Core.Path.{◌≡◌, ◌∙◌}
use mathlib.Core.List.{List}
use Rattle.std.specs.Prelude.{Option}
use Rattle.ground.specs.Refuse.{refuse}
use Rattle.ground.specs.Told.{told}
use Rattle.layout.specs.declared.Cluster.{Cluster}
use Rattle.entities.specs.declared.Run.{Run}
use Rattle.ranks.specs.Order.{ordered}
use Rattle.sweep.specs.declared.Given.{Given}
use Rattle.clusters.specs.Breach.{given_for, breach13}
use Rattle.sweep.specs.Sweep.{cluster_on, Sweeps, clusters_of}
use Rattle.clusters.specs.BreachLaws.{breach13_same}
use Rattle.sweep.specs.SweepLaws.{clusters_same}
use Rattle.connections.specs.Judgement.{judged, clusters_for, connected_in}
use Rattle.connections.proofs.judge.Goals as goal

module _ (s : List ℕ) (run : Run) (o : Run) (w : o ≡ ordered s run) (given : Given) (t : Sweeps s o given) where
  holds : (x : ℕ) → cluster_on given x ≡ given_for s run x
  holds x = rw (← w) (t.holds x)

  by_order : (d : Option ℕ) → d ≡ breach13 s run (cluster_on given) → d ≡ breach13 s run (given_for s run)
  by_order d m = m ∙ breach13_same run (cluster_on given) (given_for s run) holds s

  clusters : (cs : List Cluster) → cs ≡ clusters_of run (cluster_on given) → cs ≡ clusters_for s run
  clusters cs q = q ∙ clusters_same run (cluster_on given) (given_for s run) holds

ruleset laws = (by_order, clusters, rules)

pub returns-in_err-refuse_at : goal.returns-in_err-refuse_at
unfolding connected_in judged refuse told
returns-in_err-refuse_at c = search rules

pub returns-in_err-refuse_at-2 : goal.returns-in_err-refuse_at-2
unfolding connected_in judged refuse told
returns-in_err-refuse_at-2 c = search rules

pub returns-in_err-refuse_at-3 : goal.returns-in_err-refuse_at-3
unfolding connected_in judged refuse told
returns-in_err-refuse_at-3 c = search rules

pub returns-in_err-refuse_at-4 : goal.returns-in_err-refuse_at-4
unfolding connected_in judged refuse told
returns-in_err-refuse_at-4 c =
    let e = by_order _ _ _ c.order_of-order.ensures _ c.sweep-given.ensures _ c.check_clusters.ensures in
    search rules

pub returns : goal.returns
unfolding connected_in judged refuse told
returns c =
    let e = by_order _ _ _ c.order_of-order.ensures _ c.sweep-given.ensures _ c.check_clusters.ensures in
    let f = clusters _ _ _ c.order_of-order.ensures _ c.sweep-given.ensures _ c.by_index.ensures in
    search rules
