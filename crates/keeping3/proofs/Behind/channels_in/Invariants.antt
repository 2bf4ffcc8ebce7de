use Prim.Native.Nat.{ℕ, ◌+◌, ◌*◌, ◌≤◌}
use mathlib.Core.Path.{◌≡◌}
use mathlib.Core.List.{List, map}
use lib.ListN.{length, drop}
use Rattle.edition3.specs.Third.{channels_in}
use Rattle.keeping3.specs.Keeping.{cluster_behind}
use Rattle.keeping3.proofs.Behind.channels_in.Given as goal

module _ (b given ids : List ℕ) where
  abbrev pub entering : List ℕ → ℕ
  entering l = channels_in (map (cluster_behind b given) l)

  pub record Gone (sum k : ℕ) : Type 0 where
    pub low : k ≤ length ids
    pub small : sum ≤ 255 * k
    pub same : entering ids ≡ sum + entering (drop k ids)

abbrev pub invariant-loop-id : goal.invariant-loop-id
invariant-loop-id l = Gone l.self.clusters.now l.self.given.now l.ids l.sum l.id-index
