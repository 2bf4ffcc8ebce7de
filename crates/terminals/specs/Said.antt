-- Which Terminals the descriptors of a run say that there are, with no search among them.
--   SaysTerminal c t d ==  the descriptor d is an Input or an Output Terminal's, and t is its ID, its type and the channels that the
--                          clusters c have on that ID: an Input Terminal's own, an Output Terminal's the entering one
--   IsTerminal run c t ==  some descriptor of the run says so
--   AreAll run c ts    ==  the list ts has the Terminals of the run and no others
use Rattle.std.specs.Prelude.{ℕ, ◌≡◌, ◌⊎◌, ◌↔◌}
use mathlib.Core.List.{List, Memᴰ}
use Rattle.ground.specs.Numbers.{byte, word}
use Rattle.ground.specs.Lists.{SomeOf}
use Rattle.layout.specs.declared.Cluster.{Cluster}
use Rattle.edition.specs.Edition.{own_id}
use Rattle.terminals.specs.Terminals.{Terminal}

pub record SaysTerminal (cluster : ℕ → Cluster) (t : Terminal) (d : List ℕ) : Type 0 where
  pub either : (byte d 2 ≡ 2) ⊎ (byte d 2 ≡ 3)
  pub id : t.id ≡ own_id d
  pub kind : t.kind ≡ word d 4
  pub channels : t.channels ≡ (cluster (own_id d)).channels

abbrev pub IsTerminal : List (List ℕ) → (ℕ → Cluster) → Terminal → Type 0
IsTerminal run cluster t = SomeOf (SaysTerminal cluster t) run

abbrev pub AreAll : List (List ℕ) → (ℕ → Cluster) → List Terminal → Type 0
AreAll run cluster ts = (t : Terminal) → Memᴰ t ts ↔ IsTerminal run cluster t
