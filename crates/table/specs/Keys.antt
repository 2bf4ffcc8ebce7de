-- Which control: "named by unit ID, channel and selector", and where it stands.
--   Key             ==  a unit ID, a channel and a selector
--   where_is t k     ==  where the control of the key k first stands in the table t
--   Bears k c       ==  the control c is the one that the key k names
--   StandsAt t k i  ==  the index i of the table t is one of those that count, and holds the control of the key k
--   InTable t c     ==  the table t holds the control c: at some index that counts
use Rattle.std.specs.Prelude.{ℕ, ◌<◌, ◌≡◌}
use Rattle.table.specs.declared.Control.{Control}
use Rattle.table.specs.declared.Table.{Table}
use Rattle.table.specs.First.{Seat, found_in}
use Rattle.table.specs.Controls.{at}

pub record Key : Type 0 where
  pub unit : ℕ
  pub channel : ℕ
  pub selector : ℕ

abbrev pub where_is : Table → Key → Seat
where_is t k = found_in t k.unit k.channel k.selector

pub record Bears (k : Key) (c : Control) : Type 0 where
  pub unit : c.unit ≡ k.unit
  pub channel : c.channel ≡ k.channel
  pub selector : c.selector ≡ k.selector

pub record StandsAt (t : Table) (k : Key) (i : ℕ) : Type 0 where
  pub inside : i < t.count
  pub bears : Bears k (at t i)

pub record InTable (t : Table) (c : Control) : Type 0 where
  pub index : ℕ
  pub inside : index < t.count
  pub is : at t index ≡ c
