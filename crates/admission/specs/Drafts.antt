-- The draft that a configuration is read into before its sheet is written: a whole sheet (records/specs/Sheet.antt), so that it has room for every configuration's records.
--   Drafted s room z q y  ==  q is the plug-in of the configuration s with room bytes lent, the front of the draft z, and y the draft at exit
use Rattle.std.specs.Prelude.{ℕ, ◌≡◌, List, ◌++◌, take, drop}
use Rattle.topology.specs.Reading.{reading_of, sheet_of}
use Rattle.plug.specs.declared.Plugged.{Plugged}
use Rattle.plug.specs.Plugged.{state_of}

pub record Drafted (s : List ℕ) (room : ℕ) (z : List ℕ) (q : Plugged) (y : List ℕ) : Type 0 where
  pub reading : q.reading ≡ reading_of s room
  pub state : q.state ≡ state_of (reading_of s room)
  pub draft : y ≡ sheet_of s (take room z) ++ drop room z
