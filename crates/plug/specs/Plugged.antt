-- A plug-in: "It reads one configuration .. and answers a table of controls, the AudioControl interface number, the counts of entities
-- and controls, and a sheet written to a lent buffer. It takes ranges for controls, then answers class requests."
--   state_of r          ==  the state that a reading leaves: its AudioControl number and its table
--   PluggedIn s d r a  ==  of the configuration s and the lent sheet d, r is the reading and its state, and a is the sheet at exit;
--                          refusal 30 has nothing against that state
use Rattle.std.specs.Prelude.{ℕ, ◌≡◌, List, length}
use Rattle.sound.specs.Meaning.{Sound}
use Rattle.topology.specs.declared.Reading.{Reading}
use Rattle.topology.specs.Reading.{reading_of, sheet_of}
use Rattle.request.specs.declared.State.{State}
use Rattle.plug.specs.declared.Plugged.{Plugged}

abbrev pub state_of : Reading → State
state_of r = record { control = r.control; table = r.table }

pub record PluggedIn (s d : List ℕ) (r : Plugged) (a : List ℕ) : Type 0 where
  pub reading : r.reading ≡ reading_of s (length d)
  pub state : r.state ≡ state_of (reading_of s (length d))
  pub sheet : a ≡ sheet_of s d
  pub sound : Sound r.state.table
