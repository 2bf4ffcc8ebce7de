-- Loads: refusals 30, 20 and 21, in this order.
--   load_at t e range w  ==  20: "no such ranged control", for one that is not there; else what the load comes to at the control
--   load_of st u ch s range w  ==  the whole load, of the control of unit u, channel ch and selector s
use Rattle.std.specs.Prelude.{ℕ, Option, None, Some, [], ◌∷◌}
use Rattle.ground.specs.Pick.{pick}
use Rattle.setting.specs.declared.Range.{Range}
use Rattle.table.specs.declared.Table.{Table}
use Rattle.table.specs.declared.Control.{Control}
use Rattle.table.specs.First.{entry_in, entry_number}
use Rattle.sound.specs.Sound.{sound_of}
use Rattle.loads.specs.Load.{load_on}
use Rattle.request.specs.declared.State.{State}
use Rattle.request.specs.Outcome.{Outcome}
use Rattle.request.specs.Outcome.Outcome.{refused}
use Rattle.request.specs.Stored.{outcome_at}

unfoldable pub load_at : Table → Option (ℕ × Control) → Range → ℕ → Outcome
load_at t None range w = refused (entry_number None)
load_at t (Some found) range w = outcome_at t (found.0 ∷ []) (load_on found.1 range w)

unfoldable pub load_of : State → ℕ → ℕ → ℕ → Range → ℕ → Outcome
load_of st u ch s range w = pick (sound_of st.table) (load_at st.table (entry_in st.table u ch s) range w) (refused 30)
