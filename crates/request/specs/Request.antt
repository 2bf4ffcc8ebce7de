-- Class requests: refusals 30 to 39, in this order.
--   elsewhere_by g m    ==  32: "wIndex low byte is not the AudioControl number", which is m; else 0
--   barred_by k m       ==  31 or 32, which no table decides; 0 where neither is
--   if_any n            ==  the refusal n as the code tells it: none where n is 0
--   missed_by t u       ==  33: "wIndex high byte is no unit with controls"; 34: "no such control"
--   doing_of k d room cs  ==  a Set or a Get of the addressed controls (crate answers)
--   done_at t u ps act  ==  33 or 34 where no control is addressed; else what is done at those that are
--   answer_asked st k d room  ==  31 or 32, or what k comes to at the controls that it names
--   request_of st s d room    ==  the whole request; room is the reply's length
use Rattle.std.specs.Prelude.{ℕ, Option, None, Some, List, [], ◌∷◌, map, eqb}
use Rattle.ground.specs.Pick.{pick}
use Rattle.table.specs.declared.Control.{Control}
use Rattle.table.specs.declared.Table.{Table}
use Rattle.table.specs.Controls.{at}
use Rattle.address.specs.Sought.{missing_by}
use Rattle.sound.specs.Sound.{sound_of}
use Rattle.setup.specs.declared.Target.{Target}
use Rattle.setup.specs.declared.Asked.{Asked}
use Rattle.setup.specs.declared.Asked.TheVariants as asks
use Rattle.setup.specs.Setup.{asked_of, target_in}
use Rattle.deed.specs.Doing.{Doing}
use Rattle.deed.specs.Doing.Doing.{denied}
use Rattle.answers.specs.Answers.{set_of, get_of}
use Rattle.request.specs.declared.State.{State}
use Rattle.request.specs.Outcome.{Outcome}
use Rattle.request.specs.Outcome.Outcome.{refused}
use Rattle.address.specs.Addressed.{addressed_in, unit_in}
use Rattle.request.specs.Stored.{outcome_at}

unfoldable pub elsewhere_by : Target → ℕ → ℕ
elsewhere_by g m = pick (eqb g.interface m) 0 32

abbrev pub barred_by : Asked → ℕ → ℕ
barred_by asks.Unknown m = 31
barred_by (asks.Set g) m = elsewhere_by g m
barred_by (asks.Get part g) m = elsewhere_by g m

abbrev pub if_any : ℕ → Option ℕ
if_any n = pick (eqb n 0) None (Some n)

abbrev pub missed_by : Table → ℕ → ℕ
missed_by t u = missing_by (unit_in t u)

abbrev pub doing_of : Asked → List ℕ → ℕ → List Control → Doing
doing_of asks.Unknown d room cs = denied 31
doing_of (asks.Set g) d room cs = set_of cs g.bytes d
doing_of (asks.Get part g) d room cs = get_of part cs g.bytes room

unfoldable pub done_at : Table → ℕ → List ℕ → (List Control → Doing) → Outcome
done_at t u [] act = refused (missed_by t u)
done_at t u (p ∷ ps) act = outcome_at t (p ∷ ps) (act (map (at t) (p ∷ ps)))

unfoldable pub answer_asked : State → Asked → List ℕ → ℕ → Outcome
answer_asked st k d room =
    pick (eqb (barred_by k st.control) 0)
    (done_at st.table (target_in k).unit (addressed_in st.table (target_in k).unit (target_in k).channel (target_in k).selector) (doing_of k d room))
    (refused (barred_by k st.control))

unfoldable pub request_of : State → List ℕ → List ℕ → ℕ → Outcome
request_of st s d room = pick (sound_of st.table) (answer_asked st (asked_of s) d room) (refused 30)
