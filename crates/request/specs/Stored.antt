-- Where what is done to the addressed controls is stored.
--   stored_at t ps cs  ==  the table with each of the controls cs at its index of ps
--   outcome_at t ps o  ==  what it comes to where o is done at the controls of these indices
--   outcome_of t ps act  ==  .. where what is done goes by the controls that stand there
--   indices_in so       ==  the indices of the controls that were sought
--   Apart ps          ==  no index stands twice; rising_all_apart: as where a number rises along them
--   Seated so         ==  they are indices of a table, each once, and no more than one request addresses
use Rattle.std.specs.Prelude.{ℕ, ◌≤◌, ◌<◌, take}
use mathlib.Core.List.{List, [], ◌∷◌, map, Memᴰ}
use Rattle.ground.specs.Rising.{Rising, none, more, rising_apart}
use Rattle.table.specs.declared.Control.{Control}
use Rattle.table.specs.declared.Table.{Table}
use Rattle.table.specs.Controls.{most_controls, at, placed}
use Rattle.deed.specs.Doing.{Doing}
use Rattle.deed.specs.Doing.Doing.{denied, given, changed}
use Rattle.address.specs.declared.Sought.{Sought}
use Rattle.address.specs.Addressed.{most_addressed}
use Rattle.request.specs.Outcome.{Outcome}
use Rattle.request.specs.Outcome.Outcome.{refused, got, done}

unfoldable pub stored_at : Table → List ℕ → List Control → Table
stored_at t [] cs = t
stored_at t (p ∷ ps) [] = t
stored_at t (p ∷ ps) (c ∷ cs) = stored_at (placed t p c) ps cs

abbrev pub outcome_at : Table → List ℕ → Doing → Outcome
outcome_at t ps (denied n) = refused n
outcome_at t ps (given bytes) = got bytes
outcome_at t ps (changed cs) = done (stored_at t ps cs)

abbrev pub outcome_of : Table → List ℕ → (List Control → Doing) → Outcome
outcome_of t ps act = outcome_at t ps (act (map (at t) ps))

abbrev pub indices_in : Sought → List ℕ
indices_in so = take so.count so.indices

pub data Apart : List ℕ → Type 0 where
  alone : Apart []
  apart : {p : ℕ} {ps : List ℕ} → (Memᴰ p ps → ⊥) → Apart ps → Apart (p ∷ ps)

pub rising_all_apart : {key : ℕ → ℕ} {ps : List ℕ} → Rising key ps → Apart ps
rising_all_apart none = alone
rising_all_apart (more h r) = apart (rising_apart (more h r)) (rising_all_apart r)

pub record Seated (so : Sought) : Type 0 where
  pub few : so.count ≤ most_addressed
  pub inside : (p : ℕ) → Memᴰ p (indices_in so) → p < most_controls
  pub each : Apart (indices_in so)
