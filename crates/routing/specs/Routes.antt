-- Document 02, No. 8: "every route from one Output Terminal up to the Input Terminals. .. List each route exactly once and nothing else, as IDs from the output to the
-- input with 00 after the last, in order of pins, the first pin first. Two pins with the same source are two routes." It speaks of the run's descriptors, with no walk.
--   InputTerminal d, OutputTerminal d  ==  by byte 2, the kind
--   OutputOf ds x d  ==  d is the Output Terminal of the run ds that bears the ID x
--   Route ds d w     ==  w is a route from d: it ends at an Input Terminal, or goes by one of the pins of d to the entity of the run that bears the ID there, and on from there
--   PinsBefore p q   ==  of two ways, told by their pins, the first comes first: at the first pin where they part it takes the lower
--   PinsRise ws      ==  each of the ways ws comes before all behind it: none stands twice, and they stand in the order of pins
--   EachOnce ds d ws   ==  ws has each route from d exactly once and nothing else, in the order of pins
use Rattle.std.specs.Prelude.{ℕ, ◌<◌, ◌≡◌, List, [], ◌∷◌, length, get_or}
use Rattle.ground.specs.Numbers.{byte}
use Rattle.graph.specs.Members.{◌∈◌}
use Rattle.edition.specs.Edition.{own_id, sources}
use Rattle.edition.specs.Audio.{audio}
use Rattle.upstream.specs.Ways.{Way, ended, via}

abbrev pub InputTerminal : List ℕ → Type 0
InputTerminal d = byte d 2 ≡ 2

abbrev pub OutputTerminal : List ℕ → Type 0
OutputTerminal d = byte d 2 ≡ 3

pub record OutputOf (ds : List (List ℕ)) (x : ℕ) (d : List ℕ) : Type 0 where
  pub among : d ∈ ds
  pub bears : own_id d ≡ x
  pub output : OutputTerminal d

pub data Route (ds : List (List ℕ)) : List ℕ → Way → Type 0 where
  ends : {d : List ℕ} → InputTerminal d → Route ds d (ended (own_id d))
  up : {d e : List ℕ} {w : Way} (k : ℕ) → k < length (sources audio d) → e ∈ ds → own_id e ≡ get_or (sources audio d) k 0 → Route ds e w
      → Route ds d (via k (own_id d) w)

pub data PinsBefore : List ℕ → List ℕ → Type 0 where
  here : {k l : ℕ} {p q : List ℕ} → k < l → PinsBefore (k ∷ p) (l ∷ q)
  later : {k : ℕ} {p q : List ℕ} → PinsBefore p q → PinsBefore (k ∷ p) (k ∷ q)

abbrev pub PinsRise : List Way → Type 0
PinsRise [] = Unit {0}
PinsRise (w ∷ ws) = ((v : Way) → v ∈ ws → PinsBefore w.pins v.pins) × PinsRise ws

pub record EachOnce (ds : List (List ℕ)) (d : List ℕ) (ws : List Way) : Type 0 where
  pub only : (w : Way) → w ∈ ws → Route ds d w
  pub each : (w : Way) → Route ds d w → w ∈ ws
  pub rising : PinsRise ws
