-- Ways upstream from an ID, over any sources, of at most a given number of entities. A route is a way from an Output Terminal to an Input Terminal.
--   Way             ==  the pins that a way goes by, one for each step, counted from 0, and the IDs along it
--   ended x         ==  the way that ends at the ID x, where it begins
--   via k x w       ==  from x by its pin k, then w
--   by_pins ask x k ys  ==  what is behind the pins of x, from pin k on, whose sources are ys: by each of them, the first pin first
--   of_entity ask x ys  ==  the ways from x, whose sources are ys: it ends there where there are none
--   ways_up named n x   ==  all ways upstream from the ID x, of n entities at most, where named gives the source IDs
--   behind_all ask ys   ==  what is behind the sources ys, one after another
--   written ws      ==  the IDs of each way, with 00 after the last
use Rattle.std.specs.Prelude.{ℕ, zero, suc, List, [], ◌∷◌, ◌++◌, map}

pub record Way : Type 0 where
  pub pins : List ℕ
  pub ids : List ℕ

abbrev pub ended : ℕ → Way
ended x = record { pins = []; ids = x ∷ [] }

abbrev pub via : ℕ → ℕ → Way → Way
via k x w = record { pins = k ∷ w.pins; ids = x ∷ w.ids }

unfoldable pub by_pins : (ℕ → List Way) → ℕ → ℕ → List ℕ → List Way
by_pins ask x k [] = []
by_pins ask x k (y ∷ ys) = map (via k x) (ask y) ++ by_pins ask x (suc k) ys

unfoldable pub of_entity : (ℕ → List Way) → ℕ → List ℕ → List Way
of_entity ask x [] = ended x ∷ []
of_entity ask x (y ∷ ys) = by_pins ask x 0 (y ∷ ys)

unfoldable pub ways_up : (ℕ → List ℕ) → ℕ → ℕ → List Way
ways_up named zero x = []
ways_up named (suc n) x = of_entity (λ y. ways_up named n y) x (named x)

unfoldable pub behind_all : (ℕ → List Way) → List ℕ → List Way
behind_all ask [] = []
behind_all ask (y ∷ ys) = ask y ++ behind_all ask ys

unfoldable pub written : List Way → List ℕ
written [] = []
written (w ∷ ws) = (w.ids ++ 0 ∷ []) ++ written ws
