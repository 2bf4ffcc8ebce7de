-- The walk begins with no ID, 32 to follow and nothing told.
use borrow.Author.Rules.{rules}
use Prim.Native.Nat.{ℕ}
use mathlib.Core.Path.{◌≡◌}
use mathlib.Core.List.{List, []}
use native.Mathlib.Omega.{arith}
use lib.ListN.{replicate, length-replicate}
use Rattle.upstream.specs.declared.Path.{Path}
use Rattle.upstream.specs.Ways.{Way}
use Rattle.upstream.specs.Telling.{most_depth, path_of, Ready, Progress, tell_all}
use Rattle.upstream.proofs.walk.Goals as goal

abbrev empty : Path
empty = record { ids = replicate 32 0; left = most_depth }

ready : Ready empty (record { routes = 0; written = 0 })
ready = record { stands = record { low = omega arith; long = length-replicate {A = ℕ} 32 0 }; few = omega arith; short = omega arith }

from_nothing : (r t : Progress) (ws : List Way) → r ≡ tell_all (path_of empty) t ws → r ≡ tell_all [] t ws
unfolding path_of
from_nothing r t ws e = e

ruleset laws = (ready, from_nothing, rules)

pub returns : goal.returns
returns c = search laws
