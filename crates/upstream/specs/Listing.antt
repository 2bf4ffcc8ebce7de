-- The list of ways, with 46 and 49 (document 02, No. 8): "46 if there are more than 256 routes, 49 if the lent list is too short for them; a refusal leaves the
-- list's bytes"; "Bytes past the last route stay."
--   Counted ws a         ==  what the tally a says of the ways ws: it passes 256 exactly where they do, and else it is their number and their bytes
--   refused_with n p      ==  the answer of a refusal: number n at place p, no routes, nothing written
--   listed ws            ==  the answer where the ways ws are listed: how many they are, and their bytes
--   ways_listing ws room  ==  the answer for the ways ws where room bytes are lent
--   ways_list ws l        ==  what the lent bytes l hold afterwards
use Rattle.std.specs.Prelude.{ℕ, ◌≤◌, ◌<◌, ◌≡◌, List, ◌++◌, ltb, length, drop}
use Rattle.ground.specs.Pick.{pick}
use Rattle.upstream.specs.declared.Listing.{Listing}
use Rattle.upstream.specs.declared.Tally.{Tally}
use Rattle.upstream.specs.Ways.{Way, written}
use Rattle.upstream.specs.Telling.{most_routes}

pub record Counted (ws : List Way) (a : Tally) : Type 0 where
  pub many : most_routes < a.routes → most_routes < length ws
  pub few : a.routes ≤ most_routes → length ws ≤ most_routes
  pub routes : a.routes ≤ most_routes → a.routes ≡ length ws
  pub bytes : a.routes ≤ most_routes → a.written ≡ length (written ws)

unfoldable pub refused_with : ℕ → ℕ → Listing
refused_with n p = record { number = n; place = p; routes = 0; written = 0 }

unfoldable pub listed : List Way → Listing
listed ws = record { number = 0; place = 0; routes = length ws; written = length (written ws) }

unfoldable pub ways_listing : List Way → ℕ → Listing
ways_listing ws room = pick (ltb most_routes (length ws)) (refused_with 46 0) (pick (ltb room (length (written ws))) (refused_with 49 0) (listed ws))

unfoldable pub ways_list : List Way → List ℕ → List ℕ
ways_list ws l = pick (ltb most_routes (length ws)) l (pick (ltb (length l) (length (written ws))) l (written ws ++ drop (length (written ws)) l))
