-- What a listing answers of a configuration (document 02, No. 8): the reader's refusals but 16, then 45, 46 and 49, or the routes.
--   bearer_below run n x  ==  the last of the run's first n entities that bears the ID x; a blank one where none does
--   bearer run x         ==  .. of all its entities
--   named_in s run x      ==  the source IDs of the bearer of x
--   source_places_of run      ==  by ID, where the source IDs of its bearer stand, and how many there are
--   is_output run x       ==  the entity that bears the ID x has no output
--   ways_for s run x      ==  the ways upstream from x
--   listing_in s run x room, list_in s run x l  ==  the answer where the reader refuses nothing, and the list afterwards
--   listing_of s x room   ==  the answer for the configuration s, the ID x and a list of room bytes
--   list_after s x l      ==  what the lent bytes l hold afterwards
use Rattle.std.specs.Prelude.{ℕ, zero, suc, Bool, false, not, List, eqb}
use Rattle.ground.specs.Pick.{pick}
use Rattle.ground.specs.Refuse.{none}
use Rattle.ground.specs.Places.{first_in}
use Rattle.graph.specs.Tables.{tabulate}
use Rattle.entities.specs.declared.Node.{Node}
use Rattle.entities.specs.declared.Run.{Run}
use Rattle.entities.specs.Run.{blank_node, held, node_at, id_at, feeds_at, sources_of}
use Rattle.ids.specs.Breach.{bears}
use Rattle.cutting.specs.Survey.{survey_of}
use Rattle.topology.specs.Reading.{judged_then}
use Rattle.upstream.specs.declared.Listing.{Listing}
use Rattle.upstream.specs.Ways.{Way, ways_up}
use Rattle.upstream.specs.Telling.{most_depth}
use Rattle.upstream.specs.Listing.{refused_with, ways_listing, ways_list}
use Rattle.routing.specs.declared.SourcePlaces.{SourcePlaces}

unfoldable pub bearer_below : Run → ℕ → ℕ → Node
bearer_below run zero x = blank_node
bearer_below run (suc n) x = pick (eqb (id_at run n) x) (node_at run n) (bearer_below run n x)

abbrev pub bearer : Run → ℕ → Node
bearer run x = bearer_below run (held run) x

unfoldable pub named_in : List ℕ → Run → ℕ → List ℕ
named_in s run x = sources_of s (bearer run x)

unfoldable pub source_places_of : Run → SourcePlaces
source_places_of run = record { firsts = tabulate 256 (λ x. (bearer run x).first); counts = tabulate 256 (λ x. (bearer run x).pins) }

unfoldable pub is_output : Run → ℕ → Bool
is_output run x = first_in (bears run x) (λ i. not (feeds_at run i)) false 0 (held run)

unfoldable pub ways_for : List ℕ → Run → ℕ → List Way
ways_for s run x = ways_up (named_in s run) most_depth x

unfoldable pub listing_in : List ℕ → Run → ℕ → ℕ → Listing
listing_in s run x room = pick (is_output run x) (ways_listing (ways_for s run x) room) (refused_with 45 0)

unfoldable pub list_in : List ℕ → Run → ℕ → List ℕ → List ℕ
list_in s run x l = pick (is_output run x) (ways_list (ways_for s run x) l) l

unfoldable pub listing_of : List ℕ → ℕ → ℕ → Listing
listing_of s x room =
    pick (eqb (judged_then s none).number 0) (listing_in s (survey_of s).run x room) (refused_with (judged_then s none).number (judged_then s none).place)

unfoldable pub list_after : List ℕ → ℕ → List ℕ → List ℕ
list_after s x l = pick (eqb (judged_then s none).number 0) (list_in s (survey_of s).run x l) l
