-- The run's descriptors as the reader hands them on, and what is looked at of a run, index by index.
--   most_entities     ==  the most entities that a run may have: 32
--   node_of ed p d    ==  the descriptor d at place p, by the edition ed: its place, where its source IDs stand, its ID, its kind, whether it may be a source
--   nodes_from ed p ds ==  one descriptor after another from place p on
--   blank_node        ==  a spare place: all zeros
--   run_in ed p ds    ==  how many there are, and the first 32 of them, spare places blank
--   walk_of s p       ==  the descriptors that stand in s one after another from place p on, as a run by the Audio 1.0 edition, and the place of
--                        the first that has none of its layouts
--   unlaid_at e p     ==  the place p where the entity e, which stands there, has none of the layouts; else nowhere
--   earlier a b      ==  the place that a names; where it names none, what b says: a search, then another that goes on behind it
--   held r           ==  how many entities of the run r are looked at: as many as it counts, at most 32
--   node_at r i       ==  the i-th entity of the run, counted from 0
--   id_at, kind_at, place_at, feeds_at  ==  its ID; the number of its kind; its place, an offset from the first byte; whether it may be a source
--   sources_of s n, sources_at s r i  ==  the source IDs of the entity n, of the i-th entity, as they stand in the configuration s
--   descriptor_of s n, descriptor_at s r i  ==  the descriptor that stands at the place of the entity n, of the i-th entity
use Rattle.std.specs.Prelude.{ℕ, ◌+◌, min, Bool, false, List, [], ◌∷◌, length, get_or, take, drop, Option, Some, None}
use Rattle.ground.specs.Pick.{pick}
use Rattle.ground.specs.Lists.{pad, part}
use Rattle.scan.specs.Cutting.{end_at, rest}
use Rattle.scan.specs.Search.{searched}
use Rattle.layout.specs.declared.Entity.{Entity}
use Rattle.layout.specs.Layout.{entity_of, is_unknown}
use Rattle.edition.specs.Edition.{Edition, own_id}
use Rattle.edition.specs.Audio.{audio}
use Rattle.entities.specs.declared.Node.{Node}
use Rattle.entities.specs.declared.Run.{Run}
use Rattle.entities.specs.declared.Walk.{Walk}

abbrev pub most_entities : ℕ
most_entities = 32

unfoldable pub node_of : Edition → ℕ → List ℕ → Node
node_of ed p d = record { place = p; first = p + ed.first d; pins = ed.pins d; id = own_id d; kind = ed.kind d; feeds = ed.feeds d }

unfoldable pub nodes_from : Edition → ℕ → List (List ℕ) → List Node
nodes_from ed p [] = []
nodes_from ed p (d ∷ ds) = node_of ed p d ∷ nodes_from ed (p + length d) ds

unfoldable pub blank_node : Node
blank_node = record { place = 0; first = 0; pins = 0; id = 0; kind = 0; feeds = false }

unfoldable pub run_in : Edition → ℕ → List (List ℕ) → Run
run_in ed p ds = record { count = length ds; nodes = pad blank_node most_entities (nodes_from ed p ds) }

unfoldable pub walk_of : List ℕ → ℕ → Walk
walk_of s p = record { run = run_in audio p (rest s p); unlaid = searched (λ b d. is_unknown (entity_of d)) s p }

unfoldable pub unlaid_at : Entity → ℕ → Option ℕ
unlaid_at e p = pick (is_unknown e) (Some p) None

unfoldable pub earlier : Option ℕ → Option ℕ → Option ℕ
earlier None b = b
earlier (Some p) b = Some p

abbrev pub held : Run → ℕ
held r = min r.count most_entities

abbrev pub node_at : Run → ℕ → Node
node_at r i = get_or r.nodes i blank_node

abbrev pub id_at : Run → ℕ → ℕ
id_at r i = (node_at r i).id

abbrev pub kind_at : Run → ℕ → ℕ
kind_at r i = (node_at r i).kind

abbrev pub place_at : Run → ℕ → ℕ
place_at r i = (node_at r i).place

abbrev pub feeds_at : Run → ℕ → Bool
feeds_at r i = (node_at r i).feeds

abbrev pub sources_of : List ℕ → Node → List ℕ
sources_of s n = take n.pins (drop n.first s)

abbrev pub sources_at : List ℕ → Run → ℕ → List ℕ
sources_at s r i = sources_of s (node_at r i)

abbrev pub descriptor_of : List ℕ → Node → List ℕ
descriptor_of s n = part s n.place (end_at s n.place)

abbrev pub descriptor_at : List ℕ → Run → ℕ → List ℕ
descriptor_at s r i = descriptor_of s (node_at r i)
