-- What the walk has told, way by way.
--   sources_by s f c x  ==  the source IDs of the ID x in the configuration s, by the tables of where the first stands and how many there are
--   sources_in t x    ==  .. in the configuration and by the tables t
--   most_depth        ==  the most entities of a way: 32
--   most_routes       ==  the most routes that are listed: 256
--   path_of p         ==  the IDs of a path
--   Standing p       ==  no more may follow than 32, and there are places for them all
--   Further p x q    ==  q is the path p with the ID x behind it, and one less may follow
--   Ready p t        ==  p stands, and what was told so far is bounded by the routes told, 257 at most: 33 bytes for each
--   Progress, so_far t l  ==  how many routes were told, how many bytes they take, and the list
--   put_in l at bs    ==  the list l with the bytes bs at a place, where they have room there; else l
--   tell is t        ==  a route with the IDs is told, and 00 after the last; nothing once there are more routes than are listed
--   tell_all pre t ws ==  the ways ws are told one after another, each behind the IDs pre
use Rattle.std.specs.Prelude.{ℕ, ◌+◌, ◌-◌, ◌*◌, ◌≤◌, ◌≡◌, List, [], ◌∷◌, ◌++◌, ltb, length, get_or, take, drop}
use Rattle.std.proofs.lemmas.List.Edits.{sets}
use Rattle.ground.specs.Pick.{pick}
use Rattle.upstream.specs.declared.Path.{Path}
use Rattle.upstream.specs.declared.Tables.{Tables}
use Rattle.upstream.specs.declared.Tally.{Tally}
use Rattle.upstream.specs.Ways.{Way}

unfoldable pub sources_by : List ℕ → List ℕ → List ℕ → ℕ → List ℕ
sources_by s firsts counts x = take (get_or counts x 0) (drop (get_or firsts x 0) s)

abbrev pub sources_in : Tables → ℕ → List ℕ
sources_in t = sources_by t.config.now t.firsts.now t.counts.now

abbrev pub most_depth : ℕ
most_depth = 32

abbrev pub most_routes : ℕ
most_routes = 256

unfoldable pub path_of : Path → List ℕ
path_of p = take (most_depth - p.left) p.ids

pub record Standing (p : Path) : Type 0 where
  pub low : p.left ≤ most_depth
  pub long : length p.ids ≡ most_depth

pub record Further (p : Path) (x : ℕ) (q : Path) : Type 0 where
  pub stands : Standing q
  pub behind : path_of q ≡ path_of p ++ x ∷ []
  pub less : p.left ≡ q.left + 1

pub record Ready (p : Path) (t : Tally) : Type 0 where
  pub stands : Standing p
  pub few : t.routes ≤ most_routes + 1
  pub short : t.written ≤ t.routes * (most_depth + 1)

pub record Progress : Type 0 where
  pub routes : ℕ
  pub written : ℕ
  pub list : List ℕ

unfoldable pub so_far : Tally → List ℕ → Progress
so_far t l = record { routes = t.routes; written = t.written; list = l }

unfoldable pub put_in : List ℕ → ℕ → List ℕ → List ℕ
put_in l at bs = pick (ltb (length l) (at + length bs)) l (sets l at bs)

unfoldable pub tell : List ℕ → Progress → Progress
tell is t = pick (ltb most_routes t.routes) t (record {
  routes = t.routes + 1;
  written = t.written + length is + 1;
  list = put_in t.list t.written (is ++ 0 ∷ []);
})

unfoldable pub tell_all : List ℕ → Progress → List Way → Progress
tell_all pre t [] = t
tell_all pre t (w ∷ ws) = tell_all pre (tell (pre ++ w.ids) t) ws
