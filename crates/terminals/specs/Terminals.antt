-- The Terminals of a run, as GENERAL's byte 3 names them (document 01, "Streaming"): "byte 3 a Terminal of type 0x0101", and
-- "byte 4 equals that terminal's c". The cluster at an Input Terminal's index is its own, at an Output Terminal's the entering one.
--   Terminal           ==  an ID, a terminal type, channels c
--   terminal_of e c     ==  the Terminal that the entity e is, with c channels; none for the other kinds
--   terminal_at s r cs i  ==  the same of the i-th entity of the run r, by its descriptor in the configuration s, with the i-th of the
--                          clusters cs
--   terminals_from k i s r cs  ==  those of the next k entities from the i-th on
--   terminals_of s r cs ==  the Terminals of the run r in its order, with the clusters cs at its indices
--   borne t            ==  type and channels of the Terminal t, which are what bears its ID
--   bearer_in ts id     ==  type and channels of the first of the Terminals ts that bears the ID id, or nothing
--   terminal_number b   ==  the number that refuses what bears an ID: 14 for nothing and for a Terminal of another type, 0 for a right one
--   channels_borne b    ==  its channels c
--   OneEach ts         ==  an ID is borne by one of the Terminals at most (rule 10 says so of all entities)
use Rattle.std.specs.Prelude.{ℕ, zero, suc, ◌≡◌, get_or, eqb, Option, None, Some}
use mathlib.Core.List.{List, [], ◌∷◌, ◌++◌, Memᴰ}
use Rattle.ground.specs.Pick.{pick}
use Rattle.layout.specs.declared.Cluster.{Cluster}
use Rattle.layout.specs.declared.Entity.{Entity}
use Rattle.layout.specs.declared.Entity.TheVariants.{Unknown, Input, Output, Mixer, Selector, Feature}
use Rattle.layout.specs.Layout.{entity_of, no_cluster}
use Rattle.entities.specs.declared.Run.{Run}
use Rattle.entities.specs.Run.{held, descriptor_at}
use Rattle.terminals.specs.declared.Bearer.{Bearer}

pub record Terminal : Type 0 where
  pub id : ℕ
  pub kind : ℕ
  pub channels : ℕ

unfoldable pub terminal_of : Entity → ℕ → List Terminal
terminal_of Unknown c = []
terminal_of (Input i t own) c = record { id = i; kind = t; channels = c } ∷ []
terminal_of (Output i t s) c = record { id = i; kind = t; channels = c } ∷ []
terminal_of (Mixer i p own) c = []
terminal_of (Selector i p) c = []
terminal_of (Feature i s n) c = []

abbrev pub terminal_at : List ℕ → Run → List Cluster → ℕ → List Terminal
terminal_at s r cs i = terminal_of (entity_of (descriptor_at s r i)) (get_or cs i no_cluster).channels

unfoldable pub terminals_from : ℕ → ℕ → List ℕ → Run → List Cluster → List Terminal
terminals_from zero i s r cs = []
terminals_from (suc k) i s r cs = terminal_at s r cs i ++ terminals_from k (suc i) s r cs

unfoldable pub terminals_of : List ℕ → Run → List Cluster → List Terminal
terminals_of s r cs = terminals_from (held r) 0 s r cs

abbrev pub borne : Terminal → Bearer
borne t = record { kind = t.kind; channels = t.channels }

unfoldable pub bearer_in : List Terminal → ℕ → Option Bearer
bearer_in [] id = None
bearer_in (t ∷ ts) id = pick (eqb t.id id) (Some (borne t)) (bearer_in ts id)

unfoldable pub terminal_number : Option Bearer → ℕ
terminal_number None = 14
terminal_number (Some b) = pick (eqb b.kind 0x0101) 0 14

unfoldable pub channels_borne : Option Bearer → ℕ
channels_borne None = 0
channels_borne (Some b) = b.channels

abbrev pub OneEach : List Terminal → Type 0
OneEach ts = (t u : Terminal) → Memᴰ t ts → Memᴰ u ts → t.id ≡ u.id → t ≡ u
