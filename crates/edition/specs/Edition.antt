-- An edition is a value: what differs between editions of the class definition below demand 3. It speaks of a descriptor of the run, a
-- list of bytes: which layouts there are, whether the entity may be a source, where its source IDs stand, which cluster it gives out where
-- some enter it, and which test it must pass. What is said of any edition does not know which one it is.
--   Edition         ==  LaidOut d: d has one of the layouts (rule 9); Withdrawn d: it has one that was taken once, and is refused by 17; kind d: the number
--                       of its kind on the sheet; feeds d: it has an output, so that it may be a source; first d, pins d: the offset of its first source ID, and how many there are, one behind another (inside: within d); Cluster: what
--                       a cluster is; gives_out d cs: what d gives out where the clusters cs enter, pin by pin; Keeps d cs: the rule
--                       that d must keep then (rule 13), and keeps d cs, the test that decides it (reads)
--   own_id d         ==  byte 3, the ID that the entity bears
--   DistinctIds ds  ==  no two of the descriptors ds bear the same ID
--   sources ed d    ==  its source IDs, in the order of its pins
use Rattle.std.specs.Prelude.{ℕ, ◌+◌, ◌≤◌, ◌≡◌, Bool, length, take, drop}
use mathlib.Core.List.{List, ◌∷◌, ◌++◌, Memᴰ}
use Rattle.ground.specs.Numbers.{byte}
use Rattle.ground.specs.Pick.{Reads}

pub record Edition : Type 1 where
  pub LaidOut : List ℕ → Type 0
  pub Withdrawn : List ℕ → Type 0
  pub kind : List ℕ → ℕ
  pub feeds : List ℕ → Bool
  pub first : List ℕ → ℕ
  pub pins : List ℕ → ℕ
  pub inside : (d : List ℕ) → LaidOut d → first d + pins d ≤ length d
  pub Cluster : Type 0
  pub gives_out : List ℕ → List Cluster → Cluster
  pub Keeps : List ℕ → List Cluster → Type 0
  pub keeps : List ℕ → List Cluster → Bool
  pub reads : (d : List ℕ) (cs : List Cluster) → Reads (keeps d cs) (Keeps d cs)

abbrev pub own_id : List ℕ → ℕ
own_id d = byte d 3

abbrev pub DistinctIds : List (List ℕ) → Type 0
DistinctIds ds = (x : List (List ℕ)) (d : List ℕ) (y : List (List ℕ)) (e : List ℕ) → ds ≡ x ++ d ∷ y → Memᴰ e y → own_id d ≡ own_id e → ⊥

abbrev pub sources : Edition → List ℕ → List ℕ
sources ed d = take (ed.pins d) (drop (ed.first d) d)
