-- Document 01, refusal 12: "some upstream chain of sources is longer than 32 steps (no ranks exist)". A chain goes from an entity to one
-- that bears one of its source IDs, and so on from there; it may meet an entity twice. Wrong is each entity with such a chain above it, on a
-- loop or below one; the first by place is named. All of it speaks of the run's descriptors, for any edition.
--   most_steps            ==  32
--   Upstream ed ds n d   ==  a chain of n steps goes upstream from d in the run ds
--   Endless ed ds d      ==  a chain of more than 32 steps does
--   Rule12 ed ds         ==  from no descriptor of the run does one
--   Ranking ed ds rank   ==  the rank, on IDs, is lower at each source than at its user
use Rattle.std.specs.Prelude.{ℕ, zero, suc, ◌<◌, List}
use Rattle.graph.specs.Members.{◌∈◌}
use Rattle.edition.specs.Edition.{Edition, own_id, sources}

abbrev pub most_steps : ℕ
most_steps = 32

pub data Upstream (ed : Edition) (ds : List (List ℕ)) : ℕ → List ℕ → Type 0 where
  ends : {d : List ℕ} → Upstream ed ds zero d
  up : {n : ℕ} {d e : List ℕ} → e ∈ ds → own_id e ∈ sources ed d → Upstream ed ds n e → Upstream ed ds (suc n) d

abbrev pub Endless : Edition → List (List ℕ) → List ℕ → Type 0
Endless ed ds d = (n : ℕ) × (most_steps < n) × Upstream ed ds n d

abbrev pub Rule12 : Edition → List (List ℕ) → Type 0
Rule12 ed ds = (d : List ℕ) → d ∈ ds → Endless ed ds d → ⊥

abbrev pub Ranking : Edition → List (List ℕ) → (ℕ → ℕ) → Type 0
Ranking ed ds rank = (d : List ℕ) → d ∈ ds → (x : ℕ) → x ∈ sources ed d → rank x < rank (own_id d)
