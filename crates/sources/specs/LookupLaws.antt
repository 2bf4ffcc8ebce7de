-- Laws on lookup by ID: a lookup among one entity more, and what the directory tells of a run.
--   lookup_none      ==  among no entities nothing is found
--   lookup_other     ==  an entity that bears another ID changes nothing
--   lookup_new       ==  one that bears the ID is found where none before did
--   lookup_old       ==  .. and changes nothing where one before did: the first that bears an ID counts
--   entity_refuses   ==  an entity that is found has the number 11 exactly where it has no output
--   directory_at     ==  what stands in the directory of a run at an ID is what the lookup finds
--   wrong_by_lem, any_wrong_by  ==  .. so that a wrong source by the directory is a wrong source of the run, for bytes
use Rattle.std.specs.Prelude.{ℕ, ◌+◌, ◌<◌, Bool, true, false, not, ◌||◌, List, [], ◌∷◌, Option, Some, None, eqb, get_or}
use Rattle.std.proofs.Math.Path.{◌≡◌, refl, ap}
use Rattle.std.proofs.Common.{◌∙◌, arith}
use mathlib.Core.List.Memᴰ
use borrow.Author.Tests.{eq-eqb, ne_eqb}
use Rattle.ground.specs.Pick.{no}
use Rattle.ground.specs.Lists.{any}
use Rattle.ground.specs.Places.{first_in, first_more, Finding, nothing, first, finding, first_some}
use Rattle.graph.specs.Members.{◌∈◌}
use Rattle.graph.specs.Tables.{get_d_tabulate}
use Rattle.entities.specs.declared.Run.{Run}
use Rattle.entities.specs.Run.{id_at, feeds_at}
use Rattle.ids.specs.Breach.{bears}
use Rattle.sources.specs.Lookup.{lookup_below, lookup, source_number, directory_of}
use Rattle.sources.specs.Breach.{refuses, wrong_source, wrong_by}

module _ (run : Run) where
  abbrev answer : ℕ → Option Bool
  answer i = Some (feeds_at run i)

  pub lookup_none : (x : ℕ) → lookup_below run 0 x ≡ None
  unfolding lookup_below first_in
  lookup_none x = refl

  module _ (n x : ℕ) where
    pub lookup_other : (id_at run n ≡ x → ⊥) → lookup_below run (n + 1) x ≡ lookup_below run n x
    unfolding lookup_below
    lookup_other f =
        first_more (bears run x) answer None n
        ∙ ap (λ (r : Option Bool). first_in (bears run x) answer r 0 n) (no _ _ (ne_eqb (id_at run n) x f))

    module _ (e : id_at run n ≡ x) where
      pub lookup_new : lookup_below run n x ≡ None → lookup_below run (n + 1) x ≡ Some (feeds_at run n)
      unfolding lookup_below
      lookup_new u = go (finding (bears run x) answer None n) u
        where
          go : {r : Option Bool} → Finding (bears run x) answer None n r → r ≡ None → first_in (bears run x) answer None 0 (n + 1) ≡ answer n
          go (nothing h) q = first_some (bears run x) answer None (n + 1) n (record { inside = omega arith; passes = eq-eqb (id_at run n) x e; none_before = h })
          go (first f) q = let z : ◌≡◌ {A = ℕ} 0 1 = cc in absurd (omega arith)

      pub lookup_old : (lookup_below run n x ≡ None → ⊥) → lookup_below run (n + 1) x ≡ lookup_below run n x
      unfolding lookup_below
      lookup_old u = go (finding (bears run x) answer None n) u
        where
          go : {r : Option Bool} → Finding (bears run x) answer None n r → (r ≡ None → ⊥) → first_in (bears run x) answer None 0 (n + 1) ≡ r
          go (nothing h) q = absurd (q refl)
          go (first {i} f) q = let m = f.inside in first_some (bears run x) answer None (n + 1) i (record { inside = omega arith; passes = f.passes; none_before = f.none_before })

pub entity_refuses : (b : Bool) → not b ≡ refuses (Some b)
unfolding source_number
entity_refuses true = refl
entity_refuses false = refl

pub directory_at : (run : Run) (x : ℕ) → x < 256 → get_or (directory_of run) x None ≡ lookup run x
unfolding directory_of
directory_at run x l = get_d_tabulate 256 (lookup run) x None l

pub wrong_by_lem : (run : Run) (x : ℕ) → x < 256 → wrong_by (directory_of run) x ≡ wrong_source run x
unfolding wrong_by wrong_source
wrong_by_lem run x l = ap (λ (f : Option Bool). eqb x 0 || refuses f) (directory_at run x l)

any_same : {A : Type 0} (t u : A → Bool) (l : List A) → ((x : A) → x ∈ l → t x ≡ u x) → any t l ≡ any u l
unfolding any
any_same t u [] h = refl
any_same t u (x ∷ l) h = rw (h x (Memᴰ.head refl)) (ap (λ (b : Bool). u x || b) (any_same t u l (λ y m. h y (Memᴰ.tail m))))

pub any_wrong_by : (run : Run) (l : List ℕ) → ((x : ℕ) → x ∈ l → x < 256) → any (wrong_by (directory_of run)) l ≡ any (wrong_source run) l
any_wrong_by run l h = any_same (wrong_by (directory_of run)) (wrong_source run) l (λ x m. wrong_by_lem run x (h x m))
