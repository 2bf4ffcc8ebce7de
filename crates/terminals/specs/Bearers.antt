-- What is found by an ID is what bears it.
--   Bears id ts b    ==  b is type and channels of one of the Terminals ts that bears the ID id, or nothing where none does
--   bears            ==  what the search finds is such
--   bearer_one       ==  where an ID is borne once, the search finds the Terminal that bears it
--   reads_number     ==  a Terminal is not refused exactly where its type is 0x0101
use Rattle.std.specs.Prelude.{ℕ, ◌≡◌, refl, Bool, true, false, eqb, Option, None, Some}
use Rattle.std.proofs.Common.{⊎_elim}
use mathlib.Core.List.Memᴰ
use mathlib.Core.List.{List, [], ◌∷◌, Memᴰ}
use Rattle.ground.specs.Pick.{pick, Reads, reads_eq}
use Rattle.terminals.specs.declared.Bearer.{Bearer}
use Rattle.terminals.specs.Terminals.{Terminal, borne, bearer_in, terminal_number, OneEach}

pub data Bears (id : ℕ) (ts : List Terminal) : Option Bearer → Type 0 where
  nothing : ((t : Terminal) → Memᴰ t ts → t.id ≡ id → ⊥) → Bears id ts None
  to : (t : Terminal) → Memᴰ t ts → t.id ≡ id → Bears id ts (Some (borne t))

pub bears : (id : ℕ) (ts : List Terminal) → Bears id ts (bearer_in ts id)
unfolding bearer_in
bears id [] = nothing (λ t m e. Memᴰ.not-nil m)
bears id (t ∷ ts) = go (eqb t.id id) (reads_eq t.id id) (bears id ts)
  where
    later : (t.id ≡ id → ⊥) → {l : Option Bearer} → Bears id ts l → Bears id (t ∷ ts) l
    later n (nothing h) = nothing (λ u m e. ⊎_elim (λ (q : u ≡ t). n (rw q at e)) (λ k. h u k e) (Memᴰ.cases_cons m))
    later n (to u m e) = to u (Memᴰ.tail m) e

    go : (b : Bool) → Reads b (t.id ≡ id) → Bears id ts (bearer_in ts id)
        → Bears id (t ∷ ts) (pick b (Some (borne t)) (bearer_in ts id))
    go true r ih = to t (Memᴰ.head refl) (r.says refl)
    go false r ih = later (r.denies refl) ih

pub bearer_one : (ts : List Terminal) → OneEach ts → (t : Terminal) → Memᴰ t ts → bearer_in ts t.id ≡ Some (borne t)
bearer_one ts one t m = go (bears t.id ts)
  where
    go : {l : Option Bearer} → Bears t.id ts l → l ≡ Some (borne t)
    go (nothing h) = absurd (h t m refl)
    go (to u k e) = rw (one u t k m e) refl

pub reads_number : (b : Bearer) → Reads (eqb (terminal_number (Some b)) 0) (b.kind ≡ 0x0101)
unfolding terminal_number
reads_number b = go (eqb b.kind 0x0101) (reads_eq b.kind 0x0101)
  where
    go : (t : Bool) → Reads t (b.kind ≡ 0x0101) → Reads (eqb (pick t 0 14) 0) (b.kind ≡ 0x0101)
    go true r = r
    go false r = r
