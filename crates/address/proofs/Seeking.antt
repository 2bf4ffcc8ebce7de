-- The pass of `seek` over the controls, which asks refusal 30 and gives each addressed control its channel's seat.
--   SeatIs t u ch s c n x    ==  x is one more than the index of a control that is named, on channel c and below index n; 0 where none is
--   Seeking t u ch s tops seats rising n  ==  the pass has come to index n
--   seeking_start, seeking_inside, seeking_channel, seeking_unsound, seeking_on  ==  its start, its places, its way out and its turn
--   twice_unsound, sought_unsound  ==  what is answered where 30 has something against the table
--   sought_in_order, sought_any_order  ==  where it has nothing, the seats have the addressed indices, and what they tell is answered
use Prim.Native.Nat.{ℕ, zero, suc, ◌+◌, ◌-◌, ◌≤◌, ◌<◌}
use Rattle.std.specs.Prelude.{Result, Err}
use mathlib.Core.Path.{◌≡◌, refl, sym, ap, ◌∙◌, subst}
use mathlib.Core.Bool.{Bool, true, false, not, ◌&&◌}
use mathlib.Core.List.{List, ◌++◌}
use mathlib.Core.Logic.{⊎_elim}
use native.Mathlib.Nat.{zero-add, eq-or-lt_of_le}
use native.Mathlib.Omega.{arith}
use borrow.Author.Tests.{not-true, not-false}
use lib.Dec.{eqb, leb, ltb}
use lib.ListN.{length, get_or, set, replicate, length-set}
use lib.Seq.{get_or-set_same, get_or-set_other}
use Rattle.ground.specs.Pick.{pick, yes, no, Reads, shows, refutes, decided, true≠false, reads_same, reads_true, reads_eq, reads_lt, reads_le, reads_and}
use Rattle.ground.specs.Places.{somewhere, reads_somewhere}
use Rattle.ground.specs.Lists.{replicate_at}
use Rattle.table.specs.declared.Table.{Table}
use Rattle.table.specs.Controls.{most_controls, at, sense_of}
use Rattle.table.specs.First.{Seat, places}
use Rattle.table.specs.First.Seat.{absent, seat}
use Rattle.single.specs.Tests.{sound_control}
use Rattle.single.specs.Meaning.{sound_control_lem}
use Rattle.sound.specs.Sound.{sound_of}
use Rattle.sound.specs.Meaning.{Sound, sound_reads}
use Rattle.sound.specs.Rising.{Keyed, TopsAbove, rising_start, rising_on, rising_over}
use Rattle.address.specs.declared.Sought.{Sought}
use Rattle.address.specs.Addressed.{most_addressed, indices_of, seat_at, seats_from, addressed_in, unit_in}
use Rattle.address.specs.AddressedLaws.{sound_channel, is_named, Named, named_reads, SeatedOn, seat_named, named_seat}
use Rattle.address.proofs.AddressedLemmas.{seats_on}
use Rattle.address.specs.Sought.{told_of, sought_for, sought_in}
use Rattle.address.specs.Seats.{seat_of, seated_in}

module _ (t : Table) (u ch s : ℕ) where
  pub record SeatIs (c n x : ℕ) : Type 0 where
    pub free : x ≡ 0 → (p : ℕ) → p < n → SeatedOn t u ch s c p → ⊥
    pub taken : 0 < x → (x - 1 < n) × SeatedOn t u ch s c (x - 1)

  abbrev Owned : ℕ → Type 0
  Owned n = (p : ℕ) × (p < n) × ((at t p).unit ≡ u)

  pub record Seeking (tops seats : List ℕ) (rising : Bool) (n : ℕ) : Type 0 where
    pub few : t.count ≤ most_controls
    pub low : n ≤ t.count
    pub long : length tops ≡ 256
    pub wide : length seats ≡ most_addressed
    pub rises : rising ≡ true → TopsAbove t tops n
    pub unit : Reads (ltb 0 (get_or tops u 0)) (Owned n)
    pub seated : (c : ℕ) → SeatIs c n (get_or seats c 0)

  pub seeking_start : t.count ≤ most_controls → Seeking (replicate 256 0) (replicate most_addressed 0) true 0
  seeking_start h = record {
    few = h;
    low = omega arith;
    long = refl;
    wide = refl;
    rises = λ e. rising_start t h;
    unit = rw (replicate_at {A = ℕ} 0 256 u) (record { says = λ e. absurd (true≠false (sym e)); denies = λ e w. let l = w.1 in omega arith });
    seated = λ c. rw (replicate_at {A = ℕ} 0 most_addressed c) nobody;
  }
    where
      nobody : {c : ℕ} → SeatIs c 0 0
      nobody = record { free = λ e p l. absurd (omega arith); taken = λ l. absurd (omega arith) }

  pub sought_unsound : false ≡ sound_of t → (r : Result Sought ℕ) → r ≡ Err 30 → r ≡ sought_in t u ch s
  unfolding sought_in
  sought_unsound e r f = f ∙ sym (no (sought_for t u (addressed_in t u ch s)) (Err 30) (sym e))

  -- the pass
  module _ (tops seats : List ℕ) (rising : Bool) (n : ℕ) (g : Seeking tops seats rising n) where
    -- a unit's top is above 0 once a control of it was seen
    owned_on : (own : ℕ) → (own ≡ (at t n).unit) × (own < 256) → (key : ℕ) → Reads (ltb 0 (get_or (set tops own (key + 1)) u 0)) (Owned (n + 1))
    owned_on own w key =
        ⊎_elim
        (λ (q : u ≡ own).
        let a : get_or (set tops own (key + 1)) u 0 ≡ key + 1 = rw q (get_or-set_same tops own (key + 1) 0 (let i = g.long in let j = w.1 in omega arith)) in
        reads_same (reads_lt 0 (get_or (set tops own (key + 1)) u 0)) (λ i. (n, omega arith, sym (q ∙ w.0))) (λ h. omega arith))
        (λ (q : u ≡ own → ⊥).
        rw (get_or-set_other tops own u (key + 1) 0 q)
        (reads_same g.unit
        (λ (h : Owned n). let i = h.1 in (h.0, omega arith, h.2))
        (λ (h : Owned (n + 1)).
        ⊎_elim
        (λ (z : h.0 ≡ n). absurd (q (sym h.2 ∙ ap (λ (p : ℕ). (at t p).unit) z ∙ sym w.0)))
        (λ (z : h.0 < n). (h.0, z, h.2))
        (eq-or-lt_of_le (let i = h.1 in let z : h.0 ≤ n = omega arith in z)))))
        (decided (eqb u own) (reads_eq u own))

    module _ (l : n < t.count) where
      pub seeking_inside : n < most_controls
      seeking_inside = let f = g.few in omega arith

      module _ (b : Bool) (e : b ≡ sound_control (at t n)) where
        pub seeking_unsound : not b ≡ true → false ≡ sound_of t
        seeking_unsound h = sym (refutes (sound_reads t) (λ (k : Sound t). (sound_control_lem (at t n)).denies (sym e ∙ not-true b h) (k.each n l)))

        module _ (ok : not b ≡ false) (k : ℕ) (m : (k ≡ (at t n).channel) × (k < 256)) where
          pub seeking_channel : k < most_addressed
          seeking_channel =
              let h = sound_channel (sense_of (at t n).selector) (at t n) ((sound_control_lem (at t n)).says (sym e ∙ not-false b ok)) in
              let q = m.0 in
              omega arith

          -- a seat that the control is not given is what it was
          seat_kept : (c x : ℕ) → SeatIs c n x → (SeatedOn t u ch s c n → ⊥) → SeatIs c (n + 1) x
          seat_kept c x h not_here = record {
            free = λ q p i w.
                ⊎_elim
                (λ (z : p ≡ n). not_here (rw z at w))
                (λ (z : p < n). h.free q p z w)
                (eq-or-lt_of_le (let z : p ≤ n = omega arith in z));
            taken = λ i. let w = h.taken i in let j = w.0 in (omega arith, w.1);
          }

          seat_new : Named t u ch s n → SeatIs k (n + 1) (n + 1)
          seat_new h =
              let z : n ≡ n + 1 - 1 = omega arith in
              let w : SeatedOn t u ch s k n = record { named = h; on = sym m.0 } in
              record { free = λ q. absurd (omega arith); taken = λ i. (omega arith, subst (SeatedOn t u ch s k) z w) }

          seat_here : SeatIs k (n + 1) (pick (is_named u ch s (at t n)) (n + 1) (get_or seats k 0))
          seat_here =
              ⊎_elim
              (λ (h : Named t u ch s n). rw (shows (named_reads t u ch s n l) h) (seat_new h))
              (λ (h : Named t u ch s n → ⊥). rw (refutes (named_reads t u ch s n l) h) (seat_kept k (get_or seats k 0) (g.seated k) (λ w. h w.named)))
              (decided (is_named u ch s (at t n)) (named_reads t u ch s n l))

          module _ (v : ℕ) (f : v ≡ pick (is_named u ch s (at t n)) (n + 1) (get_or seats k 0)) where
            seats_at : (c : ℕ) → SeatIs c (n + 1) (get_or (set seats k v) c 0)
            seats_at c =
                ⊎_elim
                (λ (q : c ≡ k). rw (q, get_or-set_same seats k v 0 (let a = g.wide in let j = seeking_channel in omega arith), f) seat_here)
                (λ (q : c ≡ k → ⊥).
                rw (get_or-set_other seats k c v 0 q)
                (seat_kept c (get_or seats c 0) (g.seated c) (λ w. q (sym w.on ∙ sym m.0))))
                (decided (eqb c k) (reads_eq c k))

            pub seeking_on : (own : ℕ) → (own ≡ (at t n).unit) × (own < 256) → (key : ℕ) → Keyed (at t n) key
                → Seeking (set tops own (key + 1)) (set seats k v) (rising && leb (get_or tops own 0) key) (n + 1)
            seeking_on own w key d = record {
              few = g.few;
              low = omega arith;
              long = length-set tops own (key + 1) ∙ g.long;
              wide = length-set seats k v ∙ g.wide;
              rises = λ r.
                  let both = (reads_and rising (leb (get_or tops own 0) key) (reads_true rising) (reads_le (get_or tops own 0) key)).says r in
                  rising_on t tops n (g.rises both.0) l b e ok own w key d both.1;
              unit = owned_on own w key;
              seated = seats_at;
            }

    -- behind it
    pub twice_unsound : (b : Bool) → b ≡ sound_of t → not b ≡ true → false ≡ sound_of t
    twice_unsound b e h = sym (not-true b h) ∙ e

    module _ (over : t.count ≤ n) where
      all_seen : n ≡ t.count
      all_seen = let l = g.low in omega arith

      unit_seen : unit_in t u ≡ ltb 0 (get_or tops u 0)
      unfolding unit_in
      unit_seen = go (ltb 0 (get_or tops u 0)) refl
        where
          there : Reads (somewhere (λ p. eqb (at t p).unit u) (places t)) ((p : ℕ) × (p < places t) × ((at t p).unit ≡ u))
          there = reads_somewhere (λ p. eqb (at t p).unit u) (λ p. (at t p).unit ≡ u) (places t) (λ p l. reads_eq (at t p).unit u)

          go : (b : Bool) → ltb 0 (get_or tops u 0) ≡ b → somewhere (λ p. eqb (at t p).unit u) (places t) ≡ ltb 0 (get_or tops u 0)
          go true e =
              let w = g.unit.says e in
              let i = w.1 in
              let j = all_seen in
              let f = g.few in
              shows there (w.0, omega arith, w.2) ∙ sym e
          go false e = refutes there (λ w. let i = w.1 in let j = all_seen in g.unit.denies e (w.0, omega arith, w.2)) ∙ sym e

      seat_same : Sound t → (c x : ℕ) → SeatIs c n x → seat_of x ≡ seat_at t u ch s c
      seat_same sound c zero h = go (seat_at t u ch s c) refl
        where
          go : (y : Seat) → seat_at t u ch s c ≡ y → absent ≡ seat_at t u ch s c
          go absent e = sym e
          go (seat p) e =
              let w = seat_named t u ch s c p e in
              let l = w.named.inside in
              let i = all_seen in
              absurd (h.free refl p (omega arith) w)
      seat_same sound c (suc p) h =
          let z : suc p - 1 ≡ p = omega arith in
          let w : SeatedOn t u ch s c p = subst (SeatedOn t u ch s c) z (h.taken (omega arith)).1 in
          sym (ap (seat_at t u ch s) (sym w.on) ∙ named_seat t u ch s sound p w.named)

      seats_told : Sound t → (c : ℕ) → seated_in seats c ≡ seats_from t u ch s 0 c
      unfolding seats_from seated_in
      seats_told sound zero = refl
      seats_told sound (suc c) =
          ap (λ (l : List ℕ). l ++ indices_of (seat_of (get_or seats c 0))) (seats_told sound c)
          ∙ ap (λ (y : Seat). seats_from t u ch s 0 c ++ indices_of y) (seat_same sound c (get_or seats c 0) (g.seated c))
          ∙ ap (λ (d : ℕ). seats_from t u ch s 0 c ++ indices_of (seat_at t u ch s d)) (sym (zero-add c))
          ∙ sym (seats_on t u ch s 0 c)

      module _ (own : ℕ) (w : (own ≡ u) × (own < 256)) (r : Result Sought ℕ) (e : r ≡ told_of (ltb 0 (get_or tops own 0)) (seated_in seats most_addressed)) where
        sought : true ≡ sound_of t → r ≡ sought_in t u ch s
        unfolding sought_in
        sought ok =
            let o : ltb 0 (get_or tops own 0) ≡ unit_in t u = ap (λ (x : ℕ). ltb 0 (get_or tops x 0)) w.0 ∙ sym unit_seen in
            e
            ∙ ap (λ (b : Bool). told_of b (seated_in seats most_addressed)) o
            ∙ ap (sought_for t u) (seats_told ((sound_reads t).says (sym ok)) most_addressed)
            ∙ sym (yes (sought_for t u (addressed_in t u ch s)) (Err 30) (sym ok))

        pub sought_in_order : not rising ≡ false → r ≡ sought_in t u ch s
        sought_in_order f = sought (rising_over t tops n (g.rises (not-false rising f)) over)

        pub sought_any_order : (a : Bool) → a ≡ sound_of t → not a ≡ false → r ≡ sought_in t u ch s
        sought_any_order a f i = sought (sym (not-false a i) ∙ f)
