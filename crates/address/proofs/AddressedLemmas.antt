-- Laws of what stands beside it in specs.
--   seats_on, seats_few  ==  the indices of one channel more; there are no more of them than channels
--   addressed_named, named_addressed  ==  the addressed indices are exactly those of the controls that are named
--   addressed_rising  ==  the channels of the addressed controls rise along the list
--   addressed_few     ==  no more are addressed than most_addressed
use Prim.Native.Nat.{ℕ, zero, suc, ◌+◌, ◌≤◌, ◌<◌}
use Rattle.std.specs.Prelude.{◌≡◌, ◌⊎◌, eqb, length}
use Rattle.std.proofs.Math.Path.{refl, sym, ap}
use Rattle.std.proofs.Common.{◌∙◌, add-zero}
use mathlib.Core.List.Memᴰ
use mathlib.Core.List.{List, ◌++◌, append_assoc, append-nil, Memᴰ}
use Rattle.std.proofs.Math.Logic.{inl, inr, ⊎_elim}
use native.Mathlib.Omega.{arith}
use Rattle.std.proofs.Math.ListN.{length-append}
use Rattle.ground.specs.Pick.{decided, reads_eq}
use Rattle.ground.specs.Rising.{Rising, none, more}
use Rattle.table.specs.declared.Table.{Table}
use Rattle.table.specs.Controls.{at, sense_of}
use Rattle.table.specs.First.{Seat}
use Rattle.table.specs.First.Seat.{absent, seat}
use Rattle.sound.specs.Meaning.{Sound}
use Rattle.address.specs.Addressed.{most_addressed, indices_of, seat_at, seats_from, addressed_in}
use Rattle.address.specs.AddressedLaws.{sound_channel, Named, seat_named, named_seat, channel_at}

-- the seats, whatever the table
module _ (t : Table) (u ch s : ℕ) where
  pub seats_on : (c n : ℕ) → seats_from t u ch s c (suc n) ≡ seats_from t u ch s c n ++ indices_of (seat_at t u ch s (c + n))
  unfolding seats_from
  seats_on c zero = rw (add-zero c) (append-nil (indices_of (seat_at t u ch s c)))
  seats_on c (suc n) =
      let e : suc c + n ≡ c + suc n = omega arith in
      ap (λ (l : List ℕ). indices_of (seat_at t u ch s c) ++ l) (seats_on (suc c) n ∙ ap (λ (d : ℕ). seats_from t u ch s (suc c) n ++ indices_of (seat_at t u ch s d)) e)
      ∙ sym (append_assoc (indices_of (seat_at t u ch s c)) (seats_from t u ch s (suc c) n) (indices_of (seat_at t u ch s (c + suc n))))

  one_most : (x : Seat) → length (indices_of x) ≤ 1
  one_most absent = omega arith
  one_most (seat p) = omega arith

  pub seats_few : (c n : ℕ) → length (seats_from t u ch s c n) ≤ n
  unfolding seats_from
  seats_few c zero = omega arith
  seats_few c (suc n) =
      let a = length-append (indices_of (seat_at t u ch s c)) (seats_from t u ch s (suc c) n) in
      let b = one_most (seat_at t u ch s c) in
      let d = seats_few (suc c) n in
      omega arith

  in_one : (x : Seat) (p : ℕ) (l : List ℕ) → Memᴰ p (indices_of x ++ l) → (x ≡ seat p) ⊎ Memᴰ p l
  in_one absent p l m = inr m
  in_one (seat q) p l m = ⊎_elim (λ (e : p ≡ q). inl (ap seat (sym e))) (λ r. inr r) (Memᴰ.cases_cons m)

  one_in : (x : Seat) (p : ℕ) (l : List ℕ) → (x ≡ seat p) ⊎ Memᴰ p l → Memᴰ p (indices_of x ++ l)
  one_in absent p l (inl e) = absurd (let z : ◌≡◌ {A = ℕ} 0 1 = cc in omega arith)
  one_in absent p l (inr m) = m
  one_in (seat q) p l (inl e) = Memᴰ.head (let z : p ≡ q = cc in z)
  one_in (seat q) p l (inr m) = Memᴰ.tail m

  record SeatedFrom (c n p : ℕ) : Type 0 where
    channel : ℕ
    low : c ≤ channel
    high : channel < c + n
    here : seat_at t u ch s channel ≡ seat p

  seated_of : (c n p : ℕ) → Memᴰ p (seats_from t u ch s c n) → SeatedFrom c n p
  unfolding seats_from
  seated_of c zero p m = absurd (Memᴰ.not-nil m)
  seated_of c (suc n) p m =
      ⊎_elim
      (λ (e : seat_at t u ch s c ≡ seat p). record { channel = c; low = omega arith; high = omega arith; here = e })
      (λ (r : Memᴰ p (seats_from t u ch s (suc c) n)).
      let h = seated_of (suc c) n p r in
      let l = h.low in
      let k = h.high in
      record { channel = h.channel; low = omega arith; high = omega arith; here = h.here })
      (in_one (seat_at t u ch s c) p (seats_from t u ch s (suc c) n) m)

  of_seated : (c n d p : ℕ) → c ≤ d → d < c + n → seat_at t u ch s d ≡ seat p → Memᴰ p (seats_from t u ch s c n)
  unfolding seats_from
  of_seated c zero d p l k e = absurd (omega arith)
  of_seated c (suc n) d p l k e =
      one_in (seat_at t u ch s c) p (seats_from t u ch s (suc c) n)
      (⊎_elim
      (λ (q : c ≡ d). inl (ap (seat_at t u ch s) q ∙ e))
      (λ (q : c ≡ d → ⊥). inr (of_seated (suc c) n d p (omega arith) (omega arith) e))
      (decided (eqb c d) (reads_eq c d)))

  pub addressed_named : (p : ℕ) → Memᴰ p (addressed_in t u ch s) → (Named t u ch s) p
  addressed_named p m = let h = seated_of 0 most_addressed p m in ((seat_named t u ch s) h.channel p h.here).named

  module _ (sound : Sound t) where
    pub named_addressed : (p : ℕ) → (Named t u ch s) p → Memᴰ p (addressed_in t u ch s)
    named_addressed p h =
        let l = sound_channel (sense_of (at t p).selector) (at t p) (sound.each p h.inside) in
        of_seated 0 most_addressed (at t p).channel p (omega arith) (omega arith) ((named_seat t u ch s sound) p h)

module _ (t : Table) (u ch s : ℕ) where
  one_up : (c : ℕ) (x : Seat) → seat_at t u ch s c ≡ x → (l : List ℕ) → ((q : ℕ) → Memᴰ q l → c < (at t q).channel) → Rising (channel_at t) l → Rising (channel_at t) (indices_of x ++ l)
  one_up c absent e l h g = g
  one_up c (seat p) e l h g = more {x = p} (λ q m. let a = (seat_named t u ch s c p e).on in let b = h q m in omega arith) g

  seats_up : (c n : ℕ) → Rising (channel_at t) (seats_from t u ch s c n)
  unfolding seats_from
  seats_up c zero = none
  seats_up c (suc n) =
      one_up c (seat_at t u ch s c) refl (seats_from t u ch s (suc c) n)
      (λ q m.
      let h = seated_of t u ch s (suc c) n q m in
      let l = h.low in
      let a = (seat_named t u ch s h.channel q h.here).on in
      omega arith)
      (seats_up (suc c) n)

  pub addressed_rising : Rising (channel_at t) (addressed_in t u ch s)
  addressed_rising = seats_up 0 most_addressed

  pub addressed_few : length (addressed_in t u ch s) ≤ most_addressed
  addressed_few = seats_few t u ch s 0 most_addressed
