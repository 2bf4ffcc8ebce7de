-- What the addressed controls are, with no search, in a table that 30 has nothing against: all controls of the table that the request is
-- about, each once, "from the lowest such channel up" (document 02, No. 2).
--   sound_channel     ==  a control that 30 has nothing against is on a channel from 0 to 16
--   answers_reads     ==  what the search asks of one control
--   stands_one        ==  a control stands at one index
--   found_stands, none_stands, stands_found  ==  where the search finds a control it stands, and where it stands the search finds it
--   Named t u ch s p  ==  index p holds a control of unit u and selector s, on a channel that a request of channel number ch is about
--   is_named u ch s c, named_reads  ==  the test of that
--   SeatedOn t u ch s c p  ==  .. and that is channel c; seat_named, named_seat: exactly that one has the channel's seat
--   channel_at t p     ==  the channel of the control at index p
use Prim.Native.Nat.{ℕ, ◌<◌}
use Rattle.std.specs.Prelude.{◌≡◌, Bool, true, false, ◌&&◌, eqb, ltb}
use Rattle.std.proofs.Math.Path.{refl, sym, ap}
use Rattle.std.proofs.Common.{◌∙◌}
use Rattle.std.proofs.Math.Logic.{⊎_elim}
use native.Mathlib.Omega.{arith}
use Rattle.ground.specs.Pick.{pick, Reads, decided, yes, reads_same, reads_true, reads_eq, reads_lt, reads_and}
use Rattle.table.specs.declared.Control.{Control}
use Rattle.table.specs.declared.Table.{Table}
use Rattle.table.specs.declared.Sense.{Sense}
use Rattle.table.specs.declared.Sense.TheVariants.{Unknown, YesNo, Ranged, Pin}
use Rattle.table.specs.Controls.{at, answers_to}
use Rattle.table.specs.First.{Seat, places, found_in, found_first, none_found}
use Rattle.table.specs.First.Seat.{absent, seat}
use Rattle.table.specs.Keys.{Key, where_is, StandsAt}
use Rattle.single.specs.Meaning.{SoundAs}
use Rattle.sound.specs.Meaning.{Sound}
use Rattle.address.specs.Addressed.{most_addressed, wants_channel, seat_at}

pub sound_channel : (k : Sense) (c : Control) → SoundAs k c → c.channel < most_addressed
sound_channel Unknown c h = absurd h
sound_channel YesNo c h = let l = h.channel in omega arith
sound_channel (Ranged s) c h = let l = h.channel in omega arith
sound_channel Pin c h = let l = h.channel in omega arith

-- the search, in statements
pub answers_reads : (k : Key) (c : Control)
    → Reads (answers_to k.unit k.channel k.selector c) ((c.unit ≡ k.unit) × ((c.channel ≡ k.channel) × (c.selector ≡ k.selector)))
unfolding answers_to
answers_reads k c = reads_and _ _ (reads_eq c.unit k.unit) (reads_and _ _ (reads_eq c.channel k.channel) (reads_eq c.selector k.selector))

pub found_stands : (t : Table) (k : Key) (p : ℕ) → where_is t k ≡ seat p → StandsAt t k p
unfolding found_in
found_stands t k p f =
    let first = found_first (λ q. answers_to k.unit k.channel k.selector (at t q)) (places t) p f in
    let l = first.inside in
    let h = (answers_reads k (at t p)).says first.passes in
    record { inside = omega arith; bears = record { unit = h.0; channel = h.1.0; selector = h.1.1 } }

module _ (t : Table) (sound : Sound t) (k : Key) where
  stands_once : (p q : ℕ) → StandsAt t k p → StandsAt t k q → p < q → ⊥
  stands_once p q a b l =
      sound.once p q l b.inside
      (let x = a.bears in let y = b.bears in record { unit = x.unit ∙ sym y.unit; channel = x.channel ∙ sym y.channel; selector = x.selector ∙ sym y.selector })

  pub stands_one : (p q : ℕ) → StandsAt t k p → StandsAt t k q → p ≡ q
  stands_one p q a b =
      ⊎_elim
      (λ (l : p < q). absurd (stands_once p q a b l))
      (λ (m : p < q → ⊥). ⊎_elim (λ (l : q < p). absurd (stands_once q p b a l)) (λ (n : q < p → ⊥). let e : p ≡ q = omega arith in e) (decided (ltb q p) (reads_lt q p)))
      (decided (ltb p q) (reads_lt p q))

  pub none_stands : where_is t k ≡ absent → (p : ℕ) → StandsAt t k p → ⊥
  unfolding found_in
  none_stands e p h =
      let few = sound.few in
      let i = h.inside in
      let n = none_found (λ q. answers_to k.unit k.channel k.selector (at t q)) (places t) e p (omega arith) in
      let b = h.bears in (answers_reads k (at t p)).denies n (b.unit, (b.channel, b.selector))

  pub stands_found : (p : ℕ) → StandsAt t k p → where_is t k ≡ seat p
  stands_found p h = go (where_is t k) refl
    where
      go : (f : Seat) → where_is t k ≡ f → where_is t k ≡ seat p
      go absent e = absurd (none_stands e p h)
      go (seat q) e = e ∙ ap seat (stands_one q p (found_stands t k q e) h)

unfoldable pub is_named : ℕ → ℕ → ℕ → Control → Bool
is_named u ch s c = eqb c.unit u && (eqb c.selector s && wants_channel ch s c.channel)

-- the seats, whatever the table
module _ (t : Table) (u ch s : ℕ) where
  pub record Named (p : ℕ) : Type 0 where
    pub inside : p < t.count
    pub unit : (at t p).unit ≡ u
    pub selector : (at t p).selector ≡ s
    pub wanted : wants_channel ch s (at t p).channel ≡ true

  pub named_reads : (p : ℕ) → p < t.count → Reads (is_named u ch s (at t p)) (Named p)
  unfolding is_named
  named_reads p l =
      reads_same (reads_and _ _ (reads_eq (at t p).unit u) (reads_and _ _ (reads_eq (at t p).selector s) (reads_true (wants_channel ch s (at t p).channel))))
      (λ h. record { inside = l; unit = h.0; selector = h.1.0; wanted = h.1.1 })
      (λ h. (h.unit, (h.selector, h.wanted)))

  abbrev key_on : ℕ → Key
  key_on c = record { unit = u; channel = c; selector = s }

  -- who has the seat of a channel
  pub record SeatedOn (c p : ℕ) : Type 0 where
    pub named : Named p
    pub on : (at t p).channel ≡ c

  pub seat_named : (c p : ℕ) → seat_at t u ch s c ≡ seat p → SeatedOn c p
  seat_named c p e = go (wants_channel ch s c) refl e
    where
      go : (b : Bool) → wants_channel ch s c ≡ b → pick b (found_in t u c s) absent ≡ seat p → SeatedOn c p
      go true w f =
          let h = found_stands t (key_on c) p f in
          let b = h.bears in
          record { named = record { inside = h.inside; unit = b.unit; selector = b.selector; wanted = ap (wants_channel ch s) b.channel ∙ w }; on = b.channel }
      go false w f = absurd (let z : ◌≡◌ {A = ℕ} 0 1 = cc in omega arith)

  module _ (sound : Sound t) where
    pub named_seat : (p : ℕ) → Named p → seat_at t u ch s (at t p).channel ≡ seat p
    named_seat p h =
        yes _ _ h.wanted
        ∙ stands_found t sound (key_on (at t p).channel) p
        (record { inside = h.inside; bears = record { unit = h.unit; channel = refl; selector = h.selector } })

abbrev pub channel_at : Table → ℕ → ℕ
channel_at t p = (at t p).channel
