-- What refusal 30 means: a table that it does not turn away, in document 01's words, with no search. The paper's row, part by
-- part: "over 128 controls" few; "a control twice" once; what it asks of each control by itself, SoundAs of crate single, each.
--   Sound t         ==  30 has nothing against the table
--   sound_reads     ==  the test holds exactly there
--   sound_counted   ==  each control of such a table stands in the array
use Prim.Native.Nat.{ℕ, ◌≤◌, ◌<◌}
use Rattle.std.specs.Prelude.{◌≡◌, true, leb, length}
use Rattle.std.proofs.Math.Path.{refl}
use Rattle.std.proofs.Common.{sym, ap, ◌∙◌, ⊎_elim, arith, eqb-true}
use Rattle.std.proofs.Math.Bool.{Bool}
use Rattle.std.proofs.Math.ListN.{get_or-eq_default}
use Rattle.ground.specs.Pick.{true≠false, Reads, shows, refutes, decided, reads_same, reads_true, reads_eq, reads_le, reads_and}
use Rattle.ground.specs.Places.{first_in, first_some, reads_everywhere}
use Rattle.table.specs.declared.Table.{Table}
use Rattle.table.specs.First.{Seat, places, found_in, found_first}
use Rattle.table.specs.First.Seat.{absent, seat}
use Rattle.table.specs.Controls.{most_controls, blank_control, at, sense_of, answers_to}
use Rattle.table.specs.Same.{Same, same_self, answers_same}
use Rattle.single.specs.Meaning.{SoundPin, SoundAs, sound_control_lem}
use Rattle.sound.specs.Sound.{is_at, first_there, sound_at, sound_of}

pub record Sound (t : Table) : Type 0 where
  pub few : t.count ≤ most_controls
  pub once : (p q : ℕ) → p < q → q < t.count → Same (at t p) (at t q) → ⊥
  pub each : (p : ℕ) → p < t.count → SoundAs (sense_of (at t p).selector) (at t p)

module _ (t : Table) (few : t.count ≤ most_controls) where
  -- a control stands at no earlier index than where the search finds it
  reads_first : (p : ℕ) → p < t.count → Reads (first_there t p (at t p)) ((q : ℕ) → q < p → Same (at t q) (at t p) → ⊥)
  unfolding first_there found_in
  reads_first p l = record { says = λ e. alone (first_in twin seat absent 0 (places t)) refl e; denies = λ e h. true≠false (sym (found h) ∙ e) }
    where
      twin : ℕ → Bool
      twin q = answers_to (at t p).unit (at t p).channel (at t p).selector (at t q)

      alone : (x : Seat) → first_in twin seat absent 0 (places t) ≡ x → is_at p x ≡ true → (q : ℕ) → q < p → Same (at t q) (at t p) → ⊥
      alone absent e h q m = absurd (true≠false (sym h))
      alone (seat r) e h q m =
          let k = eqb-true r p h in
          (answers_same (at t q) (at t p)).denies ((found_first twin (places t) r e).none_before q (omega arith))

      found : ((q : ℕ) → q < p → Same (at t q) (at t p) → ⊥) → is_at p (first_in twin seat absent 0 (places t)) ≡ true
      found h =
          ap (is_at p)
          (first_some twin seat absent (places t) p
          (record {
            inside = omega arith;
            passes = shows (answers_same (at t p) (at t p)) (same_self (at t p));
            none_before = λ j m. refutes (answers_same (at t j) (at t p)) (h j m);
          }))
          ∙ shows (reads_eq p p) refl

  reads_index : (p : ℕ) (l : p < t.count)
      → Reads (sound_at t p) (SoundAs (sense_of (at t p).selector) (at t p) × ((q : ℕ) → q < p → Same (at t q) (at t p) → ⊥))
  unfolding sound_at
  reads_index p l = reads_and _ _ (sound_control_lem (at t p)) (reads_first p l)

pub sound_reads : (t : Table) → Reads (sound_of t) (Sound t)
unfolding sound_of
sound_reads t =
    reads_same (reads_and _ _ (reads_le _ _) (reads_everywhere (sound_at t) (λ p. sound_at t p ≡ true) t.count (λ p l. reads_true (sound_at t p))))
    (λ h. record {
      few = h.0;
      once = λ p q l m. ((reads_index t h.0 q m).says (h.1 q m)).1 p l;
      each = λ p l. ((reads_index t h.0 p l).says (h.1 p l)).0;
    })
    (λ h. (h.few, λ p l. shows (reads_index t h.few p l) (h.each p l, λ q m. h.once q p m l)))

-- past the array's end the model reads a spare place, and 30 has something against that as a control
pub sound_counted : (t : Table) → Sound t → (p : ℕ) → p < t.count → p < length t.controls
unfolding sense_of
sound_counted t h p l = ⊎_elim (λ (k : length t.controls ≤ p). absurd (past k)) (λ (k : length t.controls ≤ p → ⊥). omega arith) (decided (leb (length t.controls) p) (reads_le _ _))
  where
    past : length t.controls ≤ p → ⊥
    past k =
        let e : at t p ≡ blank_control = get_or-eq_default t.controls blank_control k in
        let s : SoundPin blank_control = rw e at (h.each p l) in
        let n = s.pins.0 in
        omega arith
