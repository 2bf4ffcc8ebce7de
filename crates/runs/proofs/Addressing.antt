-- Who is addressed, in the papers' words: in a table that 30 has nothing against, the controls that are found are those that the setup names,
-- each once, the lowest channel first.
--   addressed_apart, addressed_low, addressed_inside  ==  of the indices at which they stand: each once, below the count, in the array
--   names_among, among_names  ==  an index is one of them exactly where the setup names the control there
--   addressed_found, addressed_one  ==  they are the addressed controls; and no other list is
use Prim.Native.Nat.{ℕ, ◌<◌}
use mathlib.Core.Path.{◌≡◌}
use mathlib.Core.List.Memᴰ
use mathlib.Core.List.{List}
use mathlib.Core.Logic.{◌⊎◌}
use lib.ListN.{length}
use Rattle.ground.specs.Pick.{Reads, shows, reads_eq, reads_and, reads_or, reads_not}
use Rattle.ground.specs.Numbers.{byte}
use Rattle.ground.specs.Rising.{rising_map, rising_one}
use Rattle.graph.specs.Members.{◌∈◌}
use Rattle.table.specs.declared.Control.{Control}
use Rattle.table.specs.declared.Table.{Table}
use Rattle.table.specs.Controls.{at}
use Rattle.sound.specs.Meaning.{Sound, sound_counted}
use Rattle.address.specs.Addressed.{wants_channel}
use Rattle.address.specs.AddressedLaws.{Named}
use Rattle.address.proofs.AddressedLemmas.{addressed_named, named_addressed, addressed_rising}
use Rattle.runs.specs.Runs.{named_by, addressed_by}
use Rattle.runs.specs.RequestRows.{Names, Addressed}
use Rattle.runs.proofs.Taken.{addressed_at}
use Rattle.request.specs.Stored.{Apart, rising_all_apart}

wants_reads : (ch s c : ℕ) → Reads (wants_channel ch s c) ((c ≡ ch) ⊎ ((ch ≡ 255) × (s ≡ 0 → ⊥)))
unfolding wants_channel
wants_reads ch s c = reads_or _ _ (reads_eq c ch) (reads_and _ _ (reads_eq ch 255) (reads_not _ (reads_eq s 0)))

module _ (t : Table) (s : List ℕ) where
  pub addressed_apart : Apart (addressed_at t s)
  addressed_apart = rising_all_apart (addressed_rising t (byte s 5) (byte s 2) (byte s 3))

  named_at : (p : ℕ) → p ∈ addressed_at t s → Named t (byte s 5) (byte s 2) (byte s 3) p
  named_at p m = addressed_named t (byte s 5) (byte s 2) (byte s 3) p m

  pub addressed_low : (p : ℕ) → p ∈ addressed_at t s → p < t.count
  addressed_low p m = (named_at p m).inside

  pub among_names : (p : ℕ) → p ∈ addressed_at t s → Names (named_by s) (at t p)
  among_names p m =
      let h = named_at p m in
      record { unit = h.unit; selector = h.selector; channel = (wants_reads (byte s 2) (byte s 3) (at t p).channel).says h.wanted }

  module _ (sound : Sound t) where
    pub addressed_inside : (p : ℕ) → p ∈ addressed_at t s → p < length t.controls
    addressed_inside p m = sound_counted t sound p (addressed_low p m)

    pub names_among : (p : ℕ) → p < t.count → Names (named_by s) (at t p) → p ∈ addressed_at t s
    names_among p l h =
        named_addressed t (byte s 5) (byte s 2) (byte s 3) sound p
        (record { inside = l; unit = h.unit; selector = h.selector; wanted = shows (wants_reads (byte s 2) (byte s 3) (at t p).channel) h.channel })

    pub addressed_found : Addressed t s (addressed_by t s)
    addressed_found = record {
      each = λ c. (
        λ m. let x = Memᴰ.of_map (at t) (addressed_at t s) m in (record { index = x.0; inside = addressed_low x.0 x.1; is = x.2 }, rw (← x.2) (among_names x.0 x.1)),
        λ h. rw (← h.0.is) (Memᴰ.map (at t) (names_among h.0.index h.0.inside (rw h.0.is h.1))),
      );
      rising = rising_map (at t) (λ c. c.channel) (addressed_rising t (byte s 5) (byte s 2) (byte s 3));
    }

pub addressed_one : (t : Table) (s : List ℕ) (cs es : List Control) → Addressed t s cs → Addressed t s es → cs ≡ es
addressed_one t s cs es a b =
    rising_one a.rising b.rising (λ x. (λ m. (b.each x).1 ((a.each x).0 m), λ m. (a.each x).1 ((b.each x).0 m)))
