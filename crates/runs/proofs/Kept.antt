-- What an accepted load or Set leaves: a table that 30 has nothing against.
--   load_same, set_same    ==  the control that is stored is the same control
--   load_sound, set_sound  ==  30 has nothing against it
--   index_below, index_inside  ==  a control that is found stands below the count, and in the array
--   settles_closest        ==  the closest setting is what is to be stored, by crate setting's statements
--   sent_fits              ==  the data of a Set are not too wide for the control
use Prim.Native.Nat.{ℕ, ◌<◌}
use mathlib.Core.Path.{◌≡◌, refl}
use mathlib.Core.List.{List, [], ◌∷◌}
use mathlib.Core.Bool.{true}
use native.Mathlib.Omega.{arith}
use lib.ListN.{length}
use Rattle.ground.specs.Numbers.{Bytes}
use Rattle.ground.specs.Pick.{shows, reads_and, reads_le}
use Rattle.setting.specs.Setting.{fits_of, legal_of, closest_to}
use Rattle.setting.specs.Legal.{fits_reads, legal_means}
use Rattle.setting.proofs.ClosestLemmas.{closest_fits, closest_means, closest_available}
use Rattle.setting.specs.declared.Sort.{Sort}
use Rattle.setting.specs.declared.Sort.TheVariants.{Volume, Tone, Delay}
use Rattle.setting.specs.declared.Range.{Range}
use Rattle.table.specs.declared.Control.{Control}
use Rattle.table.specs.declared.Table.{Table}
use Rattle.table.specs.declared.Sense.{Sense}
use Rattle.table.specs.declared.Sense.TheVariants.{Unknown, YesNo, Ranged, Pin}
use Rattle.table.specs.First.Seat.{seat}
use Rattle.table.specs.Controls.{sense_of, size_of, range_of}
use Rattle.table.specs.Keys.{Key, where_is}
use Rattle.table.specs.Same.{Same}
use Rattle.single.specs.Meaning.{SoundAs, SoundRanged, SoundLoaded, loaded_legal, loaded_tested}
use Rattle.sound.specs.Meaning.{Sound, sound_counted}
use Rattle.address.specs.AddressedLaws.{found_stands}
use Rattle.answers.specs.Held.{value_in, takes, stored_for, with_cur}
use Rattle.loads.specs.Load.{loaded_with}
use Rattle.runs.specs.Promises.{Settles}

pub load_same : (s : Sort) (range : Range) (w : ℕ) (c : Control) → Same (loaded_with s range w c) c
load_same s range w c = record { unit = refl; channel = refl; selector = refl }

pub set_same : (x : ℕ) (c : Control) → Same (with_cur x c) c
set_same x c = record { unit = refl; channel = refl; selector = refl }

-- an index that was found
module _ (t : Table) (k : Key) (p : ℕ) (f : where_is t k ≡ seat p) where
  pub index_below : p < t.count
  index_below = (found_stands t k p f).inside

  pub index_inside : Sound t → p < length t.controls
  index_inside s = sound_counted t s p index_below

-- the number of one byte, and of two
one_byte : (d : List ℕ) → Bytes d → length d ≡ 1 → value_in d < 256
unfolding value_in
one_byte [] h l = absurd (omega arith)
one_byte (a ∷ []) h l = let b = h 0 in omega arith
one_byte (a ∷ b ∷ d) h l = absurd (omega arith)

two_bytes : (d : List ℕ) → Bytes d → length d ≡ 2 → value_in d < 65536
unfolding value_in
two_bytes [] h l = absurd (omega arith)
two_bytes (a ∷ []) h l = absurd (omega arith)
two_bytes (a ∷ b ∷ []) h l = let x = h 0 in let y = h 1 in omega arith
two_bytes (a ∷ b ∷ c ∷ d) h l = absurd (omega arith)

-- "a number too wide for the control" is none that its bytes can hold
pub sent_fits : (s : Sort) (d : List ℕ) → Bytes d → length d ≡ size_of (Ranged s) → fits_of s (value_in d) ≡ true
sent_fits Volume d h l = shows (fits_reads Volume (value_in d)) (two_bytes d h l)
sent_fits Tone d h l = shows (fits_reads Tone (value_in d)) (one_byte d h l)
sent_fits Delay d h l = shows (fits_reads Delay (value_in d)) (two_bytes d h l)

-- what is computed is what is to be stored
pub settles_closest : (s : Sort) (range : Range) (x v : ℕ) → legal_of s range ≡ true → fits_of s x ≡ true → v ≡ closest_to s range x
    → Settles s range x v
settles_closest s range x v l f e = record {
  legal = (legal_means s range).says l;
  asked = (fits_reads s x).says f;
  fits = rw e ((fits_reads s (closest_to s range x)).says (closest_fits s range x f));
  means = rw e (closest_means s range l x f);
}

-- a loaded control is a setting's again, whatever is wanted of it
settled_loaded : (s : Sort) (c : Control) (range : Range) (w : ℕ) → range_of c ≡ range → c.cur ≡ closest_to s range w → legal_of s range ≡ true
    → fits_of s w ≡ true → SoundLoaded s c
settled_loaded s c range w e f l h = loaded_tested s c (rw e l) (rw f (closest_fits s range w h)) (rw (e, f) (closest_available s range l w h))

pub load_sound : (s : Sort) (range : Range) (w : ℕ) (c : Control) → sense_of c.selector ≡ Ranged s → SoundAs (sense_of c.selector) c
    → legal_of s range ≡ true → fits_of s w ≡ true → SoundAs (sense_of (loaded_with s range w c).selector) (loaded_with s range w c)
load_sound s range w c e h l f =
    let old : SoundRanged s c = rw e at h in
    rw e (record { channel = old.channel; loaded = λ z. settled_loaded s (loaded_with s range w c) range w refl refl l f })

-- what a Set stores, by what the control holds
set_by_sound : (k : Sense) (c : Control) (d : List ℕ) → SoundAs k c → Bytes d → length d ≡ size_of k → takes k c (value_in d) ≡ true
    → SoundAs k (with_cur (stored_for k c (value_in d)) c)
set_by_sound Unknown c d h b l e = h
set_by_sound YesNo c d h b l e =
    let q = (reads_le (value_in d) 1).says e in
    let n = h.narrow in
    record {
      channel = h.channel;
      narrow = record { min = n.min; max = n.max; res = n.res; cur = omega arith };
      setting = q;
    }
set_by_sound (Ranged s) c d h b l e =
    record { channel = h.channel; loaded = λ z. settled_loaded s (with_cur (closest_to s (range_of c) (value_in d)) c) (range_of c) (value_in d) refl refl (loaded_legal s c (h.loaded z)) (sent_fits s d b l) }
set_by_sound Pin c d h b l e =
    let q = (reads_and _ _ (reads_le 1 (value_in d)) (reads_le (value_in d) c.pins)).says e in
    let n = h.narrow in
    let p = h.pins in
    record {
      channel = h.channel;
      pins = p;
      narrow = record { min = n.min; max = n.max; res = n.res; cur = omega arith };
      setting = q;
    }

pub set_sound : (c : Control) (d : List ℕ) → SoundAs (sense_of c.selector) c → Bytes d → length d ≡ size_of (sense_of c.selector)
    → takes (sense_of c.selector) c (value_in d) ≡ true
    → SoundAs (sense_of c.selector) (with_cur (stored_for (sense_of c.selector) c (value_in d)) c)
set_sound c d h b l e = set_by_sound (sense_of c.selector) c d h b l e
