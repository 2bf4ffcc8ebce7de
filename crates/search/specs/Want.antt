-- What a descriptor is (document 01, "Groups and the header"): type at byte 1; of an interface descriptor the number at 2, the
-- alternate setting at 3, the class at 5, the subclass at 6. Each statement stands beside the test that decides it.
--   Interface d        ==  type 04: it opens a group
--   Class d            ==  type 24 hex
--   Audio k d          ==  an interface descriptor of class 1 and subclass k: 1 AudioControl, 2 AudioStreaming, 3 MIDI
--   Setting n a d      ==  an interface descriptor of number n and alternate setting a
--   Member n d         ==  the interface descriptor of a streaming or MIDI group of number n
--   is_interface, is_class, is_audio, is_setting, is_member  ==  the tests
--   reads_interface, reads_class, reads_audio, reads_setting, reads_member  ==  that they decide the statements
--   wants w d          ==  the search for w stops at d
--   found_from s from w ==  the place of the first descriptor from place from on that the search for w stops at
use Rattle.std.specs.Prelude.{ℕ, ◌≡◌, Bool, not, ◌&&◌, ◌||◌, List, ◌⊎◌, eqb, Option}
use Rattle.ground.specs.Pick.{Reads, reads_eq, reads_and, reads_or}
use Rattle.ground.specs.Numbers.{byte}
use Rattle.scan.specs.Search.{searched}
use Rattle.search.specs.declared.Want.{Want}
use Rattle.search.specs.declared.Want.TheVariants as want

abbrev pub Interface : List ℕ → Type 0
Interface d = byte d 1 ≡ 4

abbrev pub Class : List ℕ → Type 0
Class d = byte d 1 ≡ 0x24

abbrev pub Audio : ℕ → List ℕ → Type 0
Audio k d = Interface d × ((byte d 5 ≡ 1) × (byte d 6 ≡ k))

abbrev pub Setting : ℕ → ℕ → List ℕ → Type 0
Setting n a d = Interface d × ((byte d 2 ≡ n) × (byte d 3 ≡ a))

abbrev pub Member : ℕ → List ℕ → Type 0
Member n d = (Audio 2 d ⊎ Audio 3 d) × (byte d 2 ≡ n)

unfoldable pub is_interface : List ℕ → Bool
is_interface d = eqb (byte d 1) 4

unfoldable pub is_class : List ℕ → Bool
is_class d = eqb (byte d 1) 0x24

unfoldable pub is_audio : ℕ → List ℕ → Bool
is_audio k d = is_interface d && (eqb (byte d 5) 1 && eqb (byte d 6) k)

unfoldable pub is_setting : ℕ → ℕ → List ℕ → Bool
is_setting n a d = is_interface d && (eqb (byte d 2) n && eqb (byte d 3) a)

unfoldable pub is_member : ℕ → List ℕ → Bool
is_member n d = (is_audio 2 d || is_audio 3 d) && eqb (byte d 2) n

pub reads_interface : (d : List ℕ) → Reads (is_interface d) (Interface d)
unfolding is_interface
reads_interface d = reads_eq (byte d 1) 4

pub reads_class : (d : List ℕ) → Reads (is_class d) (Class d)
unfolding is_class
reads_class d = reads_eq (byte d 1) 0x24

pub reads_audio : (k : ℕ) (d : List ℕ) → Reads (is_audio k d) (Audio k d)
unfolding is_audio
reads_audio k d = reads_and _ _ (reads_interface d) (reads_and _ _ (reads_eq (byte d 5) 1) (reads_eq (byte d 6) k))

pub reads_setting : (n a : ℕ) (d : List ℕ) → Reads (is_setting n a d) (Setting n a d)
unfolding is_setting
reads_setting n a d = reads_and _ _ (reads_interface d) (reads_and _ _ (reads_eq (byte d 2) n) (reads_eq (byte d 3) a))

pub reads_member : (n : ℕ) (d : List ℕ) → Reads (is_member n d) (Member n d)
unfolding is_member
reads_member n d = reads_and _ _ (reads_or _ _ (reads_audio 2 d) (reads_audio 3 d)) (reads_eq (byte d 2) n)

unfoldable pub wants : Want → List ℕ → Bool
wants (want.Audio k) d = is_audio k d
wants (want.Setting n a) d = is_setting n a d
wants (want.Member n) d = is_member n d
wants want.NotClass d = not (is_class d)
wants want.ClassOrInterface d = is_class d || is_interface d

unfoldable pub found_from : List ℕ → ℕ → Want → Option ℕ
found_from s from w = searched (λ b d. wants w d) s from
