-- One way out for each kind; an entity of no kind has no bytes.
use borrow.Author.Rules.{rules}
use Prim.Native.Nat.{ℕ, ◌+◌, ◌≤◌}
use mathlib.Core.Path.{◌≡◌, sym}
use mathlib.Core.List.{List}
use lib.ListN.{length}
use native.Mathlib.Omega.{arith}
use Rattle.layout.specs.Format.{two_of}
use Rattle.layout.specs.Fields.{input, output, mixer, selector, feature, bytes_of}
use Rattle.fields.specs.declared.Numbers.{Numbers}
use Rattle.fields.specs.declared.Numbers.TheVariants.{Unknown, Input, Output, Mixer, Selector, Feature, Printed}
use Rattle.fields.specs.Listed.{printed, written_as, entity_from}
use Rattle.laying.specs.Paste.{pasted, pasted_none}
use Rattle.laying.specs.LayingLaws.{long_mixer, long_selector, long_feature, long_printed}
use Rattle.laying.proofs.put_entity.Goals as goal

module _ (x : Numbers) (s k : List ℕ) where
  abbrev bytes : List ℕ
  bytes = written_as (entity_from x s k)

  -- the room and the length that are asked for are the kind's
  room_input : (i t a c l m n at r : ℕ) → x ≡ Input i t a c l m n → at + length bytes ≤ r → at + 12 ≤ r
  room_input i t a c l m n at r e h = rw e at h

  room_output : (i t a f n at r : ℕ) → x ≡ Output i t a f n → at + length bytes ≤ r → at + 9 ≤ r
  room_output i t a f n at r e h = rw e at h

  long_m : (i c l m n : ℕ) → x ≡ Mixer i c l m n → length bytes ≡ 10 + length s + length k
  long_m i c l m n e = rw e (long_mixer i c m n (two_of l) s k)

  long_s : (i n : ℕ) → x ≡ Selector i n → length bytes ≡ 6 + length s
  long_s i n e = rw e (long_selector i n s)

  long_f : (i f z n : ℕ) → x ≡ Feature i f z n → length bytes ≡ 7 + length k
  long_f i f z n e = rw e (long_feature i f z n k)

  long_p : (i n : ℕ) → x ≡ Printed i n → length bytes ≡ 7 + length s
  long_p i n e = rw e (long_printed i n s)

  fits_mixer : (i c l m n : ℕ) → x ≡ Mixer i c l m n → length bytes ≤ 255 → 10 + length s + length k ≤ 255
  fits_mixer i c l m n e h = let q = long_m i c l m n e in omega arith

  fits_selector : (i n : ℕ) → x ≡ Selector i n → length bytes ≤ 255 → 6 + length s ≤ 255
  fits_selector i n e h = let q = long_s i n e in omega arith

  fits_feature : (i f z n : ℕ) → x ≡ Feature i f z n → length bytes ≤ 255 → 7 + length k ≤ 255
  fits_feature i f z n e h = let q = long_f i f z n e in omega arith

  fits_printed : (i n : ℕ) → x ≡ Printed i n → length bytes ≤ 255 → 7 + length s ≤ 255
  fits_printed i n e h = let q = long_p i n e in omega arith

  room_mixer : (i c l m n at r : ℕ) → x ≡ Mixer i c l m n → at + length bytes ≤ r → at + (10 + length s + length k) ≤ r
  room_mixer i c l m n at r e h = let q = long_m i c l m n e in omega arith

  room_selector : (i n at r : ℕ) → x ≡ Selector i n → at + length bytes ≤ r → at + (6 + length s) ≤ r
  room_selector i n at r e h = let q = long_s i n e in omega arith

  room_feature : (i f z n at r : ℕ) → x ≡ Feature i f z n → at + length bytes ≤ r → at + (7 + length k) ≤ r
  room_feature i f z n at r e h = let q = long_f i f z n e in omega arith

  room_printed : (i n at r : ℕ) → x ≡ Printed i n → at + length bytes ≤ r → at + (7 + length s) ≤ r
  room_printed i n at r e h = let q = long_p i n e in omega arith

  module _ (at : ℕ) (d g : List ℕ) where
    put_unknown : x ≡ Unknown → d ≡ pasted at bytes d
    put_unknown e = rw e (sym (pasted_none at d))

    put_input : (i t a c l m n : ℕ) → x ≡ Input i t a c l m n → g ≡ pasted at (bytes_of (input i (two_of t) a c (two_of l) m n)) d → g ≡ pasted at bytes d
    put_input i t a c l m n e h = rw e h

    put_output : (i t a f n : ℕ) → x ≡ Output i t a f n → g ≡ pasted at (bytes_of (output i (two_of t) a f n)) d → g ≡ pasted at bytes d
    put_output i t a f n e h = rw e h

    put_mixer : (i c l m n : ℕ) → x ≡ Mixer i c l m n → g ≡ pasted at (bytes_of (mixer i s c (two_of l) m k n)) d → g ≡ pasted at bytes d
    put_mixer i c l m n e h = rw e h

    put_selector : (i n : ℕ) → x ≡ Selector i n → g ≡ pasted at (bytes_of (selector i s n)) d → g ≡ pasted at bytes d
    put_selector i n e h = rw e h

    put_feature : (i f z n : ℕ) → x ≡ Feature i f z n → g ≡ pasted at (bytes_of (feature i f z k n)) d → g ≡ pasted at bytes d
    put_feature i f z n e h = rw e h

    put_printed : (i n : ℕ) → x ≡ Printed i n → g ≡ pasted at (written_as (printed i s n)) d → g ≡ pasted at bytes d
    put_printed i n e h = rw e h

ruleset unknowns = (put_unknown, rules)

ruleset inputs = (room_input, put_input, rules)

ruleset outputs = (room_output, put_output, rules)

ruleset mixers = (room_mixer, fits_mixer, put_mixer, rules)

ruleset selectors = (room_selector, fits_selector, put_selector, rules)

ruleset features = (room_feature, fits_feature, put_feature, rules)

ruleset printeds = (room_printed, fits_printed, put_printed, rules)

pub returns-in-Unknown : goal.returns-in-Unknown
returns-in-Unknown c = search unknowns
