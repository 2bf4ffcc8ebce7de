-- The rules 5 and 6 of a configuration as document 01 writes them, over the descriptors behind the AudioControl interface. Nothing here
-- searches, and nothing of what the reader computes stands here.
--   HeaderOpening h    ==  bytes 1 to 4 are 24 01 00 01
--   Header h           ==  h opens so, byte 7 is n, length 8+n
--   listed_of h         ==  the n numbers that the header h lists
--   HeaderForm         ==  what differs between editions: Right h: h is a header; some: it is not empty; told: the offset at which a header tells the
--                          length of header and run together
--   Rule5By f tail     ==  the descriptors tail behind the AudioControl interface begin with a header of the form f
--   GroupEnds ds       ==  ds is empty, or begins with the interface descriptor that opens the next group
--   Rule6By f h others ==  behind the header h: the run, then the group's other descriptors, none of type 24, then the next group;
--                          the two bytes where the form f tells it are the length of header and run together
--   audio_form          ==  the form of the Audio 1.0 edition: the total at 5..6; Rule5, Rule6: the rules by it
use Rattle.std.specs.Prelude.{ℕ, ◌+◌, ◌≤◌, ◌≡◌, length, take, drop}
use mathlib.Core.List.{List, [], ◌∷◌, ◌++◌, Memᴰ}
use Rattle.std.proofs.Common.{arith}
use Rattle.ground.specs.Numbers.{byte, word}
use Rattle.ground.specs.Lists.{total}
use Rattle.search.specs.Want.{Interface, Class}

abbrev pub HeaderOpening : List ℕ → Type 0
HeaderOpening h = take 4 (drop 1 h) ≡ 0x24 ∷ 1 ∷ 0 ∷ 1 ∷ []

pub record Header (h : List ℕ) : Type 0 where
  pub opening : HeaderOpening h
  pub long : length h ≡ 8 + byte h 7

abbrev pub listed_of : List ℕ → List ℕ
listed_of h = drop 8 h

pub record HeaderForm : Type 1 where
  pub Right : List ℕ → Type 0
  pub some : (h : List ℕ) → Right h → 1 ≤ length h
  pub told : ℕ

pub record Rule5By (f : HeaderForm) (tail : List (List ℕ)) : Type 0 where
  pub header : List ℕ
  pub others : List (List ℕ)
  pub stands : tail ≡ header ∷ others
  pub right : f.Right header

pub data GroupEnds : List (List ℕ) → Type 0 where
  last : GroupEnds []
  next : {i : List ℕ} {ds : List (List ℕ)} → Interface i → GroupEnds (i ∷ ds)

pub record Rule6By (f : HeaderForm) (header : List ℕ) (others : List (List ℕ)) : Type 0 where
  pub run : List (List ℕ)
  pub later : List (List ℕ)
  pub after : List (List ℕ)
  pub split : others ≡ run ++ (later ++ after)
  pub class : (d : List ℕ) → Memᴰ d run → Class d
  pub no_class : (d : List ℕ) → Memᴰ d later → Class d → ⊥
  pub in_group : (d : List ℕ) → Memᴰ d later → Interface d → ⊥
  pub ends : GroupEnds after
  pub length_told : word header f.told ≡ length header + total run

abbrev pub audio_form : HeaderForm
audio_form = record { Right = Header; some = λ h k. let l = k.long in omega arith; told = 5 }

abbrev pub Rule5 : List (List ℕ) → Type 0
Rule5 tail = Rule5By audio_form tail

abbrev pub Rule6 : List ℕ → List (List ℕ) → Type 0
Rule6 header others = Rule6By audio_form header others
