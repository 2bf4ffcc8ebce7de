-- Rule 4 of a configuration as document 01 writes it: a statement over a cutting ds of the bytes s into descriptors. Nothing here searches,
-- and nothing of what the reader computes stands here.
--   WrongInterface b i ==  i, behind the descriptors b, is an interface descriptor that refusal 4 names
--   Rule4 ds           ==  no interface descriptor is wrong, and there is an AudioControl one
--   Broken4 s ds p     ==  p is the place of refusal 4: the first wrong interface descriptor's; L if only the AudioControl one is missing
use Rattle.std.specs.Prelude.{ℕ, ◌≡◌, List, length}
use Rattle.ground.specs.Numbers.{byte}
use Rattle.ground.specs.Lists.{SomeOf}
use Rattle.ground.specs.First.{Sound, Breaks}
use Rattle.search.specs.Want.{Interface, Audio, Setting}

pub data WrongInterface (earlier : List (List ℕ)) (i : List ℕ) : Type 0 where
  not_nine : Interface i → (length i ≡ 9 → ⊥) → WrongInterface earlier i
  repeats : Interface i → SomeOf (Setting (byte i 2) (byte i 3)) earlier → WrongInterface earlier i
  second_control : Audio 1 i → SomeOf (Audio 1) earlier → WrongInterface earlier i
  other_setting : Audio 1 i → (byte i 3 ≡ 0 → ⊥) → WrongInterface earlier i

pub record Rule4 (ds : List (List ℕ)) : Type 0 where
  pub right : Sound WrongInterface ds
  pub control : SomeOf (Audio 1) ds

pub data Broken4 (s : List ℕ) (ds : List (List ℕ)) (p : ℕ) : Type 0 where
  wrong : Breaks WrongInterface 0 ds p → Broken4 s ds p
  missing : Sound WrongInterface ds → (SomeOf (Audio 1) ds → ⊥) → p ≡ length s → Broken4 s ds p
