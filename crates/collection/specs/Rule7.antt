-- Rule 7 of a configuration as document 01 writes it, over a cutting ds of it into descriptors and the numbers that the header lists.
--   Rule7 ds l         ==  the listed numbers l are distinct, each is that of a streaming or MIDI group, and each such group's is listed
use Rattle.std.specs.Prelude.{ℕ, ◌≡◌, ◌⊎◌}
use mathlib.Core.List.{List, ◌∷◌, ◌++◌, Memᴰ}
use Rattle.ground.specs.Numbers.{byte}
use Rattle.ground.specs.Lists.{SomeOf}
use Rattle.search.specs.Want.{Audio, Member}

pub record Rule7 (ds : List (List ℕ)) (listed : List ℕ) : Type 0 where
  pub distinct : (x y : List ℕ) (k : ℕ) → listed ≡ x ++ k ∷ y → Memᴰ k y → ⊥
  pub known : (k : ℕ) → Memᴰ k listed → SomeOf (Member k) ds
  pub all_listed : (d : List ℕ) → Memᴰ d ds → Audio 2 d ⊎ Audio 3 d → Memᴰ (byte d 2) listed
