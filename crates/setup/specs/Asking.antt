-- What is read of a setup is what its bytes ask.
--   Asking s k             ==  the bytes of the setup s ask k: nothing, a Set, or a Get of a part
--   set_no_get             ==  no setup asks both; reads_set: the test of a Set decides
use Rattle.std.specs.Prelude.{ℕ, ◌≡◌, List, length}
use Rattle.std.proofs.Common.{arith}
use Rattle.ground.specs.Pick.{Reads, reads_and, reads_eq}
use Rattle.ground.specs.Numbers.{byte}
use Rattle.setup.specs.declared.Part.{Part}
use Rattle.setup.specs.declared.Asked.{Asked}
use Rattle.setup.specs.declared.Asked.TheVariants as asks
use Rattle.setup.specs.Setup.{AsksSet, asks_set, AsksGet, code_of, WellAsked, target_of}

pub data Asking (s : List ℕ) : Asked → Type 0 where
  none : (WellAsked s → ⊥) → Asking s asks.Unknown
  sets : length s ≡ 8 → AsksSet s → Asking s (asks.Set (target_of s))
  gets : (part : Part) → length s ≡ 8 → AsksGet s → byte s 1 ≡ code_of part → Asking s (asks.Get part (target_of s))

pub reads_set : (s : List ℕ) → Reads (asks_set s) (AsksSet s)
reads_set s = reads_and _ _ (reads_eq (byte s 0) 0x21) (reads_eq (byte s 1) 1)

pub set_no_get : (s : List ℕ) → AsksSet s → AsksGet s → ⊥
set_no_get s a b = let e = a.0 in let f = b.0 in omega arith
