-- The bitmap's second byte is its quotient by 256, which is a byte.
use Prim.Native.Nat.{ℕ, ◌/◌, ◌%◌, ◌<◌}
use mathlib.Core.Path.{◌≡◌, refl}
use mathlib.Core.List.{List, [], ◌∷◌}
use native.Mathlib.Omega.{arith}
use lib.ListN.{get_or}
use borrow.Author.Rules.{rules}
use Rattle.layout.specs.declared.Cluster.{Cluster}
use Rattle.records.specs.Records.{front_of}
use Rattle.records.proofs.front_of.Goals as goal

low_high : (b : List ℕ) (i k p : ℕ) (c : Cluster) → c.locations < 65536 → b ≡ c.locations % 256 ∷ c.locations / 256 % 256 ∷ []
    → i ∷ k ∷ c.channels ∷ get_or b 0 0 ∷ get_or b 1 0 ∷ c.names ∷ p ∷ 0 ∷ [] ≡ front_of i k p c
low_high b i k p c l e = let h : c.locations / 256 % 256 ≡ c.locations / 256 = omega arith in rw (e, h) refl

pub returns : goal.returns
returns c = search (low_high, rules)
