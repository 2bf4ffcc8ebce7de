use Prim.Native.Nat.{ℕ}
use mathlib.Core.Path.{◌≡◌}
use mathlib.Core.Bool.{Bool, true}
use mathlib.Core.List.{List}
use lib.ListN.{take}
use lib.Dec.{eqb}
use Rattle.ground.specs.Lists.{any}
use Rattle.collection.specs.Reading.{is_distinct}
use Rattle.collection.specs.Marks.{Holds}
use Rattle.collection.proofs.mark_listed.Given as goal

pub record Marking (l : List ℕ) (marks : List Bool) (i : ℕ) : Type 0 where
  pub distinct : is_distinct (take i l) ≡ true
  pub holds : Holds (λ k. any (eqb k) (take i l)) marks

abbrev pub invariant-loop-byte : goal.invariant-loop-byte
invariant-loop-byte l = Marking l.listed l.marks l.byte-index
