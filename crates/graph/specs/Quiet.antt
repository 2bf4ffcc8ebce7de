-- Where passes may stop. A pass that adds nothing shows that no index may join any more, so that every later pass adds nothing
-- either; a pass that adds something adds one of the n indices, so that no more than n passes do. The order is defined as n
-- passes and no early stop; code stops at the first pass that adds nothing, or as soon as all n are in, and has the same order.
--   Quiet ids sources n o  ==  no index below n may join o
use Prim.Native.Nat.{ℕ, zero, suc, ◌+◌, ◌-◌, ◌≤◌, ◌<◌, zero-le}
use Rattle.std.specs.Prelude.{◌≡◌, ◌⊎◌, Bool}
use Rattle.std.proofs.Math.Path.{refl, sym, ap}
use Rattle.std.proofs.Common.{◌∙◌, arith, zero-add, suc-add, le_trans, eq-or-lt_of_le, length-append}
use mathlib.Core.List.Memᴰ
use mathlib.Core.List.{List, [], ◌∷◌, ◌++◌, append_assoc, append-nil}
use Rattle.std.proofs.Math.Logic.{inl, inr, ⊎_elim}
use Rattle.std.proofs.Math.Bool.{true, false}
use Rattle.std.proofs.Math.ListN.{length}
use Rattle.ground.specs.Pick.{yes, no, refutes}
use Rattle.graph.specs.Passes.{joins, step, pass_from, passes, order_of}
use Rattle.graph.specs.Grown.{with, length_with, Grown, grown_length, grown_full}

module _ (ids : ℕ → ℕ) (sources : ℕ → List ℕ) where
  module _ (n : ℕ) where
    abbrev pub Quiet : List ℕ → Type 0
    Quiet o = (i : ℕ) → i < n → joins ids sources o i ≡ false
