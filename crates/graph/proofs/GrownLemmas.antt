-- Laws of what stands beside it in specs.
--   reads_joins          ==  .. which is what the test of a pass decides
--   step_grown, pass_from_grown, passes_grown  ==  what steps and passes make of a grown order is grown
--   order_grown          ==  .. so the order is
use Prim.Native.Nat.{ℕ, zero, suc, ◌+◌, ◌≤◌, ◌<◌, zero-le}
use Rattle.std.specs.Prelude.{◌≡◌, List, [], ◌∷◌, ◌++◌, ◌⊎◌, Bool, not, eqb, leb, length, get_or, take}
use Rattle.std.proofs.Math.Path.{refl}
use Rattle.std.proofs.Common.{sym, inl, inr, ⊎_elim, arith, eq-or-lt_of_le, le_of_lt, length-append, take_all, eq-eqb, eqb-true}
use mathlib.Core.List.Memᴰ
use Rattle.std.proofs.lemmas.List.{map-append, take-append-le}
use Rattle.std.proofs.Math.Bool.{true, false}
use Rattle.std.proofs.Math.ListN.{get_or-append}
use Rattle.std.proofs.Math.Seq.{take-append_seam, get_or-append_seam}
use Rattle.ground.specs.Pick.{pick, Reads, decided, reads_le, reads_and, reads_not}
use Rattle.graph.specs.Members.{◌∈◌, along, mem, reads_mem, mem_in, mem_out, all, reads_all}
use Rattle.graph.specs.Tallies.{tally, tally_le, tally_kept, tally_more, tally_full, tally_none, tally_every, tally_either}
use Rattle.graph.specs.Tables.{below, lt_below, below_lt, length_below, tabulate_from}
use Rattle.graph.specs.Passes.{borne, joins, step, pass_from, passes, order_of}
use Rattle.graph.specs.Grown.{with, MayJoin, Grown, none, more}

module _ (ids : ℕ → ℕ) (sources : ℕ → List ℕ) where
  pub reads_joins : (o : List ℕ) (i : ℕ) → Reads (joins ids sources o i) ((MayJoin ids sources) o i)
  unfolding joins
  reads_joins o i =
      reads_and (not (mem (ids i) (borne ids o))) (all (λ x. mem x (borne ids o)) (sources i))
      (reads_not (mem (ids i) (borne ids o)) (reads_mem (ids i) (borne ids o)))
      (reads_all (λ x. mem x (borne ids o)) (λ x. x ∈ borne ids o) (sources i) (λ x m. reads_mem x (borne ids o)))

module _ {ids : ℕ → ℕ} {sources : ℕ → List ℕ} {n : ℕ} where
  pub step_grown : {o : List ℕ} {i : ℕ} → Grown ids sources n o → i < n → Grown ids sources n (step ids sources o i)
  unfolding step
  step_grown {o} {i} g l = go (joins ids sources o i) refl
    where
      go : (b : Bool) → joins ids sources o i ≡ b → Grown ids sources n (pick b (with o i) o)
      go true e = more g l ((reads_joins ids sources o i).says e)
      go false e = g

  pub pass_from_grown : (k i : ℕ) {o : List ℕ} → i + k ≤ n → Grown ids sources n o → Grown ids sources n (pass_from ids sources k i o)
  unfolding pass_from
  pass_from_grown zero i l g = g
  pass_from_grown (suc k) i l g = pass_from_grown k (suc i) (omega arith) (step_grown g (omega arith))

pub passes_grown : (ids : ℕ → ℕ) (sources : ℕ → List ℕ) (n k : ℕ) → Grown ids sources n (passes ids sources n k)
unfolding passes
passes_grown ids sources n zero = none
passes_grown ids sources n (suc k) = pass_from_grown n 0 (omega arith) (passes_grown ids sources n k)

pub order_grown : (ids : ℕ → ℕ) (sources : ℕ → List ℕ) (n : ℕ) → Grown ids sources n (order_of ids sources n)
order_grown ids sources n = passes_grown ids sources n _
