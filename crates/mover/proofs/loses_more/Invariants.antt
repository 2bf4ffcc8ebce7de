use Prim.Native.Nat.{ℕ, ◌+◌, ◌*◌, ◌-◌, ◌≤◌, ◌<◌}
use mathlib.Core.Path.{◌≡◌, ap, ◌∙◌}
use mathlib.Core.Bool.{Bool, true, false}
use mathlib.Core.List.{List}
use native.Mathlib.Omega.{arith}
use lib.ListN.{length, take, drop}
use Rattle.ground.specs.Lists.{part}
use Rattle.ground.specs.Places.{Come, come_none, come_over, come_here, come_more, somewhere}
use Rattle.records.specs.Records.{record_size}
use Rattle.legal.specs.Sheet.{count_in, record_at}
use Rattle.legal.specs.SheetLaws.{record_inside}
use Rattle.mover.specs.Moving.{has_more, loses_more}
use Rattle.mover.proofs.loses_more.Given as goal

module _ (s : List ℕ) where
  abbrev pub more_at : ℕ → Bool
  more_at i = has_more (record_at s i)

  pub record Seen (i : ℕ) : Type 0 where
    pub come : Come more_at (λ j. true) false (count_in s) i

  pub start : Seen 0
  start = record { come = come_none more_at (λ j. true) false (count_in s) }

  module _ (i : ℕ) (g : Seen i) where
    pub over : count_in s ≤ i → false ≡ loses_more s
    unfolding loses_more somewhere
    over h = come_over more_at (λ j. true) false (count_in s) i g.come h

    module _ (h : i < count_in s) where
      pub inside : i * record_size + record_size ≤ length s
      inside = record_inside record_size s i h

      module _ (b : Bool) (e : b ≡ has_more (part s (i * record_size) (i * record_size + record_size))) where
        pub told : b ≡ more_at i
        told = let q : i * record_size + record_size - i * record_size ≡ record_size = omega arith in e ∙ ap (λ (n : ℕ). has_more (take n (drop (i * record_size) s))) q

        pub here : b ≡ true → true ≡ loses_more s
        unfolding loses_more somewhere
        here y = come_here more_at (λ j. true) false (count_in s) i g.come h b told y

        pub on : b ≡ false → Seen (i + 1)
        on y = record { come = come_more more_at (λ j. true) false (count_in s) i g.come h b told y }

abbrev pub invariant-loop-i : goal.invariant-loop-i
invariant-loop-i l = Seen l.s l.i
