-- The search has come to an index, and what is left of it is the whole search.
use Rattle.std.specs.Prelude.{ℕ, ◌≡◌, ◌≤◌, ◌<◌, ◌+◌, Bool, true, false, None, Some, length, take, slice_index_or}
use Rattle.std.proofs.Common.{rules, ap, ◌∙◌, arith}
use Rattle.ground.specs.Places.{come_here, come_more, come_over}
use Rattle.table.specs.declared.Control.{Control}
use Rattle.table.specs.declared.Table.{Table}
use Rattle.table.specs.Controls.{most_controls, blank_control, answers_to}
use Rattle.table.specs.First.Seat.{absent, seat}
use Rattle.table.specs.First.{places, found_in, entry_at, entry_in}
use Rattle.table.proofs.Counted.{looked_all, looked_inside, looked_at}
use Rattle.table.proofs.find.Invariants.{wanted, Here}
use Rattle.table.proofs.find.Goals as goal

module _ (t : Table) (u ch s m i : ℕ) (e : m ≡ places t) (g : Here t u ch s i) where
  none_left : length t.controls ≡ most_controls → length (take m t.controls) ≤ i → None ≡ entry_in t u ch s
  unfolding found_in
  none_left f h = ap (entry_at t) (come_over (wanted t u ch s) seat absent (places t) i g (let l = looked_all t m i f (omega arith) h in omega arith))

  module _ (h : i < length (take m t.controls)) where
    inside : i < places t
    inside = let l = looked_inside t m i h in omega arith

    module _ (b : Bool) (f : b ≡ answers_to u ch s (slice_index_or (take m t.controls) i blank_control)) where
      tested : b ≡ wanted t u ch s i
      tested = f ∙ ap (answers_to u ch s) (looked_at t m i h)

      here : b ≡ true → Some (i, slice_index_or (take m t.controls) i blank_control) ≡ entry_in t u ch s
      unfolding found_in
      here y =
          ap (λ (c : Control). Some (i, c)) (looked_at t m i h)
          ∙ ap (entry_at t) (come_here (wanted t u ch s) seat absent (places t) i g inside b tested y)

      on : b ≡ false → Here t u ch s (i + 1)
      on = come_more (wanted t u ch s) seat absent (places t) i g inside b tested

ruleset laws = (none_left, here, on, rules)

pub returns-then-answers : goal.returns-then-answers
returns-then-answers c = search laws

pub loop-index-preserved : goal.loop-index-preserved
loop-index-preserved c = search laws

pub returns : goal.returns
returns c = search laws
