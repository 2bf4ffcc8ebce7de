-- Two ways out: the entities are refused, or what is left to judge and to put.
use borrow.Author.Rules.{rules}
use Prim.Native.Nat.{ℕ, ◌≤◌}
use mathlib.Core.Path.{◌≡◌, refl}
use mathlib.Core.List.{List}
use lib.ListN.{length}
use Rattle.std.specs.Prelude.{IfErr}
use Rattle.std.specs.declared.result.Result.{Result}
use Rattle.std.specs.declared.result.Result.TheVariants.{Ok, Err}
use Rattle.ground.specs.declared.Refusal.{Refusal}
use Rattle.ground.specs.Lists.{part}
use Rattle.fields.specs.Listed.{Listed}
use Rattle.writing.specs.declared.Wrote.{Wrote}
use Rattle.writing.specs.Writing.{most_run, descriptors_of, whole_of, room_then, refusal_told, size_told, JudgedRun, WroteBy, Writes}
use Rattle.writing.specs.AnswerLaws.{write_refused, write_room, write_whole}
use Rattle.writing.proofs.write.Goals as goal

module _ (ls : List Listed) (cs out before : List ℕ) (q : Result ℕ Refusal) (t : JudgedRun (descriptors_of ls) out (refusal_told q) (size_told q)) where
  refused : (r : Refusal) → q ≡ Err r → IfErr q (λ (x : Refusal). x.number ≡ 0 → ⊥) → (a : Wrote) → a ≡ record { number = r.number; place = r.place; written = 0 }
      → Writes ls cs before before a
  refused r e k a h = rw h (write_refused ls cs out r 0 (rw e at t) before (rw e at k))

  module _ (size : ℕ) (e : q ≡ Ok size) (run : List ℕ) (f : run ≡ part out 0 size) where
    room : length run ≤ most_run
    room = write_room ls cs out (refusal_told q) (size_told q) t before run (rw e f)

    whole : (after : List ℕ) (a : Wrote) → WroteBy (room_then cs run (length before)) (whole_of cs run) before after a → Writes ls cs before after a
    whole = write_whole ls cs out (refusal_told q) (size_told q) t before run (rw e f) (rw e refl)

ruleset laws = (refused, room, whole, rules)

pub put_whole-requires : goal.put_whole-requires
put_whole-requires c = search laws

pub returns-in-Ok : goal.returns-in-Ok
returns-in-Ok c = search laws

pub returns-in-Err : goal.returns-in-Err
returns-in-Err c = search laws
