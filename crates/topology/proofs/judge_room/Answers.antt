-- By its three ways out: refused by the rules 1 to 15, by 16, or found.
use borrow.Author.Rules.{rules}
use Prim.Native.Nat.{ℕ}
use mathlib.Core.Path.{◌≡◌, sym, ap, ◌∙◌}
use mathlib.Core.List.{List}
use Rattle.std.specs.Prelude.{Result, Ok, Err}
use Rattle.ground.specs.declared.Refusal.{Refusal}
use mathlib.Core.Bool.{Bool}
use Rattle.ground.specs.Refuse.{none, refuse, kept_at}
use Rattle.ground.specs.Told.{told, kept_or, Leaves, left, told_ok, told_err, ok_told, err_told, row_stays}
use Rattle.records.specs.Records.{room_for}
use Rattle.cutting.specs.Survey.{survey_of}
use Rattle.topology.specs.declared.Finding.{Finding}
use Rattle.topology.specs.Reading.{room_judged, judged_then, verdict_of, finding_with, found_in, finding_of}
use Rattle.topology.specs.Verdict.{judged_chain, finding_taken, verdict_room}
use Rattle.topology.proofs.judge_room.Goals as goal

module _ (s : List ℕ) (room : ℕ) where
  turned_away : (q : Refusal) → Err q ≡ finding_of s → (r : Result Finding Refusal) → Leaves r q → r ≡ told (verdict_of s room) (found_in s)
  unfolding finding_of verdict_of
  turned_away q e r h = left r q h ∙ row_stays (judged_then s) (judged_chain s) (found_in s) q e (room_judged (survey_of s) room none) (found_in s)

  module _ (f : Finding) (e : Ok f ≡ finding_of s) (b : Bool) (g : b ≡ room_for f.run room) where
    sixteen : refuse 16 (kept_at b f.header) none ≡ verdict_of s room
    unfolding room_judged finding_with
    sixteen =
        let t = finding_taken s f e in
        ap (λ (c : Bool). refuse 16 (kept_at c f.header) none) g
        ∙ ap (λ (y : Finding). refuse 16 (kept_at (room_for y.run room) y.header) none) t.1 ∙ sym (verdict_room s room t.0)

    no_room : (q : Refusal) → Err q ≡ kept_or (refuse 16 (kept_at b f.header) none) → (r : Result Finding Refusal) → Leaves r q
        → r ≡ told (verdict_of s room) (found_in s)
    no_room q h r k =
        let m = err_told (verdict_of s room) tt q (h ∙ ap kept_or sixteen) in
        left r q k ∙ ap Err m.1 ∙ sym (told_err (verdict_of s room) (found_in s) m.0)

    taken : (u : Unit {0}) → Ok u ≡ kept_or (refuse 16 (kept_at b f.header) none) → Ok f ≡ told (verdict_of s room) (found_in s)
    taken u h =
        ap Ok (finding_taken s f e).1
        ∙ sym (told_ok (verdict_of s room) (found_in s) (ok_told (verdict_of s room) tt u (h ∙ ap kept_or sixteen)).0)

ruleset laws = (taken, rules)

pub returns-in_err-found : goal.returns-in_err-found
returns-in_err-found c = turned_away _ _ _ c.in_err-found.ensures _ c.from_residual.ensures.1

pub returns-in_err-refuse_unless : goal.returns-in_err-refuse_unless
returns-in_err-refuse_unless c =
    no_room _ _ _ c.in_ok-found.ensures _ c.has_room.ensures _ c.in_err-refuse_unless.ensures _ c.from_residual-in_err-refuse_unless.ensures.1

pub returns : goal.returns
returns c = search laws
