-- By its three ways out: refused by the other rules, by 16, or found.
use borrow.Author.Rules.{rules}
use Prim.Native.Nat.{ℕ}
use mathlib.Core.Path.{◌≡◌, sym, ap, ◌∙◌}
use mathlib.Core.List.{List}
use Rattle.std.specs.Prelude.{Result, Ok, Err}
use Rattle.ground.specs.declared.Refusal.{Refusal}
use mathlib.Core.Bool.{Bool}
use Rattle.ground.specs.Refuse.{none, refuse, kept_at}
use Rattle.ground.specs.Told.{told, kept_or, Leaves, left, told_ok, told_err, ok_told, err_told, row_stays}
use Rattle.records.specs.Records.{room_for}
use Rattle.third.specs.declared.Finding.{Finding}
use Rattle.third.specs.Judgement.{room_refused, third_then, third_verdict, found_in, third_finding}
use Rattle.third.specs.Verdict.{verdict3_chain, finding_all, verdict_room}
use Rattle.third.proofs.judge_room.Goals as goal

module _ (s b : List ℕ) (room : ℕ) where
  turned_away : (q : Refusal) → Err q ≡ third_finding s b → (r : Result Finding Refusal) → Leaves r q → r ≡ told (third_verdict s b room) (found_in s b)
  unfolding third_finding third_verdict
  turned_away q e r h = left r q h ∙ row_stays (third_then s b) (verdict3_chain s b) (found_in s b) q e (room_refused s room none) (found_in s b)

  module _ (f : Finding) (e : Ok f ≡ third_finding s b) (c : Bool) (g : c ≡ room_for f.run room) where
    sixteen : refuse 16 (kept_at c f.header) none ≡ third_verdict s b room
    unfolding room_refused
    sixteen =
        let t = finding_all s b f e in
        ap (λ (d : Bool). refuse 16 (kept_at d f.header) none) g
        ∙ ap (λ (y : Finding). refuse 16 (kept_at (room_for y.run room) y.header) none) t.1 ∙ sym (verdict_room s b room t.0)

    no_room : (q : Refusal) → Err q ≡ kept_or (refuse 16 (kept_at c f.header) none) → (r : Result Finding Refusal) → Leaves r q
        → r ≡ told (third_verdict s b room) (found_in s b)
    no_room q h r k =
        let m = err_told (third_verdict s b room) tt q (h ∙ ap kept_or sixteen) in
        left r q k ∙ ap Err m.1 ∙ sym (told_err (third_verdict s b room) (found_in s b) m.0)

    taken : (u : Unit {0}) → Ok u ≡ kept_or (refuse 16 (kept_at c f.header) none) → Ok f ≡ told (third_verdict s b room) (found_in s b)
    taken u h =
        ap Ok (finding_all s b f e).1
        ∙ sym (told_ok (third_verdict s b room) (found_in s b) (ok_told (third_verdict s b room) tt u (h ∙ ap kept_or sixteen)).0)

ruleset laws = (taken, rules)

pub returns-in_err-found : goal.returns-in_err-found
returns-in_err-found c = turned_away _ _ _ _ c.in_err-found.ensures _ c.from_residual.ensures.1

pub returns-in_err-refuse_unless : goal.returns-in_err-refuse_unless
returns-in_err-refuse_unless c =
    no_room _ _ _ _ c.in_ok-found.ensures _ c.has_room.ensures _ c.in_err-refuse_unless.ensures _ c.from_residual-in_err-refuse_unless.ensures.1

pub returns : goal.returns
returns c = search laws
