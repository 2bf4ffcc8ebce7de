-- The interface stands within the configuration, so its group is sought behind it.
use borrow.Author.Rules.{rules}
use Prim.Native.Nat.{ℕ, ◌≤◌}
use mathlib.Core.Path.{◌≡◌, sym, ap, ◌∙◌}
use mathlib.Core.List.{List}
use lib.ListN.{length}
use Rattle.std.specs.Prelude.{Result, Ok, Err}
use Rattle.ground.specs.declared.Refusal.{Refusal}
use Rattle.ground.specs.Refuse.{none}
use Rattle.ground.specs.Told.{told, Leaves, left, told_ok, ok_told}
use Rattle.interfaces.specs.Reading.{interfaces_judged, location_of}
use Rattle.interfaces.specs.Tops.{control_inside}
use Rattle.interfaces.specs.Judged.{location_refusal, location_control}
use Rattle.groups.specs.declared.Frame.{Frame}
use Rattle.groups.specs.Reading.{frame_from, frame_of}
use Rattle.groups.proofs.placed.Goals as goal

module _ (s : List ℕ) where
  early : (q : Refusal) → Err q ≡ location_of s → (r : Result Frame Refusal) → Leaves r q → r ≡ told (interfaces_judged s none) (frame_of s)
  early q e r h = left r q h ∙ location_refusal s q e none (frame_of s)

  module _ (c : ℕ) (e : Ok c ≡ location_of s) where
    inside : c ≤ length s
    inside = rw (location_control s c e) (control_inside s)

    placed : (f : Frame) → f ≡ frame_from s c → Ok f ≡ told (interfaces_judged s none) (frame_of s)
    unfolding frame_of location_of
    placed f o =
        ap Ok (o ∙ ap (frame_from s) (location_control s c e))
        ∙ sym (told_ok (interfaces_judged s none) (frame_of s) (ok_told (interfaces_judged s none) _ c e).0)

ruleset laws = (inside, placed, rules)

pub returns-in_err-control : goal.returns-in_err-control
returns-in_err-control c = early _ _ c.in_err-control.ensures _ c.from_residual.ensures.1

pub frame_from-requires : goal.frame_from-requires
frame_from-requires c = search laws

pub returns : goal.returns
returns c = search laws
