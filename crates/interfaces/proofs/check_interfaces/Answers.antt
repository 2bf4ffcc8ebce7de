-- By its three ways out: a wrong interface descriptor, none and no AudioControl one, none and an AudioControl one.
use borrow.Author.Rules.{rules}
use Prim.Native.Nat.{ℕ, ◌≤◌, ◌<◌}
use mathlib.Core.Path.{◌≡◌, refl, sym, ap, ◌∙◌}
use mathlib.Core.Bool.{Bool, true, false}
use mathlib.Core.List.{List}
use native.Mathlib.Omega.{arith}
use lib.ListN.{length}
use Rattle.ground.specs.Lists.{any}
use Rattle.ground.specs.Refuse.{none, kept_at, place_or, refuse}
use Rattle.ground.specs.Told.{told, kept_or, Leaves, left, told_ok, ok_told, told_kept, rule_stays}
use Rattle.ground.specs.declared.Refusal.{Refusal}
use Rattle.std.specs.Prelude.{Result, Ok, Err, ltb, Option, Some, None}
use borrow.Author.Tests.{ltb-true, ltb-false}
use Rattle.scan.specs.Cutting.{rest}
use Rattle.scan.specs.Search.{searched}
use Rattle.search.specs.Want.{is_audio, wants, found_from}
use Rattle.search.specs.Found.{found_any, found_none, found_room}
use Rattle.search.specs.declared.Want.TheVariants as want
use Rattle.interfaces.specs.Reading.{breach4, wrong_interface, control_at}
use Rattle.interfaces.proofs.check_interfaces.Goals as goal

-- an AudioControl interface stands exactly where its place is not the end
stands : (s : List ℕ) → control_at s < length s → any (is_audio 1) (rest s 0) ≡ true
unfolding wants place_or
stands s h = go (found_from s 0 (want.Audio 1)) refl
  where
    go : (r : Option ℕ) → found_from s 0 (want.Audio 1) ≡ r → any (is_audio 1) (rest s 0) ≡ true
    go None q = let z : length s < length s = rw q at h in absurd (omega arith)
    go (Some p) q = found_any (want.Audio 1) s 0 p q

none_stands : (s : List ℕ) → length s ≤ control_at s → any (is_audio 1) (rest s 0) ≡ false
unfolding wants place_or
none_stands s h = go (found_from s 0 (want.Audio 1)) refl
  where
    go : (r : Option ℕ) → found_from s 0 (want.Audio 1) ≡ r → any (is_audio 1) (rest s 0) ≡ false
    go None q = found_none (want.Audio 1) s 0 q
    go (Some p) q = let z : length s ≤ p = rw q at h in let room = found_room (want.Audio 1) s 0 p q in absurd (omega arith)

module _ (s : List ℕ) where
  module _ (c : ℕ) (e : Ok c ≡ told (refuse 4 (searched wrong_interface s 0) none) (control_at s)) where
    place : c ≡ control_at s
    place = (ok_told _ _ c e).1

    passed : searched wrong_interface s 0 ≡ None
    passed = told_kept 4 (λ z. omega arith) (searched wrong_interface s 0) (control_at s) c e

    breach : breach4 s ≡ kept_at (ltb c (length s)) (length s)
    unfolding breach4
    breach = go (ltb c (length s)) refl
      where
        go : (b : Bool) → ltb c (length s) ≡ b → breach4 s ≡ kept_at b (length s)
        go true l = rw (breach4, passed, stands s (rw (← place) (ltb-true _ _ l))) refl
        go false l = rw (breach4, passed, none_stands s (rw (← place) (ltb-false _ _ l))) refl

    no_control : (q : Refusal) → Err q ≡ kept_or (refuse 4 (kept_at (ltb c (length s)) (length s)) none) → (r : Result ℕ Refusal) → Leaves r q
        → r ≡ told (refuse 4 (breach4 s) none) (control_at s)
    no_control q f r h = left r q h ∙ rw breach (rule_stays 4 (λ z. omega arith) _ q f none (control_at s))

    control : (u : Unit {0}) → Ok u ≡ kept_or (refuse 4 (kept_at (ltb c (length s)) (length s)) none) → Ok c ≡ told (refuse 4 (breach4 s) none) (control_at s)
    control u f = ap Ok place ∙ sym (told_ok _ _ (rw breach (ok_told _ _ u f).0))

ruleset laws = (control, rules)

pub returns-in_err-control : goal.returns-in_err-control
unfolding told refuse breach4
returns-in_err-control c = search rules

pub returns-in_err-refuse_unless : goal.returns-in_err-refuse_unless
returns-in_err-refuse_unless c = no_control _ _ c.in_ok-control.ensures _ c.in_err-refuse_unless.ensures _ c.from_residual-in_err-refuse_unless.ensures.1

pub returns : goal.returns
returns c = search laws
