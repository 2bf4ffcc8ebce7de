-- The four bytes are the same as a string exactly where each of them is.
use Prim.Native.Nat.{ℕ}
use mathlib.Core.Path.{◌≡◌, refl, sym, ◌∙◌}
use mathlib.Core.Bool.{Bool, true, false}
use mathlib.Core.List.{List, [], ◌∷◌}
use Rattle.ground.specs.Lists.{part}
use Rattle.groups.specs.Reading.{opens}
use Rattle.ground.specs.Pick.{shows, refutes, true≠false}
use Rattle.groups.specs.Opening.{reads_opens}
use Rattle.groups.proofs.opens_header.Goals as goal

compared : (h x y : List ℕ) (r : Bool) → x ≡ part h 1 5 → y ≡ 0x24 ∷ 1 ∷ 0 ∷ 1 ∷ [] → (r ≡ true → x ≡ y) → (x ≡ y → r ≡ true) → r ≡ opens h
compared h x y r e f says shows' = go r refl
  where
    go : (b : Bool) → r ≡ b → b ≡ opens h
    go true q = sym (shows (reads_opens h) (sym e ∙ says q ∙ f))
    go false q = sym (refutes (reads_opens h) (λ o. true≠false (sym (shows' (e ∙ o ∙ sym f)) ∙ q)))

pub returns : goal.returns
returns c = compared _ _ _ _ c.stretch.ensures refl c.same.ensures.0 c.same.ensures.1
