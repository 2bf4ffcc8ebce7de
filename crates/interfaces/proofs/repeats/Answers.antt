-- By its two ways out: below the top the pairs decide; from the top on nothing stands before.
use borrow.Author.Rules.{rules}
use Prim.Native.Nat.{ℕ, ◌+◌, ◌≤◌, ◌<◌}
use mathlib.Core.Path.{◌≡◌, refl, sym, ap, ◌∙◌}
use mathlib.Core.Bool.{Bool, true, false, ◌||◌}
use mathlib.Core.List.{List, [], ◌∷◌}
use native.Mathlib.Omega.{arith}
use lib.Dec.{eqb}
use lib.ListN.{length, get_or, set, take}
use borrow.Author.Tests.{lt-ltb, le-ltb}
use Rattle.ground.specs.Pick.{Reads, reads_eq, shows, refutes, yes, no}
use Rattle.std.specs.List.{list_any}
use Rattle.ground.specs.Numbers.{byte}
use Rattle.ground.specs.Lists.{any}
use Rattle.interfaces.specs.Tops.{Tops, topped, Repeats, tops_new}
use Rattle.interfaces.specs.Pairs.{most_interfaces, Pair, Pairs, pairs_told}
use Rattle.interfaces.proofs.repeats.Goals as goal

among : (x : ℕ) (l : List ℕ) → list_any (λ y. eqb y x) l ≡ any (eqb x) l
unfolding any
among x [] = refl
among x (y ∷ l) = ap (λ (b : Bool). b || list_any (λ z. eqb z x) l) (flip (eqb y x) (reads_eq y x)) ∙ ap (λ (b : Bool). eqb x y || b) (among x l)
  where
    flip : (b : Bool) → Reads b (y ≡ x) → b ≡ eqb x y
    flip true r = sym (shows (reads_eq x y) (sym (r.says refl)))
    flip false r = sym (refutes (reads_eq x y) (λ h. r.denies refl (sym h)))

room : (s : List ℕ) (at : ℕ) (pairs : List ℕ) (count : ℕ) → Pairs s at pairs count → (count ≤ most_interfaces) × (count ≤ length pairs)
room s at pairs count p = let l = p.long in let f = p.fits in (f, omega arith)

module _ (s : List ℕ) (at : ℕ) (i tops pairs : List ℕ) (count : ℕ) (k : Tops s at tops) (p : Pairs s at pairs count) (n a x : ℕ) (f : n ≡ byte i 2) (g : a ≡ byte i 3) (w : (x ≡ n) × (x < 256)) where
  index : x ≡ byte i 2
  index = w.0 ∙ f

  small : byte i 2 < 256
  small = let p = index in let q = w.1 in omega arith

  below : a < get_or tops x 0 → (z : ℕ) → Pair i z → (r : Bool) → r ≡ any (eqb z) (take count pairs) → Repeats s at i tops tops r
  unfolding topped
  below h z q r e = record { small = small; told = e ∙ pairs_told s at pairs count p i z q; left = rw (← g, ← index) (sym (yes _ _ (lt-ltb _ _ h))) }

  new : get_or tops x 0 ≤ a → Repeats s at i tops (set tops x (a + 1)) false
  unfolding topped
  new h = record { small = small; told = rw (← g, ← index) (tops_new s at tops k x a h); left = rw (← g, ← index) (sym (no _ _ (le-ltb _ _ h))) }

ruleset laws = (room, below, new, rules)

pub returns-then-setting-tops : goal.returns-then-setting-tops
returns-then-setting-tops c =
    below _ _ _ _ _ _ c.requires.tops c.requires.pairs _ _ _
    c.byte_at.ensures c.byte_at-setting.ensures c.index_of-index.ensures c.if-setting-tops.true _ c.pair_of.ensures _ (c.contains.ensures.value ∙ among _ _)

pub returns : goal.returns
returns c = search laws
