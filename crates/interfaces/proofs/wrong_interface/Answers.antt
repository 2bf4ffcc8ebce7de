-- By its six ways out: one for each test of refusal 4 that decides, with those before it passed.
use borrow.Author.Rules.{rules}
use Prim.Native.Nat.{ℕ, ◌≤◌, ◌<◌}
use mathlib.Core.Path.{◌≡◌, refl, sym, ◌∙◌}
use mathlib.Core.Bool.{Bool, true, false, not}
use mathlib.Core.List.{List}
use lib.ListN.{length}
use lib.Dec.{eqb}
use borrow.Author.Tests.{eq-eqb, ne_eqb, lt-ltb, le-ltb, not-true, not-false}
use Rattle.ground.specs.Pick.{true≠false}
use Rattle.ground.specs.Numbers.{byte}
use Rattle.search.specs.Want.{is_interface, is_audio}
use Rattle.interfaces.specs.Reading.{wrong_at}
use Rattle.interfaces.specs.Tops.{control_before, Repeats, other, interface, Looked, control_seen}
use Rattle.interfaces.proofs.wrong_interface.Goals as goal

-- where something is wrong, the tops are not asked for again
refused : (s : List ℕ) (at : ℕ) (i tops tops' : List ℕ) → true ≡ wrong_at s at i → Looked s at i tops tops' true
refused s at i tops tops' e = record { told = e; after = λ h. absurd (true≠false h) }

module _ (s : List ℕ) (at : ℕ) (i tops : List ℕ) (a : Bool) (e : a ≡ is_interface i) where
  no_interface : not a ≡ true → Looked s at i tops tops false
  unfolding wrong_at
  no_interface h = record { told = simp (sym e ∙ not-true a h); after = λ q. other (sym e ∙ not-true a h) refl }

  module _ (h : not a ≡ false) where
    not_nine : (length i ≡ 9 → ⊥) → Looked s at i tops tops true
    unfolding wrong_at
    not_nine k = refused s at i tops tops (simp (sym e ∙ not-false a h, ne_eqb (length i) 9 k))

    module _ (k : length i ≡ 9) (tops' : List ℕ) (b : Bool) (l : Repeats s at i tops tops' b) where
      repeated : b ≡ true → Looked s at i tops tops' true
      unfolding wrong_at
      repeated o = refused s at i tops tops' (simp (sym e ∙ not-false a h, eq-eqb (length i) 9 k, sym l.told ∙ o))

      module _ (o : b ≡ false) (c : Bool) (p : c ≡ is_audio 1 i) where
        no_control : not c ≡ true → Looked s at i tops tops' false
        unfolding wrong_at
        no_control q = record { told = simp (sym e ∙ not-false a h, eq-eqb (length i) 9 k, sym l.told ∙ o, sym p ∙ not-true c q); after = λ z. interface l.small l.left }

        module _ (q : not c ≡ false) (control : ℕ) (r : control ≡ control_before s at) where
          second_control : control < length s → Looked s at i tops tops' true
          unfolding wrong_at
          second_control t = refused s at i tops tops' (simp (sym e ∙ not-false a h, eq-eqb (length i) 9 k, sym l.told ∙ o, sym p ∙ not-false c q, sym (control_seen s at control r) ∙ lt-ltb _ _ t))

          other_setting : length s ≤ control → (m : ℕ) → m ≡ byte i 3 → Looked s at i tops tops' (not (eqb m 0))
          unfolding wrong_at
          other_setting t m g = record { told = simp (sym e ∙ not-false a h, eq-eqb (length i) 9 k, sym l.told ∙ o, sym p ∙ not-false c q, sym (control_seen s at control r) ∙ le-ltb _ _ t, g); after = λ z. interface l.small l.left }

ruleset laws = (no_interface, not_nine, repeated, no_control, second_control, other_setting, rules)

pub returns-then-not-is_interface : goal.returns-then-not-is_interface
returns-then-not-is_interface c = search laws

pub returns-then-i-ne9 : goal.returns-then-i-ne9
returns-then-i-ne9 c = search laws

pub returns-then-repeats : goal.returns-then-repeats
returns-then-repeats c = search laws

pub returns-then-not-is_audio : goal.returns-then-not-is_audio
returns-then-not-is_audio c = search laws

pub returns-then-control-config : goal.returns-then-control-config
returns-then-control-config c = search laws

pub returns : goal.returns
returns c = search laws
