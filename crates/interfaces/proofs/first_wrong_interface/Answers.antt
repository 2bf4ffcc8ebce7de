-- The loop stands behind descriptors none of which is wrong; what it finds is what it finds from there on.
use borrow.Author.Rules.{rules}
use Prim.Native.Nat.{ℕ, ◌≤◌, ◌<◌}
use mathlib.Core.Path.{◌≡◌, refl, sym, ap, ◌∙◌}
use mathlib.Core.Bool.{Bool, true, false, not, ◌||◌}
use mathlib.Core.List.{List}
use native.Mathlib.Omega.{arith}
use lib.Dec.{eqb}
use lib.ListN.{length, replicate}
use borrow.Author.Tests.{eqb-true}
use Rattle.ground.specs.Pick.{pick, yes, no, shows, true≠false}
use Rattle.ground.specs.Numbers.{byte}
use Rattle.ground.specs.Lists.{part}
use Rattle.ground.specs.First.{is_before}
use Rattle.ground.specs.Refuse.{none, refuse, refuse_at, refuse_on}
use Rattle.ground.specs.Told.{told, told_ok, told_err}
use Rattle.ground.specs.declared.Refusal.{Refusal}
use Rattle.std.specs.Prelude.{Ok, Err, Some, None}
use Rattle.scan.specs.Cutting.{end_at}
use Rattle.scan.specs.Search.{searched, Passed, start, stop, hit, miss, ordered, inside, falls}
use Rattle.search.specs.Want.{is_interface, is_audio, reads_interface, reads_audio, wants, found_from}
use Rattle.search.specs.Found.{found_before}
use Rattle.search.specs.declared.Want.TheVariants as want
use Rattle.opening.specs.Rules1and2.{most_bytes}
use Rattle.interfaces.specs.Reading.{wrong_interface, wrong_at, control_at}
use Rattle.interfaces.specs.Pairs.{most_interfaces, Noted, pairs_none, pairs_room, pairs_more}
use Rattle.interfaces.specs.Tops.{control_before, Looked, control_none, control_first, control_later, control_all, tops_none, tops_more}
use Rattle.interfaces.proofs.first_wrong_interface.Invariants.{Going}
use Rattle.interfaces.proofs.first_wrong_interface.Goals as goal

-- What stands before is what a search from the first byte on tells: the test at a place is the rule's own test.
wrong_here : (s : List ℕ) (at : ℕ) (i : List ℕ) (g : Passed wrong_interface s 0 at) → wrong_at s at i ≡ wrong_interface g.behind i
unfolding wrong_at wrong_interface wants
wrong_here s at i g = rw (found_before (want.Setting (byte i 2) (byte i 3)) s wrong_interface at g, found_before (want.Audio 1) s wrong_interface at g)

-- An AudioControl interface that is not wrong is the first.
none_before : (s : List ℕ) (at : ℕ) (i : List ℕ) → is_audio 1 i ≡ true → wrong_at s at i ≡ false → is_before (found_from s 0 (want.Audio 1)) at ≡ false
unfolding wrong_at
none_before s at i y n =
    only (not (eqb (length i) 9)) (is_before (found_from s 0 (want.Setting (byte i 2) (byte i 3))) at) (is_before (found_from s 0 (want.Audio 1)) at) (not (eqb (byte i 3) 0))
    (rw (shows (reads_interface i) ((reads_audio 1 i).says y).0, y) at n)
  where
    only : (a b c d : Bool) → (a || (b || (c || d))) ≡ false → c ≡ false
    only true b c d h = absurd (true≠false h)
    only false true c d h = absurd (true≠false h)
    only false false true d h = absurd (true≠false h)
    only false false false d h = refl

-- An interface descriptor that is not wrong is 9 long.
nine : (s : List ℕ) (at : ℕ) (i : List ℕ) → wrong_at s at i ≡ false → is_interface i ≡ true → length i ≡ 9
unfolding wrong_at
nine s at i n y = eqb-true (length i) 9 (go (eqb (length i) 9) refl)
  where
    go : (b : Bool) → eqb (length i) 9 ≡ b → eqb (length i) 9 ≡ true
    go true q = q
    go false q = absurd (true≠false (rw (y, q) at n))

begin : (s : List ℕ) → length s ≤ most_bytes → Going s (replicate 256 0) (replicate most_interfaces 0) 0 (length s) 0
begin s few = record { few = few; passed = start wrong_interface s 0; topped = tops_none s; paired = pairs_none s; seen = control_none s }

module _ (s tops pairs : List ℕ) (count control at e : ℕ) (g : Going s tops pairs count control at) (f : e ≡ end_at s at) where
  over : e ≡ at → Ok control ≡ told (refuse 4 (searched wrong_interface s 0) none) (control_at s)
  over h =
      let q : None ≡ searched wrong_interface s 0 = stop wrong_interface s 0 at e g.passed f h in
      let z : refuse 4 (searched wrong_interface s 0) none ≡ none = refuse_on 4 none (sym q) in
      ap Ok (control_all s wrong_interface at e g.passed f control g.seen h) ∙ sym (told_ok _ _ (ap (λ (r : Refusal). r.number) z))

  module _ (h : e ≡ at → ⊥) (tops' : List ℕ) (r : Bool) (l : Looked s at (part s at e) tops tops' r) where
    same : r ≡ wrong_interface g.passed.behind (part s at e)
    same = l.told ∙ wrong_here s at (part s at e) g.passed

    wrong : r ≡ true → Err (record { number = 4; place = at }) ≡ told (refuse 4 (searched wrong_interface s 0) none) (control_at s)
    wrong y =
        let q : Some at ≡ searched wrong_interface s 0 = hit wrong_interface s 0 at e g.passed f h (sym same ∙ y) in
        let z : refuse 4 (searched wrong_interface s 0) none ≡ record { number = 4; place = at } = refuse_at 4 at none (sym q) in
        sym (ap (λ (r : Refusal). told r (control_at s)) z ∙ told_err _ _ (λ o. omega arith))

    room : r ≡ false → is_interface (part s at e) ≡ true → count < most_interfaces
    room y = pairs_room s at pairs count g.paired wrong_interface e g.passed f h g.few (nine s at (part s at e) (sym l.told ∙ y))

    right : r ≡ false → (pairs' : List ℕ) (count' : ℕ) → Noted (part s at e) pairs count pairs' count'
        → (c : ℕ) → c ≡ pick (is_audio 1 (part s at e)) at control → Going s tops' pairs' count' c e
    right y pairs' count' p c q = record {
      few = g.few;
      passed = miss wrong_interface s 0 at e g.passed f h (sym same ∙ y);
      topped = tops_more s at tops g.topped wrong_interface e g.passed f h tops' (l.after y);
      paired = pairs_more s at pairs count g.paired wrong_interface e g.passed f h g.few (nine s at (part s at e) (sym l.told ∙ y)) pairs' count' p;
      seen = q ∙ go (is_audio 1 (part s at e)) refl;
    }
      where
        go : (b : Bool) → is_audio 1 (part s at e) ≡ b → pick (is_audio 1 (part s at e)) at control ≡ control_before s e
        go true a = yes _ _ a ∙ control_first s wrong_interface at e g.passed f h a (none_before s at (part s at e) a (sym l.told ∙ y))
        go false a = no _ _ a ∙ control_later s wrong_interface at e g.passed f h control g.seen a

ruleset laws = (begin, over, wrong, room, right, ordered, inside, falls, rules)

pub loop-at-init : goal.loop-at-init
loop-at-init c = search laws

pub returns-then-e-at : goal.returns-then-e-at
returns-then-e-at c = search laws

pub slice_bounds-i-count : goal.slice_bounds-i-count
slice_bounds-i-count c = search laws

pub slice_bounds-i-start : goal.slice_bounds-i-start
slice_bounds-i-start c = search laws

pub slice_bounds-i-end : goal.slice_bounds-i-end
slice_bounds-i-end c = search laws

pub returns-then-wrong_interface : goal.returns-then-wrong_interface
returns-then-wrong_interface c = search laws

pub note_pair-count-requires : goal.note_pair-count-requires
note_pair-count-requires c = search laws

pub loop-at-smaller : goal.loop-at-smaller
loop-at-smaller c = search laws

pub loop-at-preserved : goal.loop-at-preserved
loop-at-preserved c = search laws
