-- No pin, or pin 1.
use borrow.Author.Rules.{rules}
use denote.Ref.{Bor}
use Prim.Native.Nat.{ℕ}
use mathlib.Core.Path.{◌≡◌, refl, sym, ap, ◌∙◌}
use mathlib.Core.List.{List, [], ◌∷◌}
use lib.ListN.{get_or}
use Rattle.std.specs.Prelude.{Option, Some, None}
use Rattle.std.specs.List.{slice_get}
use Rattle.std.specs.Option.{option_copied}
use Rattle.edition.specs.Audio.{first_of}
use Rattle.sweep.specs.Sweep.{first_by}
use Rattle.keeping.specs.Keeping.{channels_on}
use Rattle.keeping.proofs.first_count.Goals as goal

module _ (counts : List ℕ) (r : Option (Bor ℕ)) where
  no_pin : (ids : List ℕ) → option_copied r ≡ slice_get ids 0 → r ≡ None → 0 ≡ (first_by (channels_on counts) ids).channels
  unfolding first_by first_of
  no_pin [] e h = refl
  no_pin (x ∷ ids) e h = absurd (none≠some (sym (ap option_copied h) ∙ e))
    where
      none≠some : ◌≡◌ {A = Option ℕ} None (Some x) → ⊥
      none≠some q = cc

  pin_1 : (ids : List ℕ) → option_copied r ≡ slice_get ids 0 → (id : Bor ℕ) → r ≡ Some id → (c : ℕ) → c ≡ get_or counts id.now 0
      → c ≡ (first_by (channels_on counts) ids).channels
  unfolding first_by first_of
  pin_1 [] e id h c k = absurd (some≠none (sym (ap option_copied h) ∙ e))
    where
      some≠none : ◌≡◌ {A = Option ℕ} (Some id.now) None → ⊥
      some≠none q = cc
  pin_1 (x ∷ ids) e id h c k = k ∙ ap (λ (i : ℕ). get_or counts i 0) (same (sym (ap option_copied h) ∙ e))
    where
      same : ◌≡◌ {A = Option ℕ} (Some id.now) (Some x) → id.now ≡ x
      same q = cc

ruleset laws = (no_pin, pin_1, rules)

pub returns-in-Some : goal.returns-in-Some
returns-in-Some c = search laws

pub returns-in-None : goal.returns-in-None
returns-in-None c = search laws
