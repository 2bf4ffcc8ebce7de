-- No pin, or pin 1.
use borrow.Author.Rules.{rules}
use denote.Ref.{Bor}
use Prim.Native.Nat.{ℕ}
use mathlib.Core.Path.{◌≡◌, refl, sym, ap, ◌∙◌}
use mathlib.Core.List.{List, [], ◌∷◌}
use Rattle.std.specs.Prelude.{Option, Some, None}
use Rattle.std.specs.List.{slice_get}
use Rattle.std.specs.Option.{option_copied}
use Rattle.layout.specs.declared.Cluster.{Cluster}
use Rattle.layout.specs.Layout.{no_cluster}
use Rattle.edition.specs.Audio.{first_of}
use Rattle.sweep.specs.Sweep.{first_by}
use Rattle.sweep.proofs.first_entering.Goals as goal

module _ (cl : ℕ → Cluster) (r : Option (Bor ℕ)) where
  no_pin : (ids : List ℕ) → option_copied r ≡ slice_get ids 0 → r ≡ None → no_cluster ≡ first_by cl ids
  unfolding first_by first_of
  no_pin [] e h = refl
  no_pin (x ∷ ids) e h = absurd (none≠some (sym (ap option_copied h) ∙ e))
    where
      none≠some : ◌≡◌ {A = Option ℕ} None (Some x) → ⊥
      none≠some q = cc

  pin_1 : (ids : List ℕ) → option_copied r ≡ slice_get ids 0 → (id : Bor ℕ) → r ≡ Some id → (c : Cluster) → c ≡ cl id.now → c ≡ first_by cl ids
  unfolding first_by first_of
  pin_1 [] e id h c k = absurd (some≠none (sym (ap option_copied h) ∙ e))
    where
      some≠none : ◌≡◌ {A = Option ℕ} (Some id.now) None → ⊥
      some≠none q = cc
  pin_1 (x ∷ ids) e id h c k = k ∙ ap cl (same (sym (ap option_copied h) ∙ e))
    where
      same : ◌≡◌ {A = Option ℕ} (Some id.now) (Some x) → id.now ≡ x
      same q = cc

ruleset laws = (no_pin, pin_1, rules)

pub returns-in-Some : goal.returns-in-Some
returns-in-Some c = search laws

pub returns-in-None : goal.returns-in-None
returns-in-None c = search laws
