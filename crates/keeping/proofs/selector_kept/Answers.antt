-- The channels first, then the bitmaps.
use borrow.Author.Rules.{rules}
use Prim.Native.Nat.{ℕ}
use mathlib.Core.Path.{◌≡◌, refl, sym, ap, ◌∙◌}
use mathlib.Core.Bool.{Bool, true, false, ◌&&◌}
use mathlib.Core.List.{List, [], ◌∷◌, map}
use lib.ListN.{get_or}
use Rattle.pins.specs.Same.{numbers_at, all_same}
use Rattle.edition.specs.Audio.{channels_each, locations_each, alike}
use Rattle.keeping.specs.Keeping.{content_on}
use Rattle.keeping.proofs.selector_kept.Goals as goal

module _ (counts bitmaps : List ℕ) where
  channels_on : (ids : List ℕ) → numbers_at counts ids ≡ channels_each (map (content_on counts bitmaps) ids)
  unfolding numbers_at
  channels_on [] = refl
  channels_on (x ∷ ids) = ap (λ (l : List ℕ). get_or counts x 0 ∷ l) (channels_on ids)

  locations_on : (ids : List ℕ) → numbers_at bitmaps ids ≡ locations_each (map (content_on counts bitmaps) ids)
  unfolding numbers_at
  locations_on [] = refl
  locations_on (x ∷ ids) = ap (λ (l : List ℕ). get_or bitmaps x 0 ∷ l) (locations_on ids)

  module _ (ids : List ℕ) (b : Bool) (e : b ≡ all_same (numbers_at counts ids)) where
    same_channels : b ≡ all_same (channels_each (map (content_on counts bitmaps) ids))
    same_channels = e ∙ ap all_same (channels_on ids)

    other_channels : b ≡ false → b ≡ alike (map (content_on counts bitmaps) ids)
    unfolding alike
    other_channels h = h ∙ sym (ap (λ (x : Bool). x && all_same (locations_each (map (content_on counts bitmaps) ids))) (sym same_channels ∙ h))

    by_bitmaps : b ≡ true → (d : Bool) → d ≡ all_same (numbers_at bitmaps ids) → d ≡ alike (map (content_on counts bitmaps) ids)
    unfolding alike
    by_bitmaps h d f =
        f ∙ ap all_same (locations_on ids)
        ∙ sym (ap (λ (x : Bool). x && all_same (locations_each (map (content_on counts bitmaps) ids))) (sym same_channels ∙ h))

ruleset laws = (other_channels, by_bitmaps, rules)

pub returns-then-same : goal.returns-then-same
returns-then-same c = search laws

pub returns-else-same : goal.returns-else-same
returns-else-same c = search laws
