-- What the definitions of Setting give at each way out of the code: one law a way out, its premises what the tests passed
-- and the functions called tell there.
use Prim.Native.Nat.{ℕ, ◌+◌, ◌-◌, ◌^◌, ◌≤◌, ◌<◌, min}
use mathlib.Core.Path.{◌≡◌, sym}
use mathlib.Core.Bool.{true}
use native.Mathlib.Omega.{arith}
use mir.Val.{Fits}
use mir.Syntax.{w32}
use Rattle.setting.specs.declared.Sort.{Sort}
use Rattle.setting.specs.declared.Range.{Range}
use Rattle.setting.specs.Grid.{Nearest, whole_steps_low, whole_steps_last, closest_at_least, closest_last, closest_high, closest_low, closest_nearest}
use Rattle.setting.specs.Height.{span_small, height_below}
use Rattle.setting.specs.Legal.{LegalHeights, legal_reads}
use Rattle.setting.specs.Setting.{height_of, legal_of, whole_steps, closest_height}

-- ---- on_grid and closest_height are asked for heights

pub height_short : (s : Sort) (n h : ℕ) → h ≡ height_of s n → h < 65536
height_short s n h e = omega (arith, height_below s n, span_small s)

-- ---- closest_height

pub at_least : (least most step x : ℕ) → x ≤ least → least ≡ closest_height least most step x
at_least least most step x h = sym (closest_at_least least most step x h)

module _ (least most step x : ℕ) (m : least ≤ most) (p : 0 < step) (above : least < x) (t : ℕ) (e : t ≡ min x most) (w : ℕ) (f : w ≡ whole_steps (t - least) step) where
  pub low_below : least + w ≤ most
  low_below = let l = whole_steps_low (t - least) step in omega arith

  pub low_fits : most < 2 ^ 32 → Fits w32 (least + w)
  low_fits h = let l = low_below in record { fits = omega arith }

  pub low_under : least + w ≤ x
  low_under = let l = whole_steps_low (t - least) step in omega arith

  pub high_over : step ≤ most - (least + w) → x ≤ least + w + step
  high_over h = let l = whole_steps_last (t - least) step p in let g = low_below in omega arith

  same : least + whole_steps (min x most - least) step ≡ least + w
  same = rw (f, e)

  pub low_last : most - (least + w) < step → least + w ≡ closest_height least most step x
  low_last h = sym (closest_last least most step x above (least + w) same h)

  pub high_closer : step ≤ most - (least + w) → least + w + step - x < x - (least + w) → least + w + step ≡ closest_height least most step x
  high_closer h g = sym (closest_high least most step x above (least + w) same h g)

  pub low_closer : step ≤ most - (least + w) → x - (least + w) ≤ least + w + step - x → least + w ≡ closest_height least most step x
  low_closer h g = sym (closest_low least most step x above (least + w) same h g)

-- ---- closest_setting

module _ (s : Sort) (range : Range) (l : legal_of s range ≡ true) where
  heights : LegalHeights s range
  heights = (legal_reads s range).says l

  pub min_max : (a b : ℕ) → a ≡ height_of s range.min → b ≡ height_of s range.max → a ≤ b
  min_max a b e f = omega (arith, heights.min_max)

  pub res_some : 0 < range.res
  res_some = omega (arith, heights.res_some)

  pub closest_below : (a b x h : ℕ) → a ≡ height_of s range.min → b ≡ height_of s range.max → h ≡ closest_height a b range.res x → h < 65536
  closest_below a b x h e f g =
      let n : Nearest a b range.res x (closest_height a b range.res x) = closest_nearest a b range.res x (min_max a b e f) res_some in
      omega (arith, n.point.within, height_below s range.max, span_small s)
