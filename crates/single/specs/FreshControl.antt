-- A control as it is made, before any load: "numbers not yet loaded or that a control does not use, are zero. Yes/no .. at first 0 ..
-- A Selector's value is a pin, at first 1." Refusal 30 has nothing against such a control.
--   Unused c      ==  nothing is loaded, and MIN, MAX and RES are zero
--   FreshZero c, FreshPin c ==  a yes/no or a ranged control, and a Selector's, as they are made
--   FreshAs k c   ==  a control that holds k, as it is made
--   fresh_as      ==  30 has nothing against it
use Rattle.std.specs.Prelude.{◌≤◌, ◌≡◌, false}
use Rattle.std.proofs.Common.{sym, ◌∙◌, arith}
use Rattle.ground.specs.Pick.{true≠false}
use Rattle.layout.specs.Layout.{Pins}
use Rattle.table.specs.declared.Control.{Control}
use Rattle.table.specs.declared.Sense.{Sense}
use Rattle.table.specs.declared.Sense.TheVariants.{Unknown, YesNo, Ranged, Pin}
use Rattle.single.specs.Meaning.{Narrow, SoundAs}

pub record Unused (c : Control) : Type 0 where
  pub unloaded : c.loaded ≡ false
  pub min : c.min ≡ 0
  pub max : c.max ≡ 0
  pub res : c.res ≡ 0

pub record FreshZero (c : Control) : Type 0 where
  pub channel : c.channel ≤ 16
  pub pins : c.pins ≡ 0
  pub unused : Unused c
  pub first : c.cur ≡ 0

pub record FreshPin (c : Control) : Type 0 where
  pub channel : c.channel ≡ 0
  pub pins : Pins c.pins
  pub unused : Unused c
  pub first : c.cur ≡ 1

abbrev pub FreshAs : Sense → Control → Type 0
FreshAs Unknown c = ⊥
FreshAs YesNo c = FreshZero c
FreshAs (Ranged s) c = FreshZero c
FreshAs Pin c = FreshPin c

unused_narrow : (c : Control) → Unused c → c.cur ≤ 1 → Narrow c
unused_narrow c u h =
    let a = u.min in
    let b = u.max in
    let d = u.res in
    record { min = omega arith; max = omega arith; res = omega arith; cur = omega arith }

pub fresh_as : (k : Sense) (c : Control) → FreshAs k c → SoundAs k c
fresh_as Unknown c h = h
fresh_as YesNo c h =
    let e = h.first in
    record { channel = h.channel; narrow = unused_narrow c h.unused (omega arith); setting = omega arith }
fresh_as (Ranged s) c h = record { channel = h.channel; loaded = λ e. absurd (true≠false (sym e ∙ h.unused.unloaded)) }
fresh_as Pin c h =
    let e = h.first in
    let p = h.pins in
    record {
      channel = h.channel;
      pins = h.pins;
      narrow = unused_narrow c h.unused (omega arith);
      setting = (omega arith, omega arith);
    }
