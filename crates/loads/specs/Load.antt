-- A load of one control: "A load gives MIN, MAX, RES, CUR to one ranged control, named by unit ID, channel and selector, again if wanted."
--   loaded_with s range w c  ==  the control with the range, and the closest setting to w
--   load_range c s range w   ==  21: "range illegal, or a number too wide for the control"
--   load_by k c range w      ==  20: "no such ranged control", for one that holds k, no ranged number
--   load_on c range w        ==  the load, of the control c
--   deed_of c o              ==  how it is told of the one control c where o is done: the control then, or the refusal
--   OfOne o                 ==  o is what a load may do: it is denied, or changes one control; load_of_one: so is every load
use Rattle.std.specs.Prelude.{ℕ, Result, Ok, Err, Bool, true, false, ◌&&◌, [], ◌∷◌}
use Rattle.ground.specs.Pick.{pick}
use Rattle.setting.specs.Setting.{fits_of, legal_of, closest_to}
use Rattle.setting.specs.declared.Sort.{Sort}
use Rattle.setting.specs.declared.Range.{Range}
use Rattle.table.specs.declared.Control.{Control}
use Rattle.table.specs.declared.Sense.{Sense}
use Rattle.table.specs.declared.Sense.TheVariants.{Unknown, YesNo, Ranged, Pin}
use Rattle.table.specs.Controls.{sense_of}
use Rattle.deed.specs.Doing.{Doing}
use Rattle.deed.specs.Doing.Doing.{denied, given, changed}

abbrev pub loaded_with : Sort → Range → ℕ → Control → Control
loaded_with s range w c = record {
  unit = c.unit;
  channel = c.channel;
  selector = c.selector;
  pins = c.pins;
  loaded = true;
  min = range.min;
  max = range.max;
  res = range.res;
  cur = closest_to s range w;
}

unfoldable pub load_range : Control → Sort → Range → ℕ → Doing
load_range c s range w = pick (legal_of s range && fits_of s w) (changed (loaded_with s range w c ∷ [])) (denied 21)

unfoldable pub load_by : Sense → Control → Range → ℕ → Doing
load_by Unknown c range w = denied 20
load_by YesNo c range w = denied 20
load_by (Ranged s) c range w = load_range c s range w
load_by Pin c range w = denied 20

abbrev pub load_on : Control → Range → ℕ → Doing
load_on c range w = load_by (sense_of c.selector) c range w

abbrev pub deed_of : Control → Doing → Result Control ℕ
deed_of c (denied n) = Err n
deed_of c (given bytes) = Ok c
deed_of c (changed []) = Ok c
deed_of c (changed (e ∷ cs)) = Ok e

pub data OfOne : Doing → Type 0 where
  denies : {n : ℕ} → OfOne (denied n)
  changes : {c : Control} → OfOne (changed (c ∷ []))

of_either : (b : Bool) (o q : Doing) → OfOne o → OfOne q → OfOne (pick b o q)
of_either true o q a b = a
of_either false o q a b = b

load_by_one : (k : Sense) (c : Control) (range : Range) (w : ℕ) → OfOne (load_by k c range w)
unfolding load_by load_range
load_by_one Unknown c range w = denies
load_by_one YesNo c range w = denies
load_by_one (Ranged s) c range w = of_either (legal_of s range && fits_of s w) _ _ changes denies
load_by_one Pin c range w = denies

pub load_of_one : (c : Control) (range : Range) (w : ℕ) → OfOne (load_on c range w)
load_of_one c range w = load_by_one (sense_of c.selector) c range w
