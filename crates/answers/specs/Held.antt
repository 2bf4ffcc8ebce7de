-- What the rows 35 to 38 ask of one control, by what it holds.
--   is_ranged k, of_range part, part_of part c  ==  k is ranged; the part is MIN, MAX or RES; the number that the part of c is
--   lacking k part   ==  35: "MIN, MAX, RES of an unranged control"
--   unready k c      ==  36: "ranged control not loaded"
--   value_in d        ==  the number that the bytes d are, the low one first
--   takes k c x      ==  not 38: "Set of a yes/no to other than 0, 1, or of a Selector outside its pins"
--   stored_for k c x  ==  what is stored where x is taken: "The closest one is stored"
--   with_cur x c      ==  the control c with x for its CUR
use Rattle.std.specs.Prelude.{ℕ, ◌+◌, ◌*◌, List, [], ◌∷◌, Bool, true, false, not, ◌&&◌, leb}
use Rattle.setting.specs.Setting.{closest_to}
use Rattle.table.specs.declared.Control.{Control}
use Rattle.table.specs.declared.Sense.{Sense}
use Rattle.table.specs.declared.Sense.TheVariants.{Unknown, YesNo, Ranged, Pin}
use Rattle.table.specs.Controls.{range_of}
use Rattle.setup.specs.declared.Part.{Part}
use Rattle.setup.specs.declared.Part.TheVariants.{Cur, Min, Max, Res}

abbrev pub is_ranged : Sense → Bool
is_ranged Unknown = false
is_ranged YesNo = false
is_ranged (Ranged s) = true
is_ranged Pin = false

abbrev pub of_range : Part → Bool
of_range Cur = false
of_range Min = true
of_range Max = true
of_range Res = true

abbrev pub part_of : Part → Control → ℕ
part_of Cur c = c.cur
part_of Min c = c.min
part_of Max c = c.max
part_of Res c = c.res

unfoldable pub lacking : Sense → Part → Bool
lacking k part = of_range part && not (is_ranged k)

unfoldable pub unready : Sense → Control → Bool
unready k c = is_ranged k && not c.loaded

unfoldable pub value_in : List ℕ → ℕ
value_in [] = 0
value_in (b ∷ d) = b + value_in d * 256

abbrev pub takes : Sense → Control → ℕ → Bool
takes Unknown c x = false
takes YesNo c x = leb x 1
takes (Ranged s) c x = true
takes Pin c x = leb 1 x && leb x c.pins

abbrev pub stored_for : Sense → Control → ℕ → ℕ
stored_for Unknown c x = x
stored_for YesNo c x = x
stored_for (Ranged s) c x = closest_to s (range_of c) x
stored_for Pin c x = x

abbrev pub with_cur : ℕ → Control → Control
with_cur x c = record {
  unit = c.unit;
  channel = c.channel;
  selector = c.selector;
  pins = c.pins;
  loaded = c.loaded;
  min = c.min;
  max = c.max;
  res = c.res;
  cur = x;
}
