-- What ranges and settings mean, over the integers, in the words of document 01, "Controls and settings". No search and no
-- computed answer stands here. That what Setting computes means this is proved in Legal, Available and Closest.
--   value s n             ==  what the number n says: "volume (signed 16 bits), bass, mid, treble (signed 8), delay (unsigned 16)"
--   Legal s range         ==  "Legal: MIN ≤ MAX; RES 1 to 32767 (127 for one byte, 65535 for delay); volume MIN at least −32767",
--                             and no number "too wide for the control"
--   Available s range v   ==  "The available settings are MIN + k·RES up to MAX"
--   Silence s v           ==  "For volume −32768 means silence"
--   Closest s range x v   ==  v is an available setting, none is closer to x, and none as close is lower
--   Stored s range x v    ==  where x is wanted v is stored: "The closest one is stored, at a tie the lower"; silence "is stored
--                             as it is"
use Rattle.std.specs.Prelude.{ℕ, ◌≤◌, ◌<◌, ◌≡◌, ℤ, pos, neg_ℤ, nat_abs, ◌+ℤ◌, ◌-ℤ◌, ◌*ℤ◌, ◌≤ℤ◌, ◌<ℤ◌}
use Rattle.std.specs.Int.{w8, w16}
use Rattle.std.proofs.Common.{to_z}
use Rattle.setting.specs.declared.Sort.{Sort}
use Rattle.setting.specs.declared.Sort.TheVariants.{Volume, Tone, Delay}
use Rattle.setting.specs.declared.Range.{Range}
use Rattle.setting.specs.Setting.{span_of, most_res}

-- to_z is what the language itself takes the bits of an i16, of an i8 for
abbrev pub value : Sort → ℕ → ℤ
value Volume n = to_z w16 n
value Tone n = to_z w8 n
value Delay n = pos n

pub record Legal (s : Sort) (range : Range) : Type 0 where
  pub min_fits : range.min < span_of s
  pub max_fits : range.max < span_of s
  pub res_fits : range.res < span_of s
  pub min_max : value s range.min ≤ℤ value s range.max
  pub res_from : pos 1 ≤ℤ value s range.res
  pub res_to : value s range.res ≤ℤ pos (most_res s)
  pub min_heard : s ≡ Volume → neg_ℤ (pos 32767) ≤ℤ value s range.min

pub record Available (s : Sort) (range : Range) (v : ℤ) : Type 0 where
  pub k : ℕ
  pub is : v ≡ value s range.min +ℤ pos k *ℤ value s range.res
  pub within : v ≤ℤ value s range.max

pub record Silence (s : Sort) (v : ℤ) : Type 0 where
  pub volume : s ≡ Volume
  pub is : v ≡ neg_ℤ (pos 32768)

pub record Closest (s : Sort) (range : Range) (x v : ℤ) : Type 0 where
  pub available : Available s range v
  pub closer : (w : ℤ) → Available s range w → nat_abs (v -ℤ x) ≤ nat_abs (w -ℤ x)
  pub lower : (w : ℤ) → Available s range w → w <ℤ v → nat_abs (v -ℤ x) < nat_abs (w -ℤ x)

pub data Stored (s : Sort) (range : Range) (x v : ℤ) : Type 0 where
  as_it_is : Silence s x → v ≡ x → Stored s range x v
  closest : (Silence s x → ⊥) → Closest s range x v → Stored s range x v
