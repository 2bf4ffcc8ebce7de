-- Which control the masks of a Feature Unit carry (document 01, "Controls and settings"): "Channel k's mask (0 is master), bit b:
-- control with selector b+1, for b from 0 to 9 except 5. Other bits carry none."
--   fresh_control u k v p f  ==  the control of unit u, channel k and selector v with p pins, not loaded, its value at first f
--   unit_control u k v       ==  the control of the Feature Unit u, channel k, selector v
--   mask_of d n k            ==  channel k's mask in the Feature Unit d of control size n: "masks of n bytes from 6"
--   bit_set m b              ==  bit b of the mask m is set, the low byte first
--   bit_carries m b          ==  bit b of the mask m, which is 0 to 9, carries a control
--   bit_controls m u k b     ==  that control, if it carries one
--   bits_from n b m u k      ==  .. of the next n bits from bit b on
--   mask_controls m u k      ==  those of channel k's mask m
--   channels_from j k u n d  ==  .. of the next j channels from channel k on
--   feature_controls u n c d ==  those of the Feature Unit d with ID u and control size n, whose cluster has c channels
use Rattle.std.specs.Prelude.{ℕ, zero, suc, ◌+◌, ◌*◌, ◌/◌, ◌%◌, ◌^◌, Bool, false, not, ◌&&◌, List, [], ◌∷◌, ◌++◌, eqb}
use Rattle.ground.specs.Pick.{pick}
use Rattle.ground.specs.Numbers.{byte}
use Rattle.ground.specs.Lists.{part}
use Rattle.table.specs.declared.Control.{Control}

abbrev pub fresh_control : ℕ → ℕ → ℕ → ℕ → ℕ → Control
fresh_control u k v p f =
    record { unit = u; channel = k; selector = v; pins = p; loaded = false; min = 0; max = 0; res = 0; cur = f }

abbrev pub unit_control : ℕ → ℕ → ℕ → Control
unit_control u k v = fresh_control u k v 0 0

abbrev pub mask_of : List ℕ → ℕ → ℕ → List ℕ
mask_of d n k = part d (6 + k * n) (6 + k * n + n)

unfoldable pub bit_set : List ℕ → ℕ → Bool
bit_set m b = eqb (byte m (b / 8) / 2 ^ (b % 8) % 2) 1

unfoldable pub bit_carries : List ℕ → ℕ → Bool
bit_carries m b = not (eqb b 5) && bit_set m b

unfoldable pub bit_controls : List ℕ → ℕ → ℕ → ℕ → List Control
bit_controls m u k b = pick (bit_carries m b) (unit_control u k (b + 1) ∷ []) []

-- the next n bits, from bit b on
unfoldable pub bits_from : ℕ → ℕ → List ℕ → ℕ → ℕ → List Control
bits_from zero b m u k = []
bits_from (suc n) b m u k = bit_controls m u k b ++ bits_from n (b + 1) m u k

unfoldable pub mask_controls : List ℕ → ℕ → ℕ → List Control
mask_controls m u k = bits_from 10 0 m u k

-- the next j channels, from channel k on
unfoldable pub channels_from : ℕ → ℕ → ℕ → ℕ → List ℕ → List Control
channels_from zero k u n d = []
channels_from (suc j) k u n d = mask_controls (mask_of d n k) u k ++ channels_from j (k + 1) u n d

unfoldable pub feature_controls : ℕ → ℕ → ℕ → List ℕ → List Control
feature_controls u n c d = channels_from (suc c) 0 u n d
