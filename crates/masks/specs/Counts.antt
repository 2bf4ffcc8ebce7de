-- How many controls the masks may carry, so that counting them cannot wrap.
--   bit_few      ==  one at most for a bit
--   mask_few     ==  ten at most for a mask
--   feature_few  ==  ten at most for each channel of a Feature Unit, and ten for master
use Rattle.std.specs.Prelude.{ℕ, zero, suc, ◌+◌, ◌*◌, ◌≤◌, Bool, true, false, List, [], ◌∷◌, length}
use Rattle.std.proofs.Common.{arith, length-append}
use Rattle.ground.specs.Pick.{pick}
use Rattle.table.specs.declared.Control.{Control}
use Rattle.masks.specs.Masks.{unit_control, mask_of, bit_carries, bit_controls, bits_from, mask_controls, channels_from, feature_controls}

one_few : (t : Bool) (x : Control) → length (pick t (x ∷ []) []) ≤ 1
one_few true x = omega arith
one_few false x = omega arith

pub bit_few : (m : List ℕ) (u k b : ℕ) → length (bit_controls m u k b) ≤ 1
unfolding bit_controls
bit_few m u k b = one_few (bit_carries m b) (unit_control u k (b + 1))

bits_few : (n b : ℕ) (m : List ℕ) (u k : ℕ) → length (bits_from n b m u k) ≤ n
unfolding bits_from
bits_few zero b m u k = omega arith
bits_few (suc n) b m u k =
    let l = length-append (bit_controls m u k b) (bits_from n (b + 1) m u k) in
    let h = bit_few m u k b in
    let i = bits_few n (b + 1) m u k in
    omega arith

pub mask_few : (m : List ℕ) (u k : ℕ) → length (mask_controls m u k) ≤ 10
unfolding mask_controls
mask_few m u k = bits_few 10 0 m u k

channels_few : (j k u n : ℕ) (d : List ℕ) → length (channels_from j k u n d) ≤ 10 * j
unfolding channels_from
channels_few zero k u n d = omega arith
channels_few (suc j) k u n d =
    let l = length-append (mask_controls (mask_of d n k) u k) (channels_from j (k + 1) u n d) in
    let h = mask_few (mask_of d n k) u k in
    let i = channels_few j (k + 1) u n d in
    omega arith

pub feature_few : (u n c : ℕ) (d : List ℕ) → length (feature_controls u n c d) ≤ 10 * (c + 1)
unfolding feature_controls
feature_few u n c d = let h = channels_few (suc c) 0 u n d in omega arith
