-- What the writes of hex digits come to.
--   shown_pair  ==  the two digits of a byte, printed as characters, are the byte's pair
use Rattle.std.proofs.Common.{◌≡◌, ℕ, ◌+◌, ◌/◌, ◌%◌, ◌<◌, ◌++◌, Bool, true, false, ltb, refl, arith, encode_utf8}
use Rattle.std.proofs.lemmas.Str.{encode_ascii}
use Rattle.ground.specs.Pick.{pick}
use Rattle.text.specs.Hex.{digit_of, hex_pair}

digit_small : (n : ℕ) → n < 16 → digit_of n < 128
unfolding digit_of
digit_small n h = go (ltb n 10)
  where
    go : (b : Bool) → pick b (0x30 + n) (0x37 + n) < 128
    go true = omega arith
    go false = omega arith

pub shown_pair : (b : ℕ) → b < 256 → encode_utf8 (digit_of (b / 16)) ++ encode_utf8 (digit_of (b % 16)) ≡ hex_pair b
unfolding hex_pair
shown_pair b h =
    let high = encode_ascii (digit_of (b / 16)) (digit_small (b / 16) (omega arith)) in
    let low = encode_ascii (digit_of (b % 16)) (digit_small (b % 16) (omega arith)) in
    rw (high, low) refl
