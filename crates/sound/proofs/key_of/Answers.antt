-- The number of these four bytes, the high one first, is the key, and bytes are below 256.
use Rattle.std.specs.Prelude.{ℕ, ◌+◌, ◌*◌, ◌<◌, ◌≡◌, [], ◌∷◌}
use Rattle.std.specs.Int.{w32, from_be_bytes}
use Rattle.std.proofs.Common.{rules, arith}
use Rattle.table.specs.declared.Control.{Control}
use Rattle.sound.specs.Rising.{key_of, Keyed}
use Rattle.sound.proofs.key_of.Goals as goal

keyed : (c : Control) (k : ℕ) → k ≡ from_be_bytes w32 (0 ∷ c.unit ∷ c.channel ∷ c.selector ∷ []) → c.unit < 256 → c.channel < 256 → c.selector < 256 → Keyed c k
unfolding key_of
keyed c k e u h i =
    let q : k ≡ 0 * 16777216 + c.unit * 65536 + c.channel * 256 + c.selector = e in
    record { is = omega arith; small = omega arith; channel = h; selector = i }

ruleset laws = (keyed, rules)

pub returns : goal.returns
returns c = search laws
