-- What the reader keeps of a control until it makes the table: a number, its note.
--   note_of u k v p f   ==  the note of the control of unit u, channel k and selector v with p pins and first value f: a byte each,
--                          the unit's lowest
--   control_from n      ==  the control that is noted by n; 0 notes a spare place
--   noted              ==  the control of a note is the one that it was made of, where all five are bytes
--   Noted u k v p f n  ==  n is that note, and tells that control
use Rattle.std.specs.Prelude.{ℕ, ◌+◌, ◌*◌, ◌/◌, ◌%◌, ◌<◌, ◌≡◌, refl}
use Rattle.std.proofs.Common.{ap, ◌∙◌, mod-eq_of_lt, arith, lit<}
use Rattle.std.proofs.Math.Nat.{add-mul-div_left, div-eq_of_lt, add-mul-mod_self_left}
use Rattle.table.specs.declared.Control.{Control}
use Rattle.masks.specs.Masks.{fresh_control}

abbrev pub note_of : ℕ → ℕ → ℕ → ℕ → ℕ → ℕ
note_of u k v p f = u + 256 * (k + 256 * (v + 256 * (p + 256 * f)))

unfoldable pub control_from : ℕ → Control
control_from n = fresh_control (n % 256) (n / 256 % 256) (n / 256 / 256 % 256) (n / 256 / 256 / 256 % 256) (n / 256 / 256 / 256 / 256 % 256)

-- the lowest byte, and what stands above it
low : (a w : ℕ) → a < 256 → (a + 256 * w) % 256 ≡ a
low a w h = add-mul-mod_self_left a 256 w ∙ mod-eq_of_lt h

above : (a w : ℕ) → a < 256 → (a + 256 * w) / 256 ≡ w
above a w h = add-mul-div_left a w (lit< tt) ∙ ap (λ (x : ℕ). x + w) (div-eq_of_lt h) ∙ omega arith

pub noted : (u k v p f : ℕ) → u < 256 → k < 256 → v < 256 → p < 256 → f < 256 → control_from (note_of u k v p f) ≡ fresh_control u k v p f
unfolding control_from
noted u k v p f hu hk hv hp hf =
    let a = above u (k + 256 * (v + 256 * (p + 256 * f))) hu in
    let b = above k (v + 256 * (p + 256 * f)) hk in
    let c = above v (p + 256 * f) hv in
    let d = above p f hp in
    let e = low u (k + 256 * (v + 256 * (p + 256 * f))) hu in
    let g = low k (v + 256 * (p + 256 * f)) hk in
    rw (a, b, c, d, e, g, low v (p + 256 * f) hv, low p f hp, mod-eq_of_lt hf) refl

pub record Noted (u k v p f n : ℕ) : Type 0 where
  pub is : n ≡ note_of u k v p f
  pub tells : control_from n ≡ fresh_control u k v p f
