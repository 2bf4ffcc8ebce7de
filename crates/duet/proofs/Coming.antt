-- A microphone goes: each way out of the code.
--   unplug_thirty, unplug_empty, unplug_done  ==  the ways of an unplugging
use mathlib.Core.Path.{◌≡◌, sym, ap, ◌∙◌}
use mathlib.Core.Bool.{Bool, true, false, not}
use borrow.Author.Tests.{not-true, not-false}
use Rattle.ground.specs.Pick.{yes, no}
use Rattle.sides.specs.declared.Side.{Side}
use Rattle.duet.specs.declared.Socket.{Socket}
use Rattle.duet.specs.declared.Duet.{Duet}
use Rattle.duet.specs.declared.Answer.{Answer}
use Rattle.duet.specs.Box.{socket_of, with_socket, empty_socket, sound_duet}
use Rattle.duet.specs.Coming.{refusal, unplug_answer}

module _ (b : Duet) (k : Side) (a : Bool) (h : a ≡ sound_duet b) where
  module _ (r : Answer) where
    pub unplug_thirty : not a ≡ true → r ≡ refusal b 30 → r ≡ unplug_answer b k
    unfolding unplug_answer
    unplug_thirty t e = e ∙ sym (no _ _ (sym h ∙ not-true a t))

    module _ (sound : not a ≡ false) (x : Socket) (f : x ≡ socket_of b k) where
      pub unplug_empty : not x.plugged ≡ true → r ≡ refusal b 63 → r ≡ unplug_answer b k
      unfolding unplug_answer
      unplug_empty t e = e ∙ sym (yes _ _ (sym h ∙ not-false a sound) ∙ no _ _ (ap (λ (y : Socket). y.plugged) (sym f) ∙ not-true _ t))

  pub unplug_done : not a ≡ false → (x : Socket) → x ≡ socket_of b k → not x.plugged ≡ false → (y : Socket) → y ≡ empty_socket
      → (v : Duet) → v ≡ with_socket b k y → record { number = 0; written = 0; duet = v } ≡ unplug_answer b k
  unfolding unplug_answer
  unplug_done sound x f t y g v i =
      ap (λ (u : Duet). record { number = 0; written = 0; duet = u }) (i ∙ ap (with_socket b k) g)
      ∙ sym (yes _ _ (sym h ∙ not-false a sound) ∙ yes _ _ (ap (λ (z : Socket). z.plugged) (sym f) ∙ not-false _ t))
