-- What is seen is what is answered, proved.
--   steps_told  ==  THE THEOREM
use Prim.Native.Nat.{ℕ}
use mathlib.Core.Path.{◌≡◌, refl, sym, ap, ◌∙◌}
use mathlib.Core.Bool.{Bool, true, false}
use mathlib.Core.List.{List, []}
use lib.ListN.{length}
use Rattle.ground.specs.Pick.{pick, shows}
use Rattle.setting.specs.declared.Range.{Range}
use Rattle.table.specs.Keys.{Key}
use Rattle.deed.specs.Reply.{laid}
use Rattle.setup.specs.Setup.{asked_of}
use Rattle.request.specs.Outcome.{Outcome, bytes_of}
use Rattle.sides.specs.declared.Side.{Side}
use Rattle.sides.specs.declared.Addressee.{Addressee}
use Rattle.sides.specs.declared.Addressee.TheVariants.{Nobody, At}
use Rattle.sides.specs.Sides.{addressee_of}
use Rattle.duet.specs.declared.Duet.{Duet}
use Rattle.admission.specs.declared.Admitted.{Admitted}
use Rattle.duet.specs.declared.Answer.{Answer}
use Rattle.duet.specs.Box.{socket_of, with_socket, empty_socket, sound_duet}
use Rattle.duet.specs.Coming.{refusal, unplug_answer}
use Rattle.admission.specs.Plugging.{Plugging, plug_of, duet_after, plug_answer, sheet_after, PlugsIn}
use Rattle.admission.specs.Plugging.Plugging.{refused, let_in}
use Rattle.duet.specs.Asking.{load_in, request_in, answer_in, answer_for, AnsweredIn}
use Rattle.duets.specs.Steps.{seen_plug, seen_outcome, seen_in, box_next}
use Rattle.duets.specs.Steps.Step.{plug, unplug, load, request}
use Rattle.duets.specs.StepsTold.{admitted_seen, answer_seen, StepsTold}
use Rattle.duets.proofs.Named.{reads_side}

plug_seen : (b : Duet) (k : Side) (s d : List ℕ) (o : Plugging)
    → (seen_plug s d o ≡ admitted_seen (plug_answer b k o) (sheet_after s d o)) × (duet_after b k o ≡ (plug_answer b k o).duet)
plug_seen b k s d (refused n p) = (refl, refl)
plug_seen b k s d (let_in r) = (refl, refl)

plug_told : (b : Duet) (k : Side) (s d : List ℕ) (r : Admitted) (a : List ℕ) → PlugsIn b k s d r a
    → (seen_in b (plug k s d) ≡ admitted_seen r a) × (box_next b (plug k s d) ≡ r.duet)
plug_told b k s d r a t =
    let e = plug_seen b k s d (plug_of b k s (length d)) in
    (e.0 ∙ ap (λ (q : Admitted). admitted_seen q (sheet_after s d (plug_of b k s (length d)))) (sym t.result) ∙ ap (admitted_seen r) (sym t.sheet), e.1 ∙ ap (λ (q : Admitted). q.duet) (sym t.result))

none_written : (b : Duet) (k : Side) → 0 ≡ (unplug_answer b k).written
unfolding unplug_answer
none_written b k = go (sound_duet b) (socket_of b k).plugged
  where
    go : (x y : Bool) → 0 ≡ (pick x (pick y (record { number = 0; written = 0; duet = with_socket b k empty_socket }) (refusal b 63)) (refusal b 30)).written
    go true true = refl
    go true false = refl
    go false y = refl

unplug_told : (b : Duet) (k : Side) (r : Answer) → r ≡ unplug_answer b k → (seen_in b (unplug k) ≡ answer_seen r []) × (box_next b (unplug k) ≡ r.duet)
unplug_told b k r e = (
  ap (λ (n : ℕ). record { number = (unplug_answer b k).number; place = 0; interface = 0; entities = 0; controls = 0; written = n; lent = [] }) (none_written b k)
      ∙ ap (λ (q : Answer). answer_seen q []) (sym e),
  ap (λ (q : Answer). q.duet) (sym e),
)

load_told : (b : Duet) (k : Side) (key : Key) (range : Range) (w : ℕ) (r : Answer)
    → r ≡ answer_in b k (load_in b k key.unit key.channel key.selector range w)
    → ((seen_in b (load k key range w)).number ≡ r.number) × (((seen_in b (load k key range w)).written ≡ r.written) × (box_next b (load k key range w) ≡ r.duet))
unfolding answer_in
load_told b k key range w r e = (ap (λ (q : Answer). q.number) (sym e), (ap (λ (q : Answer). q.written) (sym e), ap (λ (q : Answer). q.duet) (sym e)))

answer_seen_lem : (b : Duet) (v : Addressee) (l : List ℕ) (o : Outcome) → seen_outcome l o ≡ answer_seen (answer_for b v o) (laid (bytes_of o) l)
unfolding answer_in
answer_seen_lem b (Nobody n) l o = refl
answer_seen_lem b (At k) l o = refl

request_told : (b : Duet) (s d h : List ℕ) (r : Answer) (a : List ℕ) → AnsweredIn b s d h r a
    → (seen_in b (request s d h) ≡ answer_seen r a) × (box_next b (request s d h) ≡ r.duet)
request_told b s d h r a t = (
  answer_seen_lem b (addressee_of (asked_of s)) h (request_in b s d (length h))
      ∙ ap (λ (q : Answer). answer_seen q (laid (bytes_of (request_in b s d (length h))) h)) (sym t.result)
      ∙ ap (answer_seen r) (sym t.lent),
  ap (λ (q : Answer). q.duet) (sym t.result),
)

-- THE THEOREM
pub steps_told : StepsTold
steps_told = record {
  plugs = plug_told;
  unplugs = unplug_told;
  loads = load_told;
  requests = request_told;
  named = λ k s d h. ((reads_side s k).says, shows (reads_side s k));
}
