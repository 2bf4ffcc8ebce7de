-- One side learns nothing of the other but a count, proved: what a side sees is a function of its own steps and of the counts that its plug-ins met.
--   plug_alone x n s room  ==  a plug-in at the socket x that met n controls
--   own_seen x step n, own_next x step n  ==  what a step of the side comes to at its socket x, and the socket after it
--   alone x steps ns   ==  .. along the side's own steps, with the counts that its plug-ins met
--   own_step           ==  in a box that 30 has nothing against, a side's step is what it comes to at its socket
--   gone k b run       ==  what the side k has of a run: what it sees, and its socket at the end
--   own_run            ==  so what the side has of a run is alone of its steps and counts
--   isolated           ==  THE THEOREM
use Prim.Native.Nat.{ℕ}
use mathlib.Core.Path.{◌≡◌, refl, sym, ap, ◌∙◌}
use mathlib.Core.Bool.{Bool, true, false}
use mathlib.Core.List.Memᴰ
use mathlib.Core.List.{List, [], ◌∷◌, ◌++◌}
use lib.ListN.{length}
use Rattle.ground.specs.Pick.{pick, yes, true≠false}
use Rattle.setting.specs.declared.Range.{Range}
use Rattle.table.specs.Keys.{Key}
use Rattle.setup.specs.Setup.{asked_of}
use Rattle.topology.specs.Reading.{reading_of}
use Rattle.request.specs.Outcome.{Outcome}
use Rattle.plug.specs.Plugged.{state_of}
use Rattle.sides.specs.declared.Side.{Side}
use Rattle.sides.specs.declared.Side.TheVariants.{Left, Right}
use Rattle.sides.specs.declared.Addressee.{Addressee}
use Rattle.sides.specs.declared.Addressee.TheVariants.{Nobody, At}
use Rattle.sides.specs.Sides.{addressee_of}
use Rattle.duet.specs.declared.Socket.{Socket}
use Rattle.duet.specs.declared.Duet.{Duet}
use Rattle.duet.specs.declared.Answer.{Answer}
use Rattle.duet.specs.Box.{other_side, socket_of, with_socket, empty_socket, empty_duet, controls_on}
use Rattle.duet.specs.BoxLaws.{own_socket}
use Rattle.duet.specs.Coming.{refusal, unplug_answer}
use Rattle.admission.specs.Plugging.{Plugging, admitted_by, plug_of, duet_after}
use Rattle.admission.specs.Plugging.Plugging.{refused, let_in}
use Rattle.duet.specs.Asking.{handed_to, asked_on, request_in, loaded_on, load_in, socket_after, box_after, answer_in, answer_for}
use Rattle.duets.specs.Steps.{Step, is_for, is_of, Seen, seen_plug, seen_number, seen_outcome, seen_in, box_next, box_after_run, seen_by, steps_of, met_at, met_by, Carried}
use Rattle.duets.specs.Steps.Step.{plug, unplug, load, request}
use Rattle.duets.specs.Isolation.{AgreeAt, Isolated}
use Rattle.duets.proofs.Sound.{Fit, fit_empty, fit_next, fit_run, same_side_lem, other_next}
use Rattle.duets.proofs.Named.{is_at}

abbrev plug_alone : Socket → ℕ → List ℕ → ℕ → Plugging
plug_alone x n s room = pick x.plugged (refused 61 0) (admitted_by n (reading_of s room))

abbrev socket_plugged : Socket → Plugging → Socket
socket_plugged x (refused n p) = x
socket_plugged x (let_in r) = record { plugged = true; state = state_of r }

abbrev own_seen : Socket → Step → ℕ → Seen
own_seen x (plug j s d) n = seen_plug s d (plug_alone x n s (length d))
own_seen x (unplug j) n = seen_number (pick x.plugged 0 63)
own_seen x (load j key range w) n = seen_outcome [] (loaded_on x key.unit key.channel key.selector range w)
own_seen x (request s d h) n = seen_outcome h (handed_to x s d (length h))

abbrev own_next : Socket → Step → ℕ → Socket
own_next x (plug j s d) n = socket_plugged x (plug_alone x n s (length d))
own_next x (unplug j) n = pick x.plugged empty_socket x
own_next x (load j key range w) n = socket_after x (loaded_on x key.unit key.channel key.selector range w)
own_next x (request s d h) n = socket_after x (handed_to x s d (length h))

abbrev first_met : List ℕ → ℕ
first_met [] = 0
first_met (n ∷ ns) = n

abbrev later_met : Step → List ℕ → List ℕ
later_met (plug j s d) [] = []
later_met (plug j s d) (n ∷ ns) = ns
later_met (unplug j) ns = ns
later_met (load j key range w) ns = ns
later_met (request s d h) ns = ns

-- what a side has of a run: what it sees, and its socket at the end
record Gone : Type 0 where
  seen : List Seen
  socket : Socket

abbrev seeing : Seen → Gone → Gone
seeing y g = record { seen = y ∷ g.seen; socket = g.socket }

unfoldable alone : Socket → List Step → List ℕ → Gone
alone x [] ns = record { seen = []; socket = x }
alone x (step ∷ steps) ns = seeing (own_seen x step (first_met ns)) (alone (own_next x step (first_met ns)) steps (later_met step ns))

abbrev gone : Side → Duet → List Step → Gone
gone k b run = record { seen = seen_by k b run; socket = socket_of (box_after_run b run) k }

record OwnStep (b : Duet) (k : Side) (x : Step) (n : ℕ) : Type 0 where
  seen : seen_in b x ≡ own_seen (socket_of b k) x n
  left : socket_of (box_next b x) k ≡ own_next (socket_of b k) x n

own_plug : (b : Duet) (k : Side) → Fit b → (s d : List ℕ) → OwnStep b k (plug k s d) (controls_on (socket_of b (other_side k)))
unfolding plug_of
own_plug b k h s d = record { seen = ap (seen_plug s d) came; left = ap (λ (o : Plugging). socket_of (duet_after b k o) k) came ∙ put (plug_alone (socket_of b k) (controls_on (socket_of b (other_side k))) s (length d)) }
  where
    came : plug_of b k s (length d) ≡ plug_alone (socket_of b k) (controls_on (socket_of b (other_side k))) s (length d)
    came = yes _ _ h

    put : (o : Plugging) → socket_of (duet_after b k o) k ≡ socket_plugged (socket_of b k) o
    put (refused n p) = refl
    put (let_in r) = own_socket b k _

own_unplug : (b : Duet) (k : Side) → Fit b → (n : ℕ) → OwnStep b k (unplug k) n
unfolding unplug_answer
own_unplug b k h n = record {
  seen = ap (λ (a : Answer). seen_number a.number) came ∙ number (socket_of b k).plugged;
  left = ap (λ (a : Answer). socket_of a.duet k) came ∙ socket (socket_of b k).plugged;
}
  where
    came : unplug_answer b k ≡ pick (socket_of b k).plugged (record { number = 0; written = 0; duet = with_socket b k empty_socket }) (refusal b 63)
    came = yes _ _ h

    number : (y : Bool) → seen_number (pick y (record { number = 0; written = 0; duet = with_socket b k empty_socket }) (refusal b 63)).number ≡ seen_number (pick y 0 63)
    number true = refl
    number false = refl

    socket : (y : Bool) → socket_of (pick y (record { number = 0; written = 0; duet = with_socket b k empty_socket }) (refusal b 63)).duet k ≡ pick y empty_socket (socket_of b k)
    socket true = own_socket b k empty_socket
    socket false = refl

own_load : (b : Duet) (k : Side) → Fit b → (key : Key) (range : Range) (w n : ℕ) → OwnStep b k (load k key range w) n
unfolding load_in
own_load b k h key range w n = record { seen = ap (seen_outcome []) came; left = ap (λ (o : Outcome). socket_of (box_after b k o) k) came ∙ own_socket b k _ }
  where
    came : load_in b k key.unit key.channel key.selector range w ≡ loaded_on (socket_of b k) key.unit key.channel key.selector range w
    came = yes _ _ h

own_request : (b : Duet) (k : Side) → Fit b → (s d y : List ℕ) → addressee_of (asked_of s) ≡ At k → (n : ℕ) → OwnStep b k (request s d y) n
unfolding request_in answer_in
own_request b k h s d y e n = record {
  seen = ap (seen_outcome y) came;
  left = ap (λ (a : Addressee). socket_of (answer_for b a (request_in b s d (length y))).duet k) e ∙ put (request_in b s d (length y)) ∙ ap (socket_after (socket_of b k)) came;
}
  where
    came : request_in b s d (length y) ≡ handed_to (socket_of b k) s d (length y)
    came = yes _ _ h ∙ ap (λ (a : Addressee). asked_on b a s d (length y)) e

    put : (o : Outcome) → socket_of (answer_in b k o).duet k ≡ socket_after (socket_of b k) o
    put o = own_socket b k _

own_step : (b : Duet) (k : Side) (x : Step) → Fit b → is_of k x ≡ true → (ns : List ℕ) → OwnStep b k x (first_met (met_at b k x ++ ns))
own_step b k (plug j s d) h e ns = rw (same_side_lem k j e) (own_plug b k h s d)
own_step b k (unplug j) h e ns = rw (same_side_lem k j e) (own_unplug b k h (first_met ns))
own_step b k (load j key range w) h e ns = rw (same_side_lem k j e) (own_load b k h key range w (first_met ns))
own_step b k (request s d y) h e ns = own_request b k h s d y (is_at k (addressee_of (asked_of s)) e) (first_met ns)

later_met_lem : (b : Duet) (k : Side) (x : Step) (ns : List ℕ) → later_met x (met_at b k x ++ ns) ≡ ns
later_met_lem b k (plug j s d) ns = refl
later_met_lem b k (unplug j) ns = refl
later_met_lem b k (load j key range w) ns = refl
later_met_lem b k (request s d y) ns = refl

own_run : (k : Side) (run : List Step) (b : Duet) → Fit b → Carried run → gone k b run ≡ alone (socket_of b k) (steps_of k run) (met_by k b run)
unfolding seen_by steps_of met_by box_after_run alone
own_run k [] b h c = refl
own_run k (x ∷ run) b h c =
    go (is_of k x) refl (own_run k run (box_next b x) (fit_next b x h (c x (Memᴰ.head refl))) (λ y m. c y (Memᴰ.tail m)))
  where
    go : (p : Bool) → is_of k x ≡ p → gone k (box_next b x) run ≡ alone (socket_of (box_next b x) k) (steps_of k run) (met_by k (box_next b x) run)
        → record { seen = pick p (seen_in b x ∷ seen_by k (box_next b x) run) (seen_by k (box_next b x) run); socket = socket_of (box_after_run (box_next b x) run) k }
        ≡ alone (socket_of b k) (pick p (x ∷ steps_of k run) (steps_of k run)) (pick p (met_at b k x ++ met_by k (box_next b x) run) (met_by k (box_next b x) run))
    go true e ih =
        let ms = met_at b k x ++ met_by k (box_next b x) run in
        let own = own_step b k x h e (met_by k (box_next b x) run) in
        ap (λ (y : Seen). seeing y (gone k (box_next b x) run)) own.seen
        ∙ ap (seeing (own_seen (socket_of b k) x (first_met ms)))
        (ih
        ∙ ap (λ (z : Socket). alone z (steps_of k run) (met_by k (box_next b x) run)) own.left
        ∙ ap (alone (own_next (socket_of b k) x (first_met ms)) (steps_of k run)) (sym (later_met_lem b k x (met_by k (box_next b x) run))))
    go false e ih = ih ∙ ap (λ (z : Socket). alone z (steps_of k run) (met_by k (box_next b x) run)) (other_next b k x e)

same_gone : (k : Side) (x y : List Step) → Carried x → Carried y → AgreeAt k x y → gone k empty_duet x ≡ gone k empty_duet y
same_gone k x y c e a =
    own_run k x empty_duet fit_empty c
    ∙ ap (λ (l : List Step). alone (socket_of empty_duet k) l (met_by k empty_duet x)) a.steps
    ∙ ap (alone (socket_of empty_duet k) (steps_of k y)) a.met
    ∙ sym (own_run k y empty_duet fit_empty e)

-- what is nobody's is refused by what it asks alone
nobody_came : (b c : Duet) → Fit b → Fit c → (s d : List ℕ) (room : ℕ) → ((k : Side) → is_for k (addressee_of (asked_of s)) ≡ false)
    → request_in b s d room ≡ request_in c s d room
unfolding request_in
nobody_came b c f g s d room h = yes _ _ f ∙ go (addressee_of (asked_of s)) h ∙ sym (yes _ _ g)
  where
    go : (v : Addressee) → ((k : Side) → is_for k v ≡ false) → asked_on b v s d room ≡ asked_on c v s d room
    go (Nobody n) no-side = refl
    go (At Left) no-side = absurd (true≠false (no-side Left))
    go (At Right) no-side = absurd (true≠false (no-side Right))

-- THE THEOREM, once over the side
pub isolated : Isolated
isolated = record {
  answers = λ k x y c e a. ap (λ (g : Gone). g.seen) (same_gone k x y c e a);
  socket = λ k x y c e a. ap (λ (g : Gone). g.socket) (same_gone k x y c e a);
  nobodys = λ x y c e s d h n. ap (seen_outcome h) (nobody_came (box_after_run empty_duet x) (box_after_run empty_duet y) (fit_run x empty_duet fit_empty c) (fit_run y empty_duet fit_empty e) s d (length h) n);
}
