-- What calls answer is what the words of a run have, proved.
--   called_after  ==  the calls of a run leave the state after it
--   calls_told    ==  THE THEOREM
use Prim.Native.Nat.{ℕ}
use mathlib.Core.Path.{◌≡◌, refl, sym, ap, ◌∙◌, subst}
use mathlib.Core.List.{List, [], ◌∷◌}
use lib.ListN.{length, replicate, length-replicate}
use Rattle.deed.specs.Reply.{laid}
use Rattle.request.specs.declared.State.{State}
use Rattle.request.specs.declared.Answer.{Answer}
use Rattle.request.specs.Outcome.{bytes_of, answer_of}
use Rattle.request.specs.Request.{request_of}
use Rattle.runs.specs.Runs.{Step, step_of, next, after}
use Rattle.runs.specs.Runs.Step.{load, request}
use Rattle.demands.specs.CallsTold.{StepAnswered, Called, none, loaded, asked, CallsTold}

step_answered : (st : State) (step : Step) (r : Answer) → r ≡ answer_of st (step_of st step) → StepAnswered st step r
unfolding answer_of
step_answered st step r e = record {
  number = ap (λ (x : Answer). x.number) e;
  written = ap (λ (x : Answer). x.written) e;
  state = ap (λ (x : Answer). x.state) e;
}

pub called_after : {st z : State} {run : List Step} → Called st run z → z ≡ after st run
unfolding after
called_after none = refl
called_after {st} (loaded {k = k} {range = range} {w = w} {run = run} r e h) =
    called_after h ∙ ap (λ (x : State). after x run) (step_answered st (load k range w) r e).state
called_after {st} (asked {s = s} {d = d} {run = run} b r a n t h) =
    let step : Step = request s d (length b) in
    let e : r.state ≡ next st step = (step_answered st step r t.result).state in
    called_after h ∙ ap (λ (x : State). after x run) (e ∙ ap (λ (m : ℕ). next st (request s d m)) n)

-- there are such calls
called : (st : State) (run : List Step) → Called st run (after st run)
unfolding after answer_of
called st [] = none
called st (load k range w ∷ run) =
    loaded (answer_of st (step_of st (load k range w))) refl (called (next st (load k range w)) run)
called st (request s d room ∷ run) =
    let b : List ℕ = replicate room 0 in
    let n : length b ≡ room = length-replicate room 0 in
    let z : State = next st (request s d room) in
    asked b (answer_of st (request_of st s d (length b))) (laid (bytes_of (request_of st s d (length b))) b) n
    (record { result = refl; lent = refl })
    (subst (λ (m : ℕ). Called (next st (request s d m)) run (after z run)) (sym n) (called z run))

-- THE THEOREM
pub calls_told : CallsTold
calls_told = record {
  plugs = λ s d r a p. (p.reading, p.sheet, p.state);
  loads = λ st k range w r e. step_answered st (load k range w) r e;
  requests = λ st s d b r a t. (step_answered st (request s d (length b)) r t.result, t.lent);
  calls = λ st z run. (called_after, λ e. subst (Called st run) (sym e) (called st run));
}
