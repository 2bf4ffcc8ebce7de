-- The wrong programs are turned away, by case A and one like it.
--   case_a_lem                ==  there is a configuration
--   turned_away           ==  the proof, of whatever keeps the contracts
use Prim.Native.Nat.{ℕ}
use mathlib.Core.Path.{◌≡◌, refl, sym, ap, ◌∙◌}
use mathlib.Core.List.{List, [], ◌∷◌}
use lib.ListN.{length}
use native.Mathlib.Omega.{arith}
use Rattle.ground.specs.Numbers.{byte}
use Rattle.ground.specs.Lists.{any}
use Rattle.ground.specs.Places.{first_in, somewhere, everywhere}
use Rattle.setting.specs.Setting.{fits_of, legal_of, whole_steps, on_grid, available_of, nearer, closest_height, closest_setting, closest_to}
use Rattle.table.specs.Controls.{sense_of, answers_to}
use Rattle.table.specs.First.{found_in}
use Rattle.single.specs.Tests.{narrow_of, sound_yes_no, sound_pin, sound_ranged, sound_by, sound_control}
use Rattle.sound.specs.Sound.{first_there, sound_at, sound_of}
use Rattle.address.specs.Addressed.{wants_channel, seats_from, unit_in}
use Rattle.setup.specs.Setup.{get_asked, asked_by, asked_of}
use Rattle.deed.specs.Reply.{laid, low_first}
use Rattle.answers.specs.Held.{lacking, unready, value_in}
use Rattle.answers.specs.Answers.{sizes_of, all_take, all_set, block_of, set_of, get_of}
use Rattle.topology.specs.declared.Reading.{Reading}
use Rattle.reader.specs.Configuration.{Configuration}
use Rattle.request.specs.declared.State.{State}
use Rattle.request.specs.declared.Answer.{Answer}
use Rattle.request.specs.Outcome.{number_of, bytes_of, state_after, answer_of}
use Rattle.request.specs.Stored.{stored_at}
use Rattle.request.specs.Request.{elsewhere_by, done_at, answer_asked, request_of}
use Rattle.demands.specs.Cases.{case_a, case_b, lent, case_table}
use Rattle.demands.specs.TurnedAway.{KeepsReading, ReadersTurnedAway, get_mute, set_mute, reply, case_state, KeepsRequest, after_set, mute_told, RespondersTurnedAway, TurnedAway}
use Rattle.demands.proofs.Cases.{printed_a, answer_b}
use Rattle.demands.proofs.Demand3.{demand_3}

-- case A is a configuration: there is one
pub case_a_lem : Configuration case_a
case_a_lem = ((demand_3 case_a).accepted lent (omega arith)).0 (ap (λ (r : Reading). r.number) printed_a.answer)

module _ (answers : List ℕ → List ℕ → Reading) (leaves : List ℕ → List ℕ → List ℕ) where
  readers_turned_away : KeepsReading answers leaves → ReadersTurnedAway answers leaves
  readers_turned_away r = record {
    refuses_everything = λ h. h case_a lent (ap (λ (x : Reading). x.number) a);
    single_sheet = λ one h.
        let x : 0 ≡ byte one 96 = sym (ap (λ (l : List ℕ). byte l 96) printed_a.sheet) ∙ ap (λ (l : List ℕ). byte l 96) (sym (r.sheet case_a lent) ∙ h case_a (ap (λ (x : Reading). x.number) a)) in
        let y : 4 ≡ byte one 96 = sym answer_b.fourth ∙ ap (λ (l : List ℕ). byte l 96) (sym (r.sheet case_b lent) ∙ h case_b b) in
        omega arith;
    writes_none = λ h.
        let x : 1 ≡ byte lent 0 = sym (ap (λ (l : List ℕ). byte l 0) printed_a.sheet) ∙ ap (λ (l : List ℕ). byte l 0) (sym (r.sheet case_a lent) ∙ h case_a lent (ap (λ (x : Reading). x.number) a)) in
        omega arith;
    fixed_entities = λ n h.
        let x : 3 ≡ n = sym (ap (λ (x : Reading). x.entities) a) ∙ h case_a (ap (λ (x : Reading). x.number) a) in
        let y : 4 ≡ n = sym (ap (λ (x : Reading). x.entities) (r.answer case_b lent) ∙ answer_b.entities) ∙ h case_b b in
        omega arith;
    fixed_controls = λ n h.
        let x : 2 ≡ n = sym (ap (λ (x : Reading). x.controls) a) ∙ h case_a (ap (λ (x : Reading). x.number) a) in
        let y : 3 ≡ n = sym (ap (λ (x : Reading). x.controls) (r.answer case_b lent) ∙ answer_b.controls) ∙ h case_b b in
        omega arith;
  }
    where
      a : answers case_a lent ≡ record { number = 0; place = 0; control = 0; entities = 3; controls = 2; table = case_table }
      a = r.answer case_a lent ∙ printed_a.answer

      b : (answers case_b lent).number ≡ 0
      b = ap (λ (x : Reading). x.number) (r.answer case_b lent) ∙ answer_b.accepted

abbrev muted : State → ℕ → State
muted st x = state_after st (request_of st set_mute (x ∷ []) 0)

record Mutes : Type 0 where
  answered : number_of (request_of case_state get_mute [] 1) ≡ 0
  one_set : bytes_of (request_of (muted case_state 1) get_mute [] 1) ≡ 1 ∷ []
  two_sets : bytes_of (request_of (muted (muted case_state 1) 0) get_mute [] 1) ≡ 0 ∷ []

mutes : Mutes
unfolding request_of answer_asked done_at elsewhere_by stored_at wants_channel seats_from asked_of asked_by get_asked set_of get_of any sizes_of all_take all_set block_of value_in unready lacking low_first sound_of sound_at first_there sound_control sound_by sound_yes_no sound_pin sound_ranged narrow_of found_in unit_in first_in somewhere everywhere sense_of answers_to fits_of legal_of available_of on_grid whole_steps nearer closest_height closest_setting closest_to
mutes = record { answered = refl; one_set = refl; two_sets = refl }

module _ (answers : State → List ℕ → List ℕ → List ℕ → Answer) (leaves : State → List ℕ → List ℕ → List ℕ → List ℕ) where
  abbrev after_set_lem : State → ℕ → State
  after_set_lem = after_set answers leaves

  abbrev heard : State → List ℕ
  heard = mute_told answers leaves

  responders_turned_away : KeepsRequest answers leaves → RespondersTurnedAway answers leaves
  unfolding answer_of
  responders_turned_away r = record {
    stalls_always = λ h. h case_state get_mute [] reply (ap (λ (x : Answer). x.number) (r case_state get_mute [] reply).result ∙ mutes.answered);
    answers_zero = λ h.
        let w : (answers (after_set_lem case_state 1) get_mute [] reply).written ≡ 1 = ap (λ (x : Answer). x.written) (r (after_set_lem case_state 1) get_mute [] reply).result ∙ ap length (got_after (same case_state 1) ∙ mutes.one_set) in
        let x : ◌≡◌ {A = ℕ} 1 0 = sym (ap (λ (l : List ℕ). byte l 0) (shown (same case_state 1) mutes.one_set)) ∙ h (after_set_lem case_state 1) get_mute [] reply 0 (omega arith) in
        omega arith;
    stores_first = λ h.
        let x : ◌≡◌ {A = ℕ} 0 1 = ap (λ (l : List ℕ). byte l 0) (sym (shown twice mutes.two_sets) ∙ h ∙ shown (same case_state 1) mutes.one_set) in
        omega arith;
  }
    where
      same : (st : State) (x : ℕ) → after_set_lem st x ≡ muted st x
      same st x = ap (λ (a : Answer). a.state) (r st set_mute (x ∷ []) []).result

      twice : after_set_lem (after_set_lem case_state 1) 0 ≡ muted (muted case_state 1) 0
      twice = same (after_set_lem case_state 1) 0 ∙ ap (λ (st : State). muted st 0) (same case_state 1)

      got_after : {st u : State} → st ≡ u → bytes_of (request_of st get_mute [] 1) ≡ bytes_of (request_of u get_mute [] 1)
      got_after e = ap (λ (st : State). bytes_of (request_of st get_mute [] 1)) e

      shown : {st u : State} {x : ℕ} → st ≡ u → bytes_of (request_of u get_mute [] 1) ≡ x ∷ [] → heard st ≡ x ∷ []
      shown {st} e f = (r st get_mute [] reply).lent ∙ ap (λ (l : List ℕ). laid l reply) (got_after e ∙ f)

pub turned_away : TurnedAway
turned_away = record { readers = readers_turned_away; responders = responders_turned_away }
