-- Demand 2, proved.
--   runs_so  ==  from every state that 30 has nothing against, every run is as demand 2 asks
use mathlib.Core.Path.{sym, subst}
use mathlib.Core.List.{List}
use lib.ListN.{length}
use Rattle.sound.specs.Meaning.{Sound}
use Rattle.sound.specs.Fresh.{Fresh}
use Rattle.reader.proofs.Tables.{reader_table}
use Rattle.request.specs.declared.State.{State}
use Rattle.runs.specs.Runs.{Step, after, Wired}
use Rattle.runs.proofs.Addressing.{addressed_found}
use Rattle.runs.proofs.Alone.{alone, run_interface, run_sound}
use Rattle.runs.proofs.Answers.{next_get, get_keeps, next_set, set_silent, next_load, get_answers}
use Rattle.runs.proofs.Moved.{set_shares, set_spares, whole_run}
use Rattle.runs.proofs.InTurn.{in_turn_lem}
use Rattle.runs.proofs.Rows.{step_rows_lem}
use Rattle.runs.proofs.Refusals.{accepted_is_0}
use Rattle.demands.specs.Demand2.{EveryRun, Demand2}

pub runs_so : (st : State) → Sound st.table → (run : List Step) → Wired run → EveryRun st run
runs_so st h run w =
    let s = run_sound st run w h in
    record {
      sound = s;
      interface = run_interface st run;
      addressed = λ setup. addressed_found (after st run).table setup s;
      shares = set_shares (after st run).table s;
      spares = set_spares (after st run).table s;
      numbers = step_rows_lem (after st run);
      accepts = accepted_is_0 (after st run);
      next_get = next_get (after st run);
      get_keeps = get_keeps (after st run);
      next_set = next_set (after st run) s;
      set_silent = set_silent (after st run);
      next_load = next_load (after st run) s;
      alone = alone (after st run);
      stored = λ k i f. whole_run st k i run h f w;
      together = λ setup d room b q i cs a n. in_turn_lem (after st run) s setup d room q i cs a n b;
      gets = get_answers st run h w;
    }

pub demand_2 : Demand2
demand_2 = record {
  plugged_fresh = λ s d r a p. subst (λ (st : State). Fresh st.table) (sym p.state) (reader_table s (length d));
  every_run = λ s d r a p run w. runs_so r.state p.sound run w;
}
