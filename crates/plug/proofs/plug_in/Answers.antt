-- The reader's answer and its sheet are handed on; its table is one that refusal 30 has nothing against.
use borrow.Author.Rules.{rules}
use Prim.Native.Nat.{ℕ}
use mathlib.Core.Path.{◌≡◌, ap}
use mathlib.Core.List.{List}
use lib.ListN.{length}
use Rattle.sound.specs.Fresh.{fresh_sound}
use Rattle.topology.specs.declared.Reading.{Reading}
use Rattle.topology.specs.Reading.{reading_of, sheet_of}
use Rattle.reader.proofs.Tables.{reader_table}
use Rattle.plug.specs.Plugged.{state_of, PluggedIn}
use Rattle.plug.proofs.plug_in.Goals as goal

plugged : (s d : List ℕ) (r : Reading) (a : List ℕ) → r ≡ reading_of s (length d) → a ≡ sheet_of s d
    → PluggedIn s d (record { reading = r; state = record { control = r.control; table = r.table } }) a
plugged s d r a e f = record {
  reading = e;
  state = ap state_of e;
  sheet = f;
  sound = rw e (fresh_sound (reading_of s (length d)).table (reader_table s (length d)));
}

ruleset laws = (plugged, rules)

pub returns : goal.returns
returns c = search laws
