-- Document 02, No. 10: "take two configurations that differ only in the order of the descriptors of the run, with sheets of one length lent: both
-- are accepted or both are refused with the same number, though places may differ. If accepted, the sheets hold the same records in another order,
-- and the same run of loads and requests gets the same answers." It speaks of what the reader answers and leaves (reading_of, sheet_of) and of what
-- loads and requests come to (load_of, request_of), as they stand.
--   Shuffled s s'        ==  the two differ only in the order of the descriptors of the run, or of its first ones: the same bytes before (descriptors,
--                            the AudioControl interface's, the one behind it) and behind, and between them descriptors of type 24 that are
--                            permutations of each other (Permuted, of crate order). That either keeps a rule is not asked
--   SameSheets s s' d d' ==  of the lent sheets d and d': the same records, of 32 bytes each, in another order, and past the last the bytes as lent
--   SameAnswers st st'   ==  in the two states every load, and every request with the same reply lent, has the same number, writes as many bytes and
--                            leaves the same reply
--   SameReading s s' d d'  ==  the same AudioControl number and counts, such sheets, the same controls in any order (SameControls, of crate order), and,
--                            after every run of loads and requests whose data are bytes, the same answers and the same controls
--   reordered o h r es   ==  the bytes of a configuration that keeps the rules 1 to 6 (o, h and r have its parts), with es in place of its run
--   AnyOrder             ==  THE STATEMENT. same_number: two such are both accepted, or both refused with the same number; same_reading: where the one
--                            is accepted, the two readings are the same; every_order: each configuration that keeps the rules 1 to 6, whatever else
--                            is wrong with it, and its run in any other order, are two such
use Rattle.std.specs.Prelude.{ℕ, ◌*◌, ◌≡◌, length, drop}
use mathlib.Core.List.{List, ◌∷◌, ◌++◌, flatten}
use Rattle.graph.specs.Members.{◌∈◌}
use Rattle.scan.specs.Cutting.{Descriptor}
use Rattle.search.specs.Want.{Class, Audio}
use Rattle.setting.specs.declared.Range.{Range}
use Rattle.table.specs.Keys.{Key}
use Rattle.groups.specs.Rules5and6.{Rule5, Rule6}
use Rattle.cutting.specs.Rules1to9.{Opened}
use Rattle.records.specs.Records.{record_size}
use Rattle.topology.specs.Reading.{reading_of, sheet_of}
use Rattle.request.specs.declared.State.{State}
use Rattle.request.specs.declared.Answer.{Answer}
use Rattle.request.specs.Outcome.{answer_of, Answered}
use Rattle.plug.specs.Plugged.{state_of}
use Rattle.request.specs.Load.{load_of}
use Rattle.request.specs.Request.{request_of}
use Rattle.runs.specs.Runs.{Step, after, Wired}
use Rattle.order.specs.Permuted.{Permuted}
use Rattle.order.specs.Same.{SameControls}

pub record Shuffled (s s' : List ℕ) : Type 0 where
  pub before : List (List ℕ)
  pub control : List ℕ
  pub header : List ℕ
  pub run : List (List ℕ)
  pub run' : List (List ℕ)
  pub behind : List ℕ
  pub bytes : s ≡ flatten (before ++ (control ∷ header ∷ run)) ++ behind
  pub bytes' : s' ≡ flatten (before ++ (control ∷ header ∷ run')) ++ behind
  pub cut : (d : List ℕ) → d ∈ (before ++ (control ∷ header ∷ run)) → Descriptor d
  pub is_control : Audio 1 control
  pub class : (d : List ℕ) → d ∈ run → Class d
  pub permuted : Permuted run run'

pub record SameSheets (s s' d d' : List ℕ) : Type 0 where
  pub records : List (List ℕ)
  pub records' : List (List ℕ)
  pub counted : length records ≡ (reading_of s (length d)).entities
  pub long : (r : List ℕ) → r ∈ records → length r ≡ record_size
  pub permuted : Permuted records records'
  pub sheet : sheet_of s d ≡ flatten records ++ drop (length records * record_size) d
  pub sheet' : sheet_of s' d' ≡ flatten records' ++ drop (length records * record_size) d'

pub record SameAnswers (st st' : State) : Type 0 where
  pub load : (k : Key) (range : Range) (w : ℕ) (r r' : Answer)
      → r ≡ answer_of st (load_of st k.unit k.channel k.selector range w)
      → r' ≡ answer_of st' (load_of st' k.unit k.channel k.selector range w)
      → (r.number ≡ r'.number) × (r.written ≡ r'.written)
  -- b is the reply at the call, a and a' what it holds afterwards
  pub request : (setup «data» b : List ℕ) (r r' : Answer) (a a' : List ℕ)
      → Answered st (request_of st setup «data» (length b)) b r a
      → Answered st' (request_of st' setup «data» (length b)) b r' a'
      → (r.number ≡ r'.number) × (r.written ≡ r'.written) × (a ≡ a')

pub record SameReading (s s' d d' : List ℕ) : Type 0 where
  pub interface : (reading_of s (length d)).control ≡ (reading_of s' (length d')).control
  pub entities : (reading_of s (length d)).entities ≡ (reading_of s' (length d')).entities
  pub controls : (reading_of s (length d)).controls ≡ (reading_of s' (length d')).controls
  pub sheets : SameSheets s s' d d'
  pub table : SameControls (reading_of s (length d)).table (reading_of s' (length d')).table
  pub answers : (steps : List Step) → Wired steps → SameAnswers (after (state_of (reading_of s (length d))) steps) (after (state_of (reading_of s' (length d'))) steps)
  pub tables : (steps : List Step) → Wired steps
      → SameControls (after (state_of (reading_of s (length d))) steps).table (after (state_of (reading_of s' (length d'))) steps).table

abbrev pub reordered : {s : List ℕ} (o : Opened s) (h : Rule5 o.tail) → Rule6 h.header h.others → List (List ℕ) → List ℕ
reordered o h r es = flatten (o.before ++ (o.control ∷ h.header ∷ es)) ++ flatten (r.later ++ r.after)

pub record AnyOrder : Type 0 where
  pub same_number : (s s' d d' : List ℕ) → Shuffled s s' → length d ≡ length d' → (reading_of s (length d)).number ≡ (reading_of s' (length d')).number
  pub same_reading : (s s' d d' : List ℕ) → Shuffled s s' → length d ≡ length d' → (reading_of s (length d)).number ≡ 0 → SameReading s s' d d'
  pub every_order : (s : List ℕ) (o : Opened s) (h : Rule5 o.tail) (r : Rule6 h.header h.others) (es : List (List ℕ))
      → Permuted r.run es → Shuffled s (reordered o h r es)
