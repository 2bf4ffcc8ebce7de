-- Document 02, No. 7, of the mover, as statements over the definitions, with no proof among them: what `move_to` answers, of every sheet and room.
--   Lent f s d          ==  the room d has the bytes for the sheet s, moved to the form f
--   bytes_moved f s d         ==  the bytes that the move of s to the form f writes into the room d
--   ThereAndBack f s d e  ==  s is moved to the form f in the room d, what was written is moved back in the room e, neither is refused, and the bytes
--                         that the second move writes are s
--   NotMoved s d         ==  the move of s to the old form in the room d is refused
--   AsNow ds cluster d  ==  the sheet that the reader wrote before No. 7 of the descriptors ds is moved in the room d, and the bytes that the move writes are
--                         the sheet that the reader writes of them now
--   MovedBack           ==  the number of a move is the paper's, and there is no other (refused, one_number); "a refusal writes nothing" (nothing),
--                         and bytes past the moved sheet stay (stays); "Old to new and back gives the old bytes" (old_new_old); "new to old, for a
--                         sheet of legal length and IDs with room lent, is refused exactly if some record has a byte other than 00 in its last
--                         sixteen" (new_old_refused), by 43 (by_43), "and otherwise the trip back to new gives the same bytes" (new_old_new); what
--                         the reader wrote before No. 7, moved, is what it writes now (as_now); a new sheet is twice as long as the old one
--                         (twice_as_long, half_as_long)
use Rattle.std.specs.Prelude.{ℕ, ◌*◌, ◌≤◌, ◌≡◌, ◌↔◌, List, length, take, drop}
use Rattle.layout.specs.declared.Cluster.{Cluster}
use Rattle.records.specs.Sheet.{records_of}
use Rattle.legal.specs.declared.Form.{Form}
use Rattle.legal.specs.declared.Form.TheVariants.{Old, New}
use Rattle.legal.specs.Forms.{old_size}
use Rattle.legal.specs.Sheet.{SheetBy, Sheet}
use Rattle.mover.specs.Moving.{other_of, moved_to, LosesMore, JudgedMove, move_number, written_by, room_after}
use Rattle.mover.specs.Before.{old_records_of, OldRun}

abbrev pub Lent : Form → List ℕ → List ℕ → Type 0
Lent f s d = length (moved_to f s) ≤ length d

abbrev pub bytes_moved : Form → List ℕ → List ℕ → List ℕ
bytes_moved f s d = take (written_by f s (length d)) (room_after f s d)

pub record ThereAndBack (f : Form) (s d e : List ℕ) : Type 0 where
  pub there : move_number f s (length d) ≡ 0
  pub back : move_number (other_of f) (bytes_moved f s d) (length e) ≡ 0
  pub same : bytes_moved (other_of f) (bytes_moved f s d) e ≡ s

abbrev pub NotMoved : List ℕ → List ℕ → Type 0
NotMoved s d = move_number Old s (length d) ≡ 0 → ⊥

pub record AsNow (ds : List (List ℕ)) (cluster : ℕ → Cluster) (d : List ℕ) : Type 0 where
  pub accepted : move_number New (old_records_of ds cluster) (length d) ≡ 0
  pub same : bytes_moved New (old_records_of ds cluster) d ≡ records_of ds cluster

pub record MovedBack : Type 0 where
  pub refused : (f : Form) (s : List ℕ) (n : ℕ) → JudgedMove f s n (move_number f s n)
  pub one_number : (f : Form) (s : List ℕ) (n m : ℕ) → JudgedMove f s n m → move_number f s n ≡ m
  pub nothing : (f : Form) (s d : List ℕ) → (move_number f s (length d) ≡ 0 → ⊥) → (room_after f s d ≡ d) × (written_by f s (length d) ≡ 0)
  pub stays : (f : Form) (s d : List ℕ) → drop (written_by f s (length d)) (room_after f s d) ≡ drop (written_by f s (length d)) d
  pub old_new_old : (s d e : List ℕ) → SheetBy old_size s → Lent New s d → length s ≤ length e → ThereAndBack New s d e
  pub new_old_refused : (s d : List ℕ) → Sheet s → Lent Old s d → NotMoved s d ↔ LosesMore s
  pub by_43 : (s d : List ℕ) → Sheet s → Lent Old s d → NotMoved s d → move_number Old s (length d) ≡ 43
  pub new_old_new : (s d e : List ℕ) → Sheet s → Lent Old s d → (LosesMore s → ⊥) → length s ≤ length e → ThereAndBack Old s d e
  pub as_now : (ds : List (List ℕ)) (cluster : ℕ → Cluster) (d : List ℕ) → OldRun ds → Lent New (old_records_of ds cluster) d → AsNow ds cluster d
  pub twice_as_long : (s : List ℕ) → SheetBy old_size s → length (moved_to New s) ≡ 2 * length s
  pub half_as_long : (s : List ℕ) → Sheet s → 2 * length (moved_to Old s) ≡ length s
