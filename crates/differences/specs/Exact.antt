-- What the lines of two sheets say, exactly (document 02, No. 4): "No difference may be missed or made up".
--   HasId s i         ==  a record of s bears the ID i
--   Differ a b ns     ==  ns are the numbers of the bytes in which the records a and b differ, rising, and there is one
--   Changed l r i ns  ==  the ID i stands in l and in r, and ns are the numbers of the bytes in which its two records differ
--   Exact l r         ==  the lines of l and r: `left ID` exactly for an ID that stands in l only, `right ID` for one that stands in r only,
--                         `changed ID` with exactly the bytes that differ for one whose records differ; IDs rise, so that each has one line
--   SameRecords l r   ==  l and r have the same set of records, but for a Selector's kind, which may be 05 or 15 hex
--   NoLine l r        ==  there is no line exactly where l and r have the same set of records in that way
--   told_then x next   ==  the line x and what next tells from its ID on; nothing where there is no line
--   called l r k a    ==  what k calls tell: the first asks for the first line above a, each other for the first above the line before it
--   EveryCall l r     ==  calls from 0 on tell all lines, one after another (all); a call tells that there is none exactly where no line is above the
--                         number asked for, so behind the last line and not before (ends); there are at most 255 lines, so that 256 calls tell that too (few)
use Rattle.std.specs.Prelude.{ℕ, zero, suc, ◌≤◌, ◌<◌, ◌≡◌, ◌↔◌, List, [], ◌∷◌, map, length}
use Rattle.std.proofs.Math.Option.{Option, none, some}
use Rattle.ground.specs.Numbers.{byte}
use Rattle.ground.specs.Lists.{SomeOf}
use Rattle.ground.specs.Rising.{Rising}
use Rattle.graph.specs.Members.{◌∈◌}
use Rattle.records.specs.Records.{record_size}
use Rattle.legal.specs.Sheet.{records_in, id_of}
use Rattle.differences.specs.Mended.{SameByte, mended}
use Rattle.differences.specs.Lines.{Line, line_id, last_id, lines_of, first_above}
use Rattle.differences.specs.Lines.Line.{left_only, right_only, changed}

abbrev pub HasId : List ℕ → ℕ → Type 0
HasId s i = SomeOf (λ a. id_of a ≡ i) (records_in s)

pub record Differ (a b ns : List ℕ) : Type 0 where
  pub each : (n : ℕ) → n ∈ ns ↔ ((n < record_size) × (SameByte n (byte a n) (byte b n) → ⊥))
  pub rising : Rising (λ n. n) ns
  pub one : ns ≡ [] → ⊥

pub record Changed (l r : List ℕ) (i : ℕ) (ns : List ℕ) : Type 0 where
  pub before : List ℕ
  pub after : List ℕ
  pub on_left : before ∈ records_in l
  pub on_right : after ∈ records_in r
  pub left_id : id_of before ≡ i
  pub right_id : id_of after ≡ i
  pub differ : Differ before after ns

pub record Exact (l r : List ℕ) : Type 0 where
  pub left_only_lem : (i : ℕ) → left_only i ∈ lines_of l r ↔ (HasId l i × (HasId r i → ⊥))
  pub right_only_lem : (i : ℕ) → right_only i ∈ lines_of l r ↔ ((HasId l i → ⊥) × HasId r i)
  pub changed_too : (i : ℕ) (ns : List ℕ) → changed i ns ∈ lines_of l r ↔ Changed l r i ns
  pub rising : Rising line_id (lines_of l r)

abbrev pub SameRecords : List ℕ → List ℕ → Type 0
SameRecords l r = (a : List ℕ) → a ∈ map mended (records_in l) ↔ a ∈ map mended (records_in r)

abbrev pub NoLine : List ℕ → List ℕ → Type 0
NoLine l r = (lines_of l r ≡ []) ↔ SameRecords l r

abbrev pub told_then : Option Line → (ℕ → List Line) → List Line
told_then none next = []
told_then (some x) next = x ∷ next (line_id x)

unfoldable pub called : List ℕ → List ℕ → ℕ → ℕ → List Line
called l r zero a = []
called l r (suc k) a = told_then (first_above a (lines_of l r)) (called l r k)

pub record EveryCall (l r : List ℕ) : Type 0 where
  pub all : called l r (suc last_id) 0 ≡ lines_of l r
  pub ends : (a : ℕ) → (first_above a (lines_of l r) ≡ none) ↔ ((x : Line) → x ∈ lines_of l r → line_id x ≤ a)
  pub few : length (lines_of l r) ≤ last_id
