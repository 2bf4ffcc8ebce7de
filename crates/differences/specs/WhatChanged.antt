-- Document 02, No. 4, as statements over the definitions, with no proof among them: what the answers of `check` and `next` are, of every two slices
-- of bytes, and what the lines say of two sheets.
--   JudgedPair l r n  ==  n is the number that the paper gives l and r: "both of the left and then those of the right", or 0 for two sheets
--   Sheets l r        ==  l and r are two sheets of bytes
--   WhatChanged       ==  the number of two slices is the paper's, and there is no other (refused, one_number); what `next` tells is a line, the
--                         first above the number asked for (told_whole), and calls from 0 on tell every line (every_call); the ID told, from which a caller asks
--                         next, is the line's, and above the number asked for, so that it is never 0, which is told of no line (asked_next); the lines of two
--                         sheets are exact (exact), are none exactly for the same set of records (no_line), and the right sheet's records
--                         can be built again from them (rebuilt), with the record of each line's ID, which is the one that bears it
--                         (own_record)
use Rattle.std.specs.Prelude.{ℕ, ◌<◌, ◌≡◌, List}
use Rattle.std.proofs.Math.Option.{some}
use Rattle.ground.specs.Numbers.{Bytes}
use Rattle.legal.specs.Sheet.{Sheet, Judged}
use Rattle.differences.specs.Lines.{Line, line_id, lines_of, first_above, difference_of, line_told, id_told, pair_number}
use Rattle.differences.specs.Exact.{Exact, NoLine, EveryCall}
use Rattle.differences.specs.Rebuilt.{Rebuilt, OwnRecord}

pub data JudgedPair (l r : List ℕ) (n : ℕ) : Type 0 where
  by_left : Judged l n → (n ≡ 0 → ⊥) → JudgedPair l r n
  by_right : Sheet l → Judged r n → JudgedPair l r n

pub record Sheets (l r : List ℕ) : Type 0 where
  pub left : Sheet l
  pub right : Sheet r
  pub left_bytes : Bytes l
  pub right_bytes : Bytes r

pub record WhatChanged : Type 0 where
  pub refused : (l r : List ℕ) → JudgedPair l r (pair_number l r)
  pub one_number : (l r : List ℕ) (n : ℕ) → JudgedPair l r n → pair_number l r ≡ n
  pub told_whole : (l r : List ℕ) (a : ℕ) → line_told (difference_of (first_above a (lines_of l r))) ≡ first_above a (lines_of l r)
  pub every_call : (l r : List ℕ) → EveryCall l r
  pub asked_next : (l r : List ℕ) (a : ℕ) (x : Line) → first_above a (lines_of l r) ≡ some x → (id_told (difference_of (some x)) ≡ line_id x) × (a < line_id x)
  pub exact : (l r : List ℕ) → Sheets l r → Exact l r
  pub no_line : (l r : List ℕ) → Sheets l r → NoLine l r
  pub rebuilt : (l r : List ℕ) → Sheets l r → Rebuilt l r
  pub own_record : (r : List ℕ) → Sheet r → OwnRecord r
