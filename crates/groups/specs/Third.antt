-- The rules 5 and 6 of the 3.0 edition (document 02, No. 12: "header of 10"; 001, table 4-15): bytes 1 and 2 are 24 01, the total at 4..5. Frame, run and
-- strays are those of any edition.
--   ThirdHeader h        ==  h opens with 24 01 at 1..2, length 10
--   third_form            ==  the form of these headers; the total at 4..5
--   is_third_header h      ==  the test; reads_third: it decides the statement
--   third_breach5, third_breach6  ==  where rule 5, 6 is broken in s with the frame f
--   third_group_judged s f r      ==  the lower number of 5 and 6 that applies, with its place; r where none does
--   third_judged s r      ==  the lowest number of 1 to 6 that applies, with its place; r where none does
--   third_framed_of s      ==  the frame of s, or what the rules 1 to 6 refuse
--   third_group_chain, third_chain  ==  what comes behind them is reached exactly where none of them is given
--   third_refusal, third_behind, third_frame  ==  what they refuse is refused whatever is judged behind them; where they refuse nothing, that is
--                         judged, and the frame is told
use Rattle.std.specs.Prelude.{ℕ, ◌+◌, ◌≡◌, Bool, not, ◌&&◌, List, length, eqb, Result, Ok, Err, Option}
use Rattle.std.proofs.Common.{arith}
use Rattle.ground.specs.declared.Refusal.{Refusal}
use Rattle.ground.specs.Pick.{Reads, reads_same, reads_and, reads_eq}
use Rattle.ground.specs.Numbers.{byte, word}
use Rattle.ground.specs.Refuse.{none, kept_at, refuse, Chain, chain_end, chain_more, chain_both}
use Rattle.ground.specs.Told.{told, ok_told, row_on, row_stays}
use Rattle.interfaces.specs.Reading.{interfaces_judged}
use Rattle.interfaces.specs.Judged.{interfaces_chain}
use Rattle.groups.specs.declared.Frame.{Frame}
use Rattle.groups.specs.Rules5and6.{HeaderForm}
use Rattle.groups.specs.Reading.{frame_of, header_of, strays_from}

pub record ThirdHeader (h : List ℕ) : Type 0 where
  pub opening : (byte h 1 ≡ 0x24) × (byte h 2 ≡ 1)
  pub long : length h ≡ 10

abbrev pub third_form : HeaderForm
third_form = record { Right = ThirdHeader; some = λ h k. let l = k.long in omega arith; told = 4 }

unfoldable pub is_third_header : List ℕ → Bool
is_third_header h = eqb (length h) 10 && (eqb (byte h 1) 0x24 && eqb (byte h 2) 1)

pub reads_third : (h : List ℕ) → Reads (is_third_header h) (ThirdHeader h)
unfolding is_third_header
reads_third h =
    reads_same (reads_and _ _ (reads_eq (length h) 10) (reads_and _ _ (reads_eq (byte h 1) 0x24) (reads_eq (byte h 2) 1)))
    (λ p. record { opening = p.1; long = p.0 })
    (λ k. (k.long, k.opening))

unfoldable pub third_breach5 : List ℕ → Frame → Option ℕ
third_breach5 s f = kept_at (is_third_header (header_of s f)) f.header

unfoldable pub third_breach6 : List ℕ → Frame → Option ℕ
third_breach6 s f = kept_at (eqb (f.header + word (header_of s f) 4) f.end && not (strays_from s f.end)) f.header

unfoldable pub third_group_judged : List ℕ → Frame → Refusal → Refusal
third_group_judged s f r = refuse 5 (third_breach5 s f) (refuse 6 (third_breach6 s f) r)

unfoldable pub third_judged : List ℕ → Refusal → Refusal
third_judged s r = interfaces_judged s (third_group_judged s (frame_of s) r)

unfoldable pub third_framed_of : List ℕ → Result Frame Refusal
third_framed_of s = told (third_judged s none) (frame_of s)

pub third_group_chain : (s : List ℕ) (f : Frame) → Chain (third_group_judged s f)
unfolding third_group_judged
third_group_chain s f = chain_more 5 (λ e. omega arith) (third_breach5 s f) _ (chain_more 6 (λ e. omega arith) (third_breach6 s f) _ chain_end)

pub third_chain : (s : List ℕ) → Chain (third_judged s)
unfolding third_judged
third_chain s = chain_both (interfaces_judged s) (third_group_judged s (frame_of s)) (interfaces_chain s) (third_group_chain s (frame_of s))

module _ (s : List ℕ) where
  pub third_refusal : {B : Type 0} (q : Refusal) → Err q ≡ third_framed_of s → (r : Refusal) (b : B) → Err q ≡ told (third_judged s r) b
  unfolding third_framed_of
  third_refusal = row_stays (third_judged s) (third_chain s) (frame_of s)

  module _ (f : Frame) (e : Ok f ≡ third_framed_of s) where
    pub third_behind : (r : Refusal) → third_judged s r ≡ r
    unfolding third_framed_of
    third_behind = row_on (third_judged s) (third_chain s) (frame_of s) f e

    pub third_frame : f ≡ frame_of s
    unfolding third_framed_of
    third_frame = (ok_told (third_judged s none) (frame_of s) f e).1
