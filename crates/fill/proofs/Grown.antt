-- What comes of a read into the part of a buffer that is not yet filled.
--   front_grows  ==  in the buffer with the part put back, the front is the old front, and behind it what was read
use Rattle.std.proofs.Common.{◌≡◌, ℕ, ◌+◌, ◌-◌, ◌≤◌, List, ◌++◌, length, take, sym, ap, ◌∙◌}
use Rattle.std.proofs.lemmas.List.{length-take-le, take-append-le}
use lib.Seq.{take-append-add}
use borrow.Rule.Slice.PartMut.{put_mid}

pub front_grows : (l r : List ℕ) (d m : ℕ) → d ≤ length l → m ≤ length r
    → take (d + m) (put_mid d (length l - d) l r) ≡ take d l ++ take m r
front_grows l r d m h k =
    let long : length (take d l) ≡ d = length-take-le d l h in
    ap (λ n. take (n + m) (put_mid d (length l - d) l r)) (sym long)
    ∙ take-append-add (take d l) _ m
    ∙ ap (λ x. take d l ++ x) (take-append-le m r _ k)
