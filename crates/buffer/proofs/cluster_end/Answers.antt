-- By its three answers; a length of 7 or more stands inside the slice.
use borrow.Author.Rules.{rules}
use Prim.Native.Nat.{ℕ, ◌+◌, ◌-◌, ◌≤◌, ◌<◌}
use mathlib.Core.Path.{◌≡◌, refl, sym}
use mathlib.Core.Bool.{Bool, true, false}
use mathlib.Core.List.{List}
use native.Mathlib.Omega.{arith}
use lib.ListN.{length, get_or-eq_default}
use lib.Dec.{ltb}
use borrow.Author.Tests.{ltb-true, ltb-false}
use Rattle.ground.specs.Numbers.{byte, word}
use Rattle.scan.specs.Cutting.{end_by}
use Rattle.scan.specs.PieceLaws.{end_none, end_stands}
use Rattle.buffer.specs.Clusters.{two_bytes}
use Rattle.buffer.proofs.cluster_end.Goals as goal

word_inside : (s : List ℕ) (at : ℕ) → 0 < word s at → at < length s
word_inside s at h = go (ltb at (length s)) refl
  where
    go : (b : Bool) → ltb at (length s) ≡ b → at < length s
    go true e = ltb-true _ _ e
    go false e =
        let l = ltb-false _ _ e in
        let low : byte s at ≡ 0 = get_or-eq_default s 0 l in
        let high : byte s (at + 1) ≡ 0 = get_or-eq_default s 0 (omega arith) in
        absurd (omega arith)

module _ (s : List ℕ) (at n : ℕ) (e : n ≡ word s at) where
  short : n < 7 → at ≡ end_by two_bytes s at
  short h = sym (end_none two_bytes s at (λ least room. let l : 7 ≤ word s at = least in omega arith))

  inside : 7 ≤ n → at ≤ length s
  inside h = let i = word_inside s at (omega arith) in omega arith

  past : 7 ≤ n → length s - at < n → at ≡ end_by two_bytes s at
  past h k = sym (end_none two_bytes s at (λ least room. let l : at + word s at ≤ length s = room in omega arith))

  whole : 7 ≤ n → n ≤ length s - at → at + n ≡ end_by two_bytes s at
  whole h k = let i = word_inside s at (omega arith) in rw e (sym (end_stands two_bytes s at (rw e at h) (omega arith)))

ruleset laws = (short, inside, past, whole, rules)

pub returns-then-n-lt-LEAST : goal.returns-then-n-lt-LEAST
returns-then-n-lt-LEAST c = search laws

pub returns-then-s-at : goal.returns-then-s-at
returns-then-s-at c = search laws

pub returns : goal.returns
returns c = search laws
