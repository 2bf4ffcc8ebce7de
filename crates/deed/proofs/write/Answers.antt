-- What is copied are the first of the number's bytes, as many as fit, and they stand behind the front that stays.
use borrow.Rule.Slice.PartMut.{post_of}
use Rattle.std.specs.Prelude.{ℕ, zero, suc, min, ◌+◌, ◌-◌, ◌≤◌, ◌<◌, ◌%◌, ◌/◌, ◌≡◌, refl, Bool, true, false, List, [], ◌∷◌, ◌++◌, leb, length, take, drop}
use Rattle.std.proofs.Common.{rules, sym, ap, ◌∙◌, arith, append_assoc, length-append, length-take, length-take-le, drop-drop, le-leb}
use mathlib.Core.List.{append-nil}
use Rattle.std.proofs.Math.Nat.{zero-min, min-zero, suc-min-suc}
use Rattle.std.proofs.Math.Seq.{take-nil}
use Rattle.std.proofs.lemmas.Bool.{lt-leb}
use Rattle.ground.specs.Pick.{pick, yes, no}
use Rattle.ground.specs.Lists.{take_least}
use Rattle.deed.specs.Reply.{laid, laid_front, low_first, low_first_long, bytes_put, Put}
use Rattle.deed.proofs.write.Goals.{then-end-at-via-then-end-at, then-end-at-via-else-end-at+then-reply-end}
use Rattle.deed.proofs.write.Goals as goal

take_both : (n m : ℕ) (l : List ℕ) → take n (take m l) ≡ take (min n m) l
take_both zero m l = rw (zero-min m)
take_both (suc n) zero l = rw (min-zero (suc n))
take_both (suc n) (suc m) [] = sym (take-nil {A = ℕ} (min (suc n) (suc m)))
take_both (suc n) (suc m) (x ∷ l) = rw (suc-min-suc n m, take_both n m l)

module _ (x size at end : ℕ) (b : List ℕ) where
  abbrev Wrote : ℕ → List ℕ → Type 0
  Wrote n a = Put (bytes_put x size at end (length b)) at b n a

  none : bytes_put x size at end (length b) ≡ [] → Wrote at b
  none e = rw e (record { number = omega arith; lent = sym (ap (λ (l : List ℕ). laid l b) (append-nil (take at b)) ∙ laid_front at b) })

  -- one law for each way out
  no_end : end ≤ at → Wrote at b
  unfolding bytes_put
  no_end h = none (go (leb end (length b)))
    where
      go : (c : Bool) → pick c (take (end - at) (take size (low_first 2 x))) [] ≡ []
      go true = let e : end - at ≡ 0 = omega arith in ap (λ (k : ℕ). take k (take size (low_first 2 x))) e
      go false = refl

  no_room : length b < end → Wrote at b
  unfolding bytes_put
  no_room h = none (no _ _ (lt-leb end (length b) h))

  module _ (low : at < end) (room : end ≤ length b) (m n : ℕ) (e : m ≡ min size 2) (f : n ≡ min m (end - at)) (w v : List ℕ)
      (g : w ≡ x % 256 ∷ x / 256 % 256 ∷ []) (h : v ≡ take n w) where
    copied : v ≡ take n (low_first 2 x)
    unfolding low_first
    copied = h ∙ ap (take n) g

    put : bytes_put x size at end (length b) ≡ v
    unfolding bytes_put
    put =
        let q : min (min (end - at) size) (length (low_first 2 x)) ≡ n = let l = low_first_long 2 x in omega arith in
        yes _ _ (le-leb end (length b) room)
        ∙ take_both (end - at) size (low_first 2 x)
        ∙ sym (take_least (min (end - at) size) (low_first 2 x))
        ∙ ap (λ (k : ℕ). take k (low_first 2 x)) q
        ∙ sym copied

    long : length v ≡ n
    long = ap length copied ∙ length-take n (low_first 2 x) ∙ (let l = low_first_long 2 x in omega arith)

    behind : length (take at b ++ v) ≡ at + n
    behind = length-append (take at b) v ∙ (let l = length-take-le at b (omega arith) in let k = long in omega arith)

    some : Wrote (at + n) (take at b ++ (v ++ post_of at (at + n - at) b))
    some =
        let z : at + n - at ≡ n = omega arith in
        rw put (record {
          number = ap (λ (k : ℕ). at + k) (sym long);
          lent =
              ap (λ (k : ℕ). take at b ++ (v ++ drop k (drop at b))) z
              ∙ ap (λ (l : List ℕ). take at b ++ (v ++ l)) (drop-drop n at b ∙ ap (λ (k : ℕ). drop k b) (sym behind))
              ∙ sym (append_assoc (take at b) v (drop (length (take at b ++ v)) b));
        })

ruleset laws = (no_end, no_room, some, rules)

pub returns-then-end-at : goal.returns-then-end-at
returns-then-end-at c =
    elim c.then-end-at.branch [ then-end-at-via-then-end-at w ↦ search laws | then-end-at-via-else-end-at+then-reply-end w ↦ search laws ]

pub returns : goal.returns
returns c = search laws
