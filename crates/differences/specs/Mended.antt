-- "Old sheets with kind 15 hex remain legal input, .. and the compare program counts kinds 05 and 15 as the same byte, so the right sheet is rebuilt
-- up to that" (document 02, No. 6): up to that one byte, and no further.
--   kind_byte, selector_kind, printed_kind  ==  byte 1 of a record is the kind: 05 of a Selector, 15 hex of one that was printed
--   Selectors x      ==  the kind x is a Selector's
--   SameByte n x y   ==  x and y count as the same for byte n of a record: they are the same, or kinds of a Selector
--   compared_as n x   ==  x as byte n is compared by
--   same_compared, compared_same, reads_same_byte  ==  what is so compared is the same exactly where SameByte says so
--   mended a         ==  the record a with a Selector's kind as 05
use Rattle.std.specs.Prelude.{ℕ, ◌≡◌, refl, Bool, true, false, ◌&&◌, ◌⊎◌, List, eqb, set}
use Rattle.std.proofs.Common.{sym, ap, ◌∙◌, inl, inr}
use Rattle.ground.specs.Pick.{pick, Reads, reads_eq, reads_same}
use Rattle.ground.specs.Numbers.{byte}

abbrev pub kind_byte : ℕ
kind_byte = 1

abbrev pub selector_kind : ℕ
selector_kind = 5

abbrev pub printed_kind : ℕ
printed_kind = 0x15

abbrev pub Selectors : ℕ → Type 0
Selectors x = (x ≡ selector_kind) ⊎ (x ≡ printed_kind)

pub data SameByte (n x y : ℕ) : Type 0 where
  equal : x ≡ y → SameByte n x y
  selectors : n ≡ kind_byte → Selectors x → Selectors y → SameByte n x y

unfoldable pub compared_as : ℕ → ℕ → ℕ
compared_as n x = pick (eqb n kind_byte && eqb x printed_kind) selector_kind x

selector_as : (n x : ℕ) → n ≡ kind_byte → Selectors x → compared_as n x ≡ selector_kind
unfolding compared_as
selector_as n x q (inl e) = rw (q, e) refl
selector_as n x q (inr e) = rw (q, e) refl

pub same_compared : {n x y : ℕ} → SameByte n x y → compared_as n x ≡ compared_as n y
same_compared {n} (equal e) = ap (compared_as n) e
same_compared {n} {x} {y} (selectors q s t) = selector_as n x q s ∙ sym (selector_as n y q t)

pub compared_same : (n x y : ℕ) → compared_as n x ≡ compared_as n y → SameByte n x y
unfolding compared_as
compared_same n x y = go (eqb n kind_byte) (reads_eq n kind_byte) (eqb x printed_kind) (reads_eq x printed_kind) (eqb y printed_kind) (reads_eq y printed_kind)
  where
    go : (a : Bool) → Reads a (n ≡ kind_byte) → (b : Bool) → Reads b (x ≡ printed_kind) → (c : Bool) → Reads c (y ≡ printed_kind)
        → pick (a && b) selector_kind x ≡ pick (a && c) selector_kind y → SameByte n x y
    go false p b q c r e = equal e
    go true p false q false r e = equal e
    go true p false q true r e = selectors (p.says refl) (inl e) (inr (r.says refl))
    go true p true q false r e = selectors (p.says refl) (inr (q.says refl)) (inl (sym e))
    go true p true q true r e = selectors (p.says refl) (inr (q.says refl)) (inr (r.says refl))

pub reads_same_byte : (n x y : ℕ) → Reads (eqb (compared_as n x) (compared_as n y)) (SameByte n x y)
reads_same_byte n x y = reads_same (reads_eq (compared_as n x) (compared_as n y)) (compared_same n x y) (λ s. same_compared s)

unfoldable pub mended : List ℕ → List ℕ
mended a = pick (eqb (byte a kind_byte) printed_kind) (set a kind_byte selector_kind) a
