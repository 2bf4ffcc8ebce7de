-- Laws of what stands beside it in specs.
--   mended_byte      ==  its bytes are those of a, as they are compared; mended_long, mended_id: it is as long, and bears the same ID
use Rattle.std.specs.Prelude.{ℕ, ◌<◌, ◌≡◌, refl, Bool, true, false, ◌&&◌, ◌⊎◌, List, eqb, ltb, length, set}
use Rattle.std.proofs.Common.{sym, ap, ◌∙◌, inl, inr, ⊎_elim, arith, length-set, get_or-set_same, get_or-set_other, ne_eqb}
use Rattle.std.proofs.Math.ListN.{get_or-eq_default}
use Rattle.ground.specs.Pick.{pick, no, Reads, reads_eq, reads_lt, decided}
use Rattle.ground.specs.Numbers.{byte}
use Rattle.legal.specs.Sheet.{id_of}
use Rattle.differences.specs.Mended.{kind_byte, selector_kind, printed_kind, compared_as, mended}

pub mended_long : (a : List ℕ) → length (mended a) ≡ length a
unfolding mended
mended_long a = go (eqb (byte a kind_byte) printed_kind)
  where
    go : (b : Bool) → length (pick b (set a kind_byte selector_kind) a) ≡ length a
    go true = length-set a kind_byte selector_kind
    go false = refl

-- a record with such a byte is long enough to have it
long_enough : (a : List ℕ) → byte a kind_byte ≡ printed_kind → kind_byte < length a
long_enough a e =
    ⊎_elim (λ (h : kind_byte < length a). h) (λ (h : kind_byte < length a → ⊥). let z : byte a kind_byte ≡ 0 = get_or-eq_default a 0 (omega arith) in absurd (omega arith))
    (decided (ltb kind_byte (length a)) (reads_lt kind_byte (length a)))

pub mended_byte : (a : List ℕ) (n : ℕ) → byte (mended a) n ≡ compared_as n (byte a n)
unfolding mended compared_as
mended_byte a n = go (eqb (byte a kind_byte) printed_kind) (reads_eq (byte a kind_byte) printed_kind) (decided (eqb n kind_byte) (reads_eq n kind_byte))
  where
    go : (b : Bool) → Reads b (byte a kind_byte ≡ printed_kind) → (n ≡ kind_byte) ⊎ (n ≡ kind_byte → ⊥)
        → byte (pick b (set a kind_byte selector_kind) a) n ≡ pick (eqb n kind_byte && eqb (byte a n) printed_kind) selector_kind (byte a n)
    go true r (inl e) = rw (e, r.says refl) (get_or-set_same a kind_byte selector_kind 0 (long_enough a (r.says refl)))
    go true r (inr d) = get_or-set_other a kind_byte n selector_kind 0 d ∙ sym (no _ _ (ap (λ (c : Bool). c && eqb (byte a n) printed_kind) (ne_eqb n kind_byte d)))
    go false r (inl e) = rw e (sym (no _ _ (ne_eqb (byte a kind_byte) printed_kind (r.denies refl))))
    go false r (inr d) = sym (no _ _ (ap (λ (c : Bool). c && eqb (byte a n) printed_kind) (ne_eqb n kind_byte d)))

pub mended_id : (a : List ℕ) → id_of (mended a) ≡ id_of a
unfolding compared_as
mended_id a = mended_byte a 0 ∙ at_first
  where
    at_first : compared_as 0 (byte a 0) ≡ byte a 0
    at_first = refl
