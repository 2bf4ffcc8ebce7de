-- The header's fixed opening, bytes 1 to 4: compared as a byte string, and byte by byte in the definition.
--   reads_opens, reads_header  ==  the tests decide the rule's words, HeaderOpening and Header
use Rattle.std.specs.Prelude.{ℕ, ◌+◌, ◌<◌, ◌≡◌, refl, List, [], ◌∷◌, length, take, drop, get_or}
use Rattle.std.proofs.Common.{sym, ap, ◌∙◌, drop-cons, get_or-take, get_or-drop, arith}
use Rattle.ground.specs.Pick.{Reads, reads_same, reads_eq, reads_and}
use Rattle.ground.specs.Numbers.{byte}
use Rattle.scan.specs.CuttingLaws.{byte_inside}
use Rattle.groups.specs.Rules5and6.{HeaderOpening, Header}
use Rattle.groups.specs.Reading.{opens, is_header}

abbrev FourBytes : List ℕ → Type 0
FourBytes h = (byte h 1 ≡ 0x24) × ((byte h 2 ≡ 1) × ((byte h 3 ≡ 0) × (byte h 4 ≡ 1)))

reads_bytes : (h : List ℕ) → Reads (opens h) (FourBytes h)
unfolding opens
reads_bytes h = reads_and _ _ (reads_eq (byte h 1) 0x24) (reads_and _ _ (reads_eq (byte h 2) 1) (reads_and _ _ (reads_eq (byte h 3) 0) (reads_eq (byte h 4) 1)))

bytes_of : (h : List ℕ) → HeaderOpening h → FourBytes h
bytes_of h e = (at 0 (omega arith), (at 1 (omega arith), (at 2 (omega arith), at 3 (omega arith))))
  where
    at : (k : ℕ) → k < 4 → byte h (1 + k) ≡ get_or (0x24 ∷ 1 ∷ 0 ∷ 1 ∷ []) k 0
    at k l = sym (get_or-take 4 (drop 1 h) k 0 l ∙ get_or-drop 1 h k 0) ∙ ap (λ (x : List ℕ). get_or x k 0) e

opening_of : (h : List ℕ) → FourBytes h → HeaderOpening h
opening_of h b =
    let i : 4 < length h = byte_inside h 4 (let q = b.1.1.1 in omega arith) in
    ap (take 4) (drop-cons h 1 0 (omega arith)) ∙ ap (λ (x : List ℕ). byte h 1 ∷ take 3 x) (drop-cons h 2 0 (omega arith)) ∙ ap (λ (x : List ℕ). byte h 1 ∷ byte h 2 ∷ take 2 x) (drop-cons h 3 0 (omega arith)) ∙ ap (λ (x : List ℕ). byte h 1 ∷ byte h 2 ∷ byte h 3 ∷ take 1 x) (drop-cons h 4 0 i)
    ∙ rw (b.0, b.1.0, b.1.1.0, b.1.1.1) refl

pub reads_opens : (h : List ℕ) → Reads (opens h) (HeaderOpening h)
reads_opens h = reads_same (reads_bytes h) (opening_of h) (bytes_of h)

pub reads_header : (h : List ℕ) → Reads (is_header h) (Header h)
unfolding is_header
reads_header h =
    reads_same (reads_and _ _ (reads_opens h) (reads_eq (length h) (8 + byte h 7)))
    (λ p. record { opening = p.0; long = p.1 })
    (λ k. (k.opening, k.long))
