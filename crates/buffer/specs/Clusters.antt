-- The cluster buffer of the 3.0 edition. Document 02, No. 12: "a second lent buffer, which tiles into cluster descriptors (length at 0..1, 7 or more;
-- ID at 4..5; c at 6) with distinct IDs that are not 0". Refusal 51: "if the cluster buffer does not tile or has an ID that is 0 or repeated ..
-- with the place in that buffer". Nothing here searches.
--   two_bytes          ==  the measure of cluster descriptors: the two bytes at 0..1, 7 at least
--   own_word          ==  the length that a cluster descriptor tells is its own
--   cluster_id k, channels_of k  ==  the ID at 4..5, and c at 6
--   WrongCluster before k  ==  the ID of k, which stands behind the descriptors before, is 0 or borne by one of those
--   Buffer b          ==  rule 51: b is cut into cluster descriptors, whose IDs are distinct and not 0
--   Fault before tail ==  behind the cluster descriptors before the bytes tail are left: there are some, and they begin with no cluster descriptor; or
--                         they begin with one whose ID is 0 or borne by one of before
--   Broken51 b p      ==  p is the place of the first such fault
--   SameContent j k   ==  the same cluster content: "all bytes but the ID"
use Rattle.std.specs.Prelude.{ℕ, ◌+◌, ◌*◌, ◌≤◌, ◌<◌, ◌≡◌, ◌⊎◌, length, take, drop}
use Rattle.std.proofs.Common.{ap, ◌∙◌, arith}
use mathlib.Core.List.{List, ◌++◌, flatten, Memᴰ}
use Rattle.ground.specs.Numbers.{byte, word}
use Rattle.ground.specs.Lists.{SomeOf, total}
use Rattle.ground.specs.First.{Sound}
use Rattle.scan.specs.Cutting.{Measure, Piece, Pieces, own_byte, first_byte}

pub own_word : (s : List ℕ) (at : ℕ) (d tail : List ℕ) → drop at s ≡ d ++ tail → 7 ≤ length d → word s at ≡ word d 0
own_word s at d tail e h =
    let low : byte s at ≡ byte d 0 = first_byte s at d tail e (omega arith) in
    let high : byte s (at + 1) ≡ byte d (0 + 1) = own_byte s at d tail e 1 (omega arith) in
    ap (λ (i : ℕ). i + byte s (at + 1) * 256) low ∙ ap (λ (i : ℕ). byte d 0 + i * 256) high

abbrev pub two_bytes : Measure
two_bytes = record { told = word; least = 7; some = omega arith; within = own_word }

abbrev pub cluster_id : List ℕ → ℕ
cluster_id k = word k 4

abbrev pub channels_of : List ℕ → ℕ
channels_of k = byte k 6

abbrev pub WrongCluster : List (List ℕ) → List ℕ → Type 0
WrongCluster before k = (cluster_id k ≡ 0) ⊎ SomeOf (λ e. cluster_id e ≡ cluster_id k) before

pub record Buffer (b : List ℕ) : Type 0 where
  pub pieces : List (List ℕ)
  pub tiles : Pieces two_bytes b pieces
  pub ids : Sound WrongCluster pieces

pub data Fault (before : List (List ℕ)) (tail : List ℕ) : Type 0 where
  no_piece : 0 < length tail → ((k more : List ℕ) → tail ≡ k ++ more → Piece two_bytes k → ⊥) → Fault before tail
  wrong_id_lem : (k more : List ℕ) → tail ≡ k ++ more → Piece two_bytes k → WrongCluster before k → Fault before tail

pub record Broken51 (b : List ℕ) (p : ℕ) : Type 0 where
  pub before : List (List ℕ)
  pub tail : List ℕ
  pub split : b ≡ flatten before ++ tail
  pub each : (k : List ℕ) → Memᴰ k before → Piece two_bytes k
  pub none_before : Sound WrongCluster before
  pub place : p ≡ total before
  pub fault : Fault before tail

abbrev pub SameContent : List ℕ → List ℕ → Type 0
SameContent j k = (take 4 j ≡ take 4 k) × (drop 6 j ≡ drop 6 k)
