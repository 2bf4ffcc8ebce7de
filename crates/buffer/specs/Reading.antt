-- What the reader computes of the cluster buffer.
--   pieces s             ==  the cluster descriptors that stand in s one after another from the first byte on
--   bearing id k         ==  the test that k bears the ID
--   found_cluster s id    ==  the place of the first that bears the ID
--   cluster_in ks id      ==  the first of ks that bears it; empty where none does
--   cluster_with s id     ==  the first that stands in s
--   is_wrong_cluster before k  ==  the test that the ID of k is 0 or borne by one of those before
--   found_or a b          ==  the place that a search a found; where it found none, what b says
--   breach51 s           ==  where rule 51 is broken first
--   eq_bytes x y          ==  the test that two lists are the same; reads_bytes: it decides that
--   same_content j k      ==  the test of the same content; reads_content
use Rattle.std.specs.Prelude.{ℕ, ◌≡◌, refl, Bool, true, false, ◌&&◌, ◌||◌, take, drop, eqb, Option, Some, None}
use Rattle.std.proofs.Common.{sym, ap, ◌∙◌}
use mathlib.Core.List.{List, [], ◌∷◌, head-eq_of_cons-eq, tail-eq_of_cons-eq, nil≢cons, cons≢nil}
use Rattle.ground.specs.Pick.{pick, Reads, reads_same, reads_eq, reads_and, true≠false}
use Rattle.ground.specs.Lists.{any}
use Rattle.ground.specs.First.{first_from}
use Rattle.scan.specs.Cutting.{rest_by, breach_by}
use Rattle.buffer.specs.Clusters.{two_bytes, cluster_id, SameContent}

abbrev pub pieces : List ℕ → List (List ℕ)
pieces s = rest_by two_bytes s 0

abbrev pub bearing : ℕ → List ℕ → Bool
bearing id k = eqb (cluster_id k) id

unfoldable pub found_cluster : List ℕ → ℕ → Option ℕ
found_cluster s id = first_from (λ b k. bearing id k) 0 [] (pieces s)

unfoldable pub cluster_in : List (List ℕ) → ℕ → List ℕ
cluster_in [] id = []
cluster_in (k ∷ ks) id = pick (bearing id k) k (cluster_in ks id)

unfoldable pub cluster_with : List ℕ → ℕ → List ℕ
cluster_with s id = cluster_in (pieces s) id

unfoldable pub is_wrong_cluster : List (List ℕ) → List ℕ → Bool
is_wrong_cluster before k = eqb (cluster_id k) 0 || any (bearing (cluster_id k)) before

unfoldable pub found_or : Option ℕ → Option ℕ → Option ℕ
found_or None b = b
found_or (Some p) b = Some p

unfoldable pub breach51 : List ℕ → Option ℕ
breach51 s = found_or (first_from is_wrong_cluster 0 [] (pieces s)) (breach_by two_bytes s)

unfoldable pub eq_bytes : List ℕ → List ℕ → Bool
eq_bytes [] [] = true
eq_bytes [] (y ∷ ys) = false
eq_bytes (x ∷ xs) [] = false
eq_bytes (x ∷ xs) (y ∷ ys) = eqb x y && eq_bytes xs ys

pub reads_bytes : (x y : List ℕ) → Reads (eq_bytes x y) (x ≡ y)
unfolding eq_bytes
reads_bytes [] [] = record { says = λ e. refl; denies = λ e. absurd (true≠false e) }
reads_bytes [] (y ∷ ys) = record { says = λ e. absurd (true≠false (sym e)); denies = λ e q. nil≢cons q }
reads_bytes (x ∷ xs) [] = record { says = λ e. absurd (true≠false (sym e)); denies = λ e q. cons≢nil q }
reads_bytes (x ∷ xs) (y ∷ ys) =
    reads_same (reads_and _ _ (reads_eq x y) (reads_bytes xs ys))
    (λ h. ap (λ (z : ℕ). z ∷ xs) h.0 ∙ ap (λ (l : List ℕ). y ∷ l) h.1)
    (λ e. (head-eq_of_cons-eq e, tail-eq_of_cons-eq e))

unfoldable pub same_content : List ℕ → List ℕ → Bool
same_content j k = eq_bytes (take 4 j) (take 4 k) && eq_bytes (drop 6 j) (drop 6 k)

pub reads_content : (j k : List ℕ) → Reads (same_content j k) (SameContent j k)
unfolding same_content
reads_content j k = reads_and _ _ (reads_bytes (take 4 j) (take 4 k)) (reads_bytes (drop 6 j) (drop 6 k))
