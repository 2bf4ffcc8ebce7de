-- Rule 51, and what the reader computes of it: the two are one, place included. And what the reader finds by an ID is the descriptor of the buffer that
-- bears it.
--   reads_wrong      ==  the test of an ID decides the rule's words
--   rule51_nowhere, rule51_at  ==  breach51 is nowhere exactly where rule 51 is kept, and at p exactly where p is the place of the first fault
--   buffer_pieces    ==  the descriptors that the rule speaks of are those that the reader finds: they are one
--   wrong_before     ==  in a search that has come to a place: an ID is borne by an earlier descriptor exactly where its first bearer stands before
--   cluster_at       ==  what stands at the place of the first bearer is the descriptor that bears the ID
--   cluster_none     ==  where no place is found, none bears it
use Rattle.std.specs.Prelude.{ℕ, ◌+◌, ◌-◌, ◌≤◌, ◌<◌, Bool, true, false, ◌||◌, ◌⊎◌, ◌↔◌, take, eqb, Option, Some, None}
use Rattle.std.proofs.Math.Path.{◌≡◌, refl, sym, ap}
use Rattle.std.proofs.Common.{◌∙◌, ⊎_elim, take-append-drop, length-append, length-drop, take_at, drop_at}
use mathlib.Core.List.{List, [], ◌∷◌, ◌++◌, flatten, append_assoc, append-nil, Memᴰ}
use native.Mathlib.Omega.{arith}
use Rattle.std.proofs.Math.ListN.{length, drop}
use Rattle.std.proofs.Math.Seq.{length-take-le}
use Rattle.ground.specs.Pick.{pick, yes, Reads, reads_eq, reads_or, reads_true, decided, true≠false}
use Rattle.ground.specs.Numbers.{word}
use Rattle.ground.specs.Lists.{any, reads_any, total, part, part_drop, flatten_append, length_flatten, of_split}
use Rattle.ground.specs.First.{first_from, Sound, Breaks, first_nowhere, first_at, first_before, first_none_any, is_before, sound_none}
use Rattle.scan.specs.Cutting.{Piece, end_by, rest_by, breach_by, MisfitBy}
use Rattle.scan.specs.PieceLaws.{StandingBy, standing, end_none, end_off, end_stands, rest_none, rest_more, rest_of, starts_end, starts_part, cut_rest}
use Rattle.scan.proofs.PieceLemmas.{cut_exists, cut_misfit}
use Rattle.scan.specs.Search.{PassedBy}
use Rattle.buffer.specs.Clusters.{two_bytes, cluster_id, WrongCluster, Buffer, Fault, no_piece, wrong_id_lem, Broken51}
use Rattle.buffer.specs.Reading.{pieces, bearing, found_cluster, cluster_in, cluster_with, is_wrong_cluster, found_or, breach51}

pub reads_wrong : (b : List (List ℕ)) (k : List ℕ) → Reads (is_wrong_cluster b k) (WrongCluster b k)
unfolding is_wrong_cluster
reads_wrong b k = reads_or _ _ (reads_eq (cluster_id k) 0) (reads_any (bearing (cluster_id k)) (λ e. cluster_id e ≡ cluster_id k) (λ e. reads_eq (cluster_id e) (cluster_id k)) b)

module _ (s : List ℕ) where
  k : StandingBy two_bytes s 0 (pieces s)
  k = standing two_bytes s 0 (omega arith)

  search_nowhere : (first_from is_wrong_cluster 0 [] (pieces s) ≡ None) ↔ Sound WrongCluster (pieces s)
  search_nowhere = first_nowhere is_wrong_cluster WrongCluster reads_wrong 0 (pieces s)

  search_at : (p : ℕ) → (first_from is_wrong_cluster 0 [] (pieces s) ≡ Some p) ↔ Breaks WrongCluster 0 (pieces s) p
  search_at p = first_at is_wrong_cluster WrongCluster reads_wrong 0 (pieces s) p

  pub buffer_pieces : (b : Buffer s) → pieces s ≡ b.pieces
  buffer_pieces b = cut_rest two_bytes s b.pieces b.tiles

  pub rule51_nowhere : (breach51 s ≡ None) ↔ Buffer s
  unfolding breach51 found_or
  rule51_nowhere = (λ e. of (first_from is_wrong_cluster 0 [] (pieces s)) refl e, to)
    where
      of : (r : Option ℕ) → first_from is_wrong_cluster 0 [] (pieces s) ≡ r → found_or r (breach_by two_bytes s) ≡ None → Buffer s
      of None f e =
          let c = (cut_exists two_bytes s).0 e in
          record { pieces = c.0; tiles = c.1; ids = rw (cut_rest two_bytes s c.0 c.1) at (search_nowhere.0 f) }
      of (Some p) f e = let z : ◌≡◌ {A = ℕ} 0 1 = cc in absurd (omega arith)

      to : Buffer s → found_or (first_from is_wrong_cluster 0 [] (pieces s)) (breach_by two_bytes s) ≡ None
      to b =
          ap (λ (r : Option ℕ). found_or r (breach_by two_bytes s)) (search_nowhere.1 (rw (buffer_pieces b) b.ids))
          ∙ (cut_exists two_bytes s).1 (b.pieces, b.tiles)

  -- the bytes, from a part of the pieces on
  module _ (x y : List (List ℕ)) (e : pieces s ≡ x ++ y) where
    rest_flat : s ≡ flatten x ++ (flatten y ++ drop (total (pieces s)) s)
    rest_flat =
        let z : 0 + total (pieces s) ≡ total (pieces s) = omega arith in
        sym (part_drop s 0 (0 + total (pieces s)) (omega arith))
        ∙ ap (λ (l : List ℕ). l ++ drop (0 + total (pieces s)) s) (sym k.flat ∙ ap flatten e ∙ flatten_append x y)
        ∙ append_assoc (flatten x) (flatten y) (drop (0 + total (pieces s)) s)
        ∙ ap (λ (i : ℕ). flatten x ++ (flatten y ++ drop i s)) z

    rest_each : (d : List ℕ) → Memᴰ d x → Piece two_bytes d
    rest_each d m = k.each d (rw e (mathlib.Core.List.Memᴰ.append_left y m))

  -- a front of pieces, and what the reader finds behind it
  module _ (before : List (List ℕ)) (tail : List ℕ) (split : s ≡ flatten before ++ tail) (each : (d : List ℕ) → Memᴰ d before → Piece two_bytes d) where
    behind : pieces s ≡ before ++ rest_by two_bytes s (total before)
    behind =
        let z : 0 + total before ≡ total before = omega arith in
        rest_of two_bytes s 0 before tail split each ∙ ap (λ (i : ℕ). before ++ rest_by two_bytes s i) z

    tail_is : drop (total before) s ≡ tail
    tail_is = ap (drop (total before)) split ∙ drop_at (flatten before) tail (total before) (length_flatten before)

  fault_found : (p : ℕ) → Breaks WrongCluster 0 (pieces s) p → Broken51 s p
  unfolding flatten
  fault_found p b =
      let x = b.before in
      let d = b.offender in
      let later = flatten b.after ++ drop (total (pieces s)) s in
      let q = b.place in
      record {
        before = x;
        tail = d ++ later;
        split = rest_flat x (d ∷ b.after) b.split ∙ ap (λ (l : List ℕ). flatten x ++ l) (append_assoc d (flatten b.after) (drop (total (pieces s)) s));
        each = rest_each x (d ∷ b.after) b.split;
        none_before = b.none_before;
        place = omega arith;
        fault = wrong_id_lem d later refl (k.each d (rw b.split (of_split x d b.after))) b.wrong;
      }

  misfit_found : (p : ℕ) → Sound WrongCluster (pieces s) → MisfitBy two_bytes s p → Broken51 s p
  unfolding Sound
  misfit_found p sound m =
      let b = m.before in
      let i = m.inside in
      let split : s ≡ flatten b ++ drop p s = sym (take-append-drop p s) ∙ ap (λ (l : List ℕ). l ++ drop p s) (sym m.stands.whole) in
      let long : total b ≡ p = sym (length_flatten b) ∙ ap length m.stands.whole ∙ length_take_le' in
      record {
        before = b;
        tail = drop p s;
        split = split;
        each = m.stands.each;
        none_before = λ x d y e. sound x d (y ++ rest_by two_bytes s (total b)) (behind b (drop p s) split m.stands.each ∙ ap (λ (l : List (List ℕ)). l ++ rest_by two_bytes s (total b)) e ∙ append_assoc x (d ∷ y) (rest_by two_bytes s (total b)));
        place = sym long;
        fault = no_piece left none;
      }
    where
      length_take_le' : length (take p s) ≡ p
      length_take_le' = let i = m.inside in length-take-le p s (omega arith)

      left : 0 < length (drop p s)
      left = let i = m.inside in rw (length-drop p s) (omega arith)

      none : (d more : List ℕ) → drop p s ≡ d ++ more → Piece two_bytes d → ⊥
      none d more e h =
          let a = starts_end two_bytes s p d more e h in
          let c = end_none two_bytes s p m.none in
          let l = h.long in
          omega arith

  found_fault : (p : ℕ) → Broken51 s p → breach51 s ≡ Some p
  unfolding breach51 found_or
  found_fault p b = of b.fault
    where
      x : List (List ℕ)
      x = b.before

      all : pieces s ≡ x ++ rest_by two_bytes s (total x)
      all = behind x b.tail b.split b.each

      of : Fault x b.tail → found_or (first_from is_wrong_cluster 0 [] (pieces s)) (breach_by two_bytes s) ≡ Some p
      of (wrong_id_lem d more e h w) = ap (λ (r : Option ℕ). found_or r (breach_by two_bytes s)) ((search_at p).1 here)
        where
          next : rest_by two_bytes s (total x) ≡ d ∷ rest_by two_bytes s (total x + length d)
          next =
              let t : drop (total x) s ≡ d ++ more = tail_is x b.tail b.split b.each ∙ e in
              let l = h.long in
              let a = starts_end two_bytes s (total x) d more t h in
              rest_more two_bytes s (total x) (λ q. omega arith)
              ∙ rw (a, starts_part two_bytes s (total x) d more t h) refl

          here : Breaks WrongCluster 0 (pieces s) p
          here =
              let q = b.place in
              record {
                before = x;
                offender = d;
                after = rest_by two_bytes s (total x + length d);
                split = all ∙ ap (λ (l : List (List ℕ)). x ++ l) next;
                wrong = w;
                place = omega arith;
                none_before = b.none_before;
              }
      of (no_piece l n) =
          ap (λ (r : Option ℕ). found_or r (breach_by two_bytes s)) (search_nowhere.1 (rw whole b.none_before))
          ∙ (cut_misfit two_bytes s p).1 misfit
        where
          t : drop (total x) s ≡ b.tail
          t = tail_is x b.tail b.split b.each

          stops : end_by two_bytes s (total x) ≡ total x
          stops = ⊎_elim (λ e. e) (λ f. absurd (piece f)) (decided (eqb (end_by two_bytes s (total x)) (total x)) (reads_eq (end_by two_bytes s (total x)) (total x)))
            where
              piece : (end_by two_bytes s (total x) ≡ total x → ⊥) → ⊥
              piece f =
                  let o = end_off two_bytes s (total x) f in
                  let d = part s (total x) (end_by two_bytes s (total x)) in
                  let m : Memᴰ d (pieces s) = rw (all, rest_more two_bytes s (total x) f) (of_split x d (rest_by two_bytes s (end_by two_bytes s (total x)))) in
                  n d (drop (end_by two_bytes s (total x)) s) (sym t ∙ sym (part_drop s (total x) (end_by two_bytes s (total x)) (omega arith))) (k.each d m)

          whole : pieces s ≡ x
          whole = all ∙ ap (λ (l : List (List ℕ)). x ++ l) (rest_none two_bytes s (total x) stops) ∙ append-nil x

          misfit : MisfitBy two_bytes s p
          misfit =
              let q = b.place in
              let a : length (flatten x) ≡ p = length_flatten x ∙ sym b.place in
              let c : length s ≡ length (flatten x) + length b.tail = ap length b.split ∙ length-append (flatten x) b.tail in
              record {
                before = x;
                stands = record { whole = sym (ap (take p) b.split ∙ take_at (flatten x) b.tail p a); each = b.each };
                inside = omega arith;
                none = λ least room. let e = end_stands two_bytes s (total x) (rw q at least) (rw q at room) in let g = stops in let least' : 7 ≤ word s (total x) = rw q at least in omega arith;
              }

  pub rule51_at : (p : ℕ) → (breach51 s ≡ Some p) ↔ Broken51 s p
  unfolding breach51 found_or
  rule51_at p = (λ e. of (first_from is_wrong_cluster 0 [] (pieces s)) refl e, found_fault p)
    where
      of : (r : Option ℕ) → first_from is_wrong_cluster 0 [] (pieces s) ≡ r → found_or r (breach_by two_bytes s) ≡ Some p → Broken51 s p
      of None f e = misfit_found p (search_nowhere.0 f) ((cut_misfit two_bytes s p).0 e)
      of (Some q) f e = let z : q ≡ p = cc in fault_found p ((search_at p).0 (f ∙ ap Some z))

  pub wrong_before : (at : ℕ) (g : PassedBy two_bytes is_wrong_cluster s 0 at) (id : ℕ) → is_before (found_cluster s id) at ≡ any (bearing id) g.behind
  unfolding found_cluster
  wrong_before at g id =
      ap (λ (r : List (List ℕ)). is_before (first_from (λ b d. bearing id d) 0 [] r) at) g.whole
      ∙ ap (λ (i : ℕ). is_before (first_from (λ b d. bearing id d) 0 [] (g.behind ++ rest_by two_bytes s at)) i) g.place
      ∙ first_before (bearing id) 0 [] g.behind (rest_by two_bytes s at) (λ d m. let l = (k.each d (rw g.whole (mathlib.Core.List.Memᴰ.append_left (rest_by two_bytes s at) m))).long in omega arith)

cluster_in_behind : (x : List (List ℕ)) (d : List ℕ) (y : List (List ℕ)) (id : ℕ) → any (bearing id) x ≡ false → bearing id d ≡ true → cluster_in (x ++ d ∷ y) id ≡ d
unfolding cluster_in any
cluster_in_behind [] d y id n t = yes _ _ t
cluster_in_behind (a ∷ x) d y id n t = go (bearing id a) n (λ m. cluster_in_behind x d y id m t)
  where
    go : (b : Bool) → (b || any (bearing id) x) ≡ false → (any (bearing id) x ≡ false → cluster_in (x ++ d ∷ y) id ≡ d) → pick b a (cluster_in (x ++ d ∷ y) id) ≡ d
    go true m ih = absurd (true≠false m)
    go false m ih = ih m

cluster_in_none : (x : List (List ℕ)) (id : ℕ) → any (bearing id) x ≡ false → cluster_in x id ≡ []
unfolding cluster_in any
cluster_in_none [] id n = refl
cluster_in_none (a ∷ x) id n = go (bearing id a) n (λ m. cluster_in_none x id m)
  where
    go : (b : Bool) → (b || any (bearing id) x) ≡ false → (any (bearing id) x ≡ false → cluster_in x id ≡ []) → pick b a (cluster_in x id) ≡ []
    go true m ih = absurd (true≠false m)
    go false m ih = ih m

module _ (s : List ℕ) (id : ℕ) where
  pub cluster_none : found_cluster s id ≡ None → cluster_with s id ≡ []
  unfolding found_cluster cluster_with
  cluster_none e = cluster_in_none (pieces s) id (first_none_any (bearing id) 0 (pieces s) e)

  pub cluster_at : (p : ℕ) → found_cluster s id ≡ Some p → part s p (end_by two_bytes s p) ≡ cluster_with s id
  unfolding found_cluster cluster_with flatten
  cluster_at p e = of ((first_at (λ b d. bearing id d) (λ b d. bearing id d ≡ true) (λ b d. reads_true (bearing id d)) 0 (pieces s) p).0 e)
    where
      of : Breaks (λ b d. bearing id d ≡ true) 0 (pieces s) p → part s p (end_by two_bytes s p) ≡ cluster_in (pieces s) id
      of b =
          let x = b.before in
          let d = b.offender in
          let q = b.place in
          let z : p ≡ total x = omega arith in
          let later = flatten b.after ++ drop (total (pieces s)) s in
          let stands = (k s).each d (rw b.split (of_split x d b.after)) in
          let split : s ≡ flatten x ++ (d ++ later) = rest_flat s x (d ∷ b.after) b.split ∙ ap (λ (l : List ℕ). flatten x ++ l) (append_assoc d (flatten b.after) (drop (total (pieces s)) s)) in
          let t : drop p s ≡ d ++ later = rw z (tail_is s x (d ++ later) split (rest_each s x (d ∷ b.after) b.split)) in
          ap (part s p) (starts_end two_bytes s p d later t stands)
          ∙ starts_part two_bytes s p d later t stands
          ∙ sym (ap (λ (l : List (List ℕ)). cluster_in l id) b.split ∙ cluster_in_behind x d b.after id (sound_none (bearing id) x b.none_before) b.wrong)
