-- The ways out of the writer, and of its parts.
--   answered_refused, answered_whole  ==  an answer that refuses, and one that has written
--   many_numbers, no_room, whole_put  ==  the ways out of put_whole
--   count_none, count_many, wrong_layout, judged_wrong, judged_on, judged_good  ==  the ways out of judge_list
--   entities_chain       ==  what comes behind the refusals of the entities is reached exactly where none of them is given
--   write_refused, write_room, write_whole  ==  the ways out of write
--   writes_one           ==  two results that the writer's contract allows are equal, and so are the two buffers
use Prim.Native.Nat.{ℕ, ◌+◌, ◌-◌, ◌/◌, ◌%◌, ◌≤◌, ◌<◌}
use Rattle.std.specs.Prelude.{◌≡◌, refl, true, false, eqb, Option, Some, None}
use Rattle.std.proofs.Math.Path.{sym, ap}
use Rattle.std.proofs.Common.{◌∙◌, length-append, length-take, le-leb, ne_eqb}
use mathlib.Core.List.{List, [], ◌∷◌, ◌++◌, flatten}
use native.Mathlib.Omega.{arith}
use Rattle.std.proofs.Math.Nat.{zero-add}
use Rattle.std.proofs.Math.ListN.{length, drop}
use Rattle.std.proofs.lemmas.Bool.{lt-leb}
use Rattle.ground.specs.declared.Refusal.{Refusal}
use Rattle.ground.specs.Pick.{yes, no, shows, refutes, within, reads_within}
use Rattle.ground.specs.Refuse.{none, refuse, Chain, chain_more, chain_none}
use Rattle.ground.specs.Lists.{part}
use Rattle.entities.specs.Run.{most_entities}
use Rattle.laying.specs.Paste.{pasted, pasted_in, pasted_length}
use Rattle.laying.specs.LayingLaws.{pasted_three}
use Rattle.indices.specs.Indices.{indexed_then}
use Rattle.indices.specs.IndexLaws.{judged_chain}
use Rattle.writing.specs.declared.EntityList.{EntityList}
use Rattle.writing.specs.declared.Wrote.{Wrote}
use Rattle.fields.specs.Listed.{Listed}
use Rattle.writing.specs.Writing.{most_run, list_of, descriptors_of, whole_of, written_of, breach8, breach9, entities_then, breach47, breach48, room_then, writer_verdict, answers_in, WroteBy, Writes, LaidRun, JudgedRun}
use Rattle.writing.specs.LaidLaws.{listed_count}

module _ (v : Refusal) (w before : List ℕ) where
  pub answered_refused : (n p : ℕ) → v ≡ record { number = n; place = p } → (n ≡ 0 → ⊥) → WroteBy v w before before (record { number = n; place = p; written = 0 })
  answered_refused n p e z =
      let t : eqb v.number 0 ≡ false = ap (λ (x : Refusal). eqb x.number 0) e ∙ ne_eqb n 0 z in
      record { refused = sym e; written = sym (no _ _ t); lent = sym (no _ _ t) }

  pub answered_whole : (after : List ℕ) (k : ℕ) → v ≡ none → k ≡ length w → after ≡ w ++ drop (length w) before
      → WroteBy v w before after (record { number = 0; place = 0; written = k })
  answered_whole after k e q h =
      let t : eqb v.number 0 ≡ true = ap (λ (x : Refusal). eqb x.number 0) e in
      record { refused = sym e; written = q ∙ sym (yes _ _ t); lent = h ∙ sym (yes _ _ t) }

module _ (cs run before : List ℕ) where
  abbrev verdict : Refusal
  verdict = room_then cs run (length before)

  long : length (whole_of cs run) ≡ 8 + length cs + length run
  long = let n = length-append cs run in omega arith

  pub many_numbers : 247 < length cs → WroteBy verdict (whole_of cs run) before before (record { number = 47; place = 0; written = 0 })
  unfolding room_then breach47 refuse
  many_numbers h = answered_refused verdict (whole_of cs run) before 47 0 (ap (λ (b : Option ℕ). refuse 47 b (refuse 48 (breach48 cs run (length before)) none)) (no _ _ (lt-leb _ _ h))) (λ e. omega arith)

  module _ (few : length cs ≤ 247) where
    on : verdict ≡ refuse 48 (breach48 cs run (length before)) none
    unfolding room_then breach47 refuse
    on = ap (λ (b : Option ℕ). refuse 47 b (refuse 48 (breach48 cs run (length before)) none)) (yes _ _ (le-leb _ _ few))

    pub no_room : length before < 8 + length cs + length run → WroteBy verdict (whole_of cs run) before before (record { number = 48; place = 0; written = 0 })
    unfolding breach48 refuse
    no_room h =
        let l = long in
        answered_refused verdict (whole_of cs run) before 48 0 (on ∙ ap (λ (b : Option ℕ). refuse 48 b none) (no _ _ (lt-leb (length (whole_of cs run)) (length before) (omega arith)))) (λ e. omega arith)

    pub whole_put : (a b after : List ℕ) → 8 + length cs + length run ≤ length before
        → a ≡ pasted_in 0 ((8 + length cs) ∷ 36 ∷ 1 ∷ 0 ∷ 1 ∷ (8 + length cs + length run) % 256 ∷ (8 + length cs + length run) / 256 ∷ length cs ∷ []) before
        → b ≡ pasted_in 8 cs a → after ≡ pasted_in (8 + length cs) run b
        → WroteBy verdict (whole_of cs run) before after (record { number = 0; place = 0; written = 8 + length cs + length run })
    unfolding breach48 refuse pasted_in pasted
    whole_put a b after h p q r =
        let l = long in
        let head : List ℕ = (8 + length cs) ∷ 36 ∷ 1 ∷ 0 ∷ 1 ∷ (8 + length cs + length run) % 256 ∷ (8 + length cs + length run) / 256 ∷ length cs ∷ [] in
        let a= : a ≡ pasted 0 head before = p ∙ yes _ _ (le-leb 8 (length before) (omega arith)) in
        let an : length a ≡ length before = ap length a= ∙ pasted_length 0 head before (let z : 8 ≤ length before = omega arith in z) in
        let b= : b ≡ pasted 8 cs a = q ∙ yes _ _ (le-leb (8 + length cs) (length a) (omega arith)) in
        let bn : length b ≡ length a = ap length b= ∙ pasted_length 8 cs a (omega arith) in
        let r= : after ≡ pasted (8 + length cs) run b = r ∙ yes _ _ (le-leb (8 + length cs + length run) (length b) (omega arith)) in
        let all : after ≡ pasted 0 (head ++ (cs ++ run)) before = pasted_three 0 before head cs run a b after (omega arith) a= b= r= in
        let z : 0 + length (whole_of cs run) ≡ length (whole_of cs run) = zero-add (length (whole_of cs run)) in
        answered_whole verdict (whole_of cs run) before after (8 + length cs + length run)
        (on ∙ ap (λ (b : Option ℕ). refuse 48 b none) (yes _ _ (le-leb (length (whole_of cs run)) (length before) (omega arith))))
        (sym l)
        (all ∙ ap (λ (k : ℕ). whole_of cs run ++ drop k before) z)

-- ---- the entities

pub entities_chain : (ds : List (List ℕ)) → Chain (entities_then ds)
unfolding entities_then
entities_chain ds = chain_more 8 (λ e. omega arith) _ _ (chain_more 9 (λ e. omega arith) _ _ (judged_chain (flatten ds)))

module _ (v : List ℕ) (l : EntityList) (out : List ℕ) where
  abbrev ds : List (List ℕ)
  ds = descriptors_of (list_of v l)

  refused_as : (n p : ℕ) → length out ≡ most_run → (n ≡ 0 → ⊥) → entities_then ds none ≡ record { number = n; place = p }
      → JudgedRun ds out (record { number = n; place = p }) 0
  refused_as n p h z e = record { same = sym e; bytes = λ k. absurd (z k); room = omega arith; long = h }

  eight : (within 1 (length ds) most_entities ≡ false) → entities_then ds none ≡ record { number = 8; place = 0 }
  unfolding entities_then breach8 refuse
  eight t = ap (λ (b : Option ℕ). refuse 8 b (refuse 9 (breach9 ds) (indexed_then (flatten ds) none))) (no _ _ t)

  pub count_none : length out ≡ most_run → l.count < 1 → JudgedRun ds out (record { number = 8; place = 0 }) 0
  count_none h c =
      let n = listed_count v l in
      refused_as 8 0 h (λ e. omega arith) (eight (refutes (reads_within 1 (length ds) most_entities) (λ x. let y = x.0 in omega arith)))

  pub count_many : length out ≡ most_run → 32 < l.count → JudgedRun ds out (record { number = 8; place = 0 }) 0
  count_many h c =
      let n = listed_count v l in
      refused_as 8 0 h (λ e. omega arith) (eight (refutes (reads_within 1 (length ds) most_entities) (λ x. let y = x.1 in omega arith)))

  module _ (low : 1 ≤ l.count) (high : l.count ≤ 32) where
    on_eight : (r : Refusal) → entities_then ds r ≡ refuse 9 (breach9 ds) (indexed_then (flatten ds) r)
    unfolding entities_then breach8 refuse
    on_eight r =
        let n = listed_count v l in
        ap (λ (b : Option ℕ). refuse 8 b (refuse 9 (breach9 ds) (indexed_then (flatten ds) r))) (yes _ _ (shows (reads_within 1 (length ds) most_entities) (omega arith, omega arith)))

    pub wrong_layout : (i size : ℕ) → LaidRun ds out (Some i) size → JudgedRun ds out (record { number = 9; place = i }) 0
    unfolding refuse
    wrong_layout i size t = refused_as 9 i t.long (λ x. omega arith) (on_eight none ∙ ap (λ (b : Option ℕ). refuse 9 b (indexed_then (flatten ds) none)) (sym t.first))

    module _ (size : ℕ) (t : LaidRun ds out None size) (r : Refusal) (x : List ℕ) (f : x ≡ part out 0 size) (q : r ≡ indexed_then x none) where
      judged_same : r ≡ entities_then ds none
      unfolding refuse
      judged_same = q ∙ ap (λ (y : List ℕ). indexed_then y none) (f ∙ t.bytes refl) ∙ sym (on_eight none ∙ ap (λ (b : Option ℕ). refuse 9 b (indexed_then (flatten ds) none)) (sym t.first))

      pub judged_wrong : (r.number ≡ 0 → ⊥) → JudgedRun ds out r 0
      judged_wrong z = record { same = judged_same; bytes = λ e. absurd (z e); room = omega arith; long = t.long }

      pub judged_on : JudgedRun ds out r size
      judged_on = record { same = judged_same; bytes = λ z. t.bytes refl; room = t.room; long = t.long }

      pub judged_good : r.number ≡ 0 → JudgedRun ds out none size
      judged_good z =
          let e : r ≡ none = q ∙ chain_none _ (judged_chain x) (sym (ap (λ (y : Refusal). y.number) q) ∙ z) in
          record { same = sym e ∙ judged_same; bytes = λ n. t.bytes refl; room = t.room; long = t.long }

-- ---- the whole

module _ (ls : List Listed) (cs out : List ℕ) (r : Refusal) (size : ℕ) (t : JudgedRun (descriptors_of ls) out r size) (before : List ℕ) where
  pub write_refused : (r.number ≡ 0 → ⊥) → Writes ls cs before before (record { number = r.number; place = r.place; written = 0 })
  unfolding writer_verdict
  write_refused z =
      answered_refused (writer_verdict ls cs (length before)) (written_of ls cs) before r.number r.place
      ((entities_chain (descriptors_of ls)).stays (λ e. z (ap (λ (x : Refusal). x.number) t.same ∙ e)) (room_then cs (flatten (descriptors_of ls)) (length before)) ∙ sym t.same) z

  module _ (run : List ℕ) (f : run ≡ part out 0 size) where
    pub write_room : length run ≤ most_run
    write_room =
        let l = t.long in
        let n : length run ≡ length (part out 0 size) = ap length f in
        let m = length-take (size - 0) out in
        omega arith

    pub write_whole : r.number ≡ 0 → (after : List ℕ) (a : Wrote) → WroteBy (room_then cs run (length before)) (whole_of cs run) before after a
        → Writes ls cs before after a
    unfolding writer_verdict
    write_whole z after a h =
        let e = (entities_chain (descriptors_of ls)).on (sym (ap (λ (x : Refusal). x.number) t.same) ∙ z) (room_then cs (flatten (descriptors_of ls)) (length before)) in
        rw e (rw (f ∙ t.bytes z) at h)

-- ---- the result is settled

made_same : (n m p q w v : ℕ) → n ≡ m → p ≡ q → w ≡ v → ◌≡◌ {A = Wrote} (record { number = n; place = p; written = w }) (record { number = m; place = q; written = v })
made_same n m p q w v e f g = rw (e, f, g) refl

pub writes_one : (ls : List Listed) (cs before a e : List ℕ) (r q : Wrote) → Writes ls cs before a r → Writes ls cs before e q → (r ≡ q) × (a ≡ e)
writes_one ls cs before a e r q x y =
    let v : answers_in r ≡ answers_in q = x.refused ∙ sym y.refused in (
      made_same r.number q.number r.place q.place r.written q.written
          (ap (λ (z : Refusal). z.number) v)
          (ap (λ (z : Refusal). z.place) v)
          (x.written ∙ sym y.written),
      x.lent ∙ sym y.lent,
    )
