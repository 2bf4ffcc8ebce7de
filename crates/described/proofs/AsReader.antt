-- The rows of the writer's entities are the reader's own: both tables, row by row, of the descriptors that are written, from the reader's row 8 on.
use Prim.Native.Nat.{ℕ, ◌+◌}
use mathlib.Core.Path.{◌≡◌, refl, sym, ap, subst, ◌∙◌}
use mathlib.Core.Logic.{◌⊎◌, inl, inr, ⊎_elim}
use mathlib.Core.List.Memᴰ
use mathlib.Core.List.{List, [], ◌∷◌, flatten}
use native.Mathlib.Omega.{arith}
use lib.ListN.{length, get_or, take}
use borrow.Author.Tests.{eq-eqb, ne_eqb}
use Rattle.ground.specs.declared.Refusal.{Refusal}
use Rattle.ground.specs.Pick.{yes, no}
use Rattle.ground.specs.Lists.{total, member_at}
use Rattle.ground.specs.First.{Breaks}
use Rattle.ground.specs.Indexed.{breaks_index}
use Rattle.ground.specs.Refuse.{refuse_on}
use Rattle.ground.specs.Rows.{Rows, row, FirstBroken, Numbered, Answers, answers_broken}
use Rattle.graph.specs.Members.{◌∈◌}
use Rattle.scan.specs.Cutting.{Descriptor, Rule3}
use Rattle.edition.specs.Audio.{audio}
use Rattle.layout.proofs.WithdrawnLemmas.{layout_or}
use Rattle.cutting.specs.Rules1to9.{Opening, header_place, Rule8, WrongLayout, Recognised, NoneWithdrawn, laid_out, BrokenAt}
use Rattle.ids.specs.Rule10.{WrongId}
use Rattle.sources.specs.Rule11.{WrongSources}
use Rattle.ranks.specs.Rule12.{Endless}
use Rattle.clusters.specs.Rule13.{Broken}
use Rattle.topology.specs.Reading.{verdict_of}
use Rattle.reader.specs.Refusals.{kept_rows, table_of_rows, Refused}
use Rattle.reader.proofs.Exactly.{answers, refused_exactly}
use Rattle.fields.specs.Listed.{Listed, wrong, laid, printed, written_as}
use Rattle.laying.specs.LayingLaws.{long_printed}
use Rattle.indices.specs.IndexLaws.{FirstIndex}
use Rattle.writing.specs.Writing.{descriptors_of, header_with, TooLong, WrongIn}
use Rattle.described.specs.OurBox.{EntitiesRefused, SetIn, Fitting, OfEntities, reader_place, AsReader}
use Rattle.described.proofs.Trips.{right5, right6}

-- ---- tables: the rows behind those that are kept

data Reaches : Rows → Rows → Type 1 where
  here : {t : Rows} → Reaches t t
  on : {n : ℕ} {K : Type 0} {B : ℕ → Type 0} {behind : K → Rows} {u : Rows} (k : K) → Reaches (behind k) u → Reaches (row n K B behind) u

reach_broken : {t u : Rows} → Reaches t u → (n p : ℕ) → FirstBroken u n p → FirstBroken t n p
reach_broken here n p f = f
reach_broken (on k h) n p f = inr (k, reach_broken h n p f)

reach_answers : {t u : Rows} → Reaches t u → (r : Refusal) → Answers t r → Answers u r
reach_answers here r a = a
reach_answers (on {n} {behind = behind} k h) r (b, rest, e, d, a) = reach_answers h r (subst (Answers (behind k)) (sym (e ∙ refuse_on n rest (d.kept.1 k))) (a k))

-- ---- what is fitting has a descriptor

fit_one : (l : Listed) → (l ≡ wrong → ⊥) → Descriptor (written_as l)
fit_one wrong n = absurd (n refl)
fit_one (laid f) n = record { long = omega arith; own = refl }
fit_one (printed i s k) n = let e = long_printed i k s in record { long = omega arith; own = sym e }

fit_all : (ls : List Listed) → Fitting ls → (d : List ℕ) → d ∈ descriptors_of ls → Descriptor d × (TooLong d → ⊥)
fit_all [] h d m = absurd (Memᴰ.not-nil m)
fit_all (l ∷ ls) h d m =
    let x = h l (Memᴰ.head refl) in
    ⊎_elim (λ (e : d ≡ written_as l). rw e (fit_one l x.0, x.1)) (λ k. fit_all ls (λ y j. h y (Memᴰ.tail j)) d k) (Memᴰ.cases_cons m)

-- ---- the first offender, by index and by place

module _ (ds : List (List ℕ)) (start : ℕ) (W : List (List ℕ) → List ℕ → Type 0) where
  to_place : (i : ℕ) → FirstIndex W ds i → Breaks W start ds (start + total (take i ds))
  to_place i x =
      (breaks_index W start ds (start + total (take i ds))).0 (record {
        offender = x.offender;
        inside = x.inside;
        wrong = x.wrong;
        at = ap (λ (k : ℕ). start + total (take k ds)) x.at;
        none_before = x.none_before;
      })

  to_index : (p : ℕ) → Breaks W start ds p → (i : ℕ) × FirstIndex W ds i × (p ≡ start + total (take i ds))
  to_index p b =
      let x = (breaks_index W start ds p).1 b in
      (x.offender, record { offender = x.offender; inside = x.inside; wrong = x.wrong; at = refl; none_before = x.none_before }, x.at)

module _ (s : List ℕ) (ls : List Listed) (cs : List ℕ) (f : SetIn s ls cs) (fit : Fitting ls) where
  abbrev ds : List (List ℕ)
  ds = descriptors_of ls

  each : (d : List ℕ) → d ∈ ds → Descriptor d
  each d m = (fit_all ls fit d m).0

  abbrev start : ℕ
  start = header_place f.opened + length (header_with cs (length (flatten ds)))

  -- a layout is wrong to the writer exactly where it is to the reader
  narrow : (d : List ℕ) → d ∈ ds → WrongIn d → WrongLayout audio d
  narrow d m w = ⊎_elim (λ x. x) (λ x. absurd ((fit_all ls fit d m).1 x)) w

  wrong_index : (i : ℕ) → FirstIndex (λ b d. WrongIn d) ds i → FirstIndex (λ b d. WrongLayout audio d) ds i
  wrong_index i x = record {
    offender = x.offender;
    inside = x.inside;
    wrong = narrow (get_or ds x.offender []) (member_at [] ds x.offender x.inside) x.wrong;
    at = x.at;
    none_before = λ j l w. x.none_before j l (inl w);
  }

  index_wrong : (i : ℕ) → FirstIndex (λ b d. WrongLayout audio d) ds i → FirstIndex (λ b d. WrongIn d) ds i
  index_wrong i x = record {
    offender = x.offender;
    inside = x.inside;
    wrong = inl x.wrong;
    at = x.at;
    none_before = λ j l w. let k = x.inside in x.none_before j l (narrow (get_or ds j []) (member_at [] ds j (omega arith)) w);
  }

  opening : Opening f.opened.descriptors
  opening =
      let o = f.opened in
      record { rule4 = o.rule4; before = o.before; control = o.control; tail = o.tail; split = o.split; is_control = o.is_control }

  -- the reader's rows from 8 on
  rows_behind : ℕ → Rows
  unfolding right5 right6
  rows_behind room =
      row 8 (Rule8 ds) (BrokenAt (header_place f.opened) (Rule8 ds)) (λ m.
      row 9 (Recognised audio ds) (Breaks (λ b d. WrongLayout audio d) start ds) (λ l.
      row 17 (NoneWithdrawn audio ds) (Breaks (λ b d. audio.Withdrawn d) start ds) (λ w.
      kept_rows (record { opened = f.opened; rule5 = right5 s ls cs f each; rule6 = right6 s ls cs f each; rule7 = f.rule7; rule8 = m; rule9 = laid_out audio ds l w }) room)))

  reaches : (room : ℕ) → Reaches (table_of_rows s room) (rows_behind room)
  unfolding rows_behind right5 right6 opening
  reaches room =
      let o = f.opened in
      let cut : Rule3 s = (o.descriptors, o.rule3) in
      on o.rule1 (on o.rule2 (on cut (on opening (on (right5 s ls cs f each) (on (right6 s ls cs f each) (on f.rule7 here))))))

  behind_numbered : (room : ℕ) → Numbered (rows_behind room)
  unfolding rows_behind right5 right6
  behind_numbered room =
      (λ e. omega arith, λ a. (λ e. omega arith, λ b. (λ e. omega arith, λ c. (λ e. omega arith, λ d. (λ e. omega arith, λ g. (λ e. omega arith, λ h. (λ e. omega arith, λ i. (λ e. omega arith, λ j. (λ e. omega arith, λ k. (λ e. omega arith, λ l. tt))))))))))

  -- the place of an entity, for the numbers behind 8
  placed : (n i : ℕ) → (n ≡ 8 → ⊥) → reader_place f n i ≡ start + total (take i ds)
  placed n i h = no _ _ (ne_eqb n 8 h)

  -- no layout is wrong, in the writer's words and in the reader's
  recognised : ((d : List ℕ) → d ∈ ds → WrongIn d → ⊥) → Recognised audio ds
  recognised l d j = layout_or d (λ x. l d j (inl x))

  none_wrong : Recognised audio ds → (d : List ℕ) → d ∈ ds → WrongIn d → ⊥
  none_wrong l d j v = let y = narrow d j v in ⊎_elim y.0 y.1 (l d j)

  abbrev Found : ℕ → ℕ → Type 0
  Found n p = (i : ℕ) × EntitiesRefused ls n i × (p ≡ reader_place f n i)

  module _ (room : ℕ) where
    at_place : (W : List (List ℕ) → List ℕ → Type 0) (n i : ℕ) → (n ≡ 8 → ⊥) → FirstIndex W ds i → Breaks W start ds (reader_place f n i)
    at_place W n i h x = subst (λ (p : ℕ). Breaks W start ds p) (sym (placed n i h)) (to_place ds start W i x)

    rows_given : (n i : ℕ) → EntitiesRefused ls n i → FirstBroken (rows_behind room) n (reader_place f n i)
    unfolding rows_behind right5 right6
    rows_given n i (inl (e, (z, k))) = inl (e, (yes _ _ (eq-eqb n 8 e), k))
    rows_given n i (inr (m, inl (e, x))) = inr (m, inl (e, at_place (λ b d. WrongLayout audio d) n i (λ q. omega arith) (wrong_index i x)))
    rows_given n i (inr (m, inr (l, inl (e, x)))) = inr (m, inr (recognised l, inl (e, at_place (λ b d. audio.Withdrawn d) n i (λ q. omega arith) x)))
    rows_given n i (inr (m, inr (l, inr (w, inl (e, x))))) = inr (m, inr (recognised l, inr (w, inl (e, at_place WrongId n i (λ q. omega arith) x))))
    rows_given n i (inr (m, inr (l, inr (w, inr (a, inl (e, x)))))) = inr (m, inr (recognised l, inr (w, inr (a, inl (e, at_place (λ b d. WrongSources audio ds d) n i (λ q. omega arith) x)))))
    rows_given n i (inr (m, inr (l, inr (w, inr (a, inr (b, inl (e, x))))))) = inr (m, inr (recognised l, inr (w, inr (a, inr (b, inl (e, at_place (λ b d. Endless audio ds d) n i (λ q. omega arith) x))))))
    rows_given n i (inr (m, inr (l, inr (w, inr (a, inr (b, inr (c, inl (e, x)))))))) = inr (m, inr (recognised l, inr (w, inr (a, inr (b, inr (c, inl (e, at_place (λ b d. Broken audio ds d) n i (λ q. omega arith) x)))))))
    rows_given n i (inr (m, inr (l, inr (w, inr (a, inr (b, inr (c, inr (r, x)))))))) = absurd x

    at_index : (W : List (List ℕ) → List ℕ → Type 0) (n p : ℕ) → (n ≡ 8 → ⊥) → Breaks W start ds p → ((i : ℕ) → FirstIndex W ds i → EntitiesRefused ls n i) → Found n p
    at_index W n p h b make = let x = to_index ds start W p b in (x.0, make x.0 x.1, x.2 ∙ sym (placed n x.0 h))

    rows_only : (n p : ℕ) → OfEntities n → FirstBroken (rows_behind room) n p → Found n p
    unfolding rows_behind right5 right6
    rows_only n p z (inl (e, (q, k))) = (0, inl (e, (refl, k)), q ∙ sym (yes _ _ (eq-eqb n 8 e)))
    rows_only n p z (inr (m, inl (e, x))) = at_index (λ b d. WrongLayout audio d) n p (λ q. omega arith) x (λ i y. inr (m, inl (e, index_wrong i y)))
    rows_only n p z (inr (m, inr (l, inl (e, x)))) = at_index (λ b d. audio.Withdrawn d) n p (λ q. omega arith) x (λ i y. inr (m, inr (none_wrong l, inl (e, y))))
    rows_only n p z (inr (m, inr (l, inr (w, inl (e, x))))) = at_index WrongId n p (λ q. omega arith) x (λ i y. inr (m, inr (none_wrong l, inr (w, inl (e, y)))))
    rows_only n p z (inr (m, inr (l, inr (w, inr (a, inl (e, x)))))) = at_index (λ b d. WrongSources audio ds d) n p (λ q. omega arith) x (λ i y. inr (m, inr (none_wrong l, inr (w, inr (a, inl (e, y))))))
    rows_only n p z (inr (m, inr (l, inr (w, inr (a, inr (b, inl (e, x))))))) = at_index (λ b d. Endless audio ds d) n p (λ q. omega arith) x (λ i y. inr (m, inr (none_wrong l, inr (w, inr (a, inr (b, inl (e, y)))))))
    rows_only n p z (inr (m, inr (l, inr (w, inr (a, inr (b, inr (c, inl (e, x)))))))) = at_index (λ b d. Broken audio ds d) n p (λ q. omega arith) x (λ i y. inr (m, inr (none_wrong l, inr (w, inr (a, inr (b, inr (c, inl (e, y))))))))
    rows_only n p z (inr (m, inr (l, inr (w, inr (a, inr (b, inr (c, inr (r, inl (e, x))))))))) = absurd (⊎_elim (λ y. let h = y.1 in omega arith) (λ y. omega arith) z)
    rows_only n p z (inr (m, inr (l, inr (w, inr (a, inr (b, inr (c, inr (r, inr (g, inl (e, x)))))))))) = absurd (⊎_elim (λ y. let h = y.1 in omega arith) (λ y. omega arith) z)
    rows_only n p z (inr (m, inr (l, inr (w, inr (a, inr (b, inr (c, inr (r, inr (g, inr (h, inl (e, x))))))))))) = absurd (⊎_elim (λ y. let h = y.1 in omega arith) (λ y. omega arith) z)
    rows_only n p z (inr (m, inr (l, inr (w, inr (a, inr (b, inr (c, inr (r, inr (g, inr (h, inr (k, x))))))))))) = absurd x

    reader_gives : (n i : ℕ) → EntitiesRefused ls n i → Refused s room n (reader_place f n i)
    reader_gives n i x = reach_broken (reaches room) n (reader_place f n i) (rows_given n i x)

    only_these : (n p : ℕ) → OfEntities n → Refused s room n p → Found n p
    only_these n p z x =
        let some : n ≡ 0 → ⊥ = λ e. ⊎_elim (λ y. let h = y.0 in omega arith) (λ y. omega arith) z in
        rows_only n p z
        ((answers_broken (rows_behind room) (verdict_of s room) (behind_numbered room) (reach_answers (reaches room) (verdict_of s room) (answers s room)) n p some).0 ((refused_exactly s room n p some).1 x))

  pub as_reader : AsReader f
  as_reader = record { given = reader_gives; only = only_these }
