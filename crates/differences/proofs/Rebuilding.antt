-- The right sheet's set of records, built again from the left one's records and the lines.
--   own_record     ==  the record of an ID in a sheet is the one that bears it
--   rebuilt_right  ==  THE THEOREM, for every two sheets
use Prim.Native.Nat.{ℕ, ◌≤◌, ◌<◌}
use mathlib.Core.Path.{◌≡◌, refl, sym, ap, ◌∙◌}
use mathlib.Core.Bool.{Bool, true, false}
use mathlib.Core.Option.{Option, none, some}
use mathlib.Core.Logic.{◌⊎◌, inl, inr, ⊎_elim}
use mathlib.Core.List.Memᴰ
use mathlib.Core.List.{List, [], ◌∷◌, ◌++◌, map}
use lib.Dec.{eqb}
use Rattle.ground.specs.Pick.{pick, Reads, reads_eq, refutes, true≠false}
use Rattle.ground.specs.Numbers.{Bytes}
use Rattle.ground.specs.Lists.{SomeOf, reads_any}
use Rattle.graph.specs.Members.{◌∈◌, along}
use Rattle.legal.specs.Sheet.{records_in, id_of, Sheet}
use Rattle.differences.specs.Mended.{mended}
use Rattle.differences.specs.Lines.{Line, line_id, last_id, record_bearing, line_at, lines_of}
use Rattle.differences.specs.Rebuilt.{Handed, handed, OwnRecord, touched, untouched, if_any, brought, rebuilt, Rebuilt}
use Rattle.differences.specs.LinesLaws.{line_own}
use Rattle.differences.specs.InTurn.{of_turn}
use Rattle.differences.proofs.Records.{found_is, record_found, id_above, id_below}
use Rattle.differences.proofs.Exactly.{line_there, stays, stood}

in_untouched : (rs : List (List ℕ)) (hs : List Handed) {a : List ℕ} → a ∈ rs → touched hs a ≡ false → a ∈ untouched rs hs
unfolding untouched
in_untouched [] hs m e = absurd (Memᴰ.not-nil m)
in_untouched (c ∷ rs) hs {a} m e = go (touched hs c) refl (Memᴰ.cases_cons m) (λ k. in_untouched rs hs k e)
  where
    go : (b : Bool) → touched hs c ≡ b → (a ≡ c) ⊎ (a ∈ rs) → (a ∈ rs → a ∈ untouched rs hs) → a ∈ pick b (untouched rs hs) (c ∷ untouched rs hs)
    go true q (inl p) ih = absurd (true≠false (sym q ∙ ap (touched hs) (sym p) ∙ e))
    go true q (inr k) ih = ih k
    go false q (inl p) ih = Memᴰ.head p
    go false q (inr k) ih = Memᴰ.tail (ih k)

of_untouched : (rs : List (List ℕ)) (hs : List Handed) {a : List ℕ} → a ∈ untouched rs hs → a ∈ rs × (touched hs a ≡ false)
unfolding untouched
of_untouched [] hs m = absurd (Memᴰ.not-nil m)
of_untouched (c ∷ rs) hs {a} m = go (touched hs c) refl m (λ k. of_untouched rs hs k)
  where
    go : (b : Bool) → touched hs c ≡ b → a ∈ pick b (untouched rs hs) (c ∷ untouched rs hs) → (a ∈ untouched rs hs → a ∈ rs × (touched hs a ≡ false))
        → a ∈ (c ∷ rs) × (touched hs a ≡ false)
    go true q k ih = let r = ih k in (Memᴰ.tail r.0, r.1)
    go false q k ih = ⊎_elim (λ (p : a ≡ c). (Memᴰ.head p, ap (touched hs) p ∙ q)) (λ k'. let r = ih k' in (Memᴰ.tail r.0, r.1)) (Memᴰ.cases_cons k)

in_brought : {hs : List Handed} {h : Handed} {b : List ℕ} → h ∈ hs → h.after ≡ some b → b ∈ brought hs
unfolding brought
in_brought {hs = k ∷ hs} {h} {b} m e =
    ⊎_elim
    (λ (q : h ≡ k). Memᴰ.append_left (brought hs) (along (ap if_any (sym e ∙ ap (λ (x : Handed). x.after) q)) (Memᴰ.head refl)))
    (λ n. Memᴰ.append_right (if_any k.after) (in_brought n e))
    (Memᴰ.cases_cons m)
in_brought {hs = []} m e = absurd (Memᴰ.not-nil m)

of_brought : (hs : List Handed) {b : List ℕ} → b ∈ brought hs → (h : Handed) × h ∈ hs × (h.after ≡ some b)
unfolding brought
of_brought [] m = absurd (Memᴰ.not-nil m)
of_brought (k ∷ hs) {b} m =
    ⊎_elim
    (λ (n : b ∈ if_any k.after). (k, Memᴰ.head refl, held k.after n))
    (λ n. let r = of_brought hs n in (r.0, Memᴰ.tail r.1, r.2))
    (Memᴰ.append_cases (if_any k.after) m)
  where
    held : (x : Option (List ℕ)) → b ∈ if_any x → x ≡ some b
    held none n = absurd (Memᴰ.not-nil n)
    held (some c) n = ⊎_elim (λ (e : b ≡ c). ap (λ (d : List ℕ). some d) (sym e)) (λ t. absurd (Memᴰ.not-nil t)) (Memᴰ.cases_cons n)

pub own_record : (r : List ℕ) → Sheet r → OwnRecord r
own_record r right i b = (λ e. found_is r i e, λ m. ap (record_bearing r) (sym m.1) ∙ record_found r right m.0)

module _ (l r : List ℕ) where
  abbrev given : List Handed
  given = handed r (lines_of l r)

  abbrev hand : Line → Handed
  hand x = record { line = x; after = record_bearing r (line_id x) }

  -- whether a line names the ID of a record
  reads_touched : (a : List ℕ) → Reads (touched given a) (SomeOf (λ h. line_id h.line ≡ id_of a) given)
  reads_touched a = reads_any (λ h. eqb (line_id h.line) (id_of a)) (λ h. line_id h.line ≡ id_of a) (λ h. reads_eq (line_id h.line) (id_of a)) given

  unnamed : (a : List ℕ) → touched given a ≡ false → (x : Line) → x ∈ lines_of l r → line_id x ≡ id_of a → ⊥
  unnamed a e x m q = (reads_touched a).denies e (record { one = hand x; among = Memᴰ.map hand m; has = q })

  not_touched : (a : List ℕ) → ((x : Line) → x ∈ lines_of l r → line_id x ≡ id_of a → ⊥) → touched given a ≡ false
  not_touched a f = refutes (reads_touched a) no
    where
      no : SomeOf (λ h. line_id h.line ≡ id_of a) given → ⊥
      no s = let k = Memᴰ.of_map hand (lines_of l r) s.among in f k.0 k.1 (ap (λ (h : Handed). line_id h.line) k.2 ∙ s.has)

  -- the line of an ID, or that it has none
  line_or_none : (i : ℕ) → 0 < i → i ≤ last_id → ((x : Line) × x ∈ lines_of l r × (line_id x ≡ i)) ⊎ ((x : Line) → x ∈ lines_of l r → line_id x ≡ i → ⊥)
  unfolding lines_of
  line_or_none i p q = go (line_at l r i) refl
    where
      none_there : line_at l r i ≡ [] → (x : Line) → x ∈ lines_of l r → line_id x ≡ i → ⊥
      none_there e x m o =
          let j = of_turn (line_at l r) 1 last_id m in
          let k : j.0 ≡ i = sym (line_own l r j.0 x j.3) ∙ o in
          Memᴰ.not-nil (along (ap (line_at l r) k ∙ e) j.3)

      go : (xs : List Line) → line_at l r i ≡ xs → ((x : Line) × x ∈ lines_of l r × (line_id x ≡ i)) ⊎ ((x : Line) → x ∈ lines_of l r → line_id x ≡ i → ⊥)
      go [] e = inr (none_there e)
      go (x ∷ xs) e = let m : x ∈ line_at l r i = along (sym e) (Memᴰ.head refl) in inl (x, line_there l r i p q m, line_own l r i x m)

  module _ (left : Sheet l) (right : Sheet r) (lb : Bytes l) (rb : Bytes r) where
    pub rebuilt_right : Rebuilt l r
    unfolding rebuilt
    rebuilt_right a = (to, from)
      where
        kept : {b : List ℕ} → b ∈ untouched (records_in l) given → mended b ∈ map mended (records_in r)
        kept {b} m = let k = of_untouched (records_in l) given m in stays l r left right lb rb k.0 (unnamed b k.1)

        handed_over : {b : List ℕ} → b ∈ brought given → mended b ∈ map mended (records_in r)
        handed_over m =
            let h = of_brought given m in
            let x = Memᴰ.of_map hand (lines_of l r) h.1 in
            Memᴰ.map mended (found_is r (line_id x.0) (ap (λ (k : Handed). k.after) x.2 ∙ h.2)).0

        to : a ∈ map mended (untouched (records_in l) given ++ brought given) → a ∈ map mended (records_in r)
        to m =
            let k = Memᴰ.of_map mended (untouched (records_in l) given ++ brought given) m in
            rw k.2 at (⊎_elim kept handed_over (Memᴰ.append_cases (untouched (records_in l) given) k.1))

        back : {b : List ℕ} → b ∈ records_in r → mended b ∈ map mended (untouched (records_in l) given ++ brought given)
        back {b} m =
            ⊎_elim
            (λ (x : (x : Line) × x ∈ lines_of l r × (line_id x ≡ id_of b)).
            Memᴰ.map mended (Memᴰ.append_right (untouched (records_in l) given) (in_brought (Memᴰ.map hand x.1) (ap (record_bearing r) x.2 ∙ record_found r right m))))
            (λ f.
            let o = stood l r left right lb rb m f in
            rw o.3 at (Memᴰ.map mended (Memᴰ.append_left (brought given) (in_untouched (records_in l) given o.1 (not_touched o.0 (λ x k q. f x k (q ∙ o.2)))))))
            (line_or_none (id_of b) (id_above r right m) (id_below r rb m))

        from : a ∈ map mended (records_in r) → a ∈ map mended (untouched (records_in l) given ++ brought given)
        from m = let k = Memᴰ.of_map mended (records_in r) m in rw k.2 at (back k.1)
