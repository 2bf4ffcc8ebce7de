-- "First" is by place, an offset from the first byte (document 01). A rule on descriptors says what is wrong with one, given
-- those that stand before it; what the reader computes is the place of the first that is wrong. The two are tied here, for any rule.
--   first_from t p b ds ==  the place of the first of ds that the test t holds of, where ds begin at place p behind the descriptors b
--   Breaks w p ds q    ==  q is the place of the first of ds that is wrong by w, where ds begin at place p
--   Sound w ds         ==  none of ds is wrong by w
--   first_here, first_on, first_end  ==  the search, one descriptor at a time
--   first_nowhere, first_at  ==  THE LAWS, for a test that reads a rule: the search answers nowhere exactly where nothing is wrong,
--                          and a place exactly where that is the first offender's
--   is_before r at      ==  a search answered a place before at
--   first_before       ==  the first of x then y that passes stands before y exactly where one of x passes
--   sound_each         ==  where what is wrong does not hang on what stands before: nothing is wrong exactly where no descriptor is
--   sound_none, first_none_any, first_at_any  ==  the same for a test, by whether any descriptor passes it
use Rattle.std.specs.Prelude.{ℕ, ◌+◌, ◌≤◌, ◌<◌, ◌≡◌, Bool, true, false, ◌||◌, ◌↔◌, ltb, Option, Some, None}
use Rattle.std.proofs.Math.Path.{refl, ap}
use Rattle.std.proofs.Common.{sym, ◌∙◌, le-ltb, lt-ltb, arith, add-zero, add_assoc}
use mathlib.Core.List.{List, [], ◌∷◌, ◌++◌, append-nil, Memᴰ, head-eq_of_cons-eq, tail-eq_of_cons-eq, nil≢cons}
use Rattle.std.proofs.Math.ListN.{length}
use Rattle.std.proofs.Math.Seq.{append_snoc}
use Rattle.ground.specs.Pick.{pick, yes, no, Reads, reads_true, shows, refutes}
use Rattle.ground.specs.Lists.{total, any, reads_any, split_of, of_split}

unfoldable pub first_from : (List (List ℕ) → List ℕ → Bool) → ℕ → List (List ℕ) → List (List ℕ) → Option ℕ
first_from t p b [] = None
first_from t p b (d ∷ ds) = pick (t b d) (Some p) (first_from t (p + length d) (b ++ d ∷ []) ds)

pub first_here : (t : List (List ℕ) → List ℕ → Bool) (p : ℕ) (b : List (List ℕ)) (d : List ℕ) (ds : List (List ℕ)) → t b d ≡ true
    → first_from t p b (d ∷ ds) ≡ Some p
unfolding first_from
first_here t p b d ds e = yes _ _ e

pub first_on : (t : List (List ℕ) → List ℕ → Bool) (p : ℕ) (b : List (List ℕ)) (d : List ℕ) (ds : List (List ℕ)) → t b d ≡ false
    → first_from t p b (d ∷ ds) ≡ first_from t (p + length d) (b ++ d ∷ []) ds
unfolding first_from
first_on t p b d ds e = no _ _ e

pub first_end : (t : List (List ℕ) → List ℕ → Bool) (p : ℕ) (b : List (List ℕ)) → first_from t p b [] ≡ None
unfolding first_from
first_end t p b = refl

no_split : (x : List (List ℕ)) (d : List ℕ) (y : List (List ℕ)) → [] ≡ x ++ d ∷ y → ⊥
no_split [] d y q = nil≢cons q
no_split (e ∷ x) d y q = nil≢cons q

module _ (Wrong : List (List ℕ) → List ℕ → Type 0) where
  unfoldable pub Sound : List (List ℕ) → Type 0
  Sound ds = (x : List (List ℕ)) (d : List ℕ) (y : List (List ℕ)) → ds ≡ x ++ d ∷ y → Wrong x d → ⊥

  pub record Breaks (p : ℕ) (ds : List (List ℕ)) (q : ℕ) : Type 0 where
    pub before : List (List ℕ)
    pub offender : List ℕ
    pub after : List (List ℕ)
    pub split : ds ≡ before ++ offender ∷ after
    pub wrong : Wrong before offender
    pub place : q ≡ p + total before
    pub none_before : Sound before

module _ (t : List (List ℕ) → List ℕ → Bool) (Wrong : List (List ℕ) → List ℕ → Type 0) (reads : (b : List (List ℕ)) (d : List ℕ) → Reads (t b d) (Wrong b d)) where
  -- what is wrong with a descriptor that stands behind b and then x
  abbrev Behind : List (List ℕ) → List (List ℕ) → List ℕ → Type 0
  Behind b x d = Wrong (b ++ x) d

  at_nowhere : (p : ℕ) (b : List (List ℕ)) (ds : List (List ℕ)) → Sound (Behind b) ds → first_from t p b ds ≡ None
  unfolding Sound
  at_nowhere p b [] h = first_end t p b
  at_nowhere p b (d ∷ ds) h =
      first_on t p b d ds (refutes (reads b d) (λ v. h [] d ds refl (rw append-nil v)))
      ∙ at_nowhere (p + length d) (b ++ d ∷ []) ds (λ x e y q v. h (d ∷ x) e y (ap (λ (l : List (List ℕ)). d ∷ l) q) (rw append_snoc at v))

  at_place : (p : ℕ) (b : List (List ℕ)) (x : List (List ℕ)) (d : List ℕ) (y : List (List ℕ)) → Behind b x d → Sound (Behind b) x
      → first_from t p b (x ++ d ∷ y) ≡ Some (p + total x)
  unfolding Sound total
  at_place p b [] d y w h = first_here t p b d y (shows (reads b d) (rw append-nil at w)) ∙ ap Some (sym (add-zero p))
  at_place p b (e ∷ x) d y w h =
      first_on t p b e (x ++ d ∷ y) (refutes (reads b e) (λ v. h [] e x refl (rw append-nil v)))
      ∙ at_place (p + length e) (b ++ e ∷ []) x d y (rw append_snoc w) (λ x' e' y' q v. h (e ∷ x') e' y' (ap (λ (l : List (List ℕ)). e ∷ l) q) (rw append_snoc at v))
      ∙ ap Some (add_assoc p (length e) (total x))

  -- what the search finds is the first offender; where it finds nothing there is none
  data Told (p : ℕ) (b ds : List (List ℕ)) : Option ℕ → Type 0 where
    nothing : Sound (Behind b) ds → Told p b ds None
    found : {q : ℕ} → Breaks (Behind b) p ds q → Told p b ds (Some q)

  told : (p : ℕ) (b : List (List ℕ)) (ds : List (List ℕ)) → Told p b ds (first_from t p b ds)
  unfolding Sound first_from total
  told p b [] = nothing (λ x d y q v. no_split x d y q)
  told p b (d ∷ ds) = go (t b d) (reads b d) (told (p + length d) (b ++ d ∷ []) ds)
    where
      sound_more : (Wrong b d → ⊥) → {x : List (List ℕ)} → Sound (Behind (b ++ d ∷ [])) x → Sound (Behind b) (d ∷ x)
      sound_more n h [] e y q v = n (rw (head-eq_of_cons-eq q) (rw append-nil at v))
      sound_more n h (f ∷ x) e y q v = let g : d ≡ f = head-eq_of_cons-eq q in h x e y (tail-eq_of_cons-eq q) (rw append_snoc (rw g v))

      later : (Wrong b d → ⊥) → {r : Option ℕ} → Told (p + length d) (b ++ d ∷ []) ds r → Told p b (d ∷ ds) r
      later n (nothing h) = nothing (sound_more n h)
      later n (found k) =
          let m = k.place in
          found (record {
            before = d ∷ k.before;
            offender = k.offender;
            after = k.after;
            split = ap (λ (l : List (List ℕ)). d ∷ l) k.split;
            wrong = rw append_snoc at k.wrong;
            place = m ∙ add_assoc p (length d) (total k.before);
            none_before = sound_more n k.none_before;
          })

      go : (c : Bool) → Reads c (Wrong b d) → Told (p + length d) (b ++ d ∷ []) ds (first_from t (p + length d) (b ++ d ∷ []) ds)
          → Told p b (d ∷ ds) (pick c (Some p) (first_from t (p + length d) (b ++ d ∷ []) ds))
      go true r k =
          found (record {
            before = [];
            offender = d;
            after = ds;
            split = refl;
            wrong = rw append-nil (r.says refl);
            place = sym (add-zero p);
            none_before = λ x e y q v. no_split x e y q;
          })
      go false r k = later (r.denies refl) k

  pub first_nowhere : (p : ℕ) (ds : List (List ℕ)) → (first_from t p [] ds ≡ None) ↔ Sound Wrong ds
  first_nowhere p ds = (λ e. of (told p [] ds) e, at_nowhere p [] ds)
    where
      of : {r : Option ℕ} → Told p [] ds r → r ≡ None → Sound Wrong ds
      of (nothing h) e = h
      of (found k) e = let z : ◌≡◌ {A = ℕ} 0 1 = cc in absurd (omega arith)

  pub first_at : (p : ℕ) (ds : List (List ℕ)) (q : ℕ) → (first_from t p [] ds ≡ Some q) ↔ Breaks Wrong p ds q
  first_at p ds q = (λ e. of (told p [] ds) e, to)
    where
      of : {r : Option ℕ} → Told p [] ds r → r ≡ Some q → Breaks Wrong p ds q
      of (nothing h) e = let z : ◌≡◌ {A = ℕ} 0 1 = cc in absurd (omega arith)
      of (found {q = q'} k) e = let z : q' ≡ q = cc in rw (← z) k

      to : Breaks Wrong p ds q → first_from t p [] ds ≡ Some q
      to k = rw k.split (at_place p [] k.before k.offender k.after k.wrong k.none_before ∙ ap Some (sym k.place))

-- a search that began at p comes to no place before p
first_not_before : (t : List (List ℕ) → List ℕ → Bool) (p : ℕ) (b ds : List (List ℕ)) (q : ℕ) → first_from t p b ds ≡ Some q → p ≤ q
unfolding first_from
first_not_before t p b [] q e = let y : ◌≡◌ {A = ℕ} 0 1 = cc in absurd (omega arith)
first_not_before t p b (d ∷ ds) q e = go (t b d) refl (λ h. first_not_before t (p + length d) (b ++ d ∷ []) ds q h)
  where
    go : (c : Bool) → t b d ≡ c → (first_from t (p + length d) (b ++ d ∷ []) ds ≡ Some q → p + length d ≤ q) → p ≤ q
    go true h ih = let z : Some p ≡ Some q = sym (first_here t p b d ds h) ∙ e in let y : p ≡ q = cc in omega arith
    go false h ih = let l = ih (sym (first_on t p b d ds h) ∙ e) in omega arith

unfoldable pub is_before : Option ℕ → ℕ → Bool
is_before None at = false
is_before (Some q) at = ltb q at

pub first_before : (t : List ℕ → Bool) (p : ℕ) (b x y : List (List ℕ)) → ((d : List ℕ) → Memᴰ d x → 0 < length d)
    → is_before (first_from (λ b d. t d) p b (x ++ y)) (p + total x) ≡ any t x
unfolding is_before any total
first_before t p b [] y h = go (first_from (λ b d. t d) p b y) refl
  where
    go : (r : Option ℕ) → first_from (λ b d. t d) p b y ≡ r → is_before r (p + 0) ≡ false
    go None e = refl
    go (Some q) e = let l = first_not_before (λ b d. t d) p b y q e in le-ltb q (p + 0) (omega arith)
first_before t p b (d ∷ x) y h = go (t d) refl (first_before t (p + length d) (b ++ d ∷ []) x y (λ e m. h e (Memᴰ.tail m)))
  where
    go : (c : Bool) → t d ≡ c → is_before (first_from (λ b d. t d) (p + length d) (b ++ d ∷ []) (x ++ y)) (p + length d + total x) ≡ any t x
        → is_before (first_from (λ b d. t d) p b (d ∷ (x ++ y))) (p + (length d + total x)) ≡ t d || any t x
    go true q ih = rw (first_here (λ b d. t d) p b d (x ++ y) q, q) (let l = h d (Memᴰ.head refl) in lt-ltb p (p + (length d + total x)) (omega arith))
    go false q ih = rw (first_on (λ b d. t d) p b d (x ++ y) q, q, ← (add_assoc p (length d) (total x))) ih

pub sound_each : (Wrong : List ℕ → Type 0) (ds : List (List ℕ)) → Sound (λ b d. Wrong d) ds ↔ ((d : List ℕ) → Memᴰ d ds → Wrong d → ⊥)
unfolding Sound
sound_each Wrong ds = (λ h d m. let k = split_of m in h k.0 d k.1 k.2, λ h x d y e. h d (rw e (of_split x d y)))

pub sound_none : (t : List ℕ → Bool) (ds : List (List ℕ)) → Sound (λ b d. t d ≡ true) ds → any t ds ≡ false
sound_none t ds h = refutes (reads_any t (λ d. t d ≡ true) (λ d. reads_true (t d)) ds) (λ k. (sound_each (λ d. t d ≡ true) ds).0 h k.one k.among k.has)

-- a search by a test that does not look at what stands before
pub first_none_any : (t : List ℕ → Bool) (p : ℕ) (ds : List (List ℕ)) → first_from (λ b d. t d) p [] ds ≡ None → any t ds ≡ false
first_none_any t p ds e = sound_none t ds ((first_nowhere (λ b d. t d) (λ b d. t d ≡ true) (λ b d. reads_true (t d)) p ds).0 e)

pub first_at_any : (t : List ℕ → Bool) (p : ℕ) (ds : List (List ℕ)) (q : ℕ) → first_from (λ b d. t d) p [] ds ≡ Some q → any t ds ≡ true
first_at_any t p ds q e = of ((first_at (λ b d. t d) (λ b d. t d ≡ true) (λ b d. reads_true (t d)) p ds q).0 e)
  where
    of : Breaks (λ b d. t d ≡ true) p ds q → any t ds ≡ true
    of k = rw k.split (shows (reads_any t (λ d. t d ≡ true) (λ d. reads_true (t d)) _) (record { one = k.offender; among = of_split k.before k.offender k.after; has = k.wrong }))
