-- Laws of what stands beside it in specs.
--   grown_made, made_along       ==  along a grown order, and so along the order, clusters are made by the rule
--   grown_one, made_one  ==  .. and are those of any other clusters that are
--   enters_one           ==  .. which enter each of its indices too
--   given_stays          ==  what the first k of a grown order have given out, the rest leave
--   enters_early         ==  .. so what enters the index at k is there when its turn comes
use Rattle.std.specs.Prelude.{ℕ, suc, ◌<◌, ◌≡◌, ◌⊎◌, eqb, length, get_or, take}
use Rattle.std.proofs.Math.Path.{refl}
use Rattle.std.proofs.Common.{sym, ap, ◌∙◌, inl, inr, ⊎_elim, take-suc, eq-eqb, ne_eqb}
use mathlib.Core.List.Memᴰ
use mathlib.Core.List.{List, [], ◌∷◌, map}
use Rattle.ground.specs.Pick.{pick, yes, no}
use Rattle.ground.specs.Lists.{take_in}
use Rattle.graph.specs.Members.{◌∈◌, map_same}
use Rattle.graph.specs.Passes.{borne, order_of}
use Rattle.graph.specs.Grown.{with, with_cases, with_last, borne_cases, Grown, none, more, grown_source, grown_take, grown_at}
use Rattle.graph.proofs.GrownLemmas.{order_grown}
use Rattle.graph.specs.Along.{put, put_at, put_other, enters, gives, given, given_with, Made, given_out}

module _ {C : Type 0} (ids : ℕ → ℕ) (sources : ℕ → List ℕ) (rule : ℕ → List C → C) where
  -- what an ID gives out that is not borne yet changes nothing at those that are
  apart : (c : ℕ → C) (o : List ℕ) (x : ℕ) (v : C) → (x ∈ borne ids o → ⊥) → (y : ℕ) → y ∈ borne ids o → put c x v y ≡ c y
  apart c o x v f y m = put_other c x v y (λ e. f (Memᴰ.cast (sym e) m))

  pub grown_made : {n : ℕ} (c : ℕ → C) {o : List ℕ} → Grown ids sources n o → (Made ids sources rule) o ((given ids sources rule) c o)
  grown_made c none i m = absurd (Memᴰ.not-nil m)
  grown_made c (more {o} {i = j} g l h) i m = rw ((given_with ids sources rule) c o j) (go (λ a. grown_made c g i a) (with_cases m))
    where
      now : ℕ → C
      now = (given ids sources rule) c o

      next : ℕ → C
      next = put ((given ids sources rule) c o) (ids j) (gives sources rule ((given ids sources rule) c o) j)

      same : (x : ℕ) → x ∈ borne ids o → next x ≡ now x
      same = apart ((given ids sources rule) c o) o (ids j) (gives sources rule ((given ids sources rule) c o) j) h.0

      gives_same : (k : ℕ) → ((x : ℕ) → x ∈ sources k → x ∈ borne ids o) → gives sources rule now k ≡ gives sources rule next k
      gives_same k s = ap (rule k) (map_same now next (sources k) (λ x a. sym (same x (s x a))))

      go : (i ∈ o → now (ids i) ≡ gives sources rule now i) → (i ∈ o) ⊎ (i ≡ j) → next (ids i) ≡ gives sources rule next i
      go later (inl a) = same (ids i) (Memᴰ.map ids a) ∙ later a ∙ gives_same i (λ x s. grown_source g a s)
      go later (inr e) =
          ap (λ (k : ℕ). next (ids k)) e ∙ put_at ((given ids sources rule) c o) (ids j) (gives sources rule ((given ids sources rule) c o) j) ∙ gives_same j h.1 ∙ ap (gives sources rule next) (sym e)

  pub grown_one : {n : ℕ} (c d : ℕ → C) {o : List ℕ} → Grown ids sources n o → (Made ids sources rule) o d → (x : ℕ) → x ∈ borne ids o → d x ≡ (given ids sources rule) c o x
  grown_one c d none made x m = absurd (Memᴰ.not-nil m)
  grown_one c d (more {o} {i = j} g l h) made x m =
      let before : (y : ℕ) → y ∈ borne ids o → d y ≡ (given ids sources rule) c o y = λ y a. grown_one c d g (λ i b. made i (Memᴰ.append_left (j ∷ []) b)) y a in
      rw ((given_with ids sources rule) c o j)
      (⊎_elim
      (λ a. before x a ∙ sym (apart ((given ids sources rule) c o) o (ids j) (gives sources rule ((given ids sources rule) c o) j) h.0 x a))
      (λ e.
      ap d e
      ∙ made j (with_last o j)
      ∙ ap (rule j) (map_same d ((given ids sources rule) c o) (sources j) (λ y s. before y (h.1 y s)))
      ∙ sym (put_at ((given ids sources rule) c o) (ids j) (gives sources rule ((given ids sources rule) c o) j))
      ∙ ap (put ((given ids sources rule) c o) (ids j) (gives sources rule ((given ids sources rule) c o) j)) (sym e))
      (borne_cases ids o j m))

  pub enters_one : {n : ℕ} (c d : ℕ → C) {o : List ℕ} → Grown ids sources n o → (Made ids sources rule) o d → (i : ℕ) → i ∈ o
      → enters sources d i ≡ enters sources ((given ids sources rule) c o) i
  enters_one c d {o} g made i m = map_same d ((given ids sources rule) c o) (sources i) (λ x s. grown_one c d g made x (grown_source g m s))

  module _ {n : ℕ} (c : ℕ → C) {o : List ℕ} (g : Grown ids sources n o) (k : ℕ) where
    pub given_stays : (x : ℕ) → x ∈ borne ids (take k o) → (given ids sources rule) c o x ≡ (given ids sources rule) c (take k o) x
    given_stays = grown_one c ((given ids sources rule) c o) (grown_take k g) (λ i m. grown_made c g i (take_in k m))

    pub enters_early : k < length o → enters sources ((given ids sources rule) c (take k o)) (get_or o k 0) ≡ enters sources ((given ids sources rule) c o) (get_or o k 0)
    enters_early l = map_same ((given ids sources rule) c (take k o)) ((given ids sources rule) c o) (sources (get_or o k 0)) (λ x s. sym (given_stays x ((grown_at g k l).1.1 x s)))

  module _ (c : ℕ → C) (n : ℕ) where
    pub made_along : (Made ids sources rule) (order_of ids sources n) (given_out ids sources rule c n)
    made_along = grown_made c (order_grown ids sources n)

    pub made_one : (d : ℕ → C) → (Made ids sources rule) (order_of ids sources n) d → (i : ℕ) → i ∈ order_of ids sources n → d (ids i) ≡ (given_out ids sources rule c n) (ids i)
    made_one d made i m = grown_one c d (order_grown ids sources n) made (ids i) (Memᴰ.map ids m)
