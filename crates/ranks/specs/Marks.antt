-- Marks by ID: an array of 256 that tells which IDs are borne in an order, filled as entities join.
--   Marks ids o marks  ==  the marks tell which IDs the indices of o bear
--   marks_none         ==  no mark: no index
--   marks_more         ==  one mark more, for one index more
--   marks_table        ==  the marks are the table of what is borne
--   marks_joins        ==  by the marks an entity may join exactly where it may join the order
use Rattle.std.specs.Prelude.{ℕ, zero, suc, ◌<◌, ◌≡◌, refl, List, [], Bool, true, false, ◌&&◌, eqb, length, get_or, set, replicate}
use Rattle.std.proofs.Common.{sym, ap, ◌∙◌, ⊎_elim, arith, length-set, get_or-set_same, get_or-set_other, ext_get_or}
use Rattle.std.proofs.Math.Bool.{not}
use Rattle.ground.specs.Pick.{decided, reads_eq}
use Rattle.graph.specs.Members.{all_same, mem, mem_in, mem_same}
use Rattle.graph.specs.Tables.{tabulate, get_d_tabulate, length_tabulate}
use Rattle.graph.specs.Passes.{borne, joins}
use Rattle.graph.specs.Grown.{with, borne_more, borne_last, borne_cases}
use Rattle.entities.specs.declared.Node.{Node}
use Rattle.entities.specs.Run.{sources_of}
use Rattle.ranks.specs.Order.{marked, fresh}

pub record Marks (ids : ℕ → ℕ) (o : List ℕ) (marks : List Bool) : Type 0 where
  pub long : length marks ≡ 256
  pub hold : (x : ℕ) → marked marks x ≡ mem x (borne ids o)

none_marked : (k x : ℕ) → get_or (replicate k false) x false ≡ false
none_marked zero x = refl
none_marked (suc k) zero = refl
none_marked (suc k) (suc x) = none_marked k x

pub marks_none : (ids : ℕ → ℕ) → Marks ids [] (replicate 256 false)
unfolding mem
marks_none ids = record { long = refl; hold = none_marked 256 }

module _ (ids : ℕ → ℕ) (o : List ℕ) (marks : List Bool) (h : Marks ids o marks) where
  pub marks_more : (i : ℕ) → ids i < 256 → Marks ids (with o i) (set marks (ids i) true)
  marks_more i l = record {
    long = length-set marks (ids i) true ∙ h.long;
    hold = λ x. ⊎_elim (here x) (other x) (decided (eqb x (ids i)) (reads_eq x (ids i)));
  }
    where
      here : (x : ℕ) → x ≡ ids i → marked (set marks (ids i) true) x ≡ mem x (borne ids (with o i))
      here x e =
          let n = h.long in
          let m : ids i < length marks = omega arith in
          rw e (get_or-set_same marks (ids i) true false m ∙ sym (mem_in (borne_last ids o i)))

      other : (x : ℕ) → (x ≡ ids i → ⊥) → marked (set marks (ids i) true) x ≡ mem x (borne ids (with o i))
      other x f =
          get_or-set_other marks (ids i) x true false f ∙ h.hold x
          ∙ mem_same x (borne ids o) (borne ids (with o i)) (borne_more ids o i) (λ m. ⊎_elim (λ a. a) (λ e. absurd (f e)) (borne_cases ids o i m))

  pub marks_table : marks ≡ tabulate 256 (λ x. mem x (borne ids o))
  marks_table =
      let n = h.long in
      ext_get_or false marks (tabulate 256 (λ x. mem x (borne ids o)))
      (n ∙ sym (length_tabulate 256 (λ x. mem x (borne ids o))))
      (λ x l. h.hold x ∙ sym (get_d_tabulate 256 (λ x. mem x (borne ids o)) x false (omega arith)))

  pub marks_joins : (s : List ℕ) (sources : ℕ → List ℕ) (i : ℕ) (n : Node) → n.id ≡ ids i → sources_of s n ≡ sources i
      → fresh marks s n ≡ joins ids sources o i
  unfolding fresh joins
  marks_joins s sources i n e f =
      let all_Alike = all_same (marked marks) (λ x. mem x (borne ids o)) (sources i) (λ x m. h.hold x) in
      rw (e, f, h.hold (ids i)) (ap (λ (b : Bool). not (mem (ids i) (borne ids o)) && b) all_Alike)
