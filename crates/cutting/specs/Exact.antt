-- What the verdict says, exactly: it refuses nothing exactly where the nine rules are kept, and gives number n at place p exactly
-- where every row before n is kept, n is not, and p is its place; rule 9 is two rows, 9 and 17.
--   opening_answers, opening_numbered  ==  the same of the rows 1 to 4, whatever stands behind them
--   four_kept, all_four  ==  the four rows kept are the rules 1 to 4 kept, and the other way
use Rattle.std.specs.Prelude.{ℕ, ◌≡◌, ◌&&◌, eqb, List, ◌↔◌, length, Some, None}
use Rattle.std.proofs.Math.Path.{refl}
use Rattle.std.proofs.Common.{sym, ◌∙◌, arith}
use Rattle.ground.specs.declared.Refusal.{Refusal}
use Rattle.ground.specs.Pick.{Reads, reads_eq, reads_and, within, reads_within}
use Rattle.ground.specs.Numbers.{byte, word}
use Rattle.ground.specs.Refuse.{kept_nowhere, kept_at_lem}
use Rattle.ground.specs.Rows.{Rows, AllKept, Numbered, Answers}
use Rattle.scan.specs.Cutting.{Cutting, rest, breach3}
use Rattle.scan.specs.CuttingLaws.{cutting_rest}
use Rattle.scan.proofs.CuttingLemmas.{cutting_exists, cutting_misfit}
use Rattle.opening.specs.Rules1and2.{most_bytes, Rule1, Rule2}
use Rattle.opening.specs.Reading.{breach1, breach2}
use Rattle.interfaces.specs.Rule4.{Rule4, Broken4}
use Rattle.interfaces.specs.Reading.{breach4, interfaces_judged}
use Rattle.interfaces.specs.InterfaceLaws.{rule4_kept, rule4_broken}
use Rattle.groups.specs.FrameLaws.{Framed, framed}
use Rattle.cutting.specs.Rules1to9.{Opened, Opening, opened, opening_rows}

reads_rule1 : (s : List ℕ) → Reads (within 9 (length s) most_bytes) (Rule1 s)
reads_rule1 s = reads_within 9 (length s) most_bytes

reads_rule2 : (s : List ℕ) → Reads (eqb (byte s 0) 9 && (eqb (byte s 1) 2 && eqb (word s 2) (length s))) (Rule2 s)
reads_rule2 s = reads_and _ _ (reads_eq (byte s 0) 9) (reads_and _ _ (reads_eq (byte s 1) 2) (reads_eq (word s 2) (length s)))

-- Each rule's breach, both ways, one file of laws a rule; here they are put in a row.
module _ (s : List ℕ) where
  keeps1 : (breach1 s ≡ None) ↔ Rule1 s
  unfolding breach1
  keeps1 = kept_nowhere 0 (reads_rule1 s)

  breaks1 : (p : ℕ) → (breach1 s ≡ Some p) ↔ ((p ≡ 0) × (Rule1 s → ⊥))
  unfolding breach1
  breaks1 p = kept_at_lem 0 p (reads_rule1 s)

  keeps2 : (breach2 s ≡ None) ↔ Rule2 s
  unfolding breach2
  keeps2 = kept_nowhere 0 (reads_rule2 s)

  breaks2 : (p : ℕ) → (breach2 s ≡ Some p) ↔ ((p ≡ 0) × (Rule2 s → ⊥))
  unfolding breach2
  breaks2 p = kept_at_lem 0 p (reads_rule2 s)

  module _ (ds : List (List ℕ)) (c : Cutting s ds) where
    cut_is : rest s 0 ≡ ds
    cut_is = cutting_rest s ds c

    keeps4 : (breach4 s ≡ None) ↔ Rule4 ds
    keeps4 = rw (← cut_is) (rule4_kept s)

    breaks4 : (p : ℕ) → (breach4 s ≡ Some p) ↔ Broken4 s ds p
    breaks4 p = rw (← cut_is) (rule4_broken s p)

  opens : (ds : List (List ℕ)) → Cutting s ds → Rule4 ds → Opening ds
  opens ds c k = go (framed s (rw (cut_is ds c) k))
    where
      go : (before : List (List ℕ)) × (control : List ℕ) × (tail : List (List ℕ)) × Framed s before control tail → Opening ds
      go (before, control, tail, f) = record { rule4 = k; before = before; control = control; tail = tail; split = sym (cut_is ds c) ∙ f.whole; is_control = f.is_control }

  -- the rows 1 to 4, whatever is judged behind them
  pub opening_answers : (behind : Opened s → Rows) (r : Refusal) → ((o : Opened s) → Answers (behind o) r) → Answers (opening_rows s behind) (interfaces_judged s r)
  unfolding interfaces_judged
  opening_answers behind r h = (
    breach1 s,
    _,
    refl,
    record { kept = keeps1; broken = breaks1 },
    λ a. (
      breach2 s,
      _,
      refl,
      record { kept = keeps2; broken = breaks2 },
      λ b. (
        breach3 s,
        _,
        refl,
        record { kept = cutting_exists s; broken = cutting_misfit s },
        λ c. (
          breach4 s,
          r,
          refl,
          record { kept = (λ e. opens c.0 c.1 ((keeps4 c.0 c.1).0 e), λ o. (keeps4 c.0 c.1).1 o.rule4); broken = breaks4 c.0 c.1 },
          λ o. h (opened a b c o),
        ),
      ),
    ),
  )

  pub opening_numbered : (behind : Opened s → Rows) → ((o : Opened s) → Numbered (behind o)) → Numbered (opening_rows s behind)
  opening_numbered behind h = (λ e. omega arith, λ a. (λ e. omega arith, λ b. (λ e. omega arith, λ c. (λ e. omega arith, λ o. h (opened a b c o)))))

  pub four_kept : (behind : Opened s → Rows) → AllKept (opening_rows s behind) → (o : Opened s) × AllKept (behind o)
  four_kept behind (a, (b, (c, (o, x)))) = (opened a b c o, x)

  pub all_four : (behind : Opened s → Rows) (o : Opened s) → AllKept (behind o) → AllKept (opening_rows s behind)
  all_four behind o x =
      let q : Opening o.descriptors = record { rule4 = o.rule4; before = o.before; control = o.control; tail = o.tail; split = o.split; is_control = o.is_control } in
      (o.rule1, (o.rule2, ((o.descriptors, o.rule3), (q, x))))
