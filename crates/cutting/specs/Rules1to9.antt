-- The rules 8 and 9, and all nine together: what a configuration is that the cutting layer does not refuse, and what each refusal says.
--   Rule8 run     ==  there are 1 to 32 entities
--   Rule9 ed run  ==  each entity has one of the layouts of the edition ed. It is refused by two rows: 9 "an entity's layout is wrong", and 17, of a
--                     layout that was withdrawn (document 02, No. 6), "after 9 and before 10"
--   WrongLayout ed d, Recognised ed run  ==  row 9: d has none of the layouts, nor a withdrawn one; no entity is so
--   NoneWithdrawn ed run  ==  row 17: none has a withdrawn layout; laid_out: the two rows kept are rule 9 kept
--   Opened s      ==  the rules 1 to 4 are kept by a cutting of s, in which the AudioControl interface stands
--   header_place o ==  where the header should stand: 9 bytes behind the place of the AudioControl interface
--   Kept s        ==  besides, the header, the run, the group's other descriptors and the next group keep the rules 5 to 9, by the Audio 1.0
--                     edition
--   Opening ds    ==  rule 4 is kept by the cutting ds, and the AudioControl interface stands in it; opened: with the rules 1 to 3 before it
--   BrokenAt q K p  ==  the rule K is broken, and p is its one place q
--   opening_rows s behind  ==  the rows 1 to 4 of the papers' table, the same for every edition, and behind them what may speak of them kept
--   cutting_rows s behind  ==  the rows 1 to 9 and 17, and behind them what may speak of them kept; group_rows: from 5 on
use Rattle.std.specs.Prelude.{ℕ, ◌+◌, ◌≤◌, ◌≡◌, ◌⊎◌, List, ◌∷◌, ◌++◌, length}
use Rattle.std.proofs.Common.{⊎_elim}
use Rattle.ground.specs.Lists.{total}
use Rattle.ground.specs.First.{Breaks}
use Rattle.ground.specs.Rows.{Rows, row}
use Rattle.scan.specs.Cutting.{Cutting, Rule3, Misfit}
use Rattle.search.specs.Want.{Audio}
use Rattle.graph.specs.Members.{◌∈◌}
use Rattle.edition.specs.Edition.{Edition}
use Rattle.edition.specs.Audio.{audio}
use Rattle.entities.specs.Run.{most_entities}
use Rattle.opening.specs.Rules1and2.{Rule1, Rule2}
use Rattle.interfaces.specs.Rule4.{Rule4, Broken4}
use Rattle.collection.specs.Rule7.{Rule7}
use Rattle.groups.specs.Rules5and6.{Rule5, listed_of, Rule6}

abbrev pub Rule8 : List (List ℕ) → Type 0
Rule8 run = (1 ≤ length run) × (length run ≤ most_entities)

abbrev pub Rule9 : Edition → List (List ℕ) → Type 0
Rule9 ed run = (d : List ℕ) → d ∈ run → ed.LaidOut d

abbrev pub WrongLayout : Edition → List ℕ → Type 0
WrongLayout ed d = (ed.LaidOut d → ⊥) × (ed.Withdrawn d → ⊥)

abbrev pub Recognised : Edition → List (List ℕ) → Type 0
Recognised ed run = (d : List ℕ) → d ∈ run → ed.LaidOut d ⊎ ed.Withdrawn d

abbrev pub NoneWithdrawn : Edition → List (List ℕ) → Type 0
NoneWithdrawn ed run = (d : List ℕ) → d ∈ run → ed.Withdrawn d → ⊥

abbrev pub laid_out : (ed : Edition) (run : List (List ℕ)) → Recognised ed run → NoneWithdrawn ed run → Rule9 ed run
laid_out ed run l w d m = ⊎_elim (λ x. x) (λ x. absurd (w d m x)) (l d m)

pub record Opened (s : List ℕ) : Type 0 where
  pub rule1 : Rule1 s
  pub rule2 : Rule2 s
  pub descriptors : List (List ℕ)
  pub rule3 : Cutting s descriptors
  pub rule4 : Rule4 descriptors
  pub before : List (List ℕ)
  pub control : List ℕ
  pub tail : List (List ℕ)
  pub split : descriptors ≡ before ++ control ∷ tail
  pub is_control : Audio 1 control

abbrev pub header_place : {s : List ℕ} → Opened s → ℕ
header_place o = total o.before + 9

-- the rule 4, and where the AudioControl interface stands
pub record Opening (ds : List (List ℕ)) : Type 0 where
  pub rule4 : Rule4 ds
  pub before : List (List ℕ)
  pub control : List ℕ
  pub tail : List (List ℕ)
  pub split : ds ≡ before ++ control ∷ tail
  pub is_control : Audio 1 control

pub record Kept (s : List ℕ) : Type 0 where
  pub opened : Opened s
  pub rule5 : Rule5 opened.tail
  pub rule6 : Rule6 rule5.header rule5.others
  pub rule7 : Rule7 opened.descriptors (listed_of rule5.header)
  pub rule8 : Rule8 rule6.run
  pub rule9 : Rule9 audio rule6.run

abbrev pub opened : {s : List ℕ} → Rule1 s → Rule2 s → (c : Rule3 s) → Opening c.0 → Opened s
opened a b c o = record {
  rule1 = a;
  rule2 = b;
  descriptors = c.0;
  rule3 = c.1;
  rule4 = o.rule4;
  before = o.before;
  control = o.control;
  tail = o.tail;
  split = o.split;
  is_control = o.is_control;
}

-- a rule whose breach has one place
abbrev pub BrokenAt : ℕ → Type 0 → ℕ → Type 0
BrokenAt q K p = (p ≡ q) × (K → ⊥)

-- the rules from 5 on, in the AudioControl group
abbrev pub group_rows : {s : List ℕ} (o : Opened s) → (Kept s → Rows) → Rows
group_rows o behind =
    row 5 (Rule5 o.tail) (BrokenAt (header_place o) (Rule5 o.tail)) (λ h.
    row 6 (Rule6 h.header h.others) (BrokenAt (header_place o) (Rule6 h.header h.others)) (λ t.
    row 7 (Rule7 o.descriptors (listed_of h.header)) (BrokenAt (header_place o) (Rule7 o.descriptors (listed_of h.header))) (λ c.
    row 8 (Rule8 t.run) (BrokenAt (header_place o) (Rule8 t.run)) (λ m.
    row 9 (Recognised audio t.run) (Breaks (λ b d. WrongLayout audio d) (header_place o + length h.header) t.run) (λ l.
    row 17 (NoneWithdrawn audio t.run) (Breaks (λ b d. audio.Withdrawn d) (header_place o + length h.header) t.run) (λ w.
    behind (record { opened = o; rule5 = h; rule6 = t; rule7 = c; rule8 = m; rule9 = laid_out audio t.run l w })))))))

abbrev pub opening_rows : (s : List ℕ) → (Opened s → Rows) → Rows
opening_rows s behind =
    row 1 (Rule1 s) (BrokenAt 0 (Rule1 s)) (λ a.
    row 2 (Rule2 s) (BrokenAt 0 (Rule2 s)) (λ b.
    row 3 (Rule3 s) (Misfit s) (λ c.
    row 4 (Opening c.0) (Broken4 s c.0) (λ o. behind (opened a b c o)))))

abbrev pub cutting_rows : (s : List ℕ) → (Kept s → Rows) → Rows
cutting_rows s behind = opening_rows s (λ o. group_rows o behind)
