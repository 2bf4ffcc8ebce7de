-- An ID that is told is above the one asked for, and a byte.
use Rattle.std.proofs.Common.{◌≡◌, ℕ, ◌-◌, ◌<◌, List, sym, ap, ◌∙◌, rules, arith}
use Rattle.std.specs.declared.option.Option as answer
use Rattle.std.specs.declared.option.Option.TheVariants.{Some}
use Rattle.differences.specs.declared.Difference.{Difference}
use Rattle.differences.specs.Lines.{last_id, lines_of, first_above, difference_of, id_told}
use Rattle.differences.specs.LinesLaws.{told_higher}
use Rattle.report.proofs.say_differences.Goals as goal

falls : (l r : List ℕ) (a : ℕ) (d : answer.Option Difference) → d ≡ difference_of (first_above a (lines_of l r)) → (x : Difference) → d ≡ Some x
    → (i : ℕ) → i ≡ id_told (Some x) → i < 256 → last_id - i < last_id - a
falls l r a d e x s i f h =
    let p : a < id_told (Some x) = told_higher a (lines_of l r) x (sym s ∙ e) in
    omega arith

pub loop-difference-smaller : goal.loop-difference-smaller
loop-difference-smaller g c = search (falls, rules)
