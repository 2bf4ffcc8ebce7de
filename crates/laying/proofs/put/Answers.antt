-- What stands behind the part that is copied over stays.
use Prim.Native.Nat.{ℕ, ◌+◌, ◌-◌}
use mathlib.Core.Path.{◌≡◌, sym, ap, ◌∙◌}
use mathlib.Core.List.{List, ◌++◌, append_assoc}
use native.Mathlib.Omega.{arith}
use lib.ListN.{length, take, drop}
use lib.Seq.{drop-drop}
use borrow.Author.Rules.{rules}
use Rattle.laying.specs.Paste.{pasted}
use Rattle.laying.proofs.put.Goals as goal

copied : (from out x : List ℕ) (at : ℕ) → x ≡ from → take at out ++ (x ++ drop (at + length from - at) (drop at out)) ≡ pasted at from out
unfolding pasted
copied from out x at e =
    let n : at + length from - at ≡ length from = omega arith in
    ap (λ (y : List ℕ). take at out ++ (y ++ drop (at + length from - at) (drop at out))) e
    ∙ ap (λ (m : ℕ). take at out ++ (from ++ drop m (drop at out))) n
    ∙ ap (λ (y : List ℕ). take at out ++ (from ++ y)) (drop-drop (length from) at out)
    ∙ sym (append_assoc (take at out) from (drop (at + length from) out))

ruleset laws = (copied, rules)

pub returns : goal.returns
returns c = search laws
