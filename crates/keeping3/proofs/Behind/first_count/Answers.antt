-- What enters by pin 1, where there is a pin; else nothing.
use Rattle.std.proofs.Common.{rules, refl, ap, ℕ, ◌<◌, ◌≡◌, List, [], ◌∷◌, map, length, get_or, ◌∙◌, arith}
use Rattle.ground.specs.Numbers.{byte}
use Rattle.buffer.specs.Clusters.{channels_of}
use Rattle.edition3.specs.Third.{first_of}
use Rattle.keeping3.proofs.Behind.first_count.Goals as goal

nothing : (f : ℕ → List ℕ) (l : List ℕ) → length l ≡ 0 → 0 ≡ channels_of (first_of (map f l))
unfolding first_of
nothing f [] e = refl
nothing f (x ∷ l) e = absurd (omega arith)

first : (f : ℕ → List ℕ) (l : List ℕ) (x : ℕ) → 0 < length l → x ≡ get_or l 0 0 → (d : List ℕ) → d ≡ f x → (c : ℕ) → c ≡ byte d 6 → c ≡ channels_of (first_of (map f l))
unfolding first_of
first f [] x e o d p c q = absurd (omega arith)
first f (y ∷ l) x e o d p c q = q ∙ ap (λ (k : List ℕ). byte k 6) (p ∙ ap f o)

ruleset laws = (nothing, first, rules)

pub returns-in_default : goal.returns-in_default
returns-in_default c = search laws

pub returns : goal.returns
returns c = search laws
