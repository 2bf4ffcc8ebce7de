-- Laws of what stands beside it in specs.
--   asking                 ==  what is read is asked so
use Rattle.std.specs.Prelude.{ℕ, ◌≡◌, List, Bool, eqb, leb, length}
use Rattle.std.proofs.Math.Path.{refl}
use Rattle.std.proofs.Math.Bool.{true, false}
use Rattle.std.proofs.Math.Logic.{⊎_elim}
use Rattle.std.proofs.Common.{arith}
use Rattle.ground.specs.Pick.{pick, Reads, reads_eq, reads_le}
use Rattle.ground.specs.Numbers.{byte}
use Rattle.setup.specs.declared.Part.{Part}
use Rattle.setup.specs.declared.Part.TheVariants.{Cur, Min, Max, Res}
use Rattle.setup.specs.declared.Asked.TheVariants as asks
use Rattle.setup.specs.Setup.{AsksSet, AsksGet, code_of, target_of, get_asked, asked_by, asked_of}
use Rattle.setup.specs.Asking.{Asking, none, sets, gets}

module _ (s : List ℕ) (long : length s ≡ 8) where
  asked_get : byte s 0 ≡ 0xA1 → (part : Part) → byte s 1 ≡ code_of part → leb 129 (code_of part) ≡ true → leb (code_of part) 132 ≡ true
      → Asking s (asks.Get part (target_of s))
  asked_get a part e l m =
      gets part long (a, (rw e ((reads_le 129 (code_of part)).says l), rw e ((reads_le (code_of part) 132).says m))) e

  asking_get : byte s 0 ≡ 0xA1 → Asking s (get_asked (byte s 1) (target_of s))
  unfolding get_asked
  asking_get a = cur (eqb (byte s 1) 129) (reads_eq (byte s 1) 129)
    where
      other : (byte s 1 ≡ 129 → ⊥) → (byte s 1 ≡ 130 → ⊥) → (byte s 1 ≡ 131 → ⊥) → (byte s 1 ≡ 132 → ⊥) → Asking s asks.Unknown
      other i j k m = none (λ w. ⊎_elim (λ (x : AsksSet s). let e = x.0 in omega arith) (λ (x : AsksGet s). let l = x.1.0 in let u = x.1.1 in omega arith) w.1)

      res : (x : Bool) → Reads x (byte s 1 ≡ 132) → (byte s 1 ≡ 129 → ⊥) → (byte s 1 ≡ 130 → ⊥) → (byte s 1 ≡ 131 → ⊥)
          → Asking s (pick x (asks.Get Res (target_of s)) asks.Unknown)
      res true r i j k = asked_get a Res (r.says refl) refl refl
      res false r i j k = other i j k (r.denies refl)

      max : (x : Bool) → Reads x (byte s 1 ≡ 131) → (byte s 1 ≡ 129 → ⊥) → (byte s 1 ≡ 130 → ⊥)
          → Asking s (pick x (asks.Get Max (target_of s)) (pick (eqb (byte s 1) 132) (asks.Get Res (target_of s)) asks.Unknown))
      max true r i j = asked_get a Max (r.says refl) refl refl
      max false r i j = res (eqb (byte s 1) 132) (reads_eq (byte s 1) 132) i j (r.denies refl)

      min : (x : Bool) → Reads x (byte s 1 ≡ 130) → (byte s 1 ≡ 129 → ⊥)
          → Asking s (pick x (asks.Get Min (target_of s)) (pick (eqb (byte s 1) 131) (asks.Get Max (target_of s)) (pick (eqb (byte s 1) 132) (asks.Get Res (target_of s)) asks.Unknown)))
      min true r i = asked_get a Min (r.says refl) refl refl
      min false r i = max (eqb (byte s 1) 131) (reads_eq (byte s 1) 131) i (r.denies refl)

      cur : (x : Bool) → Reads x (byte s 1 ≡ 129)
          → Asking s (pick x (asks.Get Cur (target_of s)) (pick (eqb (byte s 1) 130) (asks.Get Min (target_of s)) (pick (eqb (byte s 1) 131) (asks.Get Max (target_of s)) (pick (eqb (byte s 1) 132) (asks.Get Res (target_of s)) asks.Unknown))))
      cur true r = asked_get a Cur (r.says refl) refl refl
      cur false r = min (eqb (byte s 1) 130) (reads_eq (byte s 1) 130) (r.denies refl)

  asking_by : Asking s (asked_by (target_of s) (byte s 0) (byte s 1))
  unfolding asked_by
  asking_by = go (eqb (byte s 0) 33) (reads_eq (byte s 0) 33)
    where
      set : byte s 0 ≡ 33 → (x : Bool) → Reads x (byte s 1 ≡ 1) → Asking s (pick x (asks.Set (target_of s)) asks.Unknown)
      set a true r = sets long (a, r.says refl)
      set a false r = none (λ w. ⊎_elim (λ (x : AsksSet s). r.denies refl x.1) (λ (x : AsksGet s). let e = x.0 in omega arith) w.1)

      get : (byte s 0 ≡ 33 → ⊥) → (x : Bool) → Reads x (byte s 0 ≡ 161) → Asking s (pick x (get_asked (byte s 1) (target_of s)) asks.Unknown)
      get n true r = asking_get (r.says refl)
      get n false r = none (λ w. ⊎_elim (λ (x : AsksSet s). n x.0) (λ (x : AsksGet s). r.denies refl x.0) w.1)

      go : (x : Bool) → Reads x (byte s 0 ≡ 33)
          → Asking s (pick x (pick (eqb (byte s 1) 1) (asks.Set (target_of s)) asks.Unknown) (pick (eqb (byte s 0) 161) (get_asked (byte s 1) (target_of s)) asks.Unknown))
      go true r = set (r.says refl) (eqb (byte s 1) 1) (reads_eq (byte s 1) 1)
      go false r = get (r.denies refl) (eqb (byte s 0) 161) (reads_eq (byte s 0) 161)

pub asking : (s : List ℕ) → Asking s (asked_of s)
unfolding asked_of
asking s = go (eqb (length s) 8) (reads_eq (length s) 8)
  where
    go : (x : Bool) → Reads x (length s ≡ 8) → Asking s (pick x (asked_by (target_of s) (byte s 0) (byte s 1)) asks.Unknown)
    go true r = asking_by s (r.says refl)
    go false r = none (λ w. r.denies refl w.0)
