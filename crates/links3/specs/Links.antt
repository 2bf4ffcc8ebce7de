-- What the reader computes of clocks and named clusters in the 3.0 edition, from its array.
--   said_at s run i       ==  what the layout of the i-th entity says
--   is_clock_at run x i    ==  the i-th entity is a Clock Source that bears the ID x
--   clock_below run i x   ==  one of the first i entities is a Clock Source that bears the ID x
--   ClockMarks run marks ==  marks, an array by ID, tells of every number whether a Clock Source of the run bears it
--   wrong_clock_by is_clock f  ==  f is a Terminal's, whose clock ID is no Clock Source's; is_clock tells whose an ID is
--   breach_clock s run    ==  the place of the first such entity
--   lesser a b           ==  the lesser of two places, of which either may be nowhere
--   breach11_third s run  ==  where rule 11 is broken first: by a source, or by a clock
--   is_nowhere r          ==  a search found no place
--   unknown_by b f        ==  f names a cluster by an ID that no descriptor of the buffer b bears
--   breach52 s b run     ==  the place of the first such entity
use Rattle.std.specs.Prelude.{ℕ, ◌≡◌, Bool, true, false, not, ◌&&◌, List, eqb, ltb, get_or, Option, Some, None}
use Rattle.ground.specs.Pick.{pick}
use Rattle.ground.specs.Places.{first_in, somewhere}
use Rattle.layout3.specs.declared.Facts.{Facts}
use Rattle.buffer.specs.Reading.{found_cluster}
use Rattle.edition3.specs.Third.{said_by}
use Rattle.entities.specs.declared.Run.{Run}
use Rattle.entities.specs.Run.{held, node_at, id_at, kind_at, place_at, descriptor_of}
use Rattle.sources.specs.Breach.{breach11}

abbrev pub said_at : List ℕ → Run → ℕ → Facts
said_at s run i = said_by (descriptor_of s (node_at run i))

-- a Clock Source is shown as 0B
abbrev pub is_clock_at : Run → ℕ → ℕ → Bool
is_clock_at run x i = eqb (id_at run i) x && eqb (kind_at run i) 0x0B

abbrev pub clock_below : Run → ℕ → ℕ → Bool
clock_below run i x = somewhere (is_clock_at run x) i

-- an ID is a byte, so that no Clock Source bears any other number
pub record ClockMarks (run : Run) (marks : List Bool) : Type 0 where
  pub holds : (x : ℕ) → get_or marks x false ≡ clock_below run (held run) x

unfoldable pub wrong_clock_by : (ℕ → Bool) → Facts → Bool
wrong_clock_by is_clock f = f.clocked && not (is_clock f.clock)

unfoldable pub breach_clock : List ℕ → Run → Option ℕ
breach_clock s run = first_in (λ i. wrong_clock_by (clock_below run (held run)) (said_at s run i)) (λ i. Some (place_at run i)) None 0 (held run)

unfoldable pub lesser : Option ℕ → Option ℕ → Option ℕ
lesser None b = b
lesser (Some p) None = Some p
lesser (Some p) (Some q) = pick (ltb q p) (Some q) (Some p)

unfoldable pub breach11_third : List ℕ → Run → Option ℕ
breach11_third s run = lesser (breach11 s run) (breach_clock s run)

unfoldable pub is_nowhere : Option ℕ → Bool
is_nowhere None = true
is_nowhere (Some p) = false

unfoldable pub unknown_by : List ℕ → Facts → Bool
unknown_by b f = f.declares && is_nowhere (found_cluster b f.cluster)

unfoldable pub breach52 : List ℕ → List ℕ → Run → Option ℕ
breach52 s b run = first_in (λ i. unknown_by b (said_at s run i)) (λ i. Some (place_at run i)) None 0 (held run)
