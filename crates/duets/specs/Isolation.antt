-- One side learns nothing of the other but a count (document 02, No. 11): "Two runs from an empty box that agree on the left side's plug-ins,
-- unpluggings, loads, requests and buffers, and in which each left plug-in met the same count of right-hand controls, give the left the same answers,
-- and so with the sides exchanged; that count at plug-in is all a side may learn of the other." The steps of the other side, and those of no side, may
-- be any number and stand anywhere between.
--   AgreeAt k x y  ==  the runs x and y agree on the side k's steps, in their order, and each plug-in of k met the same count
--   Isolated       ==  once over the side. answers: two such runs give the side the same answers, replies and sheets; socket: and leave it the same
--                      socket, which each answer hands back in its box; nobodys: a request that is no side's is answered the same after any two runs
--                      whatever, so that it tells nothing of either side
--   CountTold      ==  without the count it is not so: two runs that agree on the left side's steps, and give it other answers
use Rattle.std.specs.Prelude.{◌≡◌, false, List, ℕ}
use Rattle.sides.specs.declared.Side.{Side}
use Rattle.sides.specs.declared.Side.TheVariants.{Left}
use Rattle.duet.specs.Box.{socket_of, empty_duet}
use Rattle.duets.specs.Steps.{Step, is_of, seen_in, box_after_run, seen_by, steps_of, met_by, Carried}
use Rattle.duets.specs.Steps.Step.{request}

pub record AgreeAt (k : Side) (x y : List Step) : Type 0 where
  pub steps : steps_of k x ≡ steps_of k y
  pub met : met_by k empty_duet x ≡ met_by k empty_duet y

pub record Isolated : Type 0 where
  pub answers : (k : Side) (x y : List Step) → Carried x → Carried y → AgreeAt k x y → seen_by k empty_duet x ≡ seen_by k empty_duet y
  pub socket : (k : Side) (x y : List Step) → Carried x → Carried y → AgreeAt k x y
      → socket_of (box_after_run empty_duet x) k ≡ socket_of (box_after_run empty_duet y) k
  pub nobodys : (x y : List Step) → Carried x → Carried y → (s d h : List ℕ) → ((k : Side) → is_of k (request s d h) ≡ false)
      → seen_in (box_after_run empty_duet x) (request s d h) ≡ seen_in (box_after_run empty_duet y) (request s d h)

pub record CountTold : Type 0 where
  pub x : List Step
  pub y : List Step
  pub x_carried : Carried x
  pub y_carried : Carried y
  pub steps : steps_of Left x ≡ steps_of Left y
  pub apart : seen_by Left empty_duet x ≡ seen_by Left empty_duet y → ⊥
