-- The Terminals of a run by ID, in a table that is filled once: of each ID what bears it, or nothing. The first Terminal of the run that bears
-- an ID is the one that is written.
--   bearer_at table id    ==  what the table tells of an ID
--   table_with ts table   ==  the table with the Terminals ts written, each unless its ID is borne already
--   Entered ts table table'  ==  table' is that: it tells what table does, and of an ID that this one tells nothing of, what the
--                            Terminals ts do
--   entered_none, entered_at  ==  no Terminal: the table is left alone; and one that is written unless its ID is borne
--   Filling s r cs table i  ==  the table holds the Terminals of the entities before the i-th
--   filling_start, filling_on, filled  ==  an empty table; the next entity's Terminal is entered; at the run's end the table tells what its
--                            Terminals do
use Prim.Native.Nat.{ℕ, suc, ◌+◌, ◌-◌, ◌≤◌, ◌<◌}
use Rattle.std.specs.Prelude.{◌≡◌, Bool, true, false, ◌⊎◌, List, [], ◌∷◌, ◌++◌, set, replicate, eqb, ltb, Option, None, Some}
use Rattle.std.specs.Option.{option_or}
use Rattle.std.proofs.Math.Path.{refl, sym, ap, fun_ext}
use Rattle.std.proofs.Common.{◌∙◌, inl, inr, get_or-set_other, add-one}
use Rattle.std.proofs.Math.ListN.{length, get_or, length-set, length-replicate, get_or-eq_default}
use Rattle.std.proofs.lemmas.List.{get_or-replicate}
use Rattle.std.proofs.Math.Seq.{get_or-set_same}
use native.Mathlib.Omega.{arith}
use borrow.Author.Tests.{eq-eqb, ne_eqb}
use Rattle.ground.specs.Pick.{pick, yes, no, decided, reads_eq, reads_lt}
use Rattle.layout.specs.declared.Cluster.{Cluster}
use Rattle.entities.specs.declared.Run.{Run}
use Rattle.entities.specs.Run.{held}
use Rattle.terminals.specs.declared.Bearer.{Bearer}
use Rattle.terminals.specs.Terminals.{Terminal, borne, terminal_at, terminals_from, terminals_of, bearer_in}

unfoldable pub bearer_at : List (Option Bearer) → ℕ → Option Bearer
bearer_at table id = get_or table id None

or_none : (a : Option Bearer) → option_or a None ≡ a
or_none None = refl
or_none (Some b) = refl

or_or : (a b c : Option Bearer) → option_or (option_or a b) c ≡ option_or a (option_or b c)
or_or None b c = refl
or_or (Some a) b c = refl

-- of Terminals in two parts the first part's bears the ID where it has one that does, else the second's
bearer_append : (ts us : List Terminal) (id : ℕ) → bearer_in (ts ++ us) id ≡ option_or (bearer_in ts id) (bearer_in us id)
unfolding bearer_in
bearer_append [] us id = refl
bearer_append (t ∷ ts) us id = go (eqb t.id id) (bearer_append ts us id)
  where
    go : (b : Bool) → bearer_in (ts ++ us) id ≡ option_or (bearer_in ts id) (bearer_in us id)
        → pick b (Some (borne t)) (bearer_in (ts ++ us) id) ≡ option_or (pick b (Some (borne t)) (bearer_in ts id)) (bearer_in us id)
    go true ih = refl
    go false ih = ih

unfoldable pub table_with : List Terminal → List (Option Bearer) → List (Option Bearer)
table_with [] table = table
table_with (t ∷ ts) table = table_with ts (set table t.id (option_or (bearer_at table t.id) (Some (borne t))))

-- the table has 256 places
pub record Entered (ts : List Terminal) (table table' : List (Option Bearer)) : Type 0 where
  pub table_is : table' ≡ table_with ts table
  pub long : length table' ≡ length table
  pub tells : length table ≡ 256 → (id : ℕ) → bearer_at table' id ≡ option_or (bearer_at table id) (bearer_in ts id)

module _ (table : List (Option Bearer)) where
  pub entered_none : Entered [] table table
  unfolding bearer_in table_with
  entered_none = record { table_is = refl; long = refl; tells = λ a id. sym (or_none (bearer_at table id)) }

  module _ (t : Terminal) (l : t.id < 256) where
    abbrev value : Option Bearer
    value = option_or (bearer_at table t.id) (Some (borne t))

    entered_one : Entered (t ∷ []) table (set table t.id value)
    unfolding bearer_in bearer_at table_with
    entered_one = record {
      table_is = refl;
      long = length-set table t.id value;
      tells = λ a id. go a id (decided (eqb t.id id) (reads_eq t.id id));
    }
      where
        go : length table ≡ 256 → (id : ℕ) → (t.id ≡ id) ⊎ (t.id ≡ id → ⊥)
            → get_or (set table t.id value) id None ≡ option_or (get_or table id None) (bearer_in (t ∷ []) id)
        go a id (inl e) =
            rw (← e) (get_or-set_same table t.id value None (omega arith) ∙ ap (option_or (get_or table t.id None)) (sym (yes _ _ (eq-eqb t.id t.id refl))))
        go a id (inr n) =
            get_or-set_other table t.id id value None (λ e. n (sym e))
            ∙ sym (ap (option_or (get_or table id None)) (no _ _ (ne_eqb t.id id n)) ∙ or_none (get_or table id None))

  -- at its ID's place, which the code has as a number of its own
  pub entered_at : (i k c at : ℕ) (v : Option Bearer) → at ≡ i → at < 256 → v ≡ option_or (get_or table at None) (Some (record { kind = k; channels = c }))
      → Entered (record { id = i; kind = k; channels = c } ∷ []) table (set table at v)
  unfolding bearer_at
  entered_at i k c at v e l f = rw (f, ← e) (entered_one (record { id = at; kind = k; channels = c }) l)

module _ (s : List ℕ) (r : Run) (cs : List Cluster) where
  -- what bears an ID among the entities from the i-th on
  abbrev later : ℕ → ℕ → Option Bearer
  later i = bearer_in (terminals_from (held r - i) i s r cs)

  pub record Filling (table : List (Option Bearer)) (i : ℕ) : Type 0 where
    pub low : i ≤ held r
    pub long : length table ≡ 256
    pub same : (id : ℕ) → bearer_in (terminals_of s r cs) id ≡ option_or (bearer_at table id) (later i id)

  -- no Terminal, at any ID
  abbrev blanks : List (Option Bearer)
  blanks = replicate 256 None

  pub filling_start : Filling blanks 0
  unfolding bearer_at terminals_of
  filling_start = record { low = omega arith; long = long_blanks; same = start }
    where
      long_blanks : length blanks ≡ 256
      long_blanks = length-replicate {A = Option Bearer} 256 None

      blank : (id : ℕ) → get_or blanks id None ≡ None
      blank id = go (decided (ltb id 256) (reads_lt id 256))
        where
          go : (id < 256) ⊎ (id < 256 → ⊥) → get_or blanks id None ≡ None
          go (inl h) = get_or-replicate 256 id None None h
          go (inr h) = let l = long_blanks in let m : length blanks ≤ id = omega arith in get_or-eq_default blanks None m

      start : (id : ℕ) → bearer_in (terminals_from (held r) 0 s r cs) id ≡ option_or (get_or blanks id None) (later 0 id)
      start id = let z : held r - 0 ≡ held r = omega arith in rw (blank id, z) refl

  module _ (table : List (Option Bearer)) (i : ℕ) (g : Filling table i) where
    pub filling_on : i < held r → {table' : List (Option Bearer)} → Entered (terminal_at s r cs i) table table' → Filling table' (i + 1)
    unfolding terminals_from
    filling_on h {table'} e =
        let a = g.long in
        record {
          low = omega arith;
          long = e.long ∙ a;
          same = λ id.
              g.same id
              ∙ ap (option_or (bearer_at table id)) (next id)
              ∙ sym (or_or (bearer_at table id) (bearer_in (terminal_at s r cs i) id) (later (i + 1) id))
              ∙ ap (λ (x : Option Bearer). option_or x (later (i + 1) id)) (sym (e.tells a id));
        }
      where
        next : (id : ℕ) → later i id ≡ option_or (bearer_in (terminal_at s r cs i) id) (later (i + 1) id)
        next id =
            let q : held r - i ≡ suc (held r - (i + 1)) = omega arith in
            rw (terminals_from, q, add-one) (bearer_append (terminal_at s r cs i) (terminals_from (held r - suc i) (suc i) s r cs) id)

    pub filled : held r ≤ i → bearer_at table ≡ bearer_in (terminals_of s r cs)
    unfolding bearer_in terminals_from
    filled h = fun_ext (λ id. sym (g.same id ∙ ap (option_or (bearer_at table id)) (none id) ∙ or_none _))
      where
        none : (id : ℕ) → later i id ≡ None
        none id = let z : held r - i ≡ 0 = omega arith in rw (terminals_from, z) refl
