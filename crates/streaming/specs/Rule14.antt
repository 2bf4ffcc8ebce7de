-- Streaming (document 01), each sentence as the paper has it and with no search in it.
--   Described run c g f  ==  GENERAL g, "byte 3 a Terminal of type 0x0101" of the run, then FORMAT_TYPE f; TypeOne "if the tag at
--                          GENERAL 5..6 is 1"; "other tags are not read further"
--   StreamKept run c i ms  ==  the streaming group of the interface descriptor i, with the other descriptors ms, keeps the rule:
--                          "with no endpoints (byte 4) holds no type 24. Any other has, directly after the interface", GENERAL, then
--                          FORMAT_TYPE
--   Group ds b i ms    ==  in the cutting ds the interface descriptor i, behind the descriptors b, opens the group of the others ms,
--                          which "runs to the next one"
--   Rule14 run c ds    ==  each streaming group keeps the rule
--   Breaks14 run c ds p  ==  p is the place of the first streaming group's interface descriptor that breaks it
use Rattle.std.specs.Prelude.{ℕ, ◌<◌, ◌≡◌, length}
use mathlib.Core.List.{List, ◌∷◌, ◌++◌, Memᴰ}
use Rattle.ground.specs.Numbers.{byte, word}
use Rattle.ground.specs.Lists.{total}
use Rattle.search.specs.Want.{Interface, Class, Audio}
use Rattle.layout.specs.declared.Cluster.{Cluster}
use Rattle.groups.specs.Rules5and6.{GroupEnds}
use Rattle.formats.specs.Formats.{General, Format, TypeOne}
use Rattle.terminals.specs.Terminals.{Terminal}
use Rattle.terminals.specs.Said.{IsTerminal}

pub record Described (run : List (List ℕ)) (cluster : ℕ → Cluster) (g f : List ℕ) : Type 0 where
  pub general : General g
  pub terminal : Terminal
  pub among : IsTerminal run cluster terminal
  pub borne : terminal.id ≡ byte g 3
  pub streaming : terminal.kind ≡ 0x0101
  pub format : Format f
  pub type_one : word g 5 ≡ 1 → TypeOne terminal.channels f

pub data StreamKept (run : List (List ℕ)) (cluster : ℕ → Cluster) (i : List ℕ) : List (List ℕ) → Type 0 where
  no_endpoints : {ms : List (List ℕ)} → byte i 4 ≡ 0 → ((d : List ℕ) → Memᴰ d ms → Class d → ⊥) → StreamKept run cluster i ms
  endpoints : {g f : List ℕ} {others : List (List ℕ)} → (byte i 4 ≡ 0 → ⊥) → Described run cluster g f → StreamKept run cluster i (g ∷ f ∷ others)

pub record Group (ds before : List (List ℕ)) (i : List ℕ) (members : List (List ℕ)) : Type 0 where
  pub after : List (List ℕ)
  pub split : ds ≡ before ++ i ∷ (members ++ after)
  pub inside : (d : List ℕ) → Memᴰ d members → Interface d → ⊥
  pub ends : GroupEnds after

abbrev pub Rule14 : List (List ℕ) → (ℕ → Cluster) → List (List ℕ) → Type 0
Rule14 run cluster ds = (before : List (List ℕ)) (i : List ℕ) (members : List (List ℕ)) → Group ds before i members → Audio 2 i → StreamKept run cluster i members

pub record Breaks14 (run : List (List ℕ)) (cluster : ℕ → Cluster) (ds : List (List ℕ)) (p : ℕ) : Type 0 where
  pub before : List (List ℕ)
  pub interface : List ℕ
  pub members : List (List ℕ)
  pub group : Group ds before interface members
  pub streaming : Audio 2 interface
  pub broken : StreamKept run cluster interface members → ⊥
  pub place : p ≡ total before
  pub kept_before : (x : List (List ℕ)) (j : List ℕ) (ms : List (List ℕ)) → Group ds x j ms → length x < length before → Audio 2 j
      → StreamKept run cluster j ms
