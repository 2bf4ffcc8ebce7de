-- The test of what stands directly after a streaming interface decides its sentence.
--   reads_described  ==  the test of Described
use Rattle.std.specs.Prelude.{ℕ, ◌≡◌, refl, Bool, true, false, ◌&&◌, List, Option, Some}
use Rattle.std.proofs.Common.{sym, ap, ◌∙◌}
use Rattle.ground.specs.Pick.{Reads, true≠false, reads_and, reads_same}
use Rattle.ground.specs.Numbers.{byte, word}
use Rattle.layout.specs.declared.Cluster.{Cluster}
use Rattle.formats.specs.Formats.{General, Format, TypeOne}
use Rattle.formats.specs.Tests.{is_general}
use Rattle.formats.specs.Sentences.{reads_general, reads_tagged}
use Rattle.terminals.specs.declared.Bearer.{Bearer}
use Rattle.terminals.specs.Terminals.{Terminal, borne, bearer_in, terminal_number, channels_borne, OneEach}
use Rattle.terminals.specs.Said.{AreAll}
use Rattle.terminals.specs.Bearers.{Bears, nothing, to, bears, bearer_one, reads_number}
use Rattle.streaming.specs.Rule14.{Described}
use Rattle.streaming.specs.Tests.{bearer_right, described_by}

pub reads_described : (ts : List Terminal) {run : List (List ℕ)} {cluster : ℕ → Cluster} → AreAll run cluster ts → OneEach ts → (g f : List ℕ)
    → Reads (described_by (bearer_in ts) g f) (Described run cluster g f)
unfolding described_by bearer_right terminal_number channels_borne
reads_described ts {run} {cluster} all one g f = go (bearer_in ts (byte g 3)) refl (bears (byte g 3) ts)
  where
    found : (t : Terminal) → Described run cluster g f → bearer_in ts (byte g 3) ≡ Some (borne t)
        → General g × ((t.kind ≡ 0x0101) × (Format f × (word g 5 ≡ 1 → TypeOne t.channels f)))
    found t h e =
        let u = h.terminal in
        let q : Some (borne u) ≡ Some (borne t) = sym (bearer_one ts one u ((all u).1 h.among)) ∙ ap (bearer_in ts) h.borne ∙ e in
        let w : borne u ≡ borne t = cc in
        let k : u.kind ≡ t.kind = ap (λ (b : Bearer). b.kind) w in
        let c : u.channels ≡ t.channels = ap (λ (b : Bearer). b.channels) w in
        (h.general, (sym k ∙ h.streaming, (h.format, λ o. rw (← c) (h.type_one o))))

    go : (l : Option Bearer) → bearer_in ts (byte g 3) ≡ l → Bears (byte g 3) ts l → Reads (is_general g && bearer_right l g f) (Described run cluster g f)
    go _ e (nothing n) = record {
      says = λ h. absurd (no_bearer (is_general g) h);
      denies = λ h k. n k.terminal ((all k.terminal).1 k.among) k.borne;
    }
      where
        no_bearer : (b : Bool) → b && false ≡ true → ⊥
        no_bearer true h = true≠false (sym h)
        no_bearer false h = true≠false (sym h)
    go _ e (to t m i) =
        reads_same (reads_and _ _ (reads_general g) (reads_and _ _ (reads_number (borne t)) (reads_tagged f (word g 5) t.channels)))
        (λ h. record { general = h.0; terminal = t; among = (all t).0 m; borne = i; streaming = h.1.0; format = h.1.1.0; type_one = h.1.1.1 })
        (λ h. found t h e)
