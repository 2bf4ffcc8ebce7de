-- The crowded configuration, computed, and the example that the count at a plug-in is told: the same microphone on the left is let in where the right is
-- empty, and refused by 62 where the right has one.
--   crowds      ==  the reader's answer
--   count_told  ==  two runs that agree on the left side's steps and give it other answers
use Prim.Native.Nat.{ℕ, ◌+◌, ◌≤◌, ◌<◌}
use mathlib.Core.Path.{◌≡◌, refl, sym, ap, ◌∙◌}
use mathlib.Core.Bool.{true}
use mathlib.Core.List.Memᴰ
use mathlib.Core.List.{List, [], ◌∷◌}
use mathlib.Core.Logic.{⊎_elim}
use Rattle.ground.specs.Numbers.{Bytes}
use lib.ListN.{length}
use native.Mathlib.Omega.{arith}
use borrow.Author.Tests.{eq-eqb, le-leb, lt-leb}
use lib.Count.{ones, ones_in}
use Rattle.ground.specs.Refuse.{refuse, place_or}
use Rattle.ground.specs.First.{first_from, is_before}
use Rattle.ground.specs.Lists.{total, any, pad}
use Rattle.scan.specs.Cutting.{end_by, rest_from_by, rest_by, reach_by, breach_by}
use Rattle.scan.specs.Search.{searched}
use Rattle.search.specs.Want.{is_interface, is_class, is_audio, is_setting, is_member, wants, found_from}
use Rattle.layout.specs.Layout.{entity_of, is_unknown}
use Rattle.layout.specs.Withdrawn.{is_printed, layout_number, is_wrong}
use Rattle.kinds.specs.Shown.{kind_of}
use Rattle.kinds.specs.Sources.{pins_of, sources_from, feeds_of}
use Rattle.entities.specs.Run.{node_of, nodes_from, blank_node, run_in}
use Rattle.opening.specs.Reading.{breach1, breach2}
use Rattle.interfaces.specs.Reading.{wrong_interface, breach4, interfaces_judged}
use Rattle.collection.specs.Reading.{is_distinct, all_known, unlisted, collects}
use Rattle.groups.specs.Reading.{run_end, frame_from, frame_of, opens, is_header, breach5, strays_from, breach6, breach7, group_judged}
use Rattle.groups.specs.Reading as groups
use Rattle.cutting.specs.Survey.{run_found, breach8, breach9, breach17, verdict_then, verdict, surveyed, survey_of}
use Rattle.cutting.specs.Survey as cutting
use Rattle.graph.specs.Members.{all, mem}
use Rattle.graph.specs.Passes.{joins, step, pass_from, passes}
use Rattle.graph.specs.Along.{put, given}
use Rattle.graph.specs.Tables.{tabulate_from}
use Rattle.ground.specs.Places.{first_in, somewhere}
use Rattle.sources.specs.Lookup.{lookup_below, source_number}
use Rattle.graph.specs.Borne.{wrong_id}
use Rattle.ids.specs.Breach.{breach10}
use Rattle.sources.specs.Breach.{wrong_source, breach11}
use Rattle.ranks.specs.Order.{ordered}
use Rattle.ranks.specs.Breach.{breach12}
use Rattle.sweep.specs.Sweep.{gives_by, given_in, clusters_of}
use Rattle.keeping.specs.Keeping.{keeps_by}
use Rattle.clusters.specs.Breach.{breach13}
use Rattle.pins.specs.Same.{all_same}
use Rattle.edition.specs.Audio.{first_of, channels_in, give_out, mixer_length, feature_length, alike, named, mixer_kept, feature_kept, keeps}
use Rattle.channels.specs.DeclaredChannels.{cluster_kept, names_kept}
use Rattle.connections.specs.Judgement.{judged}
use Rattle.terminals.specs.Terminals.{terminal_of, terminals_from, terminals_of, bearer_in, terminal_number, channels_borne}
use Rattle.formats.specs.Tests.{opens_as, is_general, is_format, samples_right, rates_right, is_type_one, format_right}
use Rattle.streaming.specs.Tests.{bearer_right, described_by, holds_class, broken, wrong_stream, first_broken, breach14}
use Rattle.masks.specs.Masks.{bit_carries, bit_set, bit_controls, bits_from, mask_controls, channels_from, feature_controls}
use Rattle.controls.specs.Controls.{entity_controls, controls_to, controls_of_run, breach15}
use Rattle.controls.specs.Growth.{table_of}
use Rattle.records.specs.Records.{room_for}
use Rattle.topology.specs.Reading.{rest_judged, survey_judged, judged_then, room_judged, verdict_of, refused_reading, taken_reading, reading_of}
use Rattle.ground.specs.Pick.{yes, no}
use Rattle.topology.specs.declared.Reading.{Reading}
use Rattle.reader.proofs.Shows.{controls_counted}
use Rattle.plug.specs.Plugged.{state_of}
use Rattle.sides.specs.declared.Side.TheVariants.{Left, Right}
use Rattle.sides.specs.Sides.{most_together}
use Rattle.duet.specs.declared.Duet.{Duet}
use Rattle.duet.specs.Box.{empty_socket, empty_duet, controls_on}
use Rattle.admission.proofs.PluggingLemmas.{plug_cases}
use Rattle.admission.specs.Plugging.{Plugging, plug_of, duet_after}
use Rattle.admission.specs.Plugging.Plugging.{refused, let_in}
use Rattle.duets.specs.Steps.{Step, Seen, seen_plug, box_next, seen_by, steps_of, sent_by}
use Rattle.duets.specs.Steps.Step.{plug}
use Rattle.duets.specs.Isolation.{CountTold}
use Rattle.duets.specs.Crowded.{crowded, crowded_sheet, Crowds}
use Rattle.duets.proofs.Sound.{Fit, fit_empty, fit_next}

pub crowds : Crowds
unfolding crowded refuse place_or first_from is_before total any pad end_by rest_from_by rest_by reach_by breach_by searched is_interface is_class is_audio is_setting is_member wants found_from entity_of kind_of is_unknown pins_of sources_from feeds_of node_of nodes_from blank_node run_in breach1 breach2 wrong_interface breach4 interfaces_judged run_end frame_from frame_of opens is_header breach5 strays_from breach6 is_distinct all_known unlisted collects breach7 group_judged groups.judged run_found breach8 breach9 breach17 is_printed layout_number is_wrong verdict_then verdict cutting.run_judged surveyed survey_of all mem joins step pass_from passes put given tabulate_from first_in somewhere lookup_below source_number wrong_id breach10 wrong_source breach11 ordered breach12 gives_by given_in keeps_by breach13 clusters_of first_of channels_in give_out mixer_length feature_length alike named all_same mixer_kept feature_kept keeps cluster_kept names_kept ones ones_in judged terminal_of terminals_from terminals_of bearer_in terminal_number channels_borne opens_as is_general is_format samples_right rates_right is_type_one format_right bearer_right described_by holds_class broken wrong_stream first_broken breach14 bit_set bit_controls bits_from mask_controls channels_from feature_controls entity_controls controls_to controls_of_run breach15 table_of room_for rest_judged survey_judged judged_then room_judged verdict_of refused_reading taken_reading reading_of bit_carries
crowds = record { accepted = refl; many = refl }

abbrev R : Reading
R = reading_of crowded (length crowded_sheet)

first_left : plug_of empty_duet Left crowded (length crowded_sheet) ≡ let_in R
unfolding controls_on
first_left =
    let n = crowds.many in
    let l : 0 + R.controls ≤ most_together = omega arith in
    plug_cases empty_duet Left crowded (length crowded_sheet) ∙ yes _ _ fit_empty ∙ yes _ _ (eq-eqb _ _ crowds.accepted) ∙ yes _ _ (le-leb _ _ l)

first_right : plug_of empty_duet Right crowded (length crowded_sheet) ≡ let_in R
unfolding controls_on
first_right =
    let n = crowds.many in
    let l : 0 + R.controls ≤ most_together = omega arith in
    plug_cases empty_duet Right crowded (length crowded_sheet) ∙ yes _ _ fit_empty ∙ yes _ _ (eq-eqb _ _ crowds.accepted) ∙ yes _ _ (le-leb _ _ l)

abbrev right_in : Duet
right_in = record { left = empty_socket; right = record { plugged = true; state = state_of R } }

after_right : box_next empty_duet (plug Right crowded crowded_sheet) ≡ right_in
after_right = ap (duet_after empty_duet Right) first_right

right_fit : Fit right_in
right_fit = rw after_right at (fit_next empty_duet (plug Right crowded crowded_sheet) fit_empty (λ i. omega arith))

second_left : plug_of right_in Left crowded (length crowded_sheet) ≡ refused 62 0
unfolding controls_on
second_left =
    let n = crowds.many in
    let m = controls_counted crowded (length crowded_sheet) in
    let l : most_together < R.table.count + R.controls = omega arith in
    plug_cases right_in Left crowded (length crowded_sheet) ∙ yes _ _ right_fit ∙ yes _ _ (eq-eqb _ _ crowds.accepted) ∙ no _ _ (lt-leb _ _ l)

abbrev left_only : List Step
left_only = plug Left crowded crowded_sheet ∷ []

abbrev both : List Step
both = plug Right crowded crowded_sheet ∷ plug Left crowded crowded_sheet ∷ []

seen_alone : seen_by Left empty_duet left_only ≡ seen_plug crowded crowded_sheet (let_in R) ∷ []
unfolding seen_by
seen_alone = ap (λ (o : Plugging). seen_plug crowded crowded_sheet o ∷ []) first_left

seen_behind : seen_by Left empty_duet both ≡ seen_plug crowded crowded_sheet (refused 62 0) ∷ []
unfolding seen_by
seen_behind =
    ap (λ (b : Duet). seen_by Left b left_only) after_right
    ∙ ap (λ (o : Plugging). seen_plug crowded crowded_sheet o ∷ []) second_left

number_first : List Seen → ℕ
number_first [] = 0
number_first (x ∷ l) = x.number

pub count_told : CountTold
unfolding steps_of number_first
count_told = record {
  x = left_only;
  y = both;
  x_carried = λ x m. plugs x (Memᴰ.eq_of_singleton m);
  y_carried = λ x m. ⊎_elim (λ e. plugs_right x e) (λ k. plugs x (Memᴰ.eq_of_singleton k)) (Memᴰ.cases_cons m);
  steps = refl;
  apart = λ e. let z : ◌≡◌ {A = ℕ} 0 62 = ap number_first (sym seen_alone ∙ e ∙ seen_behind) in omega arith;
}
  where
    plugs : (x : Step) → x ≡ plug Left crowded crowded_sheet → Bytes (sent_by x)
    plugs x e = rw e (λ i. omega arith)

    plugs_right : (x : Step) → x ≡ plug Right crowded crowded_sheet → Bytes (sent_by x)
    plugs_right x e = rw e (λ i. omega arith)
