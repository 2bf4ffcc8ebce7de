-- The cases, computed from the definitions.
--   together, printed_a, answer_b  ==  the proofs of three statements; of the fourth, OtherProtocol, it is AnyProtocol's
use mathlib.Core.Path.{refl}
use lib.Count.{ones, ones_in}
use Rattle.ground.specs.Refuse.{refuse, place_or}
use Rattle.ground.specs.First.{first_from, is_before}
use Rattle.ground.specs.Lists.{total, any, pad}
use Rattle.scan.specs.Cutting.{end_by, rest_from_by, rest_by, reach_by, breach_by}
use Rattle.scan.specs.Search.{searched}
use Rattle.search.specs.Want.{is_interface, is_class, is_audio, is_setting, is_member, wants, found_from}
use Rattle.layout.specs.Layout.{entity_of, is_unknown}
use Rattle.layout.specs.Withdrawn.{is_printed, layout_number, is_wrong}
use Rattle.kinds.specs.Shown.{kind_of}
use Rattle.kinds.specs.Sources.{pins_of, sources_from, feeds_of}
use Rattle.entities.specs.Run.{node_of, nodes_from, blank_node, run_in}
use Rattle.opening.specs.Reading.{breach1, breach2}
use Rattle.interfaces.specs.Reading.{wrong_interface, breach4, interfaces_judged}
use Rattle.collection.specs.Reading.{is_distinct, all_known, unlisted, collects}
use Rattle.groups.specs.Reading.{run_end, frame_from, frame_of, opens, is_header, breach5, strays_from, breach6, breach7, group_judged}
use Rattle.groups.specs.Reading as groups
use Rattle.cutting.specs.Survey.{run_found, breach8, breach9, breach17, verdict_then, verdict, surveyed, survey_of}
use Rattle.cutting.specs.Survey as cutting
use Rattle.graph.specs.Members.{all, mem}
use Rattle.graph.specs.Passes.{joins, step, pass_from, passes}
use Rattle.graph.specs.Along.{put, given}
use Rattle.graph.specs.Tables.{tabulate_from}
use Rattle.ground.specs.Places.{first_in, somewhere}
use Rattle.sources.specs.Lookup.{lookup_below, source_number}
use Rattle.graph.specs.Borne.{wrong_id}
use Rattle.ids.specs.Breach.{breach10}
use Rattle.sources.specs.Breach.{wrong_source, breach11}
use Rattle.ranks.specs.Order.{ordered}
use Rattle.ranks.specs.Breach.{breach12}
use Rattle.sweep.specs.Sweep.{gives_by, given_in, clusters_of}
use Rattle.keeping.specs.Keeping.{keeps_by}
use Rattle.clusters.specs.Breach.{breach13}
use Rattle.pins.specs.Same.{all_same}
use Rattle.edition.specs.Audio.{first_of, channels_in, give_out, mixer_length, feature_length, alike, named, mixer_kept, feature_kept, keeps}
use Rattle.channels.specs.DeclaredChannels.{cluster_kept, names_kept}
use Rattle.connections.specs.Judgement.{judged}
use Rattle.terminals.specs.Terminals.{terminal_of, terminals_from, terminals_of, bearer_in, terminal_number, channels_borne}
use Rattle.formats.specs.Tests.{opens_as, is_general, is_format, samples_right, rates_right, is_type_one, format_right}
use Rattle.streaming.specs.Tests.{bearer_right, described_by, holds_class, broken, wrong_stream, first_broken, breach14}
use Rattle.masks.specs.Masks.{bit_carries, bit_set, bit_controls, bits_from, mask_controls, channels_from, feature_controls}
use Rattle.controls.specs.Controls.{entity_controls, controls_to, controls_of_run, breach15}
use Rattle.controls.specs.Growth.{table_of}
use Rattle.records.specs.Records.{head_of, record_of, records_to, room_for, shown_in}
use Rattle.setting.proofs.CasesLemmas.{cases_hold}
use Rattle.topology.specs.Reading.{rest_judged, survey_judged, judged_then, room_judged, verdict_of, refused_reading, taken_reading, reading_of, sheet_of}
use Rattle.demands.specs.Cases.{case_a, Configurations, Together, PrintedA, case_b, AnswerB}

record Computed : Type 0 where
  configurations : Configurations
  printed : PrintedA
  other : AnswerB

computed : Computed
unfolding case_a case_b refuse place_or first_from is_before total any pad end_by rest_from_by rest_by reach_by breach_by searched is_interface is_class is_audio is_setting is_member wants found_from entity_of kind_of is_unknown pins_of sources_from feeds_of node_of nodes_from blank_node run_in breach1 breach2 wrong_interface breach4 interfaces_judged run_end frame_from frame_of opens is_header breach5 strays_from breach6 is_distinct all_known unlisted collects breach7 group_judged groups.judged run_found breach8 breach9 breach17 is_printed layout_number is_wrong verdict_then verdict cutting.run_judged surveyed survey_of all mem joins step pass_from passes put given tabulate_from first_in somewhere lookup_below source_number wrong_id breach10 wrong_source breach11 ordered breach12 gives_by given_in keeps_by breach13 clusters_of first_of channels_in give_out mixer_length feature_length alike named all_same mixer_kept feature_kept keeps cluster_kept names_kept ones ones_in judged terminal_of terminals_from terminals_of bearer_in terminal_number channels_borne opens_as is_general is_format samples_right rates_right is_type_one format_right bearer_right described_by holds_class broken wrong_stream first_broken breach14 bit_set bit_controls bits_from mask_controls channels_from feature_controls entity_controls controls_to controls_of_run breach15 table_of head_of record_of records_to room_for shown_in rest_judged survey_judged judged_then room_judged verdict_of refused_reading taken_reading reading_of sheet_of bit_carries
computed = record {
  configurations = record { accepted = refl; length_wrong = refl; eight_bytes = refl; sources_itself = refl; same_id = refl; sources_output = refl };
  printed = record { answer = refl; sheet = refl };
  other = record { accepted = refl; entities = refl; controls = refl; fourth = refl };
}

pub together : Together
unfolding cluster_kept names_kept ones ones_in
together = record { configurations = computed.configurations; clusters = refl; settings = cases_hold }

pub printed_a : PrintedA
printed_a = computed.printed

pub answer_b : AnswerB
answer_b = computed.other
