-- The cases, computed from the definitions. That there is a configuration of the edition follows from the number 0 by demand 3.
--   cases_3  ==  the proof of the statement
use Prim.Native.Nat.{ℕ}
use mathlib.Core.Path.{refl}
use mathlib.Core.List.{List}
use native.Mathlib.Omega.{arith}
use lib.ListN.{replicate}
use Rattle.ground.specs.Refuse.{refuse, place_or}
use Rattle.ground.specs.First.{first_from}
use Rattle.ground.specs.Lists.{total, any, pad}
use Rattle.ground.specs.Places.{first_in, somewhere}
use Rattle.graph.specs.Members.{all, mem}
use Rattle.graph.specs.Passes.{joins, step, pass_from, passes}
use Rattle.graph.specs.Along.{put, given}
use Rattle.graph.specs.Tables.{tabulate_from}
use Rattle.graph.specs.Borne.{wrong_id}
use Rattle.scan.specs.Cutting.{end_by, rest_from_by, rest_by, reach_by, breach_by}
use Rattle.scan.specs.Search.{searched}
use Rattle.search.specs.Want.{is_interface, is_class, is_audio, is_setting, wants, found_from}
use Rattle.opening.specs.Reading.{breach1, breach2}
use Rattle.interfaces.specs.Reading.{wrong_interface, breach4, interfaces_judged}
use Rattle.groups.specs.Reading.{run_end, frame_from, frame_of, strays_from}
use Rattle.groups.specs.Third.{is_third_header, third_breach5, third_breach6, third_group_judged, third_judged}
use Rattle.layout3.specs.Layout.{entity_of, is_unknown}
use Rattle.layout3.specs.Facts.{facts_of}
use Rattle.buffer.specs.Reading.{found_cluster, cluster_in, cluster_with, is_wrong_cluster, found_or, breach51}
use Rattle.edition3.specs.Third.{first_of, feature_length, keeps}
use Rattle.entities.specs.Run.{node_of, nodes_from, run_in}
use Rattle.ids.specs.Breach.{breach10}
use Rattle.sources.specs.Lookup.{lookup_below, source_number}
use Rattle.sources.specs.Breach.{wrong_source, breach11}
use Rattle.ranks.specs.Order.{ordered}
use Rattle.ranks.specs.Breach.{breach12}
use Rattle.links3.specs.Links.{wrong_clock_by, breach_clock, lesser, breach11_third, is_nowhere, unknown_by, breach52}
use Rattle.sweep3.specs.Sweep.{first_id, given_ids}
use Rattle.keeping3.specs.Keeping.{keeps_by, breach13}
use Rattle.clusters3.specs.Shown.{clusters_by}
use Rattle.records.specs.Records.{head_of, record_of, records_to, room_for, shown_in}
use Rattle.records.specs.Sheet.{whole_sheet}
use Rattle.third.specs.Judgement.{run_for, run_judged, clusters_judged, links_judged, frame_judged, third_then, room_refused, third_verdict, sheet_refused, third_answer, third_sheet}
use Rattle.protocol.specs.Protocol.{protocol_of, sheet_reading, either_reading, either_sheet}
use Rattle.reader3.specs.Case3.{case_c, case_d, mono_buffer, Cases3}
use Rattle.reader3.proofs.ThirdShows.{third_demand}

abbrev lent_whole : List ℕ
lent_whole = replicate whole_sheet 0

pub cases_3 : Cases3
unfolding case_c case_d mono_buffer refuse place_or first_from total any pad first_in somewhere all mem joins step pass_from passes put given tabulate_from wrong_id end_by rest_from_by rest_by reach_by breach_by searched is_interface is_class is_audio is_setting wants found_from breach1 breach2 wrong_interface breach4 interfaces_judged run_end frame_from frame_of strays_from is_third_header third_breach5 third_breach6 third_group_judged third_judged entity_of is_unknown facts_of found_cluster cluster_in cluster_with is_wrong_cluster found_or breach51 first_of feature_length keeps node_of nodes_from run_in breach10 lookup_below source_number wrong_source breach11 ordered breach12 wrong_clock_by breach_clock lesser breach11_third is_nowhere unknown_by breach52 first_id given_ids keeps_by breach13 clusters_by head_of record_of records_to room_for shown_in run_for run_judged clusters_judged links_judged frame_judged third_then room_refused third_verdict sheet_refused third_answer third_sheet protocol_of sheet_reading either_reading either_sheet
cases_3 = record {
  case_c_lem = record { accepted = refl; entities = refl; sheet = refl; configuration = ((third_demand case_c mono_buffer).accepted lent_whole (omega arith)).0 refl };
  case_d_lem = record { accepted = refl; entities = refl; sheet = refl; configuration = ((third_demand case_d mono_buffer).accepted lent_whole (omega arith)).0 refl };
  refused = record {
    zero_id = record { number = refl; place = refl; no_entities = refl; sheet = refl };
    unknown_cluster = record { number = refl; place = refl; no_entities = refl; sheet = refl };
    unknown_clock = record { number = refl; place = refl; no_entities = refl; sheet = refl };
  };
}
