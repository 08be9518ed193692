-- A play that breaks off can be stopped.
use Rattle.std.proofs.Common.{◌≡◌, ◌≤◌, false, length, List, Option, option_map, ap}
use Rattle.il_machine.specs.Sound.{Sound}
use Rattle.il_machine.specs.Whole.{Always, Stands}
use Rattle.il_machine.specs.World.{Component, World}
use Rattle.audio_parts.specs.declared.part_file.PartFile.{PartFile}
use Rattle.machine_laws.proofs.Every.{from_places}
use Rattle.play_build_laws.specs.Dismantling.{AreLinks}
use Rattle.play_turn_laws.proofs.Planned.{plan_links}
use Rattle.play_plan_laws.specs.Assemblies.{play_cast_of}
use Rattle.play_plan_laws.specs.Endings.{ends_of}
use Rattle.play_graph.specs.Ending.{AreBack, StandsFor}
use Rattle.play_graph.specs.Graphs.{kept_of}
use Rattle.play_graph.proofs.Naming.{named_at}
use Rattle.play_graph.specs.Stops.{HasNoneOut, HasStopped}
use Rattle.play_graph.proofs.Plays.{few_joints, play_stops, work_stops}
use Rattle.play_run.specs.declared.failure.Stop.{Stop}
use Rattle.play_run.specs.declared.failure.Stop.TheVariants as stops
use Rattle.play_run.specs.Playing.{AreClientsIn, HaveNoWork, PlayingValue}
use Rattle.play_run.specs.Stopping.{GivesBackStopped}
use Rattle.play_run.specs.Turning.{HasBrokenOff, world_then}
use Rattle.play_run.proofs.Naming.{all_clients_in}
use Rattle.play_run.proofs.Stepping.{joined_between}

module _ {S K : Type 0} (x : PlayingValue S K) where
  none_out : (w : World) → Stands (kept_of x.graph) w → Sound w → HaveNoWork w → AreClientsIn x.graph.core → HasNoneOut w
  none_out w s Z works clients = record {
    works = works;
    clients = from_places (λ (a : Component). a.client_out ≡ false) w.components (λ i a e.
        all_clients_in x clients w s i a.handle a (named_at w i a.handle Z (ap (option_map (λ (c : Component). c.handle)) e)) e);
  }

  pub most_stopped : (stop : Stop) × HasBrokenOff x stop → length x.plan.parts ≤ 32
  most_stopped (stops.Failed failure, F) = F.valid.most
  most_stopped (stops.OutOfMemory, B) = B.0.1.standing.valid.most

  pub few_stopped : (stop : Stop) × HasBrokenOff x stop → length x.plan.joints ≤ 1024
  few_stopped (stops.Failed failure, F) = few_joints x.plan F.valid F.recent F.play F.before F.played
  few_stopped (stops.OutOfMemory, B) = let Z = B.0.1.standing in few_joints x.plan Z.valid Z.recent B.0.0 Z.world (Z.conducted).play

  pub links_stopped : (stop : Stop) × HasBrokenOff x stop → AreLinks (ends_of x.plan) (length x.plan.joints)
  links_stopped (stops.Failed failure, F) = plan_links x.plan F.recent F.play F.before F.valid F.played
  links_stopped (stops.OutOfMemory, B) = let Z = B.0.1.standing in plan_links x.plan Z.recent B.0.0 Z.world Z.valid (Z.conducted).play

  module _ (sound : Always (kept_of x.graph) Sound) where
    -- what a work that failed left is joined as before, and no component is Invalid; so it is where the log wants memory
    can_stop : (stop : Stop) (B : HasBrokenOff x stop) → HasStopped x.plan 0 (world_then x stop B)
    can_stop (stops.Failed failure) F =
        let S = sound F.world F.stands in
        work_stops x.plan F.valid F.recent F.play F.before F.played F.tunnels F.done F.world F.finishes S (none_out F.world F.stands S F.works F.clients)
    can_stop stops.OutOfMemory B =
        let Y = B.0.1 in
        let Z = Y.standing in
        let S = sound Z.world Z.stands in
        play_stops x.plan Z.valid Z.recent B.0.0 Z.world (Z.conducted).play (joined_between (play_cast_of x.plan) Z.recent B.0.0 (x.conductor).lates ((Z.conducted).conducting).lates Y.carried)
        (none_out Z.world Z.stands S Z.works Z.clients)

    its_world : (stop : Stop) (B : HasBrokenOff x stop) → Stands (kept_of x.graph) (world_then x stop B)
    its_world (stops.Failed failure) F = F.stands
    its_world stops.OutOfMemory B = B.0.1.standing.stands

    pub stands_stopped : (stop : Stop) × HasBrokenOff x stop → StandsFor (HasStopped x.plan 0) x.graph
    stands_stopped (stop, B) = (world_then x stop B, its_world stop B, can_stop stop B)

    pub gives_stopped : (entries : List (Option (PartFile S K))) → Always (kept_of x.graph) (λ w. HasStopped x.plan 0 w → AreBack w entries) → GivesBackStopped x entries
    gives_stopped entries back = λ stop B. back (world_then x stop B) (its_world stop B) (can_stop stop B)
