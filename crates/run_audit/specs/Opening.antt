-- A replay that is ready for the first line.
use Rattle.std.specs.Prelude.{◌≡◌, ℕ, ◌<◌, false, length, slice_get, Some, None}
use Rattle.il_machine.specs.declared.answer.Progress.{Progress}
use Rattle.il_machine.specs.Whole.{Stands}
use Rattle.il_machine.specs.World.{World}
use Rattle.play_plan_laws.specs.Assemblies.{PlayFiles}
use Rattle.play_log.specs.Scenes.{scene_of}
use Rattle.play_result_laws.specs.Worlds.{IsOpening}
use Rattle.note_queues.specs.declared.client.Client.{Ghosts as ClientGhosts}
use Rattle.outside_io.specs.declared.source.Source.{Ghosts as SourceGhosts}
use Rattle.compared_files.specs.Comparing.{ComparingValue}
use Rattle.graph_acts.specs.Plain.{Sight}
use Rattle.play_graph.specs.Graphs.{kept_of}
use Rattle.audit_order.specs.Steps.{nothing_asked}
use Rattle.audit_forms.specs.Told.{nothing_told}
use Rattle.run_audit.specs.declared.replay.Replay.{Replay}
use Rattle.run_audit.specs.Seeing.{replay_sight}

-- the client object of a component is its progress
abbrev pub play_client : ClientGhosts Progress
play_client = record { HEADERS = false; progress = λ client. client }

-- what is seen of the graph of a play's replay
abbrev pub play_sight : {S : Type 0} → SourceGhosts S → Sight S (ComparingValue S) Progress
play_sight reads = replay_sight play_client reads

module _ {S : Type 0} where
  -- nothing is out, nothing was told, and nothing asked
  pub record IsUnused (r : Replay S Progress) : Type 0 where
    pub works_many : length r.works.items ≡ length (r.plan).parts
    pub works : (place : ℕ) → place < length (r.plan).parts → slice_get r.works.items place ≡ Some None
    pub clients_many : length r.clients.items ≡ length (r.plan).parts
    pub clients : (place : ℕ) → place < length (r.plan).parts → slice_get r.clients.items place ≡ Some None
    pub told : r.told.items ≡ nothing_told (r.plan).parts
    pub order : r.order ≡ nothing_asked

  -- The graph stands for a world where the play of the plan with these files begins; each client object is in.
  pub record OpensWith (r : Replay S Progress) (given : PlayFiles) : Type 0 where
    pub opening : World
    pub opens : IsOpening r.plan given opening
    pub stands : Stands (kept_of r.served.graph) opening
    pub handles : r.handles.items ≡ (scene_of (r.plan).parts opening).handles
