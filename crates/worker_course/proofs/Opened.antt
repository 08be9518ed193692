-- Nothing is out of a graph that was made; it can be stopped, and then each file is as it was.
use Rattle.std.proofs.Common.{◌≡◌, ℕ, ◌≤◌, false, All, List, [], length, Option, None, refl, sym, ◌∙◌, ap, subst, inl, arith}
use Rattle.std.proofs.lemmas.List.Elements.{All-nil}
use Rattle.outside_io.specs.declared.sink.Sink.{Ghosts as SinkGhosts}
use Rattle.outside_io.specs.declared.source.Source.{Ghosts as SourceGhosts}
use Rattle.audio_parts.specs.declared.part_file.PartFile.{PartFile}
use Rattle.il_machine.specs.declared.answer.Progress.{Progress}
use Rattle.il_machine.specs.Buffers.{IsWithClient}
use Rattle.il_machine.specs.Headers.{seen}
use Rattle.il_machine.specs.Look.{Look, look}
use Rattle.il_machine.specs.World.{Component, HeaderRecord}
use Rattle.machine_laws.proofs.Every.{from_places}
use Rattle.il_graph.specs.Shown.{Shown}
use Rattle.board.specs.Boards.{HasAllBack}
use Rattle.conductor.specs.Casting.{cast_of}
use Rattle.play_build_laws.specs.Dismantling.{AreLinks}
use Rattle.play_build_laws.specs.Stages.{Joining}
use Rattle.play_forms.specs.Plans.{PlanValue}
use Rattle.play_log.specs.Entries.{Entry}
use Rattle.play_plan_laws.specs.Assemblies.{PlayFiles}
use Rattle.play_plan_laws.specs.Endings.{ends_of}
use Rattle.play_result_laws.specs.Rounds.{begins}
use Rattle.play_history_laws.specs.Refused.{IsAtPart}
use Rattle.play_history_laws.specs.Worked.{IsWorked}
use Rattle.play_course.specs.declared.player.RunFault.TheVariants.{OutOfMemory}
use Rattle.play_course.specs.Players.{CanPlay}
use Rattle.play_course.specs.Running.{AreSameFiles}
use Rattle.play_graph.specs.Ending.{AreFilesOf, StandsFor}
use Rattle.play_graph.specs.Making.{IsAt}
use Rattle.play_graph.specs.Stops.{HasNoneOut, HasStopped}
use Rattle.play_run.proofs.Played.{untouched}
use Rattle.play_run.proofs.ThreadFiles.{files_same}
use Rattle.worker_course.specs.Answers.{IsBrokenOff}
use Rattle.worker_course.specs.Sights.{all_seen}
use Rattle.worker_course.proofs.Placed.{same_lists}
use Rattle.worker_course.proofs.Premises.{WorldLaws}

module _ {S K : Type 0} (plan : PlanValue) (given : PlayFiles) (graph : Shown S K Progress) (A : IsAt plan given (Joining (length plan.joints)) graph) where
  clients_in : All (λ (c : Component). c.client_out ≡ false) A.world.components
  clients_in = from_places (λ (c : Component). c.client_out ≡ false) A.world.components (λ i c e. ap (λ (y : Component). y.client_out) (A.built.built.components.each i c e).fresh_else)

  pub works_in : All (λ (c : Component). c.work ≡ None) A.world.components
  works_in = from_places (λ (c : Component). c.work ≡ None) A.world.components (λ i c e. ap (λ (y : Component). y.work) (A.built.built.components.each i c e).fresh_else)

  no_header : (headers : List HeaderRecord) → headers ≡ [] → (number : ℕ) → IsWithClient number (record (look A.world) { headers = seen headers }) → ⊥
  no_header headers e number = subst (λ (hs : List HeaderRecord). IsWithClient number (record (look A.world) { headers = seen hs }) → ⊥) (sym e) (λ h. h)

  pub all_back : HasAllBack graph
  all_back = record {
    headers = λ number h. no_header A.world.headers A.built.built.headers number (subst (IsWithClient number) (sym A.stands.looks) h);
    clients = subst (λ (l : Look). All (λ (c : Component). c.client_out ≡ false) l.components) A.stands.looks clients_in;
    works = subst (λ (l : Look). All (λ (c : Component). c.work ≡ None) l.components) A.stands.looks works_in;
  }

  pub none_out : HasNoneOut A.world
  none_out = record { works = works_in; clients = clients_in }

  -- a play of no acts
  no_acts : IsWorked plan given A.handles A.world [] A.world
  no_acts = record {
    ready = A.ready;
    stage = A.built;
    runs = refl;
    alone = λ place entry e. absurd cc;
    parts = All-nil (λ (entry : Entry). IsAtPart plan A.handles entry.act);
  }

  module _ (laws : WorldLaws) where
    pub can_stop : StandsFor (HasStopped plan 0) graph
    can_stop =
        let L = laws.stands plan given A.handles A.world [] A.world no_acts (cast_of plan) begins in
        (A.world, A.stands, laws.stops plan L.0 L.1 L.2 A.world A.ready.valid L.3 L.4 L.5 none_out)

    pub does_fit : (length plan.joints ≤ 1024) × AreLinks (ends_of plan) (length plan.joints)
    does_fit =
        let L = laws.stands plan given A.handles A.world [] A.world no_acts (cast_of plan) begins in
        (laws.few plan L.0 L.1 _ A.ready.valid L.4, laws.links plan L.0 L.1 _ A.ready.valid L.4)

module _ {S K : Type 0} (reads : SourceGhosts S) (writes : SinkGhosts K) (plan : PlanValue) where
  -- the files stayed as they were
  pub none_touched : (entries : List (Option (PartFile S K))) → CanPlay plan (all_seen reads writes entries) → IsBrokenOff plan (all_seen reads writes entries) (all_seen reads writes entries) OutOfMemory
  none_touched entries ready = record {
    failed = λ given R O. untouched reads writes plan entries ready given O;
    cause = tt;
    left = λ given R O. inl (refl, refl);
  }

  pub same_untouched : (entries back : List (Option (PartFile S K))) → entries ≡ back → CanPlay plan (all_seen reads writes entries)
      → AreSameFiles (all_seen reads writes entries) (all_seen reads writes back) × IsBrokenOff plan (all_seen reads writes entries) (all_seen reads writes back) OutOfMemory
  same_untouched entries back e ready =
      subst (λ (now : List (Option (PartFile S K))). AreSameFiles (all_seen reads writes entries) (all_seen reads writes now) × IsBrokenOff plan (all_seen reads writes entries) (all_seen reads writes now) OutOfMemory) e
      (files_same reads writes entries, none_touched entries ready)

  -- what the graph had of each place came back there
  pub files_back : (entries back : List (Option (PartFile S K))) (graph : Shown S K Progress) → length entries ≡ length plan.parts → length back ≡ length plan.parts
      → AreFilesOf graph (length plan.parts) entries → AreFilesOf graph (length plan.parts) back → entries ≡ back
  files_back entries back graph m n were are = same_lists entries back (m ∙ sym n) (λ place b. were place (omega (arith, b, m)) ∙ sym (are place (omega (arith, b, m))))
