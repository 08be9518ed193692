-- A work is claimed, done and brought back: a step of its component.
use Rattle.std.proofs.Common.{◌≡◌, inl, inr, ◌<◌, ◌≤◌, ℕ, zero, suc, arith, true, false, nat_eq, List, [], length, Option, Some, None, Result, Ok, refl, sym, ◌∙◌, ap, subst, eqb-true, eq-eqb, ne_eqb, Bool, ◌≢◌}
use Rattle.std.specs.Prelude.{IfSome, MatchOption, is_some}
use Rattle.std.proofs.lemmas.Bool.{cases_eq}
use Rattle.omx_types.specs.declared.handle.Handle.{Handle}
use Rattle.omx_types.specs.declared.error.OmxError.{OmxError}
use Rattle.omx_types.specs.declared.fault.PartFault.{PartFault}
use Rattle.part_api.specs.Terms.{Terms}
use Rattle.il_machine.specs.declared.answer.Progress.{Progress}
use Rattle.il_machine.specs.World.{Component, World, component_numbered, number_of}
use Rattle.il_machine.specs.Acts as acts
use Rattle.il_machine.specs.Run.{Meets}
use Rattle.il_machine.specs.Claims.{Claim, Claimed, ClaimedWork, WorkSeen}
use Rattle.il_machine.specs.Stepping.{WorkDone, IsAnnounced, IsDoneOf}
use Rattle.il_machine.specs.Finishing.{Finish}
use Rattle.il_machine.specs.Due.{IsClosed}
use Rattle.il_machine.specs.Sound.{Sound}
use Rattle.il_machine.specs.Whole.{Always, Kept, PartSeen, Stands, Steps, StepsWhere}
use Rattle.machine_laws.proofs.Every.{at_place}
use Rattle.machine_laws.proofs.Finding.{either}
use Rattle.machine_laws.proofs.Keys.{there_is}
use Rattle.machine_laws.proofs.Steps.{sound_step}
use Rattle.history_laws.specs.Works.{has_work_out}
use Rattle.history_laws.proofs.Freed.{none_comes, none_left}
use Rattle.history_laws.proofs.Named.{is_named, named_there}
use Rattle.graph_core.specs.Clients.{KeepsAllClients}
use Rattle.audio_parts.specs.declared.part_file.PartFile.{PartFile}
use Rattle.il_graph.specs.Shown.{KeepsFiles, Shown, SoundWhole, file_of}
use Rattle.il_graph.specs.Claiming.{IsSoFar, OnNoWork, told_by}
use Rattle.il_flow.specs.Places.{carried_from}
use Rattle.il_flow.specs.Works.{ComesBack, DoneOf, WorkOf, seen_done, seen_work}
use Rattle.il_graph.specs.Finishing.{Returns}
use Rattle.il_graph.proofs.Returning.{may_return}
use Rattle.il_graph.specs.declared.claimed.Claimed.{Claimed as Given}
use Rattle.il_graph.specs.declared.claimed.Claimed.TheVariants as given
use Rattle.il_graph.proofs.Back.{number_named}
use Rattle.conductor.specs.declared.phase.LateLink.{LateLink}
use Rattle.play_model.specs.Play.{Play}
use Rattle.play_loop.specs.Turns.{SomePlay}
use Rattle.act_text.specs.declared.text.ActText.{ActText}
use Rattle.script_lang.specs.declared.play_line.PartLine.{PartLine}
use Rattle.play_log.specs.Kept.{LogValue}
use Rattle.play_log.specs.Scenes.{scene_of}
use Rattle.play_log.specs.Said.{SaysFinish, SaysOf}
use Rattle.play_world_laws.specs.Cast.{components_of, script_place}
use Rattle.play_world_laws.specs.Worlds.{Names}
use Rattle.play_world_laws.specs.Changing.{is_joined_at}
use Rattle.play_world_laws.specs.PlayWorlds.{IsPlayWorld, PlayCast}
use Rattle.play_world_laws.proofs.ChangeEnds.{actor_there}
use Rattle.play_world_laws.specs.Waiting.{IsWaiting}
use Rattle.play_world_laws.proofs.Closing.{idle_closes}
use Rattle.play_step_laws.proofs.Claiming.{claim_taken}
use Rattle.play_turn_laws.specs.Conducting.{AreCarriedOut, AreLates, IsCarriedOut}
use Rattle.play_turn_laws.specs.Turns.{IsStepOf, PlayCame}
use Rattle.play_turn_laws.proofs.Coming.{finishes_come, none_claimed}
use Rattle.play_plan_laws.specs.Assemblies.{play_cast_of}
use Rattle.play_plan_laws.specs.Casting.{place_of}
use Rattle.play_graph.specs.Graphs.{IsHandleAt, kept_of}
use Rattle.play_run.specs.Playing.{AsksIn, unfailed, ToldAlike, HaveNoWork, PlayingValue, TurnsTo, layout_of, IsPlaying}
use Rattle.play_run.specs.Recording.{IsNameAt, IsTold}
use Rattle.play_graph.specs.Stops.{HaveTunnels}
use Rattle.play_run.specs.Turning.{FailsOn, FileShows, FilesStayed}
use Rattle.play_run.proofs.Working.{all_in, none_out}
use Rattle.play_run.proofs.Commanding.{component_named_in}
use Rattle.play_run.proofs.Recording.{is_player, one_more, own_rests}
use Rattle.audio_parts.specs.Objects.{Held}
use Rattle.play_model.specs.Content.{ArePlain}
use Rattle.play_stream_laws.specs.Contents.{PlayContents, network_of}
use Rattle.play_stream_laws.specs.Fronts.{AreFronts}
use Rattle.play_stream_laws.specs.PlayStreams.{HasPlayStreams}
use Rattle.play_run.proofs.Failures.{all_alone, all_last, all_run, all_steps}
use Rattle.play_run.proofs.Streaming.{ClaimsOn, FailsWith, FinishesOn, IsBackFrom, StreamsGo, StreamsOn, streams_go}
use Rattle.play_run.proofs.Files.{claim_stays, finish_told, told_on, told_same}
use Rattle.play_run.proofs.Answering.{keeps_in, turn_goes, turn_stays, with_both}

-- the work of the component that the handle names went out, and came back from its step with that fault and these frames
pub record IsWorked (h : Handle) (fault : Option PartFault) (frames : ℕ) (w v : World) : Type 0 where
  pub work : WorkSeen
  pub between : World
  pub goes : Claim w h (Ok (ClaimedWork work)) between
  pub done : WorkDone
  pub its : done.component ≡ h.generation
  pub faults : done.fault ≡ fault
  pub does : done.frames ≡ frames
  pub meets : Meets between (acts.Finish done)
  pub comes : Finish between done v

module _ (x : PlayCast) (recent : ℕ) (p : Play) (w : World) (c : ℕ) (h : Handle) (W : IsPlayWorld x recent p w) (l : c < components_of x.cast) (N : Names x.cast w c h) where
  number_is : h.generation ≡ script_place x.cast c
  number_is = let a = actor_there x recent p w c W l in sym (number_named h w.components (script_place x.cast c) a.0 N a.1) ∙ (a.2).number

  module _ (waiting : IsWaiting (x.cast).layout p) (none : HaveNoWork w) (Z : IsClosed w) (fault : Option PartFault) (frames : ℕ) (v : World) (U : IsWorked h fault frames w v) where
    pub between_plays : IsPlayWorld x recent p U.between
    between_plays = elim (claim_taken x recent p w c h (Ok (ClaimedWork U.work)) U.between W l N U.goes) [
      | inl s ↦ subst (IsPlayWorld x recent p) (sym s) W
      | inr L ↦ (idle_closes x recent p w U.between W waiting Z L).0
    ]

    pub back_from : IsBackFrom x c U.between v fault
    back_from =
        let u = U.between in
        let a = actor_there x recent p u c between_plays l in
        let number : number_of a.0 ≡ (U.done).component = (a.2).number ∙ (sym number_is ∙ sym U.its) in
        let named : component_numbered (U.done).component u ≡ Some a.0 =
        subst (λ (n : ℕ). component_numbered n u ≡ Some a.0) number (is_named (number_of a.0) u ∙ named_there 0 u.numbered (script_place x.cast c) u.components a.0 (between_plays.sound).rising a.1) in
        let d = there_is (component_numbered (U.done).component u) (λ y. MatchOption y.work ⊥ (λ work. IsDoneOf u y work U.done)) U.meets in
        let z : Some d.0 ≡ Some a.0 = sym d.1 ∙ named in
        let same : d.0 ≡ a.0 = cc in
        let k = there_is (d.0).work (λ work. IsDoneOf u d.0 work U.done) d.2 in
        record {
          component = a.0;
          there = a.1;
          work = k.0;
          out = ap (λ (y : Component). y.work) (sym same) ∙ k.1;
          done = U.done;
          its = U.its ∙ number_is;
          does = subst (λ (y : Component). IsDoneOf u y k.0 U.done) same k.2;
          faults = U.faults;
          comes = U.comes;
        }

    between_sound : Sound U.between
    between_sound = sound_step w U.between (acts.Claim h) (acts.Claimed (Ok (ClaimedWork U.work))) tt U.goes W.sound

    -- it is in again, and so is each other
    pub works_in : HaveNoWork v
    works_in =
        let u = U.between in
        let k = (U.done).component in
        all_in v (sound_step u v (acts.Finish U.done) acts.Finished U.meets U.comes between_sound) (λ n. either (nat_eq n k)
        (λ t. subst (λ (j : ℕ). has_work_out j v ≡ false) (sym (eqb-true n k t)) (none_left u U.done v between_sound U.meets U.comes))
        (λ f.
        let other : nat_eq h.generation n ≡ false = ne_eqb h.generation n (λ q. let b : nat_eq n k ≡ true = eq-eqb n k (sym q ∙ sym U.its) in absurd cc) in
        none_comes u (acts.Finish U.done) acts.Finished v n between_sound U.meets U.comes refl
        (none_comes w (acts.Claim h) (acts.Claimed (Ok (ClaimedWork U.work))) u n W.sound tt U.goes other (none_out n w none))))

    -- what the files told when they came stays
    pub worked_told : ToldAlike w v
    worked_told =
        let a = actor_there x recent p w c W l in
        told_on w U.between v (told_same w w U.between (λ n t q. (t, q, refl)) (claim_stays w U.between (script_place x.cast c) a.0 h (Ok (ClaimedWork U.work)) N a.1 U.goes)) (finish_told U.between v U.done U.comes)

    -- the claim moves no bytes
    claimed_streams : ClaimsOn x c h → (k : PlayContents) → HasPlayStreams x k p w → HasPlayStreams x k p U.between
    claimed_streams claims k H = claims (Ok (ClaimedWork U.work)) recent p w U.between W l N U.goes k recent p H between_plays refl

    -- after a step that failed, too, the sinks' files have taken fronts
    pub failed_streams : ClaimsOn x c h → (failure : PartFault) → fault ≡ Some failure → FailsWith x c failure → (k : PlayContents) → HasPlayStreams x k p w → (stream : ℕ → List ℕ) → ArePlain (network_of x.cast) k.model stream → AreFronts x.cast k v stream
    failed_streams claims failure e fails k H = fails recent p U.between v between_plays l (subst (IsBackFrom x c U.between v) e back_from) k (claimed_streams claims k H)

  module _ (waiting : IsWaiting (x.cast).layout p) (none : HaveNoWork w) (Z : IsClosed w) (frames : ℕ) (v : World) (U : IsWorked h None frames w v) where
    pub works_came : PlayCame x recent p v true (IsStepOf (x.cast).layout c)
    works_came =
        let O = back_from waiting none Z None frames v U in
        finishes_come x recent p U.between c O.component O.work O.done v (between_plays waiting none Z None frames v U) l O.there O.out O.its O.does O.faults O.comes

    -- the bytes that it took and gave have moved
    pub worked_streams : ClaimsOn x c h → FinishesOn x c → StreamsOn x p w v
    worked_streams claims finishes = λ k later q H V e.
        finishes recent p U.between v (between_plays waiting none Z None frames v U) l (back_from waiting none Z None frames v U) k later q (claimed_streams waiting none Z None frames v U claims k H) V e

-- ---- the tunnels

joined_so : (steps acts : ℕ) → IsCarriedOut steps acts → is_joined_at acts ≡ true
joined_so zero acts b = few acts b
  where
    few : (n : ℕ) → n ≤ 2 → is_joined_at n ≡ true
    few zero b = refl
    few (suc zero) b = refl
    few (suc (suc zero)) b = refl
    few (suc (suc (suc n))) b = absurd (omega arith)
joined_so (suc zero) acts b = ap is_joined_at b
joined_so (suc (suc zero)) acts b = ap is_joined_at b
joined_so (suc (suc (suc zero))) acts b = ap is_joined_at b
joined_so (suc (suc (suc (suc n)))) acts b = absurd b

-- each step of the conductor ends with a tunnel
pub joined_between : (x : PlayCast) (recent : ℕ) (p : Play) (lates : List LateLink) → AreLates x.cast recent p lates → AreCarriedOut x.cast p lates → HaveTunnels x p
joined_between x recent p lates L C = λ l b t.
    let s = L.some l b t in
    joined_so (s.1).steps (p.change l).step (C s.0 l s.1 s.2 (s.3).of_link)

-- ---- a claim, a run and a finish

module _ {P : Type 0} (old mid new : Kept) (h : Handle) (t set_to : Terms) (work : WorkOf P) (done : DoneOf P) (p q : PartSeen) (sound : Always old Sound)
    (goes : Steps old mid (λ w v. Claim w h (Ok (ClaimedWork (seen_work t work))) v × IsSoFar t v work.component.generation p)) (same : done.component ≡ work.component) (set_so : work.announces ≡ false → set_to ≡ t)
    (step : work.announces ≡ false → ComesBack set_to (carried_from 0 work.headers) p done.component.generation done.frames done.fault (carried_from 0 done.headers) q)
    (told : work.announces ≡ true → IsAnnounced (seen_done [] done)) (still : work.announces ≡ true → q ≡ p) where
  returns : (w : World) (s : Stands old w) → (took : List ℕ) × Returns (goes w s).0 (seen_done took done) q
  returns w s = let y = goes w s in may_return w y.0 h t set_to work done p q (sound w s) y.2.0 y.2.1 same set_so step told still

  pub may_come : SoundWhole old → (w : World) × (took : List ℕ) × (Stands mid w × Returns w (seen_done took done) q)
  may_come one = let y = goes one.world one.stands in let M = returns one.world one.stands in (y.0, M.0, (y.1, M.1))

  pub worked : work.component ≡ h → (fault : Option PartFault) (frames : ℕ) → done.fault ≡ fault → done.frames ≡ frames
      → ((took : List ℕ) → StepsWhere mid new (λ w. Returns w (seen_done took done) q) (λ w v. Finish w (seen_done took done) v))
      → (w : World) → Stands old w → (v : World) × Stands new v × IsWorked h fault frames w v
  worked its fault frames f d ends w s =
      let y = goes w s in
      let M = returns w s in
      let z = ends M.0 y.0 y.1 M.1 in (
        z.0,
        z.1,
        record {
          work = seen_work t work;
          between = y.0;
          goes = y.2.0;
          done = seen_done M.0 done;
          its = ap (λ (k : Handle). k.generation) (same ∙ its);
          faults = f;
          does = d;
          meets = M.1.0;
          comes = z.2;
        },
      )

-- the log was told that the work went out, and that it came back with these frames
pub record HasLines (parts : List PartLine) (place frames : ℕ) (old new : LogValue) : Type 0 where
  pub name : List ℕ
  pub named : IsNameAt parts place name
  pub first : ActText
  pub says_first : (work : WorkSeen) → SaysOf name first (λ k. acts.Claim k) (acts.Claimed (Ok (ClaimedWork work)))
  pub between : LogValue
  pub told_first : IsTold old first between
  pub second : ActText
  pub says_second : SaysFinish name frames second
  pub told_second : IsTold between second new

-- ---- the calls

module _ {S K : Type 0} {s : _} {k : _} where
  pub no_work_same : {P : Type 0} (claimed : Given S K s k) → (t : Terms) → ((work : WorkSeen) → told_by t claimed ≡ ClaimedWork work → ⊥) → OnNoWork {E = OmxError} (Ok claimed) P → P
  no_work_same (given.Work work) t never same = absurd (never (seen_work t work) refl)
  no_work_same given.Busy t never same = same
  no_work_same given.NotRunning t never same = same
  no_work_same given.Ended t never same = same
  no_work_same (given.Held port) t never same = same
  no_work_same (given.NoData port) t never same = same
  no_work_same (given.NoRoom port) t never same = same
  no_work_same (given.Events room need) t never same = same

module _ {S K : Type 0} where
  -- no work was given
  pub unclaimed_turns : (y x : PlayingValue S K) → y ≡ x → (g : Shown S K Progress) (c place : ℕ) (h : Handle) (r : Result Claimed OmxError) → c < length x.plan.parts → place ≡ place_of x.plan c → IsHandleAt x.graph place h
      → ((w : World) → Stands (kept_of y.graph) w → (v : World) × Claim w h r v) → ((work : WorkSeen) → r ≡ Ok (ClaimedWork work) → ⊥) → g ≡ y.graph → TurnsTo x (with_both y g y.log) false (IsStepOf (layout_of x.plan) c)
  unclaimed_turns y x is g c place h r b J H steps never same =
      subst (λ (z : PlayingValue S K). c < length z.plan.parts → place ≡ place_of z.plan c → IsHandleAt z.graph place h → TurnsTo z (with_both y g y.log) false (IsStepOf (layout_of z.plan) c)) is
      (λ b J H. turn_stays y g (IsStepOf (layout_of y.plan) c) same (λ p Y.
      let Z = Y.standing in
      let W = (Z.conducted).play in
      let v = steps Z.world Z.stands in
      let a = actor_there (play_cast_of y.plan) Z.recent p Z.world c W b in
      let idle = at_place (λ (d : Component). d.work ≡ None) (Z.world).components (script_place (play_cast_of y.plan).cast c) a.0 Z.works a.1 in
      none_claimed (play_cast_of y.plan) Z.recent p Z.world c h r v.0 a.0 W b (component_named_in y c place h J H p Z) a.1 idle v.1 never))
      b J H

  module _ (y x : PlayingValue S K) (is : y ≡ x) (m g : Shown S K Progress) (c place : ℕ) (h : Handle) (b : c < length x.plan.parts) (J : place ≡ place_of x.plan c) (H : IsHandleAt x.graph place h)
      (closed : Always (kept_of y.graph) IsClosed) (K1 : KeepsAllClients y.graph.core m.core) (K2 : KeepsAllClients m.core g.core) (claims : ClaimsOn (play_cast_of y.plan) c h) where
    pub step_turns : (log : LogValue) (frames : ℕ) → FinishesOn (play_cast_of y.plan) c → HasLines y.plan.parts place frames y.log log → ((w : World) → Stands (kept_of y.graph) w → (v : World) × Stands (kept_of g) v × IsWorked h None frames w v)
        → TurnsTo x (with_both y g log) true (IsStepOf (layout_of x.plan) c)
    step_turns log frames finishes L worked =
        subst (λ (z : PlayingValue S K). c < length z.plan.parts → place ≡ place_of z.plan c → IsHandleAt z.graph place h → TurnsTo z (with_both y g log) true (IsStepOf (layout_of z.plan) c)) is
        (λ b J H p Y.
        let X = play_cast_of y.plan in
        let Z = Y.standing in
        let W = (Z.conducted).play in
        let V = (Z.conducted).waiting in
        let N = component_named_in y c place h J H p Z in
        let v = worked Z.world Z.stands in
        let U : IsWorked h None frames Z.world v.0 = v.2 in
        let shut = closed Z.world Z.stands in
        let s = scene_of y.plan.parts Z.opening in
        let P = is_player y p Z place h H L.name L.named in
        let R = one_more y.plan.parts Z.opening Z.world U.between y.log L.between (AsksIn y p Z) (AsksIn y p Z) Z.recorded L.first (acts.Claim h) (acts.Claimed (Ok (ClaimedWork U.work))) L.told_first (L.says_first U.work s place (L.named).part h P) refl tt U.goes tt (λ n. refl) (own_rests y p Y (acts.Claim h) (acts.Claimed (Ok (ClaimedWork U.work))) refl) in
        let Q = one_more y.plan.parts Z.opening U.between v.0 L.between log (AsksIn y p Z) (AsksIn y p Z) R L.second (acts.Finish U.done) acts.Finished L.told_second (L.says_second s place (L.named).part h U.done P U.its U.does) refl U.meets U.comes U.faults (λ n. refl) (own_rests y p Y (acts.Finish U.done) acts.Finished refl) in
        let F : StreamsGo X p Z.opening v.0 = streams_go X p Z.opening Z.world v.0 Z.streams (worked_streams X Z.recent p Z.world c h W b N V Z.works shut frames v.0 U claims finishes) in
        turn_goes y g log p v.0 true (IsStepOf (layout_of y.plan) c) Y v.1 (works_in X Z.recent p Z.world c h W b N V Z.works shut None frames v.0 U) (keeps_in m.core g.core K2 (keeps_in y.graph.core m.core K1 Z.clients)) (λ f. absurd cc) (λ f. absurd cc) (λ e. Q) (λ e. F) (λ e. told_on Z.opening Z.world v.0 Z.told (worked_told X Z.recent p Z.world c h W b N V Z.works shut None frames v.0 U))
        (works_came X Z.recent p Z.world c h W b N V Z.works shut frames v.0 U))
        b J H

    pub step_fails : {Stays : Held S K → Held S K → Type 0} {Shows : PartFault → Held S K → Held S K → Type 0} (log : LogValue) (frames : ℕ) (fault : PartFault) → FailsWith (play_cast_of y.plan) c fault → ((w : World) → Stands (kept_of y.graph) w → (v : World) × Stands (kept_of g) v × IsWorked h (Some fault) frames w v) → FilesStayed Stays x (with_both y g log) → FileShows Shows x (with_both y g log) (record { component = place; fault = fault }) → FailsOn Stays Shows x (with_both y g log) (record { component = place; fault = fault })
    step_fails {Stays = Stays} {Shows = Shows} log frames fault fails worked objects shows =
        subst (λ (z : PlayingValue S K). c < length z.plan.parts → place ≡ place_of z.plan c → IsHandleAt z.graph place h → FilesStayed Stays z (with_both y g log) → FileShows Shows z (with_both y g log) (record { component = place; fault = fault }) → FailsOn Stays Shows z (with_both y g log) (record { component = place; fault = fault })) is
        (λ b J H objects shows. record {
          plan = refl;
          objects = objects;
          shows = shows;
          fails = λ p Y.
              let X = play_cast_of y.plan in
              let Z = Y.standing in
              let W = (Z.conducted).play in
              let V = (Z.conducted).waiting in
              let N = component_named_in y c place h J H p Z in
              let v = worked Z.world Z.stands in
              let shut = closed Z.world Z.stands in
              let R = Z.recorded in
              let its : (v.2).done.component ≡ place = (v.2).its ∙ (number_is X Z.recent p Z.world c h W b N ∙ sym J) in (
                record {
                  world = v.0;
                  stands = v.1;
                  valid = Z.valid;
                  works = works_in X Z.recent p Z.world c h W b N V Z.works shut (Some fault) frames v.0 v.2;
                  clients = keeps_in m.core g.core K2 (keeps_in y.graph.core m.core K1 Z.clients);
                  play = p;
                  before = (v.2).between;
                  recent = Z.recent;
                  played = between_plays X Z.recent p Z.world c h W b N V Z.works shut (Some fault) frames v.0 v.2;
                  tunnels = joined_between X Z.recent p (y.conductor).lates ((Z.conducted).conducting).lates Y.carried;
                  done = (v.2).done;
                  there = subst (λ (j : ℕ). j < length y.plan.parts) (sym J) ((W.cast_is).placed c b);
                  its = its;
                  failed = (v.2).faults;
                  finishes = (v.2).comes;
                  files = Z.files;
                  opening = Z.opening;
                  begins = Z.begins;
                  told = told_on Z.opening Z.world v.0 Z.told (worked_told X Z.recent p Z.world c h W b N V Z.works shut (Some fault) frames v.0 v.2);
                  steps = all_steps Z.opening Z.world (v.2).between v.0 R.history h (v.2).work (v.2).done place fault (v.2).goes (v.2).meets (v.2).comes R.runs R.whole its (v.2).faults;
                  runs = all_run Z.opening Z.world (v.2).between v.0 R.history h (v.2).work (v.2).done place fault (v.2).goes (v.2).meets (v.2).comes R.runs R.whole its (v.2).faults;
                  last = all_last Z.opening Z.world (v.2).between v.0 R.history h (v.2).work (v.2).done place fault (v.2).goes (v.2).meets (v.2).comes R.runs R.whole its (v.2).faults;
                  alone = all_alone Z.opening Z.world (v.2).between v.0 R.history h (v.2).work (v.2).done place fault (v.2).goes (v.2).meets (v.2).comes R.runs R.whole its (v.2).faults;
                  fronts = λ k C E. failed_streams X Z.recent p Z.world c h W b N V Z.works shut (Some fault) frames v.0 v.2 claims fault refl fails k (Z.streams k C E);
                },
                refl,
              );
        })
        b J H objects shows

-- ---- the file objects

-- the number is of the component at the place
pub own_number : {S K : Type 0} (x : PlayingValue S K) (c place : ℕ) (h : Handle) → c < length x.plan.parts → place ≡ place_of x.plan c → IsHandleAt x.graph place h → SomePlay (IsPlaying x) → h.generation ≡ place
own_number x c place h b J H (p, Y) =
    number_is (play_cast_of x.plan) Y.standing.recent p Y.standing.world c h ((Y.standing).conducted).play b (component_named_in x c place h J H p Y.standing) ∙ sym J

module _ {S K : Type 0} (Stays : Held S K → Held S K → Type 0) (itself : (a : Held S K) → Stays a a) (g m k : Shown S K Progress) (number : ℕ) (a b : Held S K) (whole : a.failed ≡ false) (its : a.file ≡ file_of number g)
    (back : file_of number k ≡ b.file) (goes : KeepsFiles number g m) (comes : KeepsFiles number m k) (stays : Stays a b) where
  held_before : a ≡ unfailed (file_of number g)
  held_before i = record { failed = whole i; file = its i }

  held_after : b ≡ record { failed = b.failed; file = file_of number k }
  held_after i = record { failed = b.failed; file = sym back i }

  own_stays : Stays (unfailed (file_of number g)) (record { failed = b.failed; file = file_of number k })
  own_stays = subst (λ (z : Held S K). Stays z (record { failed = b.failed; file = file_of number k })) held_before (subst (Stays a) held_after stays)

  else_stays : (n : ℕ) → n ≢ number → Stays (unfailed (file_of n g)) (unfailed (file_of n k))
  else_stays n e = subst (λ (file : Option (PartFile S K)). Stays (unfailed (file_of n g)) (unfailed file)) (sym (comes n e ∙ goes n e)) (itself (unfailed (file_of n g)))

  -- of a step that didn't fail
  work_stays : b.failed ≡ false → (n : ℕ) → Stays (unfailed (file_of n g)) (unfailed (file_of n k))
  work_stays so n = elim (cases_eq n number) [
    | inl e ↦
        subst (λ (j : ℕ). Stays (unfailed (file_of j g)) (unfailed (file_of j k))) (sym e)
        (subst (λ (o : Bool). Stays (unfailed (file_of number g)) (record { failed = o; file = file_of number k })) so own_stays)
    | inr e ↦ else_stays n e
  ]

  work_stayed : (n : ℕ) → (failed : Bool) × Stays (unfailed (file_of n g)) (record { failed = failed; file = file_of n k })
  work_stayed n = elim (cases_eq n number) [
    | inl e ↦ (b.failed, subst (λ (j : ℕ). Stays (unfailed (file_of j g)) (record { failed = b.failed; file = file_of j k })) (sym e) own_stays)
    | inr e ↦ (false, else_stays n e)
  ]

-- what the object shows that came back
work_shows : {S K : Type 0} (Shows : Held S K → Held S K → Type 0) (g k : Shown S K Progress) (number place : ℕ) (a b : Held S K) → a.failed ≡ false → a.file ≡ file_of number g → file_of number k ≡ b.file → number ≡ place → Shows a b
    → (failed : Bool) × Shows (unfailed (file_of place g)) (record { failed = failed; file = file_of place k })
work_shows {S = S} {K = K} Shows g k number place a b whole its back own shows = (
  b.failed,
  subst (λ (n : ℕ). Shows (unfailed (file_of n g)) (record { failed = b.failed; file = file_of n k })) own
      (subst (λ (z : Held S K). Shows z (record { failed = b.failed; file = file_of number k })) (λ i. record { failed = whole i; file = its i })
      (subst (Shows a) (λ i. record { failed = b.failed; file = sym back i }) shows)),
)

-- of the component whose work came back, seen from the view that the play had
module _ {S K : Type 0} (g m k z : Shown S K Progress) (viewed : g ≡ z) (h its : Handle) (same : its ≡ h) (a b : Held S K) (whole : a.failed ≡ false) (file : a.file ≡ file_of h.generation g) (back : file_of its.generation k ≡ b.file) where
  back_here : file_of h.generation k ≡ b.file
  back_here = subst (λ (c : Handle). file_of c.generation k ≡ b.file) same back

  module _ (Stays : Held S K → Held S K → Type 0) (itself : (a : Held S K) → Stays a a) (goes : KeepsFiles h.generation g m) (comes : KeepsFiles its.generation m k) (stays : Stays a b) where
    comes_here : KeepsFiles h.generation m k
    comes_here = subst (λ (c : Handle). KeepsFiles c.generation m k) same comes

    pub files_stay_on : b.failed ≡ false → (n : ℕ) → Stays (unfailed (file_of n z)) (unfailed (file_of n k))
    files_stay_on still = subst (λ (y : Shown S K Progress). (n : ℕ) → Stays (unfailed (file_of n y)) (unfailed (file_of n k))) viewed (work_stays Stays itself g m k h.generation a b whole file back_here goes comes_here stays still)

    pub files_stayed_on : (n : ℕ) → (failed : Bool) × Stays (unfailed (file_of n z)) (record { failed = failed; file = file_of n k })
    files_stayed_on = subst (λ (y : Shown S K Progress). (n : ℕ) → (failed : Bool) × Stays (unfailed (file_of n y)) (record { failed = failed; file = file_of n k })) viewed (work_stayed Stays itself g m k h.generation a b whole file back_here goes comes_here stays)

  pub failure_shows : (Shows : PartFault → Held S K → Held S K → Type 0) (place : ℕ) → h.generation ≡ place → (told : Option PartFault) (fault : PartFault) → told ≡ Some fault → IfSome told (λ fault. Shows fault a b)
      → (failed : Bool) × Shows fault (unfailed (file_of place z)) (record { failed = failed; file = file_of place k })
  failure_shows Shows place own told fault is shown =
      subst (λ (y : Shown S K Progress). (failed : Bool) × Shows fault (unfailed (file_of place y)) (record { failed = failed; file = file_of place k })) viewed
      (work_shows (Shows fault) g k h.generation place a b whole file back_here own (subst (λ (o : Option PartFault). IfSome o (λ fault. Shows fault a b)) is shown))

-- a part whose step didn't fail hasn't failed
pub still_whole : (announces : Bool) (before after : Bool) (fault : Option PartFault) → before ≡ false → fault ≡ None → (announces ≡ false → after ≡ is_some fault) → (announces ≡ true → after ≡ before) → after ≡ false
still_whole false before after fault whole none stepped same = stepped refl ∙ ap is_some none
still_whole true before after fault whole none stepped same = same refl ∙ whole
