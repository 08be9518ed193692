-- The log is told of an act, and the run goes on by it.
use Rattle.std.proofs.Common.{◌≡◌, ℕ, Bool, true, false, not, ◌<◌, List, [], ◌∷◌, ◌++◌, length, map, slice_get, All, Some, option_map, refl, sym, ◌∙◌, ap, subst, arith}
use Rattle.std.proofs.lemmas.List.{map-append}
use Rattle.std.proofs.lemmas.List.Elements.{All-push, All-head, All-tail}
use Rattle.std.proofs.lemmas.Option.{slice_get_within}
use Rattle.omx_types.specs.declared.handle.Handle.{Handle}
use Rattle.il_machine.specs.World.{Component, World, number_of}
use Rattle.il_machine.specs.Acts.{Act, Reply}
use Rattle.il_machine.specs.Answers.{component_named}
use Rattle.il_machine.specs.Look.{look}
use Rattle.il_machine.specs.Components.{handle_at}
use Rattle.il_machine.specs.Run.{Meets, Run, Step}
use Rattle.il_machine.specs.Sound.{Sound}
use Rattle.machine_laws.proofs.Steps.{sound_step}
use Rattle.history_laws.specs.Given.{is_freed_by}
use Rattle.history_laws.proofs.Joining.{run_snoc}
use Rattle.history_laws.proofs.Naming.{named_place, own_named}
use Rattle.history_laws.proofs.Seats.{handle_lives}
use Rattle.act_text.specs.declared.text.ActText.{ActText}
use Rattle.script_lang.specs.declared.play_line.PartLine.{PartLine}
use Rattle.play_build_laws.proofs.Places.{mapped_at}
use Rattle.play_forms.specs.Plans.{PlanValue}
use Rattle.play_plan_laws.specs.Assemblies.{PlayFiles, play_cast_of}
use Rattle.play_log.specs.Entries.{Entry, is_unprinted, step_of, steps_of}
use Rattle.play_log.specs.Kept.{LogValue}
use Rattle.play_log.specs.Naming.{IsUnbroken}
use Rattle.play_log.specs.Saying.{Says}
use Rattle.play_log.specs.Scenes.{IsPlayer, scene_of}
use Rattle.play_log.specs.Said.{entry_by, line_by}
use Rattle.play_world_laws.specs.Cast.{components_of}
use Rattle.play_world_laws.specs.PlayWorlds.{IsPlayWorld, PlayCast}
use Rattle.play_world_laws.proofs.Lists.{get_there}
use Rattle.play_graph.specs.Graphs.{IsHandleAt}
use Rattle.play_graph.proofs.Naming.{at_handle}
use Rattle.play_result_laws.specs.Asked.{is_unasked, tuned}
use Rattle.play_run.specs.Asking.{IsAsking, answered, handles_of}
use Rattle.play_run.specs.Playing.{AsksIn, IsPlaying, IsStanding, PlayingValue}
use Rattle.play_run.specs.Recording.{FreesNone, IsBeginning, IsByPlayer, IsNameAt, IsPrinted, IsRecorded, IsTold, IsToldOf, IsToldOfBoth, HasNotFailed}
use Rattle.play_run.proofs.Timely.{asking_rests}

-- ---- one entry more

module _ (parts : List PartLine) (opening w v : World) (old new : LogValue) (Asks Next : List (Act × Reply) → Type 0) (R : IsRecorded parts opening w old Asks) (said : ActText) (a : Act) (r : Reply) where
  pub one_more : IsTold old said new → Says (scene_of parts opening) (line_by said) (entry_by a r) → is_unprinted r ≡ false → Meets w a → Step w a r v → IsUnbroken a → ((n : ℕ) → is_freed_by n a r ≡ false)
      → ((xs : List (Act × Reply)) → Asks xs → Next (xs ++ (a, r) ∷ [])) → IsRecorded parts opening v new Next
  one_more told says printed met step whole stay next =
      let entry : Entry = entry_by a r in
      record {
        history = R.history ++ entry ∷ [];
        runs = subst (λ (xs : List (Act × Reply)). Run opening xs v) (sym (map-append step_of R.history (entry ∷ []))) (run_snoc opening w v (steps_of R.history) a r R.runs met step);
        alone = All-push IsByPlayer R.history entry R.alone refl;
        whole = All-push HasNotFailed R.history entry R.whole whole;
        stay = All-push FreesNone R.history entry R.stay stay;
        printed = All-push IsPrinted R.history entry R.printed printed;
        asks = subst Next (sym (map-append step_of R.history (entry ∷ []))) (next (steps_of R.history) R.asks);
        keeps = told (scene_of parts opening) R.history entry R.keeps says printed;
      }

-- of the same entries something else holds
pub with_asks : (parts : List PartLine) (opening w : World) (log : LogValue) (Asks Next : List (Act × Reply) → Type 0) (R : IsRecorded parts opening w log Asks) → Next (steps_of R.history) → IsRecorded parts opening w log Next
with_asks parts opening w log Asks Next R next =
    record { history = R.history; runs = R.runs; alone = R.alone; whole = R.whole; stay = R.stay; printed = R.printed; asks = next; keeps = R.keeps }

-- ---- the components keep their handles

still_named : (o w : World) (history : List Entry) (h : Handle) (c : Component) → Sound o → Run o (steps_of history) w → All FreesNone history → component_named h o.components ≡ Some c → (d : Component) × (component_named h w.components ≡ Some d)
still_named o w [] h c S r F n = (c, subst (λ (u : World). component_named h u.components ≡ Some c) (sym r) n)
still_named o w (entry ∷ history) h c S r F n =
    let d = handle_lives o entry.act entry.reply r.0 h c S r.1 r.2 (All-head FreesNone entry history F h.generation) n in
    still_named r.0 w history h d.0 (sound_step o r.0 entry.act entry.reply r.1 r.2 S) r.3 (All-tail FreesNone entry history F) d.1

-- a component's number is its place
pub number_at : (x : PlayCast) (recent : ℕ) (p : _) (w : World) (W : IsPlayWorld x recent p w) (i : ℕ) (a : Component) → slice_get w.components i ≡ Some a → number_of a ≡ i
number_at x recent p w W i a e =
    let m = W.many in
    let b = slice_get_within w.components i a e in
    let below : i < components_of x.cast = omega arith in
    let k = (W.cast_is).each i below in
    (W.actors k.0 a k.1 (subst (λ (n : ℕ). slice_get w.components n ≡ Some a) (sym k.2) e)).number ∙ k.2

same_there : (cs : List Component) (i j : ℕ) (c d : Component) → slice_get cs i ≡ Some c → slice_get cs j ≡ Some d → j ≡ i → d ≡ c
same_there cs i j c d e f s = let g : Some d ≡ Some c = sym f ∙ (ap (slice_get cs) s ∙ e) in cc

module _ (plan : PlanValue) (files : PlayFiles) (opening w : World) (log : LogValue) (Asks : List (Act × Reply) → Type 0) (B : IsBeginning plan files opening) (R : IsRecorded plan.parts opening w log Asks) (number : (i : ℕ) (a : Component) → slice_get w.components i ≡ Some a → number_of a ≡ i) where
  -- the handle at a place is that of the opening
  handle_from : (place : ℕ) (h : Handle) → place < length plan.parts → handle_at place (look w) ≡ Some h → slice_get (map (λ (c : Component). c.handle) opening.components) place ≡ Some h
  handle_from place h b e =
      let T = at_handle w place h e in
      let stage = B.opens.1 in
      let m = stage.built.many in
      let c = get_there opening.components place (omega arith) in
      let own = own_named opening place c.0 stage.sound c.1 in
      let d = still_named opening w R.history (c.0).handle c.0 stage.sound R.runs R.stay own in
      let D = named_place (c.0).handle w.components d.0 d.1 in
      let n : number_of d.0 ≡ place = ap (λ (k : Handle). k.generation) D.2 ∙ (stage.built.components.each place c.0 c.1).number in
      let here : D.0 ≡ place = sym (number D.0 d.0 D.1) ∙ n in
      let same : d.0 ≡ T.component = same_there w.components place D.0 T.component d.0 T.there D.1 here in
      let handle : (c.0).handle ≡ h = sym D.2 ∙ (ap (λ (k : Component). k.handle) same ∙ T.handle) in
      mapped_at (λ (k : Component). k.handle) opening.components place ∙ (ap (option_map (λ (k : Component). k.handle)) c.1 ∙ ap Some handle)

module _ {S K : Type 0} (x : PlayingValue S K) (p : _) (Z : IsStanding x p) (place : ℕ) (h : Handle) (H : IsHandleAt x.graph place h) where
  -- the component of the name has the handle in the opening's scene
  pub is_player : (name : List ℕ) (N : IsNameAt x.plan.parts place name) → IsPlayer (scene_of x.plan.parts Z.opening) place name N.part h
  is_player name N = record {
    line = N.line;
    named = N.named;
    handle = handle_from x.plan Z.files Z.opening Z.world x.log (AsksIn x p Z) Z.begins Z.recorded (number_at (play_cast_of x.plan) Z.recent p Z.world (Z.conducted).play) place h (slice_get_within x.plan.parts place N.part N.line) (H Z.world Z.stands);
  }

  -- an act of that component
  pub goes_on : (Next : List (Act × Reply) → Type 0) (v : World) (act : Handle → Act) (reply : Reply) (log : LogValue) → IsToldOf x.plan.parts place x.log act reply log → is_unprinted reply ≡ false → Meets Z.world (act h) → Step Z.world (act h) reply v → IsUnbroken (act h)
      → ((n : ℕ) → is_freed_by n (act h) reply ≡ false) → ((xs : List (Act × Reply)) → AsksIn x p Z xs → Next (xs ++ (act h, reply) ∷ [])) → IsRecorded x.plan.parts Z.opening v log Next
  goes_on Next v act reply log T printed met step whole stay next =
      one_more x.plan.parts Z.opening Z.world v x.log log (AsksIn x p Z) Next Z.recorded T.said (act h) reply T.told (T.says (scene_of x.plan.parts Z.opening) place (T.named).part h (is_player T.name T.named)) printed met step whole stay next

-- an act of two components
module _ {S K : Type 0} (x : PlayingValue S K) (p : _) (Z : IsStanding x p) (place other : ℕ) (h k : Handle) (H : IsHandleAt x.graph place h) (G : IsHandleAt x.graph other k) where
  pub both_on : (Next : List (Act × Reply) → Type 0) (v : World) (act : Handle → Handle → Act) (reply : Reply) (log : LogValue) → IsToldOfBoth x.plan.parts place other x.log act reply log → is_unprinted reply ≡ false → Meets Z.world (act h k) → Step Z.world (act h k) reply v → IsUnbroken (act h k)
      → ((n : ℕ) → is_freed_by n (act h k) reply ≡ false) → ((xs : List (Act × Reply)) → AsksIn x p Z xs → Next (xs ++ (act h k, reply) ∷ [])) → IsRecorded x.plan.parts Z.opening v log Next
  both_on Next v act reply log T printed met step whole stay next =
      one_more x.plan.parts Z.opening Z.world v x.log log (AsksIn x p Z) Next Z.recorded T.said (act h k) reply T.told
      (T.says (scene_of x.plan.parts Z.opening) place other (T.named).part (T.beside).part h k (is_player x p Z place h H T.first T.named) (is_player x p Z other k G T.second T.beside)) printed met step whole stay next

-- between two turns an act that needs no asking
module _ {S K : Type 0} (x : PlayingValue S K) (p : _) (Y : IsPlaying x p) where
  pub own_rests : (a : Act) (r : Reply) → is_unasked a r ≡ true → (xs : List (Act × Reply)) → AsksIn x p Y.standing xs → AsksIn x p Y.standing (xs ++ (a, r) ∷ [])
  own_rests a r u xs A =
      let Z = Y.standing in
      let s = tuned x.plan Z.files in
      let hs = handles_of Z.opening in
      let list = answered (x.conductor).sends A.changes in
      let before = subst (λ (left : List (Act × Reply)). IsAsking s hs list left xs) Y.whole A.asking in
      record {
        changes = A.changes;
        are = A.are;
        early = A.early;
        asking = subst (λ (left : List (Act × Reply)). IsAsking s hs list left (xs ++ (a, r) ∷ [])) (sym Y.whole) (asking_rests s hs list xs (a, r) (ap (λ (b : Bool). not b) u) before);
      }

  pub own_on : (place : ℕ) (h : Handle) → IsHandleAt x.graph place h → (v : World) (act : Handle → Act) (reply : Reply) (log : LogValue) → IsToldOf x.plan.parts place x.log act reply log → is_unprinted reply ≡ false → Meets Y.standing.world (act h)
      → Step Y.standing.world (act h) reply v → IsUnbroken (act h) → ((n : ℕ) → is_freed_by n (act h) reply ≡ false) → is_unasked (act h) reply ≡ true → IsRecorded x.plan.parts Y.standing.opening v log (AsksIn x p Y.standing)
  own_on place h H v act reply log T printed met step whole stay u =
      goes_on x p Y.standing place h H (AsksIn x p Y.standing) v act reply log T printed met step whole stay (own_rests (act h) reply u)

module _ {S K : Type 0} where
  pub still_there : (y x : PlayingValue S K) → y ≡ x → (place : ℕ) → place < length x.plan.parts → place < length y.plan.parts
  still_there y x is place b = subst (λ (z : PlayingValue S K). place < length z.plan.parts) (sym is) b
