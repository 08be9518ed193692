-- A replay of which all is back, and whose tunnels are up, can be stopped.
use Rattle.std.proofs.Common.{◌≡◌, ℕ, zero, suc, ◌<◌, ◌≤◌, Bool, true, false, List, [], ◌∷◌, length, slice_get, All, Option, Some, None, is_none, is_some, refl, sym, ◌∙◌, ap, subst, arith}
use Rattle.std.specs.Option.{option_and_then}
use Rattle.std.proofs.lemmas.Option.{slice_get_within}
use Rattle.omx_types.specs.declared.handle.Handle.{Handle}
use Rattle.il_machine.specs.declared.answer.Progress.{Progress}
use Rattle.il_machine.specs.Look.{Look}
use Rattle.il_machine.specs.Sound.{Sound}
use Rattle.il_machine.specs.World.{Component, Work, World, component_numbered, is_at, number_of, place_of}
use Rattle.il_machine.proofs.Places.{is_first_place, passes_at as standing_at}
use Rattle.machine_laws.proofs.Every.{from_places}
use Rattle.history_laws.proofs.Named.{is_named, named_there}
use Rattle.history_laws.proofs.Naming.{handle_is}
use Rattle.il_component.specs.Entries.{Entry, component_of}
use Rattle.history_laws.specs.Works.{has_work_out}
use Rattle.play_build_laws.specs.Dismantling.{AreLinks}
use Rattle.play_build_laws.specs.Stages.{IsStage, Joining}
use Rattle.play_forms.specs.Plans.{PlanValue}
use Rattle.play_world_laws.specs.PlayWorlds.{PlayCast}
use Rattle.play_world_laws.proofs.Lists.{get_there}
use Rattle.play_turn_laws.proofs.Planned.{plan_links}
use Rattle.play_plan_laws.specs.Assemblies.{IsReady, PlayFiles, assembly_of, is_late_link, play_cast_of}
use Rattle.play_plan_laws.specs.Endings.{ends_of}
use Rattle.play_log.specs.Scenes.{HaveOwnNames, Scene}
use Rattle.read_world_laws.specs.Inside.{inside}
use Rattle.read_world_laws.specs.Mended.{mend}
use Rattle.play_history_laws.specs.Askings.{IsPlanHistory}
use Rattle.play_history_laws.proofs.Askings.{come, many, many_now, named, place_read}
use Rattle.play_graph.specs.Stops.{HasNoneOut, HasStopped}
use Rattle.play_graph.proofs.Plays.{few_joints}
use Rattle.play_graph.proofs.Reading.{read_stops}
use Rattle.graph_core.specs.Entries.{Entries, client_named, components_of}
use Rattle.graph_core.proofs.Replacing.{entry_place_is}
use Rattle.graph_core.proofs.Clients.{client_there}
use Rattle.il_graph.specs.Shown.{Shown}
use Rattle.il_flow.specs.Works.{WorkOf}
use Rattle.audio_parts.specs.Shown.{ShownPart}
use Rattle.compared_files.specs.Comparing.{ComparingValue}
use Rattle.graph_acts.specs.Holding.{IsGone}
use Rattle.graph_acts.specs.Plain.{Sight}
use Rattle.audit_order.specs.Steps.{OrderValue}
use Rattle.audit_forms.specs.Audited.{Case}
use Rattle.audit_laws.proofs.Walking.{numbers}
use Rattle.run_audit.specs.Replaying.{IsStanding}
use Rattle.run_audit.proofs.Tunnels.{IsUpTo, all_up}
use Rattle.run_audit.proofs.Way.{IsOn, case, history}

-- ---- whether a client object is in

entry_there : {C : Type 0} (es : List (Entry C)) (i : ℕ) (c : Component) → slice_get (components_of es) i ≡ Some c → (e : Entry C) × (slice_get es i ≡ Some e) × (component_of e ≡ c)
entry_there [] i c at = absurd cc
entry_there (e ∷ es) zero c at = (e, refl, cc)
entry_there (e ∷ es) (suc i) c at = entry_there es i c at

some_in : {C : Type 0} (o : Option C) → (Some o ≡ Some None → ⊥) → is_none o ≡ false
some_in None n = absurd (n refl)
some_in (Some x) n = refl

client_in_at : {C : Type 0} (g : Entries C) (h : Handle) (place : ℕ) (c : Component) → (client_named h g ≡ Some None → ⊥) → place_of h (components_of g.entries) ≡ Some place → slice_get (components_of g.entries) place ≡ Some c → c.client_out ≡ false
client_in_at g h place c in_there p at =
    let e = entry_there g.entries place c at in
    let q = sym (entry_place_is h g.entries) ∙ p in
    let named : client_named h g ≡ Some (e.0).queues.client = client_there g.entries place e.0 h q e.1 in
    sym (ap (λ (d : Component). d.client_out) e.2) ∙ some_in (e.0).queues.client (λ n. in_there (named ∙ n))

-- ---- the graph's world

module _ (plan : PlanValue) (files : PlayFiles) (handles : List Handle) (w : World) (ready : IsReady plan files) (stage : IsStage (assembly_of plan files) (Joining (length plan.joints)) handles w) (own : HaveOwnNames plan.parts)
    (sinks : ℕ → Option (List ℕ)) (told : List Progress) (order : OrderValue) (v : World) (O : IsOn plan files handles w ready stage own order v) where
  abbrev c : PlayCast
  c = play_cast_of plan

  abbrev x : Case
  x = case plan files handles w ready stage own sinks

  abbrev H : IsPlanHistory plan files handles w O.steps O.cursor v
  H = history plan files handles w ready stage own order v O

  pub links : AreLinks (ends_of plan) (length plan.joints)
  links =
      let B = come plan files handles w O.steps O.cursor v H in
      plan_links plan B.recent B.now (inside (mend B.later v)) ready.valid ((((B.faulty).taken).played).play)

  pub few : length plan.joints ≤ 1024
  few =
      let B = come plan files handles w O.steps O.cursor v H in
      few_joints plan ready.valid B.recent B.now (inside (mend B.later v)) ((((B.faulty).taken).played).play)

  sound : Sound v
  sound = ((come plan files handles w O.steps O.cursor v H).faulty).sound

  -- the component at the place, with its handle
  record IsSeated (i : ℕ) (a : Component) : Type 0 where
    handle : Handle
    there : slice_get handles i ≡ Some handle
    place : place_of handle v.components ≡ Some i
    number : handle.generation ≡ i
    its : a.handle ≡ handle

  seated : (i : ℕ) (a : Component) → slice_get v.components i ≡ Some a → IsSeated i a
  seated i a e =
      let b = slice_get_within v.components i a e in
      let m = many_now plan files handles w O.steps O.cursor v H in
      let n = many plan files handles w O.steps O.cursor v H in
      let h = get_there handles i (omega (arith, b, m, n)) in
      let p : place_of h.0 v.components ≡ Some i = sym (place_read h.0 v) ∙ named plan files handles w O.steps O.cursor v H i h.0 h.1 in
      let f = standing_at (is_at h.0) v.components i (sym (is_first_place (is_at h.0) v.components) ∙ p) in
      let s : Some f.0 ≡ Some a = sym f.1 ∙ e in
      let same : f.0 ≡ a = cc in
      record {
        handle = h.0;
        there = h.1;
        place = p;
        number = numbers plan files handles w ready stage own i h.0 (ap (λ (hs : List Handle). slice_get hs i) (stage.built).handles_are ∙ h.1);
        its = sym (ap (λ (d : Component). d.handle) same) ∙ handle_is (f.0).handle h.0 f.2;
      }

  pub numbered_at : (i : ℕ) → i < length plan.parts → (a : Component) × (slice_get v.components i ≡ Some a) × (component_numbered i v ≡ Some a)
  numbered_at i b =
      let m = many_now plan files handles w O.steps O.cursor v H in
      let y = get_there v.components i (omega (arith, b, m)) in
      let T = seated i y.0 y.1 in
      let n : number_of y.0 ≡ i = ap (λ (h : Handle). h.generation) T.its ∙ T.number in
      (y.0, y.1, ap (λ (k : ℕ). component_numbered k v) (sym n) ∙ (is_named (number_of y.0) v ∙ named_there 0 v.numbered i v.components y.0 sound.rising y.1))

  module _ {S : Type 0} (see : Sight S (ComparingValue S) Progress) (tells : Bool) (g : Shown S (ComparingValue S) Progress) (hs : List Handle)
      (works : List (Option (WorkOf (ShownPart S (ComparingValue S))))) (clients : List (Option Progress)) (I : IsStanding see tells g plan hs works clients x v) where
    same_handles : hs ≡ handles
    same_handles = sym (ap (λ (s : Scene). s.handles) I.scene) ∙ (stage.built).handles_are

    below : (i : ℕ) (a : Component) → slice_get v.components i ≡ Some a → i < length plan.parts
    below i a e = let b = slice_get_within v.components i a e in let m = many_now plan files handles w O.steps O.cursor v H in omega (arith, b, m)

    module _ (no_clients : (place : ℕ) → place < length plan.parts → slice_get clients place ≡ Some None) where
      none_gone : (i : ℕ) (a : Component) → slice_get v.components i ≡ Some a → (h : Handle) → slice_get handles i ≡ Some h → IsGone g h → ⊥
      none_gone i a e h there gone =
          let y = (I.objects).all i h (ap (λ (l : List Handle). slice_get l i) same_handles ∙ there) gone in
          let z : Some None ≡ Some (Some y.0) = sym (no_clients i (below i a e)) ∙ y.1 in
          cc

      client_at : (i : ℕ) (a : Component) → slice_get v.components i ≡ Some a → a.client_out ≡ false
      client_at i a e =
          let T = seated i a e in
          let same = ap (λ (l : Look). l.components) (I.stands).looks in
          client_in_at g.core T.handle i a (none_gone i a e T.handle T.there) (subst (λ (cs : List Component). place_of T.handle cs ≡ Some i) same T.place) (subst (λ (cs : List Component). slice_get cs i ≡ Some a) same e)

      pub clients_in : All (λ (a : Component). a.client_out ≡ false) v.components
      clients_in = from_places (λ (a : Component). a.client_out ≡ false) v.components client_at

      module _ (no_works : (place : ℕ) → place < length plan.parts → slice_get works place ≡ Some None) where
        no_work_at : (i : ℕ) (a : Component) → slice_get v.components i ≡ Some a → a.work ≡ None
        no_work_at i a e = by a.work refl
          where
            by : (o : Option Work) → a.work ≡ o → a.work ≡ None
            by None f = f
            by (Some work) f =
                let T = seated i a e in
                let n : number_of a ≡ (T.handle).generation = ap (λ (h : Handle). h.generation) T.its in
                let there : component_numbered (number_of a) v ≡ Some a = is_named (number_of a) v ∙ named_there 0 v.numbered i v.components a sound.rising e in
                let held : has_work_out (number_of a) v ≡ true = ap (λ (o : Option Component). is_some (option_and_then (λ (d : Component). d.work) o)) there ∙ ap (λ (o : Option Work). is_some o) f in
                let y = (I.works_are).all i T.handle (ap (λ (l : List Handle). slice_get l i) same_handles ∙ T.there) (ap (λ (k : ℕ). has_work_out k v) (sym n) ∙ held) in
                let z : Some None ≡ Some (Some y.0) = sym (no_works i (below i a e)) ∙ y.1 in
                absurd cc

        none_out : HasNoneOut v
        none_out = record { works = from_places (λ (a : Component). a.work ≡ None) v.components no_work_at; clients = clients_in }

        pub can_stop : ((l : ℕ) → l < length plan.joints → is_late_link plan l ≡ true → IsUpTo 6 plan l order) → HasStopped plan 0 v
        can_stop up =
            let B = come plan files handles w O.steps O.cursor v H in
            read_stops plan ready.valid B.recent B.now B.later v ((((B.faulty).taken).played).play) (all_up plan files handles w ready stage own sinks told order v O up) sound none_out
