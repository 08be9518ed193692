-- What is held is what is out, so a line that brings it back is there, or isn't.
use Rattle.std.proofs.Common.{◌≡◌, ℕ, true, List, Option, Some, None, MatchOption, is_some, is_none, option_map, option_and_then, slice_get, refl, sym, ◌∙◌, ap, subst}
use Rattle.omx_types.specs.declared.handle.Handle.{Handle}
use Rattle.il_machine.specs.Answers.{component_named}
use Rattle.il_machine.specs.Look.{Look}
use Rattle.il_machine.specs.Sound.{Sound}
use Rattle.il_machine.specs.Whole.{Stands}
use Rattle.il_machine.specs.World.{Component, World, component_numbered, number_of}
use Rattle.machine_laws.proofs.Granting.{placed_there}
use Rattle.machine_laws.proofs.Keys.{is_there, there_is}
use Rattle.history_laws.specs.Works.{has_work_out}
use Rattle.history_laws.proofs.Naming.{named_place}
use Rattle.act_text.specs.declared.act.TextAct.TheVariants as lines
use Rattle.script_lang.specs.declared.play_line.PartLine.{PartLine}
use Rattle.play_log.specs.Scenes.{IsPlayer}
use Rattle.audio_parts.specs.Shown.{ShownPart}
use Rattle.graph_core.specs.Clients.{IsOut}
use Rattle.graph_core.specs.Entries.{entry_named}
use Rattle.il_component.specs.Entries.{Entry, component_of}
use Rattle.il_flow.specs.Works.{WorkOf}
use Rattle.il_graph.specs.Shown.{Shown, kept}
use Rattle.il_graph.specs.Shown as graphs
use Rattle.il_graph.proofs.Looking.{named_is}
use Rattle.graph_acts.specs.Holding.{IsGone}
use Rattle.graph_acts.specs.Plain.{Sight}
use Rattle.graph_acts.specs.Working.{IsWorkIn, OutWork, out_of}
use Rattle.graph_acts.proofs.Lasting.{some_there}
use Rattle.audit_forms.specs.Audited.{Case, IsThere, Moment}
use Rattle.audit_forms.specs.Told.{HaveNumbers}
use Rattle.run_audit.specs.Replaying.{HoldsObjects, HoldsWorks}

pub named_numbered : (w : World) (h : Handle) (c : Component) → Sound w → component_named h w.components ≡ Some c → component_numbered h.generation w ≡ Some c
named_numbered w h c S e =
    let p = named_place h w.components c e in
    let q = placed_there w.numbered p.0 w.components c S.rising p.1 in
    let n : number_of c ≡ h.generation = ap (λ (k : Handle). k.generation) p.2 in
    ap (λ (k : ℕ). component_numbered k w) (sym n) ∙ (ap (option_and_then (slice_get w.components)) q ∙ p.1)

module _ {S K : Type 0} (w : World) (D : Sound w) where
  work_there : (got : OutWork S K) → IsWorkIn w got → MatchOption (component_named got.handle w.components) ⊥ (λ c. MatchOption c.work ⊥ (λ work. Unit {0}))
  work_there got H =
      let c = some_there (component_named got.handle w.components) (λ (c : Component). number_of c ≡ got.handle.generation) H.named in
      let e : Some (H.out).component ≡ Some c.0 = sym (H.out).there ∙ named_numbered w got.handle c.0 D c.1 in
      let same : (H.out).component ≡ c.0 = cc in
      is_there (component_named got.handle w.components) (λ c. MatchOption c.work ⊥ (λ work. Unit {0})) c.0 c.1
      (is_there (c.0).work (λ work. Unit {0}) (H.out).work (ap (λ (x : Component). x.work) (sym same) ∙ (H.out).out) tt)

out_numbered : (w : World) (h : Handle) → Sound w → MatchOption (component_named h w.components) ⊥ (λ c. MatchOption c.work ⊥ (λ work. Unit {0})) → has_work_out h.generation w ≡ true
out_numbered w h D m =
    let c = there_is (component_named h w.components) (λ c. MatchOption c.work ⊥ (λ work. Unit {0})) m in
    let x = there_is (c.0).work (λ work. Unit {0}) c.2 in
    ap (λ (o : Option Component). is_some (option_and_then (λ (y : Component). y.work) o)) (named_numbered w h c.0 D c.1) ∙ ap is_some x.1

module _ {S K : Type 0} (x : Case) (at : Moment) (D : Sound at.world) (N : HaveNumbers x.scene) (works : List (Option (WorkOf (ShownPart S K)))) (H : HoldsWorks (x.scene).handles works at.world) (name : List ℕ) where
  pub finish_there : (place : ℕ) (part : PartLine) (h : Handle) (work : WorkOf (ShownPart S K)) → IsPlayer x.scene place name part h → slice_get works place ≡ Some (Some work) → IsThere x at (lines.Finish name)
  finish_there place part h work P held =
      let y = H.out place work held in
      let e : Some work.component ≡ Some h = sym y.0 ∙ P.handle in
      let same : work.component ≡ h = cc in
      (place, part, h, P, subst (λ (k : Handle). MatchOption (component_named k (at.world).components) ⊥ (λ c. MatchOption c.work ⊥ (λ work. Unit {0}))) same (work_there at.world D (out_of work) y.1))

  pub finish_away : (place : ℕ) (part : PartLine) (h : Handle) → IsPlayer x.scene place name part h → ((other : ℕ) (more : PartLine) (k : Handle) → IsPlayer x.scene other name more k → other ≡ place) → slice_get works place ≡ Some None → IsThere x at (lines.Finish name) → ⊥
  finish_away place part h P one free T =
      let e = one T.0 T.1 T.2 T.3 in
      let y = H.all T.0 T.2 (T.3).handle (out_numbered at.world T.2 D T.4) in
      let z : Some None ≡ Some (Some y.0) = sym free ∙ (ap (slice_get works) (sym e) ∙ y.1) in
      absurd cc

-- ---- client objects

none_is : {X : Type 0} (o : Option X) → is_none o ≡ true → o ≡ None
none_is None e = refl
none_is (Some x) e = absurd cc

module _ {C : Type 0} where
  out_gone : (o : Option (Entry C)) → MatchOption (option_map component_of o) ⊥ (λ c. c.client_out ≡ true) → option_map (λ (e : Entry C). e.queues.client) o ≡ Some None
  out_gone None h = absurd h
  out_gone (Some e) h = ap (λ (c : Option C). Some c) (none_is e.queues.client h)

module _ {S K C : Type 0} (see : Sight S K C) (g : Shown S K C) where
  pub gone_where_out : (w : World) (h : Handle) → Stands (kept see.progress g) w → MatchOption (component_named h w.components) ⊥ (λ c. c.client_out ≡ true) → IsGone g h
  gone_where_out w h stands m =
      out_gone (entry_named h g.core) (subst (λ o. MatchOption o ⊥ (λ c. c.client_out ≡ true)) (named_is see.progress g.core h)
      (subst (λ (l : Look). MatchOption (component_named h l.components) ⊥ (λ c. c.client_out ≡ true)) stands.looks m))

  module _ (x : Case) (at : Moment) (stands : Stands (kept see.progress g) at.world) (handles : List Handle) (clients : List (Option C)) (H : HoldsObjects see handles clients g at.world) (own : (x.scene).handles ≡ handles) (name : List ℕ) where
    pub end_there : (place : ℕ) (part : PartLine) (h : Handle) → IsPlayer x.scene place name part h → IsOut h (graphs.look_of g) → IsThere x at (lines.End name)
    end_there place part h P out =
        let c = some_there (component_named h (at.world).components) (λ (c : Component). c.client_out ≡ true) (subst (IsOut h) (sym stands.looks) out) in
        (place, part, h, P, is_there (component_named h (at.world).components) (λ c. c.client_out ≡ true) c.0 c.1 c.2)

    pub end_away : (place : ℕ) (part : PartLine) (h : Handle) → IsPlayer x.scene place name part h → ((other : ℕ) (more : PartLine) (k : Handle) → IsPlayer x.scene other name more k → other ≡ place) → slice_get clients place ≡ Some None → IsThere x at (lines.End name) → ⊥
    end_away place part h P one free T =
        let e = one T.0 T.1 T.2 T.3 in
        let y = H.all T.0 T.2 (ap (λ (hs : List Handle). slice_get hs T.0) (sym own) ∙ (T.3).handle) (gone_where_out at.world T.2 stands T.4) in
        let z : Some None ≡ Some (Some y.0) = sym free ∙ (ap (slice_get clients) (sym e) ∙ y.1) in
        absurd cc
