-- The component that a handle names, and whether its client object is in.
use Rattle.std.proofs.Common.{◌≡◌, ℕ, zero, suc, ◌<◌, Bool, false, if◌then◌else◌, List, [], ◌∷◌, length, slice_get, Option, Some, None, option_and_then, is_none, Result, Ok, Err, refl, sym, ◌∙◌, ap, subst, arith}
use Rattle.omx_types.specs.declared.handle.Handle.{Handle}
use Rattle.il_machine.specs.World.{Component, World, place_of}
use Rattle.il_machine.specs.Answers.{component_named, looked}
use Rattle.il_machine.specs.Look.{Look}
use Rattle.il_machine.specs.Components.{progress_answer, progress_of}
use Rattle.il_machine.specs.declared.answer.Progress.{Progress}
use Rattle.il_machine.specs.Whole.{Always, Stands}
use Rattle.omx_types.specs.declared.error.OmxError.{OmxError}
use Rattle.play_world_laws.proofs.Lists.{get_there}
use Rattle.il_machine.specs.Sound.{Sound}
use Rattle.il_component.specs.Entries.{Entry, component_of}
use Rattle.graph_core.specs.Entries.{Entries, client_named, components_of}
use Rattle.graph_core.proofs.Replacing.{entry_place_is}
use Rattle.graph_core.proofs.Clients.{client_there}
use Rattle.play_graph.specs.Graphs.{IsHandleAt, kept_of}
use Rattle.play_graph.specs.Making.{IsMade}
use Rattle.play_graph.proofs.Naming.{named_at}
use Rattle.play_run.specs.Playing.{AreClientsIn, HasParts, IsProgressAt, PlayingValue}

-- ---- its client object

entry_there : {C : Type 0} (es : List (Entry C)) (i : ℕ) (c : Component) → slice_get (components_of es) i ≡ Some c → (e : Entry C) × (slice_get es i ≡ Some e) × (component_of e ≡ c)
entry_there [] i c at = absurd cc
entry_there (e ∷ es) zero c at = (e, refl, cc)
entry_there (e ∷ es) (suc i) c at = entry_there es i c at

some_in : {C : Type 0} (o : Option C) → (Some o ≡ Some None → ⊥) → is_none o ≡ false
some_in None n = absurd (n refl)
some_in (Some x) n = refl

pub client_is_in : {C : Type 0} (g : Entries C) (h : Handle) (place : ℕ) (c : Component) → AreClientsIn g → place_of h (components_of g.entries) ≡ Some place → slice_get (components_of g.entries) place ≡ Some c → c.client_out ≡ false
client_is_in g h place c In p at =
    let e = entry_there g.entries place c at in
    let q = sym (entry_place_is h g.entries) ∙ p in
    let named : client_named h g ≡ Some (e.0).queues.client = client_there g.entries place e.0 h q e.1 in
    sym (ap (λ (d : Component). d.client_out) e.2) ∙ some_in (e.0).queues.client (λ n. In h (named ∙ n))

-- ---- what was asked of the graph

-- what it answers is what was told, in each world
answered : (w : World) (h : Handle) (place : ℕ) (c : Component) (r : Result (Option Progress) OmxError) → place_of h w.components ≡ Some place → slice_get w.components place ≡ Some c → c.client_out ≡ false → r ≡ progress_answer h w → r ≡ Ok (Some (progress_of c w))
answered w h place c r n e o A =
    let named : component_named h w.components ≡ Some c = ap (option_and_then (slice_get w.components)) n ∙ e in
    A ∙ (ap (λ (d : Option Component). looked d (λ y. Ok (if y.client_out then None else Some (progress_of y w)))) named ∙ ap (λ (b : Bool). Ok (if b then None else Some (progress_of c w))) o)

module _ {S K : Type 0} where
  pub part_there : (x : PlayingValue S K) (place : ℕ) → place < length x.plan.parts → (Y : HasParts x) → (c : Component) × (slice_get Y.world.components place ≡ Some c)
  part_there x place b Y = let m = Y.many in get_there Y.world.components place (omega arith)

  pub made_at : (y x : PlayingValue S K) → y ≡ x → (place : ℕ) → place < length x.plan.parts → HasParts x → IsMade place y.graph
  made_at y x is place b Y =
      let m = Y.many in
      let there : place < length (Y.world).components = omega (arith, b) in
      subst (λ (z : PlayingValue S K). IsMade place z.graph) (sym is) (Y.world, Y.stands, there)

  pub handle_there : (y x : PlayingValue S K) → y ≡ x → (place : ℕ) (h : Handle) → IsHandleAt y.graph place h → IsHandleAt x.graph place h
  handle_there y x is place h H = subst (λ (z : PlayingValue S K). IsHandleAt z.graph place h) is H

  -- the client object of each component is in
  pub all_clients_in : (x : PlayingValue S K) → AreClientsIn x.graph.core → (w : World) → Stands (kept_of x.graph) w → (place : ℕ) (h : Handle) (c : Component) → place_of h w.components ≡ Some place → slice_get w.components place ≡ Some c → c.client_out ≡ false
  all_clients_in x In w s place h c n e =
      let same = ap (λ (l : Look). l.components) s.looks in
      client_is_in x.graph.core h place c In (subst (λ (cs : List Component). place_of h cs ≡ Some place) same n) (subst (λ (cs : List Component). slice_get cs place ≡ Some c) same e)

  module _ (y x : PlayingValue S K) (is : y ≡ x) (place : ℕ) (h : Handle) (r : Result (Option Progress) OmxError) (b : place < length x.plan.parts) (Y : HasParts x) (H : IsHandleAt x.graph place h) (A : Always (kept_of y.graph) (λ w. r ≡ progress_answer h w)) where
    told_in : (w : World) → Stands (kept_of x.graph) w → Sound w → (c : Component) → slice_get w.components place ≡ Some c → r ≡ Ok (Some (progress_of c w))
    told_in w s Z c e =
        let n = named_at w place h Z (H w s) in
        answered w h place c r n e (all_clients_in x Y.clients w s place h c n e) (subst (λ (z : PlayingValue S K). Always (kept_of z.graph) (λ w. r ≡ progress_answer h w)) is A w s)

    pub some_told : (c : Component) × (r ≡ Ok (Some (progress_of c Y.world)))
    some_told = let c = part_there x place b Y in (c.0, told_in Y.world Y.stands Y.sound c.0 c.1)

    pub not_none : r ≡ Ok None → ⊥
    not_none e = let z : Ok None ≡ Ok (Some (progress_of some_told.0 Y.world)) = sym e ∙ some_told.1 in absurd cc

    pub not_err : (error : OmxError) → r ≡ Err error → ⊥
    not_err error e = let z : Err error ≡ Ok (Some (progress_of some_told.0 Y.world)) = sym e ∙ some_told.1 in absurd cc

    pub is_told : Always (kept_of y.graph) Sound → (progress : Progress) → r ≡ Ok (Some progress) → IsProgressAt x.graph place progress
    is_told Z progress e = λ w s c f.
        let t = told_in w s (subst (λ (z : PlayingValue S K). Always (kept_of z.graph) Sound) is Z w s) c f in
        let z : Ok (Some progress) ≡ Ok (Some (progress_of c w)) = sym e ∙ t in
        cc
