-- A world that the graph stands for, in which a progress is that of all events that were given for a component whose client object is out.
use Rattle.std.proofs.Common.{◌≡◌, ℕ, true, List, Some, slice_get, option_and_then, ◌∙◌, ap}
use Rattle.omx_types.specs.declared.handle.Handle.{Handle}
use Rattle.il_machine.specs.declared.answer.Progress.{Progress}
use Rattle.il_machine.specs.World.{Component, World, number_of, place_of}
use Rattle.il_machine.specs.Look.{Look}
use Rattle.il_machine.specs.Answers.{component_named}
use Rattle.il_machine.specs.Whole.{Stands}
use Rattle.machine_laws.proofs.Lookups.{rises_at}
use Rattle.machine_laws.proofs.Pairs.{apart_numbers}
use Rattle.graph_core.specs.Entries.{components_of}
use Rattle.graph_core.specs.Entries as core
use Rattle.graph_core.specs.Clients.{IsPortDone, WasTold}
use Rattle.graph_core.proofs.Returning.{regiven, regiven_stands, own_progress}
use Rattle.il_graph.specs.Shown.{Shown, IsWhole, kept}
use Rattle.il_graph.proofs.Whole.{bare, whole}

module _ {S K C : Type 0} (progress : C → Progress) (g : Shown S K C) (h : Handle) (i : ℕ) (c : Component) (p : Progress) (I : IsWhole progress g)
    (place : place_of h (components_of g.core.entries) ≡ Some i) (at : slice_get (components_of g.core.entries) i ≡ Some c) (out : c.client_out ≡ true) (done : IsPortDone p.port) where
  pub told_world : World
  told_world = regiven (number_of c) p I.worlds.world

  pub told_stands : Stands (kept progress g) told_world
  unfolding told_world
  told_stands =
      let w = I.worlds.world in
      let B = bare progress g w I.worlds.stands in
      let cs : w.components ≡ components_of g.core.entries = ap (λ (y : Look). y.components) B.looks in
      let here : slice_get w.components i ≡ Some c = ap (λ (xs : List Component). slice_get xs i) cs ∙ at in
      whole progress g (regiven (number_of c) p w)
      (regiven_stands (core.kept progress g.core) w i c p B here out (λ j d t a. apart_numbers w.numbered j i w.components d c I.worlds.sound.rising t here a) (rises_at 0 w.numbered i w.components c I.worlds.sound.rising here).1)
      I.worlds.stands.parts

  pub was_told : WasTold h p told_world
  unfolding told_world
  was_told =
      let w = I.worlds.world in
      let B = bare progress g w I.worlds.stands in
      let cs : w.components ≡ components_of g.core.entries = ap (λ (y : Look). y.components) B.looks in
      let here : slice_get w.components i ≡ Some c = ap (λ (xs : List Component). slice_get xs i) cs ∙ at in
      let named : component_named h w.components ≡ Some c = ap (option_and_then (slice_get w.components)) (ap (place_of h) cs ∙ place) ∙ here in
      rw named (own_progress c p w done)
