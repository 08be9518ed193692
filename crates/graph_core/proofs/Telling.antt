-- What holds of every world that a graph stands for.
use Rattle.std.proofs.Common.{◌≡◌, ℕ, Option, Some, None, map, slice_get, option_map, option_and_then, is_none, refl, sym, ◌∙◌, ap}
use Rattle.std.proofs.lemmas.Option.{slice_get-map}
use Rattle.omx_types.specs.declared.handle.Handle.{Handle}
use Rattle.il_machine.specs.declared.answer.Progress.{Progress}
use Rattle.il_machine.specs.Look.{Look}
use Rattle.il_machine.specs.Answers.{component_named}
use Rattle.il_machine.specs.Components.{progress_of}
use Rattle.stock_laws.specs.Bare.{AlwaysBare}
use Rattle.il_machine.specs.Sound.{Sound}
use Rattle.stock_laws.proofs.Views.{sound_world}
use Rattle.il_component.specs.Entries.{Entry, component_of}
use Rattle.graph_core.specs.Clients.{AreTold, IsOut}
use Rattle.graph_core.specs.Entries.{Entries, client_named, components_of, entry_named, entry_place, kept, look_of, progress_at}
use Rattle.graph_core.specs.Standing.{SoundWorld}
use Rattle.graph_core.proofs.Replacing.{entry_place_is, there}
use Rattle.graph_core.proofs.Stepping.{at_world}

and_then_some : {X Y : Type 0} (f : X → Option Y) (o : Option X) (y : Y) → option_and_then f o ≡ Some y → (x : X) × (o ≡ Some x) × (f x ≡ Some y)
and_then_some f None y h = absurd cc
and_then_some f (Some x) y h = (x, refl, h)

map_some : {X Y : Type 0} (f : X → Y) (o : Option X) (y : Y) → option_map f o ≡ Some y → (x : X) × (o ≡ Some x) × (f x ≡ y)
map_some f None y h = absurd cc
map_some f (Some x) y h = let e : f x ≡ y = cc in (x, refl, e)

module _ {C : Type 0} (progress : C → Progress) (g : Entries C) where
  -- a component whose client object is kept so, in or out
  pub record IsNamed (h : Handle) (o : Option C) : Type 0 where
    pub place : ℕ
    pub entry : Entry C
    pub named : entry_place h g.entries ≡ Some place
    pub at : slice_get g.entries place ≡ Some entry
    pub client : entry.queues.client ≡ o

  named_there : (h : Handle) (o : Option C) → client_named h g ≡ Some o → IsNamed h o
  named_there h o c =
      let x = map_some (λ (e : Entry C). e.queues.client) (entry_named h g) o c in
      let y = and_then_some (slice_get g.entries) (entry_place h g.entries) x.0 x.1 in
      record { place = y.0; entry = x.0; named = y.1; at = y.2; client = x.2 }

  -- the component of the handle, as the machine names it
  machine_names : (h : Handle) (o : Option C) (N : IsNamed h o) → component_named h (components_of g.entries) ≡ Some (component_of N.entry)
  machine_names h o N = ap (option_and_then (slice_get (components_of g.entries))) (entry_place_is h g.entries ∙ N.named) ∙ there progress g N.place N.entry N.at

  pub out_there : (h : Handle) → client_named h g ≡ Some None → IsOut h (look_of g)
  out_there h c =
      let N = named_there h None c in
      rw (machine_names h None N) (ap (λ (o : Option C). is_none o) N.client)

  -- the one progress that is kept for the place
  same_progress : (i : ℕ) (e : Entry C) (client : C) (p : Progress) → slice_get g.entries i ≡ Some e → e.queues.client ≡ Some client → slice_get (map (progress_at progress) g.entries) i ≡ Some (Some p) → progress client ≡ p
  same_progress i e client p at q h =
      let a : slice_get (map (progress_at progress) g.entries) i ≡ Some (option_map progress e.queues.client) = slice_get-map (progress_at progress) g.entries i ∙ ap (option_map (progress_at progress)) at in
      let b : Some (Some (progress client)) ≡ Some (Some p) = ap (λ (o : Option C). Some (option_map progress o)) (sym q) ∙ (sym a ∙ h) in
      cc

  pub all_told : AlwaysBare (kept progress g) (AreTold progress g)
  all_told w S h client c =
      let x = and_then_some (λ (o : Option C). o) (client_named h g) client c in
      let N : IsNamed h (Some client) = named_there h (Some client) (x.1 ∙ ap (λ (o : Option C). Some o) x.2) in
      let named : component_named h w.components ≡ Some (component_of N.entry) = ap (λ (l : Look). component_named h l.components) S.looks ∙ machine_names h (Some client) N in
      let told = S.progress N.place (component_of N.entry) (at_world progress g N.place N.entry w S N.at) (ap (λ (o : Option C). is_none o) N.client) in
      rw named (same_progress N.place N.entry client (progress_of (component_of N.entry) w) N.at N.client told)

  pub all_sound : SoundWorld (kept progress g) → AlwaysBare (kept progress g) Sound
  all_sound W w S = sound_world (kept progress g) W.world w W.stands W.sound S
