use Rattle.std.proofs.Common.{◌≡◌, ◌≤◌, ◌*◌, ℕ, List, ◌++◌, length, take, get_or, slice_get, Option, Some, IsSomeAnd, refl, sym, ◌∙◌, ap, subst, arith}
use Rattle.std.proofs.lemmas.List.{length-take-le}
use Rattle.il_machine.specs.declared.answer.Progress.{Progress}
use Rattle.il_machine.specs.Census.{note_numbers}
use Rattle.il_machine.specs.Finishing.{notes_after}
use Rattle.il_machine.specs.Kinds.{ports_in}
use Rattle.il_machine.specs.Parts.{terms_of}
use Rattle.il_machine.specs.Sound.{IsSound}
use Rattle.il_machine.specs.Stock.{Stocked}
use Rattle.il_machine.specs.World.{Component, Stream, World, number_of}
use Rattle.machine_laws.proofs.Facts.{ports_number}
use Rattle.stock_laws.specs.Bare.{StandsBare}
use Rattle.header_core.specs.BufferHeader.{BufferHeader}
use Rattle.port_stock.specs.Kept.{stocked}
use Rattle.il_component.specs.Entries.{Entry, component_of}
use Rattle.work_landing.specs.declared.step.Step.{Step}
use Rattle.work_landing.specs.Landed.{AreHomeless, AreWithin, IsLeft, done_by}
use Rattle.work_landing.specs.Places.{HaveOwnHeaders, carried_from}
use Rattle.graph_core.specs.Entries.{Entries, component_at, kept, look_of}
use Rattle.graph_core.specs.Finishing.{AreHandedBack, ComesBack}
use Rattle.graph_core.specs.Standing.{HasPorts, SoundWorld}
use Rattle.graph_core.proofs.Clients.{clients_set}
use Rattle.graph_core.proofs.Cores.{core_with}
use Rattle.graph_core.proofs.Finished.{apart, comes_of, comes_to, ended_there, finished_ports, finished_returns, finished_worlds, has_work, homeless, notes_bound, within as within_ports}
use Rattle.graph_core.proofs.Found.{bounds, here}
use Rattle.graph_core.proofs.Gathered.{gathered}
use Rattle.graph_core.proofs.Replacing.{component_sound, there}
use Rattle.graph_core.proofs.core_graph.Core.finish.Goals as goal

-- the component at the place, to which the work comes back in one world
record Back {C : Type 0} (progress : C → Progress) (g : Entries C) (i : ℕ) (places : List (Option BufferHeader)) (step : Step) (e : Entry C) : Type 0 where
  at : slice_get g.entries i ≡ Some e
  handed : AreHandedBack places (look_of g)
  world : World
  took : List ℕ
  stands : StandsBare (kept progress g) world
  comes : ComesBack world (component_of e) places step took

-- what is asked of the headers that come back
record Ready (c : Component) (places : List (Option BufferHeader)) (step : Step) (s : Stocked) : Type 0 where
  sound : IsSound c
  work : IsSomeAnd c.work (λ work. length work.headers ≡ length (carried_from 0 places))
  count : length c.part.ended_inputs ≡ length (terms_of c).inputs
  within : AreWithin (length c.ports) 0 places
  homeless : AreHomeless (number_of c) 0 places s
  apart : HaveOwnHeaders places
  notes : (s : Stream) × (took : List ℕ) × (IsLeft c s (done_by (number_of c) places step took) step × (length (note_numbers (c.notes ++ notes_after c s (done_by (number_of c) places step took))) ≤ 32 * ports_in c.settings.kind))

module _ {C : Type 0} (progress : C → Progress) (g v : Entries C) (sees : g ≡ v) (i : ℕ) (places : List (Option BufferHeader)) (step : Step)
    (asked : IsSomeAnd (component_at i v) (λ c. (w : World) × (took : List ℕ) × (StandsBare (kept progress v) w × ComesBack w c places step took))) (handed : AreHandedBack places (look_of v)) (e : Entry C) (is : e ≡ get_or g.entries i e) where
  back : Back progress g i places step e
  back =
      let H = here progress g v sees i (λ x c. (w : World) × (took : List ℕ) × (StandsBare (kept progress x) w × ComesBack w c places step took)) asked e is in
      record { at = H.at; handed = subst (λ (x : Entries C). AreHandedBack places (look_of x)) (sym sees) handed; world = H.has.0; took = H.has.1; stands = H.has.2.0; comes = H.has.2.1 }

  ready : SoundWorld (kept progress g) → HasPorts g.entries (stocked g.stock) g.numbered → Ready (component_of e) places step (stocked g.stock)
  ready W P =
      let ports = P.there i e back.at in
      let K = comes_of back.world (component_of e) places step back.took back.comes in
      record {
        sound = component_sound progress g i (component_of e) W (there progress g i e back.at);
        work = has_work progress g i e places step W back.at ports back.handed back.world back.stands back.took K;
        count = ended_there progress g i e places step W back.at ports back.handed back.world back.stands back.took K;
        within = within_ports progress g i e places step W back.at ports back.handed back.world back.stands back.took K;
        homeless = homeless progress g i e places step W back.at ports back.handed back.world back.stands back.took K;
        apart = apart progress g i e places step W back.at ports back.handed back.world back.stands back.took K;
        notes = (K.stream, back.took, (K.left, notes_bound progress g i e places step W back.at ports back.handed back.world back.stands back.took K));
      }

pub index_mut-component-requires : goal.index_mut-component-requires
index_mut-component-requires g c =
    let i = c.self.inside in
    bounds g.C.Client.progress (gathered i.components.items i.stock i.book i.registry.given) _ c.self.view_is c.args.place _ c.requires.comes _ i.components.ok.0

pub ways_of-ways-requires-clause-sound : goal.ways_of-ways-requires-clause-sound
ways_of-ways-requires-clause-sound g c =
    let i = c.self.inside in
    (ready g.C.Client.progress (gathered i.components.items i.stock i.book i.registry.given) _ c.self.view_is c.args.place c.args.headers.now c.args.step c.requires.comes c.requires.handed c.index_mut-component.result.now c.index_mut-component.ensures.value c.self.invariant.0.worlds c.self.invariant.0.ports).sound

pub ways_of-ways-requires-clause-many : goal.ways_of-ways-requires-clause-many
ways_of-ways-requires-clause-many g c =
    let i = c.self.inside in
    ports_number (component_of c.index_mut-component.result.now) (ready g.C.Client.progress (gathered i.components.items i.stock i.book i.registry.given) _ c.self.view_is c.args.place c.args.headers.now c.args.step c.requires.comes c.requires.handed c.index_mut-component.result.now c.index_mut-component.ensures.value c.self.invariant.0.worlds c.self.invariant.0.ports).sound

pub come_back-requires-clause-work : goal.come_back-requires-clause-work
come_back-requires-clause-work g c =
    let i = c.self.inside in
    (ready g.C.Client.progress (gathered i.components.items i.stock i.book i.registry.given) _ c.self.view_is c.args.place c.args.headers.now c.args.step c.requires.comes c.requires.handed c.index_mut-component.result.now c.index_mut-component.ensures.value c.self.invariant.0.worlds c.self.invariant.0.ports).work

pub come_back-requires-clause-count : goal.come_back-requires-clause-count
come_back-requires-clause-count g c =
    let i = c.self.inside in
    (ready g.C.Client.progress (gathered i.components.items i.stock i.book i.registry.given) _ c.self.view_is c.args.place c.args.headers.now c.args.step c.requires.comes c.requires.handed c.index_mut-component.result.now c.index_mut-component.ensures.value c.self.invariant.0.worlds c.self.invariant.0.ports).count

pub come_back-requires-clause-within : goal.come_back-requires-clause-within
come_back-requires-clause-within g c =
    let i = c.self.inside in
    let R = (ready g.C.Client.progress (gathered i.components.items i.stock i.book i.registry.given) _ c.self.view_is c.args.place c.args.headers.now c.args.step c.requires.comes c.requires.handed c.index_mut-component.result.now c.index_mut-component.ensures.value c.self.invariant.0.worlds c.self.invariant.0.ports) in
    let n : c.ports-ports.result ≡ ports_in c.index_mut-component.result.now.settings.kind = c.ports-ports.ensures.count in
    let few = c.ports-ports.ensures.few in
    let nine : length c.ways_of-ways.result ≡ 9 = omega arith in
    let l : length (take c.ports-ports.result c.ways_of-ways.result) ≡ length c.index_mut-component.result.now.ports = length-take-le c.ports-ports.result c.ways_of-ways.result (omega (arith, few, nine)) ∙ (n ∙ sym R.sound.ports) in
    subst (λ (count : ℕ). AreWithin count 0 c.args.headers.now) (sym l) R.within

pub come_back-requires-clause-homeless : goal.come_back-requires-clause-homeless
come_back-requires-clause-homeless g c =
    let i = c.self.inside in
    (ready g.C.Client.progress (gathered i.components.items i.stock i.book i.registry.given) _ c.self.view_is c.args.place c.args.headers.now c.args.step c.requires.comes c.requires.handed c.index_mut-component.result.now c.index_mut-component.ensures.value c.self.invariant.0.worlds c.self.invariant.0.ports).homeless

pub come_back-requires-clause-apart : goal.come_back-requires-clause-apart
come_back-requires-clause-apart g c =
    let i = c.self.inside in
    (ready g.C.Client.progress (gathered i.components.items i.stock i.book i.registry.given) _ c.self.view_is c.args.place c.args.headers.now c.args.step c.requires.comes c.requires.handed c.index_mut-component.result.now c.index_mut-component.ensures.value c.self.invariant.0.worlds c.self.invariant.0.ports).apart

pub come_back-requires-clause-notes : goal.come_back-requires-clause-notes
come_back-requires-clause-notes g c =
    let i = c.self.inside in
    (ready g.C.Client.progress (gathered i.components.items i.stock i.book i.registry.given) _ c.self.view_is c.args.place c.args.headers.now c.args.step c.requires.comes c.requires.handed c.index_mut-component.result.now c.index_mut-component.ensures.value c.self.invariant.0.worlds c.self.invariant.0.ports).notes

pub invariant_of-self : goal.invariant_of-self
invariant_of-self g c =
    let i = c.self.inside in
    let p = g.C.Client.progress in
    let e = c.index_mut-component.result.now in
    let d = c.come_back.new.component in
    let after = c.come_back.new.stock in
    let G : Entries (g.row.C.Denot) = gathered i.components.items i.stock i.book i.registry.given in
    let B = back p G _ c.self.view_is c.args.place c.args.headers.now c.args.step c.requires.comes c.requires.handed e c.index_mut-component.ensures.value in
    let ports = c.self.invariant.0.ports.there c.args.place e B.at in
    let was = c.come_back.ensures in
    let is = comes_to p G c.args.place e c.args.headers.now c.args.step c.self.invariant.0.worlds B.at ports B.handed d after was.component was.client was.notices was.stock B.world B.took B.stands B.comes in
    core_with p i.components.items i.registry i.stock i.book i.marked i.components.cap c.self.invariant after c.args.place e d _ B.at is refl refl refl refl
    (finished_ports p G c.args.place e c.args.headers.now c.args.step c.self.invariant.0.worlds B.at ports B.handed d after was.component was.client was.notices was.stock B.world B.took B.stands B.comes)
    (finished_worlds p G c.args.place e c.args.headers.now c.args.step c.self.invariant.0.worlds B.at ports B.handed d after was.component was.client was.notices was.stock B.world B.took B.stands B.comes)

pub returns-clause-change : goal.returns-clause-change
returns-clause-change g c =
    let i = c.self.inside in
    let p = g.C.Client.progress in
    let e = c.index_mut-component.result.now in
    let d = c.come_back.new.component in
    let after = c.come_back.new.stock in
    let G : Entries (g.row.C.Denot) = gathered i.components.items i.stock i.book i.registry.given in
    let B = back p G _ c.self.view_is c.args.place c.args.headers.now c.args.step c.requires.comes c.requires.handed e c.index_mut-component.ensures.value in
    let ports = c.self.invariant.0.ports.there c.args.place e B.at in
    let was = c.come_back.ensures in
    λ took. rw (← c.self.view_is) (finished_returns p G c.args.place e c.args.headers.now c.args.step c.self.invariant.0.worlds B.at ports B.handed d after was.component was.client was.notices was.stock took)

pub returns-clause-clients : goal.returns-clause-clients
returns-clause-clients g c =
    let i = c.self.inside in
    let p = g.C.Client.progress in
    let e = c.index_mut-component.result.now in
    let d = c.come_back.new.component in
    let after = c.come_back.new.stock in
    let G : Entries (g.row.C.Denot) = gathered i.components.items i.stock i.book i.registry.given in
    let B = back p G _ c.self.view_is c.args.place c.args.headers.now c.args.step c.requires.comes c.requires.handed e c.index_mut-component.ensures.value in
    let ports = c.self.invariant.0.ports.there c.args.place e B.at in
    let was = c.come_back.ensures in
    let is = comes_to p G c.args.place e c.args.headers.now c.args.step c.self.invariant.0.worlds B.at ports B.handed d after was.component was.client was.notices was.stock B.world B.took B.stands B.comes in
    rw (← c.self.view_is) (clients_set i.components.items c.args.place e d B.at (ap (λ (x : Component). x.handle) is) was.client)
