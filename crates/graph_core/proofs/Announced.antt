-- An announcement comes back, in each world that a graph stands for.
use Rattle.std.proofs.Common.{◌≡◌, ◌≢◌, inl, inr, ℕ, ◌≤◌, Bool, true, List, [], map, set, slice_get, MatchOption, IsSomeAnd, Option, Some, None, option_map, if◌then◌else◌, refl, sym, ◌∙◌, ap, subst, length-set}
use Rattle.std.specs.Prelude.{IsSome}
use Rattle.std.proofs.lemmas.Bool.Decides.{eqb_tells}
use Rattle.std.proofs.lemmas.Option.{slice_get-map}
use Rattle.omx_types.specs.declared.command.Event.TheVariants.{PortSettingsChanged}
use Rattle.il_machine.specs.declared.answer.Progress.{Progress}
use Rattle.il_machine.specs.declared.port.Port.{Port}
use Rattle.il_machine.specs.Components.{progress_of}
use Rattle.il_machine.specs.Finishing.{announced, announced_at, finished, finished_by, with_landed}
use Rattle.il_machine.specs.Look.{Look}
use Rattle.il_machine.specs.Parts.{file_format}
use Rattle.il_machine.specs.Settings.{same_format}
use Rattle.il_machine.specs.Sound.{Sound}
use Rattle.il_machine.specs.Stepping.{WorkDone, IsDoneBy, IsDoneOf}
use Rattle.il_machine.specs.Whole.{HasProgress, Kept}
use Rattle.il_machine.specs.World.{Component, Work, World, changed_at as world_changed, number_of, port_of, stream_of, with_component}
use Rattle.machine_laws.proofs.Arriving.{change_let_go, state_there}
use Rattle.machine_laws.specs.Changes.{IsChange}
use Rattle.machine_laws.proofs.Finding.{either}
use Rattle.machine_laws.proofs.Finishing.{sound_finished}
use Rattle.stock_laws.specs.Bare.{StepsBare}
use Rattle.stock_laws.proofs.Entries.{set_same}
use Rattle.stock_laws.proofs.Lifting.{progress_number, with_look}
use Rattle.stock_laws.proofs.Lists.{get_set_same, get_set_other, map_set}
use Rattle.registry.specs.Handles.{Handles}
use Rattle.port_stock.specs.Kept.{StockKept, stocked}
use Rattle.il_component.specs.Entries.{Entry, component_of, KeepsNotices}
use Rattle.graph_core.specs.Booked.{row_for}
use Rattle.graph_core.specs.Entries.{Entries, changed_at, component_at, kept}
use Rattle.graph_core.specs.Standing.{IsGraph}
use Rattle.graph_core.proofs.Registering.{set_sound}
use Rattle.graph_core.proofs.Replacing.{kept_changed, next_world, ports_changed, there}
use Rattle.graph_core.proofs.Stepping.{at_world}
use Rattle.graph_core.proofs.Waiters.{few_alike, waiters_set}

-- ---- the component

-- its row stays
row_told : (o : Option Port) (c : Component) → row_for (announced_at o c) ≡ row_for c
row_told None c = refl
row_told (Some p) c = either (same_format p.setting.definition.format (file_format c.file)) (λ t. rw t refl) (λ f. rw f refl)

pub announced_row : (c : Component) → row_for (announced c) ≡ row_for c
announced_row c = row_told (port_of c 0) (record c { work = None })

-- nothing but its work, its notes and its held port changes
record IsTold (c d : Component) : Type 0 where
  change : IsChange c d
  pending : d.pending ≡ c.pending
  client : d.client_out ≡ c.client_out

abbrev idle : Component → Component
idle c = record c { work = None }

idle_told : (c : Component) → IsTold c (idle c)
idle_told c = record { change = record { handle = refl; ports = refl; links = refl; notes = refl }; pending = refl; client = refl }

held_told : (c : Component) (p : Port) → port_of (idle c) 0 ≡ Some p → IsTold c (announced_at (Some p) (idle c))
held_told c p e = either (same_format p.setting.definition.format (file_format c.file))
    (λ t. rw t (idle_told c))
    (λ f.
    let x = change_let_go (PortSettingsChanged p.key.port) p.key.port (record p.state { held = true }) p.state (idle c) (state_there (idle c) 0 p e) refl in
    rw f (record { change = record { handle = x.handle; ports = x.ports; links = x.links; notes = x.notes }; pending = refl; client = refl }))

told_at : (c : Component) (o : Option Port) → port_of (idle c) 0 ≡ o → IsTold c (announced_at o (idle c))
told_at c None e = idle_told c
told_at c (Some p) e = held_told c p e

is_told : (c : Component) → IsTold c (announced c)
is_told c = told_at c (port_of c 0) refl

pub told_handle : (c : Component) → (announced c).handle ≡ c.handle
told_handle c = (is_told c).change.handle

-- ---- what is kept

progress_told : (clients : List (Option Progress)) (w : World) (i : ℕ) (c d : Component) → slice_get w.components i ≡ Some c → number_of d ≡ number_of c → d.client_out ≡ c.client_out → HasProgress clients w → HasProgress clients (with_component i d w)
progress_told clients w i c d at n o P = λ j x h out.
    let same : j ≡ i → slice_get clients j ≡ Some (Some (progress_of x w)) = λ q.
    let f : Some x ≡ Some d = sym h ∙ rw q (get_set_same w.components i c d at) in
    let r : x ≡ d = cc in
    let p = P i c at (sym o ∙ (ap (λ (y : Component). y.client_out) (sym r) ∙ out)) in
    let m : number_of x ≡ number_of c = ap number_of r ∙ n in
    rw q (p ∙ ap (λ (y : Progress). Some (Some y)) (sym (progress_number x c w m))) in
    let other : j ≢ i → slice_get clients j ≡ Some (Some (progress_of x w)) = λ q. P j x (sym (get_set_other w.components i j d q) ∙ h) out in
    elim (eqb_tells j i) [ inl q ↦ same q.1 | inr q ↦ other q.1 ]

lift_told : (k : Kept) (i : ℕ) (c d : Component) → slice_get k.looks.components i ≡ Some c → number_of d ≡ number_of c → d.client_out ≡ c.client_out → StepsBare k (with_look i d k) (λ w v. v ≡ with_component i d w)
lift_told k i c d at n o = λ w S.
    let cs : w.components ≡ k.looks.components = ap (λ (l : Look). l.components) S.looks in
    let here : slice_get w.components i ≡ Some c = ap (λ (xs : List Component). slice_get xs i) cs ∙ at in
    let numbers : map number_of (set w.components i d) ≡ map number_of w.components =
    map_set number_of w.components i d ∙ (ap (set (map number_of w.components) i) n ∙ set_same (map number_of w.components) i (number_of c) (slice_get-map number_of w.components i ∙ ap (option_map number_of) here)) in (
      with_component i d w,
      record {
        looks = ap (λ (l : Look). record l { components = set l.components i d }) S.looks;
        loads = S.loads;
        noticed = S.noticed;
        progress = progress_told k.clients w i c d here n o S.progress;
        streams = S.streams ∙ sym numbers;
        once = S.once;
        given = S.given;
      },
      refl,
    )

-- ---- the world

-- what the end of an announcement makes of the world
pub told_is : (i : ℕ) (c : Component) (done : WorkDone) (w : World) (work : Work) → c.work ≡ Some work → work.announces ≡ true → finished i c done w ≡ with_component i (announced c) w
told_is i c done w work e f =
    ap (λ (o : Option Work). finished_by i c done o w) e
    ∙ ap (λ (b : Bool). if b then with_component i (announced c) w else world_changed (stream_of (number_of c) w) w (λ x. with_landed i c done x w)) f

abbrev nothing_done : WorkDone
nothing_done = record { component = 0; frames = 0; fault = None; headers = []; took = [] }

sound_told : (w : World) (i : ℕ) (c : Component) (work : Work) → Sound w → slice_get w.components i ≡ Some c → c.work ≡ Some work → work.announces ≡ true → Sound (with_component i (announced c) w)
sound_told w i c work S t e a =
    let D : IsDoneOf w c work nothing_done = subst (λ (b : Bool). IsDoneBy b w c work nothing_done) (sym a) (refl, refl, refl, refl) in
    subst Sound (told_is i c nothing_done w work e a) (sound_finished w i c work nothing_done S t e D)

-- the work is an announcement's
pub record IsAnnouncing (c : Component) : Type 0 where
  pub work : Work
  pub is : c.work ≡ Some work
  pub tells : work.announces ≡ true

pub announcing_by : (c : Component) (o : Option Work) → c.work ≡ o → IsSomeAnd o (λ work. work.announces ≡ true) → IsAnnouncing c
announcing_by c None e h = absurd h
announcing_by c (Some work) e h = record { work = work; is = e; tells = h }

pub there_announcing : (c : Component) → IsAnnouncing c → IsSome c.work
there_announcing c A = rw A.is refl

module _ {C : Type 0} (progress : C → Progress) (g : Entries C) (i : ℕ) (e d : Entry C) (at : slice_get g.entries i ≡ Some e) (A : IsAnnouncing (component_of e)) (is : component_of d ≡ announced (component_of e)) (N : KeepsNotices e d) where
  abbrev c : Component
  c = component_of e

  told_steps : StepsBare (kept progress g) (kept progress (changed_at i d g)) (λ w v. v ≡ with_component i (announced c) w)
  told_steps =
      let T = is_told c in
      subst (λ (k : Kept). StepsBare (kept progress g) k (λ w v. v ≡ with_component i (announced c) w))
      (sym (kept_changed progress g i e d at N ∙ ap (λ (x : Component). with_look i x (kept progress g)) is))
      (lift_told (kept progress g) i c (announced c) (there progress g i e at) (ap (λ h. h.generation) T.change.handle) T.client)

  pub told_returns : (done : WorkDone) → MatchOption (component_at i g) ⊥ (λ c. StepsBare (kept progress g) (kept progress (changed_at i d g)) (λ w v. v ≡ finished i c done w))
  told_returns done = rw (there progress g i e at) (λ w S. let x = told_steps w S in (x.0, x.1, x.2 ∙ sym (told_is i c done w A.work A.is A.tells)))

module _ {C : Type 0} (progress : C → Progress) where
  pub graph_told : (es : List (Entry C)) (registry : Handles ℕ) (stock : StockKept) (units waits capacity i : ℕ) (e d : Entry C) → IsGraph progress es registry stock units waits capacity → slice_get es i ≡ Some e → IsAnnouncing (component_of e)
      → component_of d ≡ announced (component_of e) → KeepsNotices e d → IsGraph progress (set es i d) registry stock units waits capacity
  graph_told es registry stock units waits capacity i e d G at A is N =
      let g : Entries C = record { entries = es; stock = stock; units = units; waits = waits; numbered = registry.given } in
      let T = is_told (component_of e) in
      let X : IsChange (component_of e) (component_of d) = subst (IsChange (component_of e)) (sym is) T.change in
      record {
        registered = set_sound es registry i e d G.registered at X.handle;
        roomy = G.roomy;
        few = subst (λ (n : ℕ). n ≤ 32) (sym (length-set es i d)) G.few;
        ports = ports_changed progress es (stocked stock) registry.given i e d G.ports at X;
        numbers = waiters_set es i e d waits waits at (few_alike waits e d (ap (λ (c : Component). c.pending) is ∙ T.pending)) G.numbers;
        worlds = next_world (kept progress g) (kept progress (changed_at i d g)) (λ w v. v ≡ with_component i (announced (component_of e)) w) G.worlds (told_steps progress g i e d at A is N)
            (λ w v s f sound. subst Sound (sym f) (sound_told w i (component_of e) A.work sound (at_world progress g i e w s at) A.is A.tells));
      }
