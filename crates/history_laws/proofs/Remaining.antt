-- A component stays in a world until an act frees it: its number is there still.
use Rattle.std.proofs.Common.{◌≡◌, ◌≢◌, ℕ, zero, suc, Bool, true, false, nat_eq, eq-eqb, List, [], ◌∷◌, map, set, slice_get, Option, Some, None, option_map, Ok, refl, sym, ◌∙◌, ap, subst, not}
use Rattle.std.proofs.lemmas.Option.{slice_get-map}
use Rattle.omx_types.specs.declared.handle.Handle.{Handle}
use Rattle.omx_types.specs.declared.command.Command.{Command}
use Rattle.omx_types.specs.declared.command.Event.{Event}
use Rattle.omx_types.specs.declared.kind.Kind.{Kind}
use Rattle.omx_types.specs.declared.param.Param.{Param}
use Rattle.omx_types.specs.declared.param.ParamKey.{ParamKey}
use Rattle.il_machine.specs.declared.answer.Acted.TheVariants.{Did}
use Rattle.il_machine.specs.declared.answer.Granted.TheVariants as granted
use Rattle.il_machine.specs.declared.answer.Preempted.TheVariants as preempted
use Rattle.il_machine.specs.declared.answer.Pending.{Pending}
use Rattle.il_machine.specs.declared.port.Link.{Link}
use Rattle.il_machine.specs.declared.port.Mode.TheVariants.{Steady}
use Rattle.il_machine.specs.declared.port.Port.{Port}
use Rattle.il_machine.specs.declared.port.PortKey.{PortKey}
use Rattle.il_machine.specs.declared.header.Spot.{Spot}
use Rattle.il_machine.specs.declared.header.Spot.TheVariants.{TodoBack}
use Rattle.il_machine.specs.World.{changed_at, Component, HeaderRecord, Work, World, component_numbered, fresh, is_numbered, number_of, place_of, place_numbered, port_of, stream_of, with_port}
use Rattle.il_machine.specs.Headers.{seen, unchanged, cleared}
use Rattle.il_machine.specs.Kinds.{kind_of}
use Rattle.il_machine.specs.Look.{look}
use Rattle.il_machine.specs.Ports.{is_input_port}
use Rattle.il_machine.specs.Due.{Thing, Transition, Flush, PortMode, WaitingMark, arrived, mode_completion, all_told, transition_happened, at_port, flush_happened, mode_happened, mark_happened, happened, HappenTimes, ClosesTo}
use Rattle.il_machine.specs.Settings.{changed_by, same_format}
use Rattle.il_machine.specs.Parts.{file_format}
use Rattle.il_machine.specs.Parameters.{unheld_at, with_value}
use Rattle.il_machine.specs.Tunnels.{joined_to, parted}
use Rattle.il_machine.specs.Commands.{is_at_once, sent, run_front}
use Rattle.il_machine.specs.Buffers.{is_unpopulating, unpopulated}
use Rattle.il_machine.specs.Notes.{TakenEvent, TakenEmpty, TakenFilled, TookNote}
use Rattle.il_machine.specs.Flow.{in_port, front_unmade, front_put, at_link, handed_back, returned, front_noticed, supplied_spot}
use Rattle.il_machine.specs.Units.{is_waiter, is_before, first_waiter, victim, with_changed, granted_units, preempted_units}
use Rattle.il_machine.specs.Claims.{ClaimedWork}
use Rattle.il_machine.specs.Stepping.{WorkDone}
use Rattle.il_machine.specs.Finishing.{announced, announced_at, finished_by}
use Rattle.il_machine.specs.Acts.{Act, Reply}
use Rattle.il_machine.specs.Acts as acts
use Rattle.il_machine.specs.Effect.{at_named, at_named_port, at_both, effect}
use Rattle.il_machine.specs.Run.{Meets, Step}
use Rattle.il_machine.specs.Sound.{Sound}
use Rattle.machine_laws.proofs.Finding.{either}
use Rattle.machine_laws.proofs.Granting.{best_among, changed_there, preempted_by, victim_there}
use Rattle.history_laws.specs.Given.{is_freed_by}
use Rattle.history_laws.proofs.Calm.{arrived_keeps, front_keeps}
use Rattle.history_laws.proofs.Named.{named, is_named, named_push, named_removed}
use Rattle.history_laws.proofs.Outcome.{turn, Outcome, Nothing, Done, same_number}
use Rattle.history_laws.proofs.Steps.{step_comes}

-- ---- the numbers

-- the components have the numbers that they had, at the same places
abbrev Same : World → World → Type 0
Same w v = map number_of v.components ≡ map number_of w.components

same_equal : (w v : World) → v ≡ w → Same w v
same_equal w v e = ap (λ (x : World). map number_of x.components) e

map_set : (cs : List Component) (i : ℕ) (d : Component) → map number_of (set cs i d) ≡ set (map number_of cs) i (number_of d)
map_set [] i d = refl
map_set (x ∷ cs) zero d = refl
map_set (x ∷ cs) (suc i) d = ap (λ (l : List ℕ). number_of x ∷ l) (map_set cs i d)

set_same : (xs : List ℕ) (i x : ℕ) → slice_get xs i ≡ Some x → set xs i x ≡ xs
set_same [] i x e = refl
set_same (y ∷ xs) zero x e = let is : y ≡ x = cc in ap (λ (z : ℕ). z ∷ xs) (sym is)
set_same (y ∷ xs) (suc i) x e = ap (λ (l : List ℕ). y ∷ l) (set_same xs i x e)

same_at : (cs : List Component) (i : ℕ) (c d : Component) → slice_get cs i ≡ Some c → number_of d ≡ number_of c → set (map number_of cs) i (number_of d) ≡ map number_of cs
same_at cs i c d at e = subst (λ (k : ℕ). set (map number_of cs) i k ≡ map number_of cs) (sym e) (set_same (map number_of cs) i (number_of c) (slice_get-map number_of cs i ∙ ap (option_map number_of) at))

same_set : (cs : List Component) (i : ℕ) (c d : Component) → slice_get cs i ≡ Some c → number_of d ≡ number_of c → map number_of (set cs i d) ≡ map number_of cs
same_set cs i c d at e = map_set cs i d ∙ same_at cs i c d at e

same_twice : (cs : List Component) (i j : ℕ) (c c' d d' : Component) → slice_get cs i ≡ Some c → slice_get cs j ≡ Some d → number_of c' ≡ number_of c → number_of d' ≡ number_of d → map number_of (set (set cs i c') j d') ≡ map number_of cs
same_twice cs i j c c' d d' at bt e f = map_set (set cs i c') j d' ∙ (ap (λ (xs : List ℕ). set xs j (number_of d')) (same_set cs i c c' at e) ∙ same_at cs j d d' bt f)

-- where the numbers are the same, each is there still
still_there : (n : ℕ) (cs ds : List Component) (c : Component) → map number_of ds ≡ map number_of cs → named n cs ≡ Some c → (d : Component) × (named n ds ≡ Some d)
still_there n [] ds c e f = absurd cc
still_there n (x ∷ cs) [] c e f = absurd cc
still_there n (x ∷ cs) (y ∷ ds) c e f =
    let s : number_of y ≡ number_of x = cc in
    let r : map number_of ds ≡ map number_of cs = cc in
    let t : is_numbered n y ≡ is_numbered n x = ap (λ (k : ℕ). nat_eq k n) s in
    either (is_numbered n x)
    (λ a. (y, (rw (t, a) refl)))
    (λ a. let g = still_there n cs ds c r (rw a at f) in (g.0, (rw (t, a) g.1)))

-- ---- one component

told_number : (events : List Event) (c : Component) → number_of (all_told events c) ≡ number_of c
told_number [] c = refl
told_number (event ∷ events) c = told_number events _

unheld_number : (o : Option Port) (c : Component) → number_of (unheld_at o c) ≡ number_of c
unheld_number None c = refl
unheld_number (Some q) c = refl

value_number : (key : ParamKey) (value : Param) (c : Component) → number_of (with_value key value c) ≡ number_of c
value_number key value c = either (nat_eq key.index 1)
    (λ t. rw t (unheld_number (port_of c key.port) (record c { settings = changed_by key.port value c.settings })))
    (λ f. rw f refl)

sent_number : (command : Command) (c : Component) → number_of (sent command c) ≡ number_of c
sent_number command c = either (is_at_once command) (λ t. rw t refl) (λ f. rw f refl)

unpopulated_number : (q : Port) (c : Component) → number_of (unpopulated q c) ≡ number_of c
unpopulated_number q c = either (is_unpopulating c q) (λ t. rw t refl) (λ f. rw f refl)

announced_number : (o : Option Port) (c : Component) → number_of (announced_at o c) ≡ number_of c
announced_number None c = refl
announced_number (Some q) c = either (same_format q.setting.definition.format (file_format c.file)) (λ t. rw t refl) (λ f. rw f refl)

number_at : (c d : Component) → d.handle ≡ c.handle → number_of d ≡ number_of c
number_at c d e = ap (λ (h : Handle). h.generation) e

-- ---- what happens

port_same : (o : Option Port) (change : Port → World → World) (w : World) → ((p : Port) → Same w (change p w)) → Same w (at_port o change w)
port_same None change w k = refl
port_same (Some p) change w k = k p

transition_same : (i : ℕ) (c : Component) (o : Option Pending) (w : World) → slice_get w.components i ≡ Some c → Same w (transition_happened i c o w)
transition_same i c None w at = refl
transition_same i c (Some p) w at = same_set w.components i c (arrived w.waits p c) at (number_at c (arrived w.waits p c) (arrived_keeps w.waits p.target p c refl).handle)

happened_same : (i : ℕ) (c : Component) (thing : Thing) (w : World) → slice_get w.components i ≡ Some c → Same w (happened i c thing w)
happened_same i c Transition w at = transition_same i c c.pending w at
happened_same i c (Flush port) w at = port_same (port_of c port) (flush_happened i c) w (λ p. same_set w.components i c _ at refl)
happened_same i c (PortMode port) w at = port_same (port_of c port) (mode_happened i c) w (λ p.
    same_set w.components i c _ at (told_number (mode_completion p.state.mode p.key.port) (with_port p.key.port (record p.state { mode = Steady }) c)))
happened_same i c (WaitingMark port) w at = port_same (port_of c port) (mark_happened i c) w (λ p. same_set w.components i c _ at refl)

times_same : (n : ℕ) (w v : World) → HappenTimes n w v → Same w v
times_same zero w v e = same_equal w v e
times_same (suc n) w v (mid, before, last) = subst (Same mid) (sym last.after) (happened_same last.place last.component last.thing mid last.there) ∙ times_same n w mid before

closing_same : (w v : World) → ClosesTo w v → Same w v
closing_same w v C = times_same C.steps w v C.by_steps

-- ---- what acts do

changed_same : {T : Type 0} (o : Option T) (w : World) (change : T → World) → ((x : T) → o ≡ Some x → Same w (change x)) → Same w (changed_at o w change)
changed_same None w change k = refl
changed_same (Some x) w change k = k x refl

named_same : (h : Handle) (w : World) (change : ℕ → Component → World) → ((i : ℕ) (c : Component) → slice_get w.components i ≡ Some c → Same w (change i c)) → Same w (at_named h w change)
named_same h w change k = changed_same (place_of h w.components) w _ (λ i e. changed_same (slice_get w.components i) w _ (λ c at. k i c at))

at_port_same : (h : Handle) (port : ℕ) (w : World) (change : ℕ → Component → Port → World) → ((i : ℕ) (c : Component) (p : Port) → slice_get w.components i ≡ Some c → Same w (change i c p)) → Same w (at_named_port h port w change)
at_port_same h port w change k = named_same h w _ (λ i c at. changed_same (port_of c port) w _ (λ p e. k i c p at))

both_same : (p q : Option Port) (w : World) (change : Port → Port → World) → ((a b : Port) → Same w (change a b)) → Same w (at_both p q w change)
both_same p q w change k = changed_same p w _ (λ a e. changed_same q w _ (λ b f. k a b))

unmade_same : (ns : List ℕ) (w : World) → Same w (front_unmade ns w)
unmade_same [] w = refl
unmade_same (n ∷ ns) w = refl

put_same : (key : PortKey) (spot : Spot) (change : HeaderRecord → HeaderRecord) (ns : List ℕ) (w : World) → Same w (front_put key spot change ns w)
put_same key spot change [] w = refl
put_same key spot change (n ∷ ns) w = refl

over_same : (p : Port) (o : Option Link) (w : World) → Same w (at_link o (λ peer. front_put peer TodoBack unchanged ((seen w.headers).done p.key)) w)
over_same p None w = refl
over_same p (Some link) w = put_same link.peer TodoBack unchanged ((seen w.headers).done p.key) w

returned_same : (key : PortKey) (input : Bool) (done todo : List ℕ) (w : World) → Same w (returned key input done todo w)
returned_same key input [] todo w = put_same key (supplied_spot (not input)) cleared todo w
returned_same key input (n ∷ ns) todo w = refl

noticed_same : (i : ℕ) (c : Component) (p : Port) (todo : List ℕ) (w : World) → slice_get w.components i ≡ Some c → Same w (front_noticed i c p todo w)
noticed_same i c p [] w at = refl
noticed_same i c p (n ∷ ns) w at = same_set w.components i c _ at refl

back_same : (i : ℕ) (c : Component) (p : Port) (o : Option Link) (w : World) → slice_get w.components i ≡ Some c → Same w (handed_back i c p o w)
back_same i c p None w at = noticed_same i c p ((seen w.headers).todo p.key) w at
back_same i c p (Some link) w at = returned_same link.peer (is_input_port p) ((seen w.headers).done p.key) ((seen w.headers).todo p.key) w

granted_same : (o : Option Component) (w : World) → Sound w → first_waiter w.components ≡ o → Same w (changed_at o w (λ c. with_changed granted_units c w))
granted_same None w S e = refl
granted_same (Some c) w S e =
    let A = best_among is_waiter is_before w.components c e in
    subst (Same w) (sym (changed_there granted_units w A.place c S.rising A.there)) (same_set w.components A.place c (granted_units c) A.there refl)

preempted_same : (o : Option Component) (w : World) → Sound w → victim w.components ≡ o → Same w (changed_at o w (λ c. with_changed preempted_units c w))
preempted_same None w S e = refl
preempted_same (Some c) w S e =
    let A = victim_there w c S e in
    let n : number_of (preempted_units c) ≡ number_of c = preempted_by (λ d. number_of d ≡ number_of c) c (λ f. refl) (λ t g. refl) (λ t g. refl) in
    subst (Same w) (sym (changed_there preempted_units w A.place c S.rising A.there)) (same_set w.components A.place c (preempted_units c) A.there n)

finished_same : (i : ℕ) (c : Component) (done : WorkDone) (o : Option Work) (w : World) → slice_get w.components i ≡ Some c → Same w (finished_by i c done o w)
finished_same i c done None w at = refl
finished_same i c done (Some work) w at = either work.announces
    (λ t. rw t (same_set w.components i c (announced c) at (announced_number (port_of c 0) (record c { work = None }))))
    (λ f. rw f (changed_same (stream_of (number_of c) w) w _ (λ s e. same_set w.components i c _ at refl)))

-- ---- the component of a number, after an act that doesn't free it

module _ (w : World) (S : Sound w) (n : ℕ) (c : Component) (here : named n w.components ≡ Some c) where
  abbrev IsThere : World → Type 0
  IsThere v = (d : Component) × (named n v.components ≡ Some d)

  kept : (v : World) → Same w v → IsThere v
  kept v e = still_there n w.components v.components c e here

  made_there : (o : Option Kind) (change : Kind → World) → ((kind : Kind) → IsThere (change kind)) → IsThere (changed_at o w change)
  made_there None change k = (c, here)
  made_there (Some kind) change k = k kind

  freed_at : (o : Option Component) (change : Component → World) → ((d : Component) → o ≡ Some d → IsThere (change d)) → IsThere (changed_at o w change)
  freed_at None change k = (c, here)
  freed_at (Some d) change k = k d refl

  freed_there : (o : Option ℕ) (change : ℕ → Component → World) → ((i : ℕ) (d : Component) → o ≡ Some i → slice_get w.components i ≡ Some d → IsThere (change i d))
      → IsThere (changed_at o w (λ i. changed_at (slice_get w.components i) w (λ d. change i d)))
  freed_there None change k = (c, here)
  freed_there (Some i) change k = freed_at (slice_get w.components i) (λ d. change i d) (λ d e. k i d refl e)

  other_number : (m : ℕ) → nat_eq m n ≡ false → m ≢ n
  other_number m f e = let z : true ≡ false = sym (eq-eqb m n e) ∙ f in cc

  after_act : (a : Act) (r : Reply) → is_freed_by n a r ≡ false → IsThere (effect w a r)
  after_act (acts.GetHandle name) (acts.Got (Ok h)) f = made_there (kind_of name) _ (λ kind. (c, named_push n w.components (fresh h kind) c here))
  after_act (acts.FreeHandle h) (acts.Removed (Ok file)) f = freed_there (place_of h w.components) _ (λ i d p at.
      (c, named_removed n i w.components d at (λ e. other_number h.generation f (sym (same_number w h i d p at) ∙ e)) ∙ here))
  after_act (acts.Attach h file) (acts.Plain (Ok done)) f = kept (effect w (acts.Attach h file) (acts.Plain (Ok done))) (named_same h w _ (λ i c at. same_set w.components i c _ at refl))
  after_act (acts.SetParameter h key value) (acts.Plain (Ok done)) f = kept (effect w (acts.SetParameter h key value) (acts.Plain (Ok done))) (named_same h w _ (λ i c at. same_set w.components i c _ at (value_number key value c)))
  after_act (acts.SetConfig h key value) (acts.Plain (Ok done)) f = kept (effect w (acts.SetConfig h key value) (acts.Plain (Ok done))) (named_same h w _ (λ i c at. same_set w.components i c _ at (value_number key value c)))
  after_act (acts.SetupTunnel output input) (acts.Joined (Ok supplier)) f =
      kept (effect w (acts.SetupTunnel output input) (acts.Joined (Ok supplier))) (named_same output.handle w _ (λ i c at. named_same input.handle w _ (λ j d bt. both_same (port_of c output.index) (port_of d input.index) w _ (λ p q.
      same_twice w.components i j c (joined_to q supplier p c) d (joined_to p supplier q d) at bt refl refl))))
  after_act (acts.DropTunnel output input) (acts.Plain (Ok done)) f =
      kept (effect w (acts.DropTunnel output input) (acts.Plain (Ok done))) (named_same output.handle w _ (λ i c at. named_same input.handle w _ (λ j d bt. both_same (port_of c output.index) (port_of d input.index) w _ (λ p q.
      same_twice w.components i j c (parted p c) d (parted q d) at bt refl refl))))
  after_act (acts.SendCommand h command) (acts.Plain (Ok done)) f = kept (effect w (acts.SendCommand h command) (acts.Plain (Ok done))) (named_same h w _ (λ i c at. same_set w.components i c _ at (sent_number command c)))
  after_act (acts.RunCommand h) (acts.Acted (Ok Did)) f = kept (effect w (acts.RunCommand h) (acts.Acted (Ok Did))) (named_same h w _ (λ i c at. same_set w.components i c _ at (number_at c (run_front (look w) c.commands c) (front_keeps (look w) c.commands c).handle)))
  after_act (acts.AllocateBuffer h port) (acts.Allocated (Ok header)) f = kept (effect w (acts.AllocateBuffer h port) (acts.Allocated (Ok header))) (at_port_same h port w _ (λ i c p at. refl))
  after_act (acts.UseBuffer h port bytes) (acts.Used (Ok header)) f = kept (effect w (acts.UseBuffer h port bytes) (acts.Used (Ok header))) (at_port_same h port w _ (λ i c p at. refl))
  after_act (acts.FreeBuffer h port header) (acts.Freed (Ok memory)) f = kept (effect w (acts.FreeBuffer h port header) (acts.Freed (Ok memory))) (at_port_same h port w _ (λ i c p at. same_set w.components i c _ at (unpopulated_number p c)))
  after_act (acts.EmptyThisBuffer h port header) (acts.Plain (Ok done)) f = kept (effect w (acts.EmptyThisBuffer h port header) (acts.Plain (Ok done))) (at_port_same h port w _ (λ i c p at. refl))
  after_act (acts.FillThisBuffer h port header) (acts.Plain (Ok done)) f = kept (effect w (acts.FillThisBuffer h port header) (acts.Plain (Ok done))) (at_port_same h port w _ (λ i c p at. refl))
  after_act (acts.TakeNote h) (acts.Took (Ok (TookNote (TakenEvent event)))) f = kept (effect w (acts.TakeNote h) (acts.Took (Ok (TookNote (TakenEvent event))))) (named_same h w _ (λ i c at. same_set w.components i c _ at refl))
  after_act (acts.TakeNote h) (acts.Took (Ok (TookNote (TakenEmpty header)))) f = kept (effect w (acts.TakeNote h) (acts.Took (Ok (TookNote (TakenEmpty header))))) (named_same h w _ (λ i c at. same_set w.components i c _ at refl))
  after_act (acts.TakeNote h) (acts.Took (Ok (TookNote (TakenFilled header)))) f = kept (effect w (acts.TakeNote h) (acts.Took (Ok (TookNote (TakenFilled header))))) (named_same h w _ (λ i c at. same_set w.components i c _ at refl))
  after_act (acts.EndNote h progress) acts.Ended f = kept (effect w (acts.EndNote h progress) acts.Ended) (named_same h w _ (λ i c at. same_set w.components i c _ at refl))
  after_act (acts.Supply h port) (acts.Supplied (Ok Did)) f = kept (effect w (acts.Supply h port) (acts.Supplied (Ok Did))) (at_port_same h port w _ (λ i c p at. refl))
  after_act (acts.Release h port) (acts.Acted (Ok Did)) f = kept (effect w (acts.Release h port) (acts.Acted (Ok Did))) (at_port_same h port w _ (λ i c p at. unmade_same (in_port (seen w.headers) p) w))
  after_act (acts.HandOver h port) (acts.Acted (Ok Did)) f = kept (effect w (acts.HandOver h port) (acts.Acted (Ok Did))) (at_port_same h port w _ (λ i c p at. over_same p p.state.link w))
  after_act (acts.HandBack h port) (acts.Acted (Ok Did)) f = kept (effect w (acts.HandBack h port) (acts.Acted (Ok Did))) (at_port_same h port w _ (λ i c p at. back_same i c p p.state.link w at))
  after_act acts.Grant (acts.Granted (granted.Granted h)) f = kept (effect w acts.Grant (acts.Granted (granted.Granted h))) (granted_same (first_waiter w.components) w S refl)
  after_act acts.Preempt (acts.Preempted (preempted.Victim h)) f = kept (effect w acts.Preempt (acts.Preempted (preempted.Victim h))) (preempted_same (victim w.components) w S refl)
  after_act (acts.Claim h) (acts.Claimed (Ok (ClaimedWork work))) f = kept (effect w (acts.Claim h) (acts.Claimed (Ok (ClaimedWork work)))) (named_same h w _ (λ i c at. same_set w.components i c _ at refl))
  after_act (acts.Finish done) acts.Finished f = kept (effect w (acts.Finish done) acts.Finished) (changed_same (place_numbered done.component w.components) w _ (λ i e.
      changed_same (slice_get w.components i) w _ (λ c at. finished_same i c done c.work w at)))
  after_act _ _ f = (c, here)

  by_outcome : (a : Act) (r : Reply) (v : World) → is_freed_by n a r ≡ false → Outcome w (turn w a r) v → IsThere v
  by_outcome a r v f (Nothing e m) = (c, ap (λ (x : World). named n x.components) e ∙ here)
  by_outcome a r v f (Done C F) =
      let x = after_act a r f in
      still_there n (effect w a r).components v.components x.0 (closing_same (effect w a r) v C) x.1

-- the component of the number is there still
pub number_stays : (w : World) (a : Act) (r : Reply) (v : World) (n : ℕ) (c : Component) → Sound w → Meets w a → Step w a r v → is_freed_by n a r ≡ false → component_numbered n w ≡ Some c → (d : Component) × (component_numbered n v ≡ Some d)
number_stays w a r v n c S M s f e =
    let x = by_outcome w S n c (sym (is_named n w) ∙ e) a r v f (step_comes w a r v S M s) in
    (x.0, is_named n v ∙ x.1)
