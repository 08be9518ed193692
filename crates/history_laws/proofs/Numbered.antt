-- How many components are numbered: each step leaves that, but for the making of one.
use Rattle.std.proofs.Common.{◌≡◌, ℕ, zero, suc, Bool, List, [], ◌∷◌, slice_get, Option, Some, None, Ok, refl, sym, ◌∙◌, ap, subst, not}
use Rattle.omx_types.specs.declared.handle.Handle.{Handle}
use Rattle.il_machine.specs.declared.answer.Acted.TheVariants.{Did}
use Rattle.il_machine.specs.declared.answer.Pending.{Pending}
use Rattle.il_machine.specs.declared.port.Link.{Link}
use Rattle.il_machine.specs.declared.port.Port.{Port}
use Rattle.il_machine.specs.declared.port.PortKey.{PortKey}
use Rattle.il_machine.specs.declared.header.Spot.{Spot}
use Rattle.il_machine.specs.declared.header.Spot.TheVariants.{TodoBack}
use Rattle.il_machine.specs.World.{changed_at, Component, HeaderRecord, Work, World, number_of, place_of, place_numbered, port_of, stream_of}
use Rattle.il_machine.specs.Headers.{seen, unchanged, cleared}
use Rattle.il_machine.specs.Due.{Thing, Transition, Flush, PortMode, WaitingMark, at_port, transition_happened, flush_happened, mode_happened, mark_happened, happened, Happens, HappenTimes, ClosesTo}
use Rattle.il_machine.specs.Notes.{TakenEvent, TakenEmpty, TakenFilled, TookNote}
use Rattle.il_machine.specs.Flow.{in_port, front_unmade, front_put, handed_over, at_link, handed_back, returned, front_noticed, supplied_spot}
use Rattle.il_machine.specs.Ports.{is_input_port}
use Rattle.il_machine.specs.Effect.{at_named, at_named_port, at_both, effect}
use Rattle.il_machine.specs.declared.answer.Granted.TheVariants as granted
use Rattle.il_machine.specs.declared.answer.Preempted.TheVariants as preempted
use Rattle.il_machine.specs.Units.{first_waiter, victim, with_changed, granted_units, preempted_units}
use Rattle.il_machine.specs.Claims.{ClaimedWork}
use Rattle.il_machine.specs.Stepping.{WorkDone}
use Rattle.il_machine.specs.Finishing.{with_landed, finished, finished_by}
use Rattle.il_machine.specs.Acts.{Act, Reply}
use Rattle.il_machine.specs.Acts as acts
use Rattle.il_machine.specs.Run.{Meets, Step}
use Rattle.il_machine.specs.Sound.{Sound}
use Rattle.machine_laws.proofs.Finding.{either}
use Rattle.history_laws.proofs.Cores.{NoneGot}
use Rattle.history_laws.proofs.Outcome.{turn, Outcome, Nothing, Done}
use Rattle.history_laws.proofs.Steps.{step_comes}

abbrev pub Same : World → World → Type 0
Same w v = v.numbered ≡ w.numbered

-- ---- what happens

at_port_same : (o : Option Port) (change : Port → World → World) (w : World) → ((p : Port) → Same w (change p w)) → Same w (at_port o change w)
at_port_same None change w k = refl
at_port_same (Some p) change w k = k p

transition_same : (i : ℕ) (c : Component) (o : Option Pending) (w : World) → Same w (transition_happened i c o w)
transition_same i c None w = refl
transition_same i c (Some p) w = refl

happened_same : (i : ℕ) (c : Component) (thing : Thing) (w : World) → Same w (happened i c thing w)
happened_same i c Transition w = transition_same i c c.pending w
happened_same i c (Flush port) w = at_port_same (port_of c port) (flush_happened i c) w (λ p. refl)
happened_same i c (PortMode port) w = at_port_same (port_of c port) (mode_happened i c) w (λ p. refl)
happened_same i c (WaitingMark port) w = at_port_same (port_of c port) (mark_happened i c) w (λ p. refl)

happens_same : (w v : World) → Happens w v → Same w v
happens_same w v H = subst (Same w) (sym H.after) (happened_same H.place H.component H.thing w)

times_same : (n : ℕ) (w v : World) → HappenTimes n w v → Same w v
times_same zero w v e = ap (λ (x : World). x.numbered) e
times_same (suc n) w v (mid, before, last) = happens_same mid v last ∙ times_same n w mid before

pub closing_same : (w v : World) → ClosesTo w v → Same w v
closing_same w v C = times_same C.steps w v C.by_steps

-- ---- what an act makes of a world

at_there : {T : Type 0} (o : Option T) (w : World) (change : T → World) → ((x : T) → Same w (change x)) → Same w (changed_at o w change)
at_there None w change k = refl
at_there (Some x) w change k = k x

on_named : (h : Handle) (w : World) (change : ℕ → Component → World) → ((i : ℕ) (c : Component) → Same w (change i c)) → Same w (at_named h w change)
on_named h w change k = at_there (place_of h w.components) w _ (λ i. at_there _ w (λ c. change i c) (λ c. k i c))

on_port : (h : Handle) (port : ℕ) (w : World) (change : ℕ → Component → Port → World) → ((i : ℕ) (c : Component) (p : Port) → Same w (change i c p)) → Same w (at_named_port h port w change)
on_port h port w change k = on_named h w _ (λ i c. at_there (port_of c port) w (λ p. change i c p) (λ p. k i c p))

on_both : (p q : Option Port) (w : World) (change : Port → Port → World) → ((a b : Port) → Same w (change a b)) → Same w (at_both p q w change)
on_both p q w change k = at_there p w _ (λ a. at_there q w (λ b. change a b) (λ b. k a b))

unmade_same : (ns : List ℕ) (w : World) → Same w (front_unmade ns w)
unmade_same [] w = refl
unmade_same (n ∷ ns) w = refl

link_same : (o : Option Link) (change : PortKey → World → World) (w : World) → ((k : PortKey) → Same w (change k w)) → Same w (at_link o change w)
link_same None change w k = refl
link_same (Some link) change w k = k link.peer

put_same : (key : PortKey) (spot : Spot) (change : HeaderRecord → HeaderRecord) (ns : List ℕ) (w : World) → Same w (front_put key spot change ns w)
put_same key spot change [] w = refl
put_same key spot change (n ∷ ns) w = refl

over_same : (p : Port) (w : World) → Same w (handed_over p w)
over_same p w = link_same p.state.link _ w (λ k. put_same k TodoBack unchanged ((seen w.headers).done p.key) w)

returned_same : (key : PortKey) (input : Bool) (done todo : List ℕ) (w : World) → Same w (returned key input done todo w)
returned_same key input [] todo w = put_same key (supplied_spot (not input)) cleared todo w
returned_same key input (n ∷ ns) todo w = refl

noticed_same : (i : ℕ) (c : Component) (p : Port) (todo : List ℕ) (w : World) → Same w (front_noticed i c p todo w)
noticed_same i c p [] w = refl
noticed_same i c p (n ∷ ns) w = refl

back_same : (i : ℕ) (c : Component) (p : Port) (o : Option Link) (w : World) → Same w (handed_back i c p o w)
back_same i c p None w = noticed_same i c p ((seen w.headers).todo p.key) w
back_same i c p (Some link) w = returned_same link.peer (is_input_port p) ((seen w.headers).done p.key) ((seen w.headers).todo p.key) w

changed_same : (change : Component → Component) (o : Option Component) (w : World) → Same w (changed_at o w (λ c. with_changed change c w))
changed_same change o w = at_there o w _ (λ c. at_there (place_numbered (number_of c) w.components) w _ (λ i. refl))

finished_same : (i : ℕ) (c : Component) (done : WorkDone) (o : Option Work) (w : World) → Same w (finished_by i c done o w)
finished_same i c done None w = refl
finished_same i c done (Some work) w = either work.announces
    (λ t. rw t refl)
    (λ f. rw f (at_there (stream_of (number_of c) w) w (λ s. with_landed i c done s w) (λ s. refl)))

-- ---- an act

effect_same : (w : World) (a : Act) (r : Reply) → NoneGot a r → Same w (effect w a r)
effect_same w (acts.GetHandle name) (acts.Got (Ok h)) n = absurd n
effect_same w (acts.FreeHandle h) (acts.Removed (Ok file)) n = on_named h w _ (λ i c. refl)
effect_same w (acts.SetParameter h key value) (acts.Plain (Ok done)) n = on_named h w _ (λ i c. refl)
effect_same w (acts.SetConfig h key value) (acts.Plain (Ok done)) n = on_named h w _ (λ i c. refl)
effect_same w (acts.SetupTunnel output input) (acts.Joined (Ok supplier)) n =
    on_named output.handle w _ (λ i c. on_named input.handle w _ (λ j d. on_both (port_of c output.index) (port_of d input.index) w _ (λ p q. refl)))
effect_same w (acts.DropTunnel output input) (acts.Plain (Ok done)) n =
    on_named output.handle w _ (λ i c. on_named input.handle w _ (λ j d. on_both (port_of c output.index) (port_of d input.index) w _ (λ p q. refl)))
effect_same w (acts.SendCommand h command) (acts.Plain (Ok done)) n = on_named h w _ (λ i c. refl)
effect_same w (acts.RunCommand h) (acts.Acted (Ok Did)) n = on_named h w _ (λ i c. refl)
effect_same w (acts.AllocateBuffer h port) (acts.Allocated (Ok header)) n = on_port h port w _ (λ i c p. refl)
effect_same w (acts.UseBuffer h port bytes) (acts.Used (Ok header)) n = on_port h port w _ (λ i c p. refl)
effect_same w (acts.FreeBuffer h port header) (acts.Freed (Ok memory)) n = on_port h port w _ (λ i c p. refl)
effect_same w (acts.EmptyThisBuffer h port header) (acts.Plain (Ok done)) n = on_port h port w _ (λ i c p. refl)
effect_same w (acts.FillThisBuffer h port header) (acts.Plain (Ok done)) n = on_port h port w _ (λ i c p. refl)
effect_same w (acts.TakeNote h) (acts.Took (Ok (TookNote (TakenEvent event)))) n = on_named h w _ (λ i c. refl)
effect_same w (acts.TakeNote h) (acts.Took (Ok (TookNote (TakenEmpty header)))) n = on_named h w _ (λ i c. refl)
effect_same w (acts.TakeNote h) (acts.Took (Ok (TookNote (TakenFilled header)))) n = on_named h w _ (λ i c. refl)
effect_same w (acts.EndNote h progress) acts.Ended n = on_named h w _ (λ i c. refl)
effect_same w (acts.Supply h port) (acts.Supplied (Ok Did)) n = on_port h port w _ (λ i c p. refl)
effect_same w (acts.Release h port) (acts.Acted (Ok Did)) n = on_port h port w _ (λ i c p. unmade_same (in_port (seen w.headers) p) w)
effect_same w (acts.HandOver h port) (acts.Acted (Ok Did)) n = on_port h port w _ (λ i c p. over_same p w)
effect_same w (acts.HandBack h port) (acts.Acted (Ok Did)) n = on_port h port w _ (λ i c p. back_same i c p p.state.link w)
effect_same w acts.Grant (acts.Granted (granted.Granted h)) n = changed_same granted_units (first_waiter w.components) w
effect_same w acts.Preempt (acts.Preempted (preempted.Victim h)) n = changed_same preempted_units (victim w.components) w
effect_same w (acts.Attach h file) (acts.Plain (Ok done)) n = on_named h w _ (λ i c. refl)
effect_same w (acts.Claim h) (acts.Claimed (Ok (ClaimedWork work))) n = on_named h w _ (λ i c. refl)
effect_same w (acts.Finish done) acts.Finished n =
    at_there (place_numbered done.component w.components) w _ (λ i. at_there (slice_get w.components i) w (λ c. finished i c done w) (λ c. finished_same i c done c.work w))
effect_same w _ _ n = refl

outcome_same : (w : World) (a : Act) (r : Reply) (v : World) → NoneGot a r → Outcome w (turn w a r) v → Same w v
outcome_same w a r v n (Nothing e m) = ap (λ (x : World). x.numbered) e
outcome_same w a r v n (Done C E) = closing_same (effect w a r) v C ∙ effect_same w a r n

pub numbered_step : (w : World) (a : Act) (r : Reply) (v : World) → Sound w → Meets w a → Step w a r v → NoneGot a r → v.numbered ≡ w.numbered
numbered_step w a r v S M h n = outcome_same w a r v n (step_comes w a r v S M h)
