-- The key of a world's headers stays in each step, and what was given stays in each act but two.
use Rattle.std.proofs.Common.{◌≡◌, ℕ, zero, suc, Bool, List, [], ◌∷◌, slice_get, Option, Some, None, Ok, refl, sym, ◌∙◌, ap, subst, not}
use Rattle.omx_types.specs.declared.handle.Handle.{Handle}
use Rattle.il_machine.specs.declared.answer.Acted.TheVariants.{Did}
use Rattle.il_machine.specs.declared.answer.Pending.{Pending}
use Rattle.il_machine.specs.declared.port.Link.{Link}
use Rattle.il_machine.specs.declared.port.Port.{Port}
use Rattle.il_machine.specs.declared.port.PortKey.{PortKey}
use Rattle.il_machine.specs.declared.header.Spot.{Spot}
use Rattle.il_machine.specs.declared.header.Spot.TheVariants.{TodoBack}
use Rattle.il_machine.specs.World.{changed_at, Component, HeaderRecord, Work, World, number_of, place_of, place_numbered, port_of, stream_of}
use Rattle.il_machine.specs.Headers.{seen, unchanged, cleared}
use Rattle.il_machine.specs.Due.{Thing, Transition, Flush, PortMode, WaitingMark, at_port, transition_happened, flush_happened, mode_happened, mark_happened, happened, Happens, HappenTimes, ClosesTo}
use Rattle.il_machine.specs.Kinds.{kind_of}
use Rattle.il_machine.specs.Notes.{TakenEvent, TakenEmpty, TakenFilled, TookNote}
use Rattle.il_machine.specs.Flow.{in_port, front_unmade, front_put, handed_over, at_link, handed_back, returned, front_noticed, supplied_spot}
use Rattle.il_machine.specs.Ports.{is_input_port}
use Rattle.il_machine.specs.Effect.{at_named, at_named_port, at_both, effect}
use Rattle.il_machine.specs.declared.answer.Granted.TheVariants as granted
use Rattle.il_machine.specs.declared.answer.Preempted.TheVariants as preempted
use Rattle.il_machine.specs.Units.{first_waiter, victim, with_changed, granted_units, preempted_units}
use Rattle.il_machine.specs.Claims.{ClaimedWork}
use Rattle.il_machine.specs.Stepping.{WorkDone}
use Rattle.il_machine.specs.Finishing.{with_landed, finished, finished_by}
use Rattle.il_machine.specs.Acts.{Act, Reply}
use Rattle.il_machine.specs.Acts as acts
use Rattle.il_machine.specs.Run.{Run, Step, Meets}
use Rattle.il_machine.specs.Sound.{Sound}
use Rattle.machine_laws.proofs.Finding.{either}
use Rattle.history_laws.proofs.Outcome.{turn, Outcome, Nothing, Done}
use Rattle.history_laws.proofs.Steps.{comes_after, step_comes}
use Rattle.machine_laws.proofs.Steps.{HandsIn, sound_step}

abbrev HasKeyOf : World → World → Type 0
HasKeyOf w v = v.key ≡ w.key

-- ---- what happens

port_key : (o : Option Port) (change : Port → World → World) (w : World) → ((p : Port) → HasKeyOf w (change p w)) → HasKeyOf w (at_port o change w)
port_key None change w k = refl
port_key (Some p) change w k = k p

transition_key : (i : ℕ) (c : Component) (o : Option Pending) (w : World) → HasKeyOf w (transition_happened i c o w)
transition_key i c None w = refl
transition_key i c (Some p) w = refl

happened_key : (i : ℕ) (c : Component) (thing : Thing) (w : World) → HasKeyOf w (happened i c thing w)
happened_key i c Transition w = transition_key i c c.pending w
happened_key i c (Flush port) w = port_key (port_of c port) (flush_happened i c) w (λ p. refl)
happened_key i c (PortMode port) w = port_key (port_of c port) (mode_happened i c) w (λ p. refl)
happened_key i c (WaitingMark port) w = port_key (port_of c port) (mark_happened i c) w (λ p. refl)

happens_key : (w v : World) → Happens w v → HasKeyOf w v
happens_key w v H = subst (HasKeyOf w) (sym H.after) (happened_key H.place H.component H.thing w)

times_key : (n : ℕ) (w v : World) → HappenTimes n w v → HasKeyOf w v
times_key zero w v e = ap (λ (x : World). x.key) e
times_key (suc n) w v (mid, before, last) = happens_key mid v last ∙ times_key n w mid before

pub closing_key : (w v : World) → ClosesTo w v → v.key ≡ w.key
closing_key w v C = times_key C.steps w v C.by_steps

-- ---- what an act makes of a world

-- the key stays, and all that was given
abbrev Stays : World → World → Type 0
Stays w v = HasKeyOf w v × (v.given ≡ w.given)

-- all that was given stays; nothing is said of an act that gives a note or frees a component
abbrev pub LeavesGiven : Act → Reply → World → World → Type 0
LeavesGiven (acts.FreeHandle h) (acts.Removed (Ok file)) w v = Unit {0}
LeavesGiven (acts.TakeNote h) (acts.Took (Ok (TookNote taken))) w v = Unit {0}
LeavesGiven _ _ w v = v.given ≡ w.given

module _ (R : World → World → Type 0) (same : (w : World) → R w w) where
  at_there : {T : Type 0} (o : Option T) (w : World) (change : T → World) → ((x : T) → R w (change x)) → R w (changed_at o w change)
  at_there None w change k = same w
  at_there (Some x) w change k = k x

  on_named : (h : Handle) (w : World) (change : ℕ → Component → World) → ((i : ℕ) (c : Component) → R w (change i c)) → R w (at_named h w change)
  on_named h w change k = at_there (place_of h w.components) w _ (λ i. at_there _ w (λ c. change i c) (λ c. k i c))

stays : (w : World) → Stays w w
stays w = (refl, refl)

key_named : (h : Handle) (w : World) (change : ℕ → Component → World) → ((i : ℕ) (c : Component) → HasKeyOf w (change i c)) → HasKeyOf w (at_named h w change)
key_named h w change k = on_named HasKeyOf (λ w. refl) h w change k

named_stays : (h : Handle) (w : World) (change : ℕ → Component → World) → ((i : ℕ) (c : Component) → Stays w (change i c)) → Stays w (at_named h w change)
named_stays h w change k = on_named Stays stays h w change k

port_stays : (h : Handle) (port : ℕ) (w : World) (change : ℕ → Component → Port → World) → ((i : ℕ) (c : Component) (p : Port) → Stays w (change i c p)) → Stays w (at_named_port h port w change)
port_stays h port w change k = named_stays h w _ (λ i c. at_there Stays stays (port_of c port) w (λ p. change i c p) (λ p. k i c p))

both_stay : (p q : Option Port) (w : World) (change : Port → Port → World) → ((a b : Port) → Stays w (change a b)) → Stays w (at_both p q w change)
both_stay p q w change k = at_there Stays stays p w _ (λ a. at_there Stays stays q w (λ b. change a b) (λ b. k a b))

unmade_stays : (ns : List ℕ) (w : World) → Stays w (front_unmade ns w)
unmade_stays [] w = stays w
unmade_stays (n ∷ ns) w = (refl, refl)

link_stays : (o : Option Link) (change : PortKey → World → World) (w : World) → ((k : PortKey) → Stays w (change k w)) → Stays w (at_link o change w)
link_stays None change w k = stays w
link_stays (Some link) change w k = k link.peer

put_stays : (key : PortKey) (spot : Spot) (change : HeaderRecord → HeaderRecord) (ns : List ℕ) (w : World) → Stays w (front_put key spot change ns w)
put_stays key spot change [] w = stays w
put_stays key spot change (n ∷ ns) w = (refl, refl)

over_stays : (p : Port) (w : World) → Stays w (handed_over p w)
over_stays p w = link_stays p.state.link _ w (λ k. put_stays k TodoBack unchanged ((seen w.headers).done p.key) w)

returned_stays : (key : PortKey) (input : Bool) (done todo : List ℕ) (w : World) → Stays w (returned key input done todo w)
returned_stays key input [] todo w = put_stays key (supplied_spot (not input)) cleared todo w
returned_stays key input (n ∷ ns) todo w = (refl, refl)

noticed_stays : (i : ℕ) (c : Component) (p : Port) (todo : List ℕ) (w : World) → Stays w (front_noticed i c p todo w)
noticed_stays i c p [] w = stays w
noticed_stays i c p (n ∷ ns) w = (refl, refl)

back_stays : (i : ℕ) (c : Component) (p : Port) (o : Option Link) (w : World) → Stays w (handed_back i c p o w)
back_stays i c p None w = noticed_stays i c p ((seen w.headers).todo p.key) w
back_stays i c p (Some link) w = returned_stays link.peer (is_input_port p) ((seen w.headers).done p.key) ((seen w.headers).todo p.key) w

changed_stays : (change : Component → Component) (o : Option Component) (w : World) → Stays w (changed_at o w (λ c. with_changed change c w))
changed_stays change o w = at_there Stays stays o w _ (λ c. at_there Stays stays (place_numbered (number_of c) w.components) w _ (λ i. (refl, refl)))

finished_stays : (i : ℕ) (c : Component) (done : WorkDone) (o : Option Work) (w : World) → Stays w (finished_by i c done o w)
finished_stays i c done None w = stays w
finished_stays i c done (Some work) w = either work.announces
    (λ t. rw t (refl, refl))
    (λ f. rw f (at_there Stays stays (stream_of (number_of c) w) w (λ s. with_landed i c done s w) (λ s. (refl, refl))))

pub effect_leaves : (w : World) (a : Act) (r : Reply) → HasKeyOf w (effect w a r) × LeavesGiven a r w (effect w a r)
effect_leaves w (acts.GetHandle name) (acts.Got (Ok h)) = at_there Stays stays (kind_of name) w _ (λ kind. (refl, refl))
effect_leaves w (acts.FreeHandle h) (acts.Removed (Ok file)) = (key_named h w _ (λ i c. refl), tt)
effect_leaves w (acts.Attach h file) (acts.Plain (Ok done)) = named_stays h w _ (λ i c. (refl, refl))
effect_leaves w (acts.SetParameter h key value) (acts.Plain (Ok done)) = named_stays h w _ (λ i c. (refl, refl))
effect_leaves w (acts.SetConfig h key value) (acts.Plain (Ok done)) = named_stays h w _ (λ i c. (refl, refl))
effect_leaves w (acts.SetupTunnel output input) (acts.Joined (Ok supplier)) =
    named_stays output.handle w _ (λ i c. named_stays input.handle w _ (λ j d. both_stay (port_of c output.index) (port_of d input.index) w _ (λ p q. (refl, refl))))
effect_leaves w (acts.DropTunnel output input) (acts.Plain (Ok done)) =
    named_stays output.handle w _ (λ i c. named_stays input.handle w _ (λ j d. both_stay (port_of c output.index) (port_of d input.index) w _ (λ p q. (refl, refl))))
effect_leaves w (acts.SendCommand h command) (acts.Plain (Ok done)) = named_stays h w _ (λ i c. (refl, refl))
effect_leaves w (acts.RunCommand h) (acts.Acted (Ok Did)) = named_stays h w _ (λ i c. (refl, refl))
effect_leaves w (acts.AllocateBuffer h port) (acts.Allocated (Ok header)) = port_stays h port w _ (λ i c p. (refl, refl))
effect_leaves w (acts.UseBuffer h port bytes) (acts.Used (Ok header)) = port_stays h port w _ (λ i c p. (refl, refl))
effect_leaves w (acts.FreeBuffer h port header) (acts.Freed (Ok memory)) = port_stays h port w _ (λ i c p. (refl, refl))
effect_leaves w (acts.EmptyThisBuffer h port header) (acts.Plain (Ok done)) = port_stays h port w _ (λ i c p. (refl, refl))
effect_leaves w (acts.FillThisBuffer h port header) (acts.Plain (Ok done)) = port_stays h port w _ (λ i c p. (refl, refl))
effect_leaves w (acts.TakeNote h) (acts.Took (Ok (TookNote (TakenEvent event)))) = (key_named h w _ (λ i c. refl), tt)
effect_leaves w (acts.TakeNote h) (acts.Took (Ok (TookNote (TakenEmpty header)))) = (key_named h w _ (λ i c. refl), tt)
effect_leaves w (acts.TakeNote h) (acts.Took (Ok (TookNote (TakenFilled header)))) = (key_named h w _ (λ i c. refl), tt)
effect_leaves w (acts.EndNote h progress) acts.Ended = named_stays h w _ (λ i c. (refl, refl))
effect_leaves w (acts.Supply h port) (acts.Supplied (Ok Did)) = port_stays h port w _ (λ i c p. (refl, refl))
effect_leaves w (acts.Release h port) (acts.Acted (Ok Did)) = port_stays h port w _ (λ i c p. unmade_stays (in_port (seen w.headers) p) w)
effect_leaves w (acts.HandOver h port) (acts.Acted (Ok Did)) = port_stays h port w _ (λ i c p. over_stays p w)
effect_leaves w (acts.HandBack h port) (acts.Acted (Ok Did)) = port_stays h port w _ (λ i c p. back_stays i c p p.state.link w)
effect_leaves w acts.Grant (acts.Granted (granted.Granted h)) = changed_stays granted_units (first_waiter w.components) w
effect_leaves w acts.Preempt (acts.Preempted (preempted.Victim h)) = changed_stays preempted_units (victim w.components) w
effect_leaves w (acts.Claim h) (acts.Claimed (Ok (ClaimedWork work))) = named_stays h w _ (λ i c. (refl, refl))
effect_leaves w (acts.Finish done) acts.Finished =
    at_there Stays stays (place_numbered done.component w.components) w _ (λ i. at_there Stays stays (slice_get w.components i) w (λ c. finished i c done w) (λ c. finished_stays i c done c.work w))
effect_leaves w _ _ = (refl, refl)

outcome_key : (w : World) (a : Act) (r : Reply) (v : World) → Outcome w (turn w a r) v → HasKeyOf w v
outcome_key w a r v (Nothing e m) = ap (λ (x : World). x.key) e
outcome_key w a r v (Done C E) = closing_key (effect w a r) v C ∙ (effect_leaves w a r).0

pub key_after : (w : World) (a : Act) (r : Reply) (v : World) → Sound w → HandsIn w a → Step w a r v → v.key ≡ w.key
key_after w a r v S M h = outcome_key w a r v (comes_after w a r v S M h)

pub steps_key : (w : World) (a : Act) (r : Reply) (v : World) → Sound w → Meets w a → Step w a r v → v.key ≡ w.key
steps_key w a r v S M h = outcome_key w a r v (step_comes w a r v S M h)

pub runs_key : (w v : World) (xs : List (Act × Reply)) → Sound w → Run w xs v → v.key ≡ w.key
runs_key w v [] S e = ap (λ (x : World). x.key) e
runs_key w v (x ∷ xs) S (mid, M, h, more) = runs_key mid v xs (sound_step w mid x.0 x.1 M h S) more ∙ steps_key w x.0 x.1 mid S M h
