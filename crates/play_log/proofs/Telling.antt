-- Files that tell their bytes go on telling them.
use Rattle.std.proofs.Common.{◌≡◌, ℕ, zero, suc, Bool, true, false, not, inl, inr, List, [], ◌∷◌, Option, Some, None, Ok, Err, All, slice_get, sym, ap, ◌∙◌, subst, if◌then◌else◌}
use Rattle.std.specs.Prelude.{map}
use Rattle.std.proofs.lemmas.List.Elements.{All-nil, All-cons, All-head, All-tail, All-filter}
use Rattle.omx_types.specs.declared.handle.Handle.{Handle}
use Rattle.il_machine.specs.declared.answer.Acted.TheVariants as acted
use Rattle.il_machine.specs.declared.answer.Granted.TheVariants as grants
use Rattle.il_machine.specs.declared.answer.Preempted.TheVariants as losses
use Rattle.il_machine.specs.declared.port.Link.{Link}
use Rattle.il_machine.specs.declared.port.Port.{Port}
use Rattle.il_machine.specs.declared.port.PortKey.{PortKey}
use Rattle.il_machine.specs.World.{Component, HeaderRecord, Stream, Work, World, changed_at, is_stream_of, number_of, place_numbered, place_of, port_of, stream_of, with_component}
use Rattle.il_machine.specs.Claims.{ClaimedWork, ClaimedBusy, ClaimedNotRunning, ClaimedEnded, ClaimedHeld, ClaimedNoData, ClaimedNoRoom, ClaimedEvents}
use Rattle.il_machine.specs.Due.{HappenTimes}
use Rattle.il_machine.specs.Effect.{at_both, at_named, at_named_port, effect}
use Rattle.il_machine.specs.Finishing.{announced, finished, finished_by, gone_through, with_landed}
use Rattle.il_machine.specs.Flow.{at_link, front_noticed, front_put, front_unmade, handed_back, in_port, returned, supplied_spot}
use Rattle.il_machine.specs.declared.header.Spot.{Spot}
use Rattle.il_machine.specs.declared.header.Spot.TheVariants.{TodoBack}
use Rattle.il_machine.specs.Headers.{cleared, seen, unchanged}
use Rattle.il_machine.specs.Notes.{TakenEvent, TakenEmpty, TakenFilled, TookNote, TookNone, TookBusy}
use Rattle.il_machine.specs.Ports.{is_input_port}
use Rattle.il_machine.specs.Stepping.{WorkDone}
use Rattle.il_machine.specs.Units.{first_waiter, victim}
use Rattle.il_machine.specs.Acts.{Act, Reply}
use Rattle.il_machine.specs.Acts as acts
use Rattle.il_machine.specs.Run.{Meets, Step}
use Rattle.il_machine.specs.Sound.{Sound}
use Rattle.history_laws.proofs.Closing.{happening_of}
use Rattle.history_laws.proofs.QueueLaw.{effects_close}
use Rattle.play_log.specs.Naming.{AreTelling, IsTelling}

-- ---- the close-out

times_streams : (n : ℕ) (w v : World) → HappenTimes n w v → v.streams ≡ w.streams
times_streams zero w v e = ap (λ (x : World). x.streams) e
times_streams (suc n) w v (mid, before, last) = (happening_of mid v last).streams ∙ times_streams n w mid before

-- ---- what an act makes of the streams

tells_changed : {T : Type 0} (o : Option T) (w : World) (change : T → World) → AreTelling w → ((x : T) → AreTelling (change x)) → AreTelling (changed_at o w change)
tells_changed None w change T k = T
tells_changed (Some x) w change T k = k x

tells_named : (h : Handle) (w : World) (change : ℕ → Component → World) → AreTelling w → ((i : ℕ) (c : Component) → AreTelling (change i c)) → AreTelling (at_named h w change)
tells_named h w change T k =
    tells_changed (place_of h w.components) w _ T (λ i. tells_changed (slice_get w.components i) w (λ c. change i c) T (λ c. k i c))

tells_port : (h : Handle) (port : ℕ) (w : World) (change : ℕ → Component → Port → World) → AreTelling w → ((i : ℕ) (c : Component) (p : Port) → AreTelling (change i c p)) → AreTelling (at_named_port h port w change)
tells_port h port w change T k = tells_named h w _ T (λ i c. tells_changed (port_of c port) w (λ p. change i c p) T (λ p. k i c p))

tells_two : (p q : Option Port) (w : World) (change : Port → Port → World) → AreTelling w → ((a b : Port) → AreTelling (change a b)) → AreTelling (at_both p q w change)
tells_two p q w change T k = tells_changed p w _ T (λ a. tells_changed q w (λ b. change a b) T (λ b. k a b))

tells_unmade : (numbers : List ℕ) (w : World) → AreTelling w → AreTelling (front_unmade numbers w)
tells_unmade [] w T = T
tells_unmade (number ∷ rest) w T = T

tells_put : (key : PortKey) (spot : Spot) (change : HeaderRecord → HeaderRecord) (numbers : List ℕ) (w : World) → AreTelling w → AreTelling (front_put key spot change numbers w)
tells_put key spot change [] w T = T
tells_put key spot change (number ∷ rest) w T = T

tells_over : (p : Port) (link : Option Link) (w : World) → AreTelling w → AreTelling (at_link link (λ peer. front_put peer TodoBack unchanged ((seen w.headers).done p.key)) w)
tells_over p None w T = T
tells_over p (Some link) w T = tells_put link.peer TodoBack unchanged ((seen w.headers).done p.key) w T

tells_returned : (supplier : PortKey) (is_input : Bool) (done todo : List ℕ) (w : World) → AreTelling w → AreTelling (returned supplier is_input done todo w)
tells_returned supplier is_input [] todo w T = tells_put supplier (supplied_spot (not is_input)) cleared todo w T
tells_returned supplier is_input (number ∷ rest) todo w T = tells_put supplier TodoBack unchanged (number ∷ rest) w T

tells_noticed : (i : ℕ) (c : Component) (p : Port) (numbers : List ℕ) (w : World) → AreTelling w → AreTelling (front_noticed i c p numbers w)
tells_noticed i c p [] w T = T
tells_noticed i c p (number ∷ rest) w T = T

tells_back : (i : ℕ) (c : Component) (p : Port) (link : Option Link) (w : World) → AreTelling w → AreTelling (handed_back i c p link w)
tells_back i c p None w T = tells_noticed i c p ((seen w.headers).todo p.key) w T
tells_back i c p (Some link) w T = tells_returned link.peer (is_input_port p) ((seen w.headers).done p.key) ((seen w.headers).todo p.key) w T

tells_through : (done : WorkDone) (b : Bool) (s : Stream) → IsTelling s → IsTelling (if b then gone_through done s else s)
tells_through done true s t = t
tells_through done false s t = t

tells_gone : (done : WorkDone) (number : ℕ) (ss : List Stream) → All IsTelling ss → All IsTelling (map (λ s. if is_stream_of number s then gone_through done s else s) ss)
tells_gone done number [] T = All-nil IsTelling
tells_gone done number (s ∷ ss) T =
    All-cons IsTelling (if is_stream_of number s then gone_through done s else s) (map (λ s. if is_stream_of number s then gone_through done s else s) ss)
    (tells_through done (is_stream_of number s) s (All-head IsTelling s ss T)) (tells_gone done number ss (All-tail IsTelling s ss T))

tells_stepped : (i : ℕ) (c : Component) (done : WorkDone) (work : Work) (announces : Bool) (w : World) → AreTelling w
    → AreTelling (if announces then with_component i (announced c) w else changed_at (stream_of (number_of c) w) w (λ s. with_landed i c done s w))
tells_stepped i c done work true w T = T
tells_stepped i c done work false w T = tells_changed (stream_of (number_of c) w) w (λ s. with_landed i c done s w) T (λ s. tells_gone done (number_of c) w.streams T)

tells_finished : (i : ℕ) (c : Component) (done : WorkDone) (work : Option Work) (w : World) → AreTelling w → AreTelling (finished_by i c done work w)
tells_finished i c done None w T = T
tells_finished i c done (Some work) w T = tells_stepped i c done work work.announces w T

-- no file comes, and no component
abbrev pub BringsNone : Act → Type 0
BringsNone (acts.Attach h file) = ⊥
BringsNone (acts.GetHandle name) = ⊥
BringsNone other = Unit {0}

tells_effect : (w : World) (a : Act) (r : Reply) (v : World) → BringsNone a → AreTelling w → Step w a r v → AreTelling (effect w a r)
tells_effect w (acts.FreeHandle h) (acts.Removed (Ok file)) v B T s = tells_named h w _ T (λ i c. All-filter (λ x. not (is_stream_of (number_of c) x)) IsTelling w.streams T)
tells_effect w (acts.FreeHandle h) (acts.Removed (Err error)) v B T s = T
tells_effect w (acts.GetState h) (acts.Stated result) v B T s = T
tells_effect w (acts.PortView h port) (acts.Viewed result) v B T s = T
tells_effect w (acts.Progress h) (acts.Progressed result) v B T s = T
tells_effect w (acts.GetParameter h key) (acts.Parameter result) v B T s = T
tells_effect w (acts.GetConfig h key) (acts.Parameter result) v B T s = T
tells_effect w (acts.SetParameter h key value) (acts.Plain (Ok done)) v B T s = tells_named h w _ T (λ i c. T)
tells_effect w (acts.SetParameter h key value) (acts.Plain (Err error)) v B T s = T
tells_effect w (acts.SetConfig h key value) (acts.Plain (Ok done)) v B T s = tells_named h w _ T (λ i c. T)
tells_effect w (acts.SetConfig h key value) (acts.Plain (Err error)) v B T s = T
tells_effect w (acts.SetupTunnel output input) (acts.Joined (Ok supplier)) v B T s =
    tells_named output.handle w _ T (λ i c. tells_named input.handle w _ T (λ j d. tells_two (port_of c output.index) (port_of d input.index) w _ T (λ p q. T)))
tells_effect w (acts.SetupTunnel output input) (acts.Joined (Err error)) v B T s = T
tells_effect w (acts.DropTunnel output input) (acts.Plain (Ok done)) v B T s =
    tells_named output.handle w _ T (λ i c. tells_named input.handle w _ T (λ j d. tells_two (port_of c output.index) (port_of d input.index) w _ T (λ p q. T)))
tells_effect w (acts.DropTunnel output input) (acts.Plain (Err error)) v B T s = T
tells_effect w (acts.SendCommand h command) (acts.Plain (Ok done)) v B T s = tells_named h w _ T (λ i c. T)
tells_effect w (acts.SendCommand h command) (acts.Plain (Err error)) v B T s = T
tells_effect w (acts.RunCommand h) (acts.Acted (Ok acted.Did)) v B T s = tells_named h w _ T (λ i c. T)
tells_effect w (acts.RunCommand h) (acts.Acted (Ok (acted.Idle why))) v B T s = T
tells_effect w (acts.RunCommand h) (acts.Acted (Err error)) v B T s = T
tells_effect w (acts.AllocateBuffer h port) (acts.Allocated (Ok header)) v B T s = tells_port h port w _ T (λ i c p. T)
tells_effect w (acts.AllocateBuffer h port) (acts.Allocated (Err error)) v B T s = T
tells_effect w (acts.UseBuffer h port bytes) (acts.Used (Ok header)) v B T s = tells_port h port w _ T (λ i c p. T)
tells_effect w (acts.UseBuffer h port bytes) (acts.Used (Err error)) v B T s = T
tells_effect w (acts.FreeBuffer h port header) (acts.Freed (Ok memory)) v B T s = tells_port h port w _ T (λ i c p. T)
tells_effect w (acts.FreeBuffer h port header) (acts.Freed (Err error)) v B T s = T
tells_effect w (acts.EmptyThisBuffer h port header) (acts.Plain (Ok done)) v B T s = tells_port h port w _ T (λ i c p. T)
tells_effect w (acts.EmptyThisBuffer h port header) (acts.Plain (Err error)) v B T s = T
tells_effect w (acts.FillThisBuffer h port header) (acts.Plain (Ok done)) v B T s = tells_port h port w _ T (λ i c p. T)
tells_effect w (acts.FillThisBuffer h port header) (acts.Plain (Err error)) v B T s = T
tells_effect w (acts.TakeNote h) (acts.Took (Ok (TookNote (TakenEvent event)))) v B T s = tells_named h w _ T (λ i c. T)
tells_effect w (acts.TakeNote h) (acts.Took (Ok (TookNote (TakenEmpty header)))) v B T s = tells_named h w _ T (λ i c. T)
tells_effect w (acts.TakeNote h) (acts.Took (Ok (TookNote (TakenFilled header)))) v B T s = tells_named h w _ T (λ i c. T)
tells_effect w (acts.TakeNote h) (acts.Took (Ok TookNone)) v B T s = T
tells_effect w (acts.TakeNote h) (acts.Took (Ok TookBusy)) v B T s = T
tells_effect w (acts.TakeNote h) (acts.Took (Err error)) v B T s = T
tells_effect w (acts.EndNote h progress) acts.Ended v B T s = tells_named h w _ T (λ i c. T)
tells_effect w (acts.Supply h port) (acts.Supplied (Ok acted.Did)) v B T s = tells_port h port w _ T (λ i c p. T)
tells_effect w (acts.Supply h port) (acts.Supplied (Ok (acted.Idle why))) v B T s = T
tells_effect w (acts.Supply h port) (acts.Supplied (Err error)) v B T s = T
tells_effect w (acts.Release h port) (acts.Acted (Ok acted.Did)) v B T s = tells_port h port w _ T (λ i c p. tells_unmade (in_port (seen w.headers) p) w T)
tells_effect w (acts.Release h port) (acts.Acted (Ok (acted.Idle why))) v B T s = T
tells_effect w (acts.Release h port) (acts.Acted (Err error)) v B T s = T
tells_effect w (acts.HandOver h port) (acts.Acted (Ok acted.Did)) v B T s = tells_port h port w _ T (λ i c p. tells_over p p.state.link w T)
tells_effect w (acts.HandOver h port) (acts.Acted (Ok (acted.Idle why))) v B T s = T
tells_effect w (acts.HandOver h port) (acts.Acted (Err error)) v B T s = T
tells_effect w (acts.HandBack h port) (acts.Acted (Ok acted.Did)) v B T s = tells_port h port w _ T (λ i c p. tells_back i c p p.state.link w T)
tells_effect w (acts.HandBack h port) (acts.Acted (Ok (acted.Idle why))) v B T s = T
tells_effect w (acts.HandBack h port) (acts.Acted (Err error)) v B T s = T
tells_effect w acts.Grant (acts.Granted (grants.Granted h)) v B T s =
    tells_changed (first_waiter w.components) w _ T (λ c. tells_changed (place_numbered (number_of c) w.components) w _ T (λ i. T))
tells_effect w acts.Grant (acts.Granted (grants.Idle why)) v B T s = T
tells_effect w acts.Preempt (acts.Preempted (losses.Victim h)) v B T s =
    tells_changed (victim w.components) w _ T (λ c. tells_changed (place_numbered (number_of c) w.components) w _ T (λ i. T))
tells_effect w acts.Preempt (acts.Preempted (losses.Idle why)) v B T s = T
tells_effect w (acts.Claim h) (acts.Claimed (Ok (ClaimedWork work))) v B T s = tells_named h w _ T (λ i c. T)
tells_effect w (acts.Claim h) (acts.Claimed (Ok ClaimedBusy)) v B T s = T
tells_effect w (acts.Claim h) (acts.Claimed (Ok ClaimedNotRunning)) v B T s = T
tells_effect w (acts.Claim h) (acts.Claimed (Ok ClaimedEnded)) v B T s = T
tells_effect w (acts.Claim h) (acts.Claimed (Ok (ClaimedHeld port))) v B T s = T
tells_effect w (acts.Claim h) (acts.Claimed (Ok (ClaimedNoData port))) v B T s = T
tells_effect w (acts.Claim h) (acts.Claimed (Ok (ClaimedNoRoom port))) v B T s = T
tells_effect w (acts.Claim h) (acts.Claimed (Ok (ClaimedEvents room need))) v B T s = T
tells_effect w (acts.Claim h) (acts.Claimed (Err error)) v B T s = T
tells_effect w (acts.Finish done) acts.Finished v B T s =
    tells_changed (place_numbered done.component w.components) w _ T (λ i. tells_changed (slice_get w.components i) w (λ c. finished i c done w) T (λ c. tells_finished i c done c.work w T))
tells_effect w (acts.GetHandle name) (acts.Got result) v B T s = absurd B
tells_effect w (acts.Attach h file) (acts.Plain result) v B T s = absurd B
tells_effect w _ _ v B T s = absurd s

pub tells_on : (w : World) (a : Act) (r : Reply) (v : World) → Sound w → BringsNone a → AreTelling w → Meets w a → Step w a r v → AreTelling v
tells_on w a r v S B T M s = elim (effects_close w a r v S M s) [
  | inl e ↦ subst AreTelling (sym e.1) T
  | inr c ↦ subst (λ (ss : List Stream). All IsTelling ss) (sym (times_streams c.steps (effect w a r) v c.by_steps)) (tells_effect w a r v B T s)
]
