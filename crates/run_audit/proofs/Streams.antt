-- What an act makes of the streams: the work that comes back goes on in its component's, and nothing else does.
use Rattle.std.proofs.Common.{◌≡◌, ◌≢◌, ◌⊎◌, inl, inr, ℕ, zero, suc, Bool, true, false, List, [], ◌∷◌, find, Option, Some, None, Ok, Err, slice_get, refl, sym, ap, ◌∙◌, if◌then◌else◌}
use Rattle.std.specs.Prelude.{map}
use Rattle.std.proofs.lemmas.Bool.{cases_eq}
use Rattle.omx_types.specs.declared.handle.Handle.{Handle}
use Rattle.il_machine.specs.declared.answer.Acted.TheVariants as acted
use Rattle.il_machine.specs.declared.answer.Granted.TheVariants as grants
use Rattle.il_machine.specs.declared.answer.Preempted.TheVariants as losses
use Rattle.il_machine.specs.declared.port.Link.{Link}
use Rattle.il_machine.specs.declared.port.Port.{Port}
use Rattle.il_machine.specs.declared.port.PortKey.{PortKey}
use Rattle.il_machine.specs.World.{Component, HeaderRecord, Stream, Work, World, changed_at, is_stream_of, number_of, place_numbered, place_of, port_of, stream_of, with_component}
use Rattle.il_machine.specs.Claims.{ClaimedWork, ClaimedBusy, ClaimedNotRunning, ClaimedEnded, ClaimedHeld, ClaimedNoData, ClaimedNoRoom, ClaimedEvents}
use Rattle.il_machine.specs.Due.{HappenTimes}
use Rattle.il_machine.specs.Effect.{at_both, at_named, at_named_port, effect}
use Rattle.il_machine.specs.Finishing.{announced, finished, finished_by, gone_through, with_landed, Finish}
use Rattle.il_machine.specs.Flow.{at_link, front_noticed, front_put, front_unmade, handed_back, in_port, returned, supplied_spot}
use Rattle.il_machine.specs.declared.header.Spot.{Spot}
use Rattle.il_machine.specs.declared.header.Spot.TheVariants.{TodoBack}
use Rattle.il_machine.specs.Headers.{cleared, seen, unchanged}
use Rattle.il_machine.specs.Notes.{TakenEvent, TakenEmpty, TakenFilled, TookNote, TookNone, TookBusy}
use Rattle.il_machine.specs.Ports.{is_input_port}
use Rattle.il_machine.specs.Stepping.{WorkDone}
use Rattle.il_machine.specs.Units.{first_waiter, victim}
use Rattle.il_machine.specs.Acts.{Act, Reply}
use Rattle.il_machine.specs.Acts as acts
use Rattle.il_machine.specs.Run.{Meets, Step}
use Rattle.il_machine.specs.Sound.{Sound}
use Rattle.history_laws.proofs.Closing.{happening_of}
use Rattle.history_laws.proofs.QueueLaw.{effects_close}
use Rattle.history_laws.proofs.WorkSteps.{back_of}
use Rattle.play_world_laws.proofs.Told.{stream_else, stream_gone}

times_streams : (n : ℕ) (w v : World) → HappenTimes n w v → v.streams ≡ w.streams
times_streams zero w v e = ap (λ (x : World). x.streams) e
times_streams (suc n) w v (mid, before, last) = (happening_of mid v last).streams ∙ times_streams n w mid before

-- ---- acts that leave the streams as they are

abbrev Same : World → World → Type 0
Same w x = x.streams ≡ w.streams

same_changed : {T : Type 0} (o : Option T) (w : World) (change : T → World) → ((x : T) → Same w (change x)) → Same w (changed_at o w change)
same_changed None w change k = refl
same_changed (Some x) w change k = k x

same_named : (h : Handle) (w : World) (change : ℕ → Component → World) → ((i : ℕ) (c : Component) → Same w (change i c)) → Same w (at_named h w change)
same_named h w change k = same_changed (place_of h w.components) w _ (λ i. same_changed (slice_get w.components i) w (λ c. change i c) (λ c. k i c))

same_port : (h : Handle) (port : ℕ) (w : World) (change : ℕ → Component → Port → World) → ((i : ℕ) (c : Component) (p : Port) → Same w (change i c p)) → Same w (at_named_port h port w change)
same_port h port w change k = same_named h w _ (λ i c. same_changed (port_of c port) w (λ p. change i c p) (λ p. k i c p))

same_two : (p q : Option Port) (w : World) (change : Port → Port → World) → ((a b : Port) → Same w (change a b)) → Same w (at_both p q w change)
same_two p q w change k = same_changed p w _ (λ a. same_changed q w (λ b. change a b) (λ b. k a b))

same_unmade : (numbers : List ℕ) (w : World) → Same w (front_unmade numbers w)
same_unmade [] w = refl
same_unmade (number ∷ rest) w = refl

same_put : (key : PortKey) (spot : Spot) (change : HeaderRecord → HeaderRecord) (numbers : List ℕ) (w : World) → Same w (front_put key spot change numbers w)
same_put key spot change [] w = refl
same_put key spot change (number ∷ rest) w = refl

same_over : (p : Port) (link : Option Link) (w : World) → Same w (at_link link (λ peer. front_put peer TodoBack unchanged ((seen w.headers).done p.key)) w)
same_over p None w = refl
same_over p (Some link) w = same_put link.peer TodoBack unchanged ((seen w.headers).done p.key) w

same_returned : (supplier : PortKey) (is_input : Bool) (done todo : List ℕ) (w : World) → Same w (returned supplier is_input done todo w)
same_returned supplier true [] todo w = same_put supplier (supplied_spot false) cleared todo w
same_returned supplier false [] todo w = same_put supplier (supplied_spot true) cleared todo w
same_returned supplier is_input (number ∷ rest) todo w = same_put supplier TodoBack unchanged (number ∷ rest) w

same_noticed : (i : ℕ) (c : Component) (p : Port) (numbers : List ℕ) (w : World) → Same w (front_noticed i c p numbers w)
same_noticed i c p [] w = refl
same_noticed i c p (number ∷ rest) w = refl

same_back : (i : ℕ) (c : Component) (p : Port) (link : Option Link) (w : World) → Same w (handed_back i c p link w)
same_back i c p None w = same_noticed i c p ((seen w.headers).todo p.key) w
same_back i c p (Some link) w = same_returned link.peer (is_input_port p) ((seen w.headers).done p.key) ((seen w.headers).todo p.key) w

-- no file comes, no component comes or goes, and no work comes back
abbrev pub KeepsStreams : Act → Type 0
KeepsStreams (acts.Attach h file) = ⊥
KeepsStreams (acts.GetHandle name) = ⊥
KeepsStreams (acts.FreeHandle h) = ⊥
KeepsStreams (acts.Finish done) = ⊥
KeepsStreams other = Unit {0}

same_effect : (w : World) (a : Act) (r : Reply) (v : World) → KeepsStreams a → Step w a r v → Same w (effect w a r)
same_effect w (acts.GetState h) (acts.Stated result) v B s = refl
same_effect w (acts.PortView h port) (acts.Viewed result) v B s = refl
same_effect w (acts.Progress h) (acts.Progressed result) v B s = refl
same_effect w (acts.GetParameter h key) (acts.Parameter result) v B s = refl
same_effect w (acts.GetConfig h key) (acts.Parameter result) v B s = refl
same_effect w (acts.SetParameter h key value) (acts.Plain (Ok done)) v B s = same_named h w _ (λ i c. refl)
same_effect w (acts.SetParameter h key value) (acts.Plain (Err error)) v B s = refl
same_effect w (acts.SetConfig h key value) (acts.Plain (Ok done)) v B s = same_named h w _ (λ i c. refl)
same_effect w (acts.SetConfig h key value) (acts.Plain (Err error)) v B s = refl
same_effect w (acts.SetupTunnel output input) (acts.Joined (Ok supplier)) v B s =
    same_named output.handle w _ (λ i c. same_named input.handle w _ (λ j d. same_two (port_of c output.index) (port_of d input.index) w _ (λ p q. refl)))
same_effect w (acts.SetupTunnel output input) (acts.Joined (Err error)) v B s = refl
same_effect w (acts.DropTunnel output input) (acts.Plain (Ok done)) v B s =
    same_named output.handle w _ (λ i c. same_named input.handle w _ (λ j d. same_two (port_of c output.index) (port_of d input.index) w _ (λ p q. refl)))
same_effect w (acts.DropTunnel output input) (acts.Plain (Err error)) v B s = refl
same_effect w (acts.SendCommand h command) (acts.Plain (Ok done)) v B s = same_named h w _ (λ i c. refl)
same_effect w (acts.SendCommand h command) (acts.Plain (Err error)) v B s = refl
same_effect w (acts.RunCommand h) (acts.Acted (Ok acted.Did)) v B s = same_named h w _ (λ i c. refl)
same_effect w (acts.RunCommand h) (acts.Acted (Ok (acted.Idle why))) v B s = refl
same_effect w (acts.RunCommand h) (acts.Acted (Err error)) v B s = refl
same_effect w (acts.AllocateBuffer h port) (acts.Allocated (Ok header)) v B s = same_port h port w _ (λ i c p. refl)
same_effect w (acts.AllocateBuffer h port) (acts.Allocated (Err error)) v B s = refl
same_effect w (acts.UseBuffer h port bytes) (acts.Used (Ok header)) v B s = same_port h port w _ (λ i c p. refl)
same_effect w (acts.UseBuffer h port bytes) (acts.Used (Err error)) v B s = refl
same_effect w (acts.FreeBuffer h port header) (acts.Freed (Ok memory)) v B s = same_port h port w _ (λ i c p. refl)
same_effect w (acts.FreeBuffer h port header) (acts.Freed (Err error)) v B s = refl
same_effect w (acts.EmptyThisBuffer h port header) (acts.Plain (Ok done)) v B s = same_port h port w _ (λ i c p. refl)
same_effect w (acts.EmptyThisBuffer h port header) (acts.Plain (Err error)) v B s = refl
same_effect w (acts.FillThisBuffer h port header) (acts.Plain (Ok done)) v B s = same_port h port w _ (λ i c p. refl)
same_effect w (acts.FillThisBuffer h port header) (acts.Plain (Err error)) v B s = refl
same_effect w (acts.TakeNote h) (acts.Took (Ok (TookNote (TakenEvent event)))) v B s = same_named h w _ (λ i c. refl)
same_effect w (acts.TakeNote h) (acts.Took (Ok (TookNote (TakenEmpty header)))) v B s = same_named h w _ (λ i c. refl)
same_effect w (acts.TakeNote h) (acts.Took (Ok (TookNote (TakenFilled header)))) v B s = same_named h w _ (λ i c. refl)
same_effect w (acts.TakeNote h) (acts.Took (Ok TookNone)) v B s = refl
same_effect w (acts.TakeNote h) (acts.Took (Ok TookBusy)) v B s = refl
same_effect w (acts.TakeNote h) (acts.Took (Err error)) v B s = refl
same_effect w (acts.EndNote h progress) acts.Ended v B s = same_named h w _ (λ i c. refl)
same_effect w (acts.Supply h port) (acts.Supplied (Ok acted.Did)) v B s = same_port h port w _ (λ i c p. refl)
same_effect w (acts.Supply h port) (acts.Supplied (Ok (acted.Idle why))) v B s = refl
same_effect w (acts.Supply h port) (acts.Supplied (Err error)) v B s = refl
same_effect w (acts.Release h port) (acts.Acted (Ok acted.Did)) v B s = same_port h port w _ (λ i c p. same_unmade (in_port (seen w.headers) p) w)
same_effect w (acts.Release h port) (acts.Acted (Ok (acted.Idle why))) v B s = refl
same_effect w (acts.Release h port) (acts.Acted (Err error)) v B s = refl
same_effect w (acts.HandOver h port) (acts.Acted (Ok acted.Did)) v B s = same_port h port w _ (λ i c p. same_over p p.state.link w)
same_effect w (acts.HandOver h port) (acts.Acted (Ok (acted.Idle why))) v B s = refl
same_effect w (acts.HandOver h port) (acts.Acted (Err error)) v B s = refl
same_effect w (acts.HandBack h port) (acts.Acted (Ok acted.Did)) v B s = same_port h port w _ (λ i c p. same_back i c p p.state.link w)
same_effect w (acts.HandBack h port) (acts.Acted (Ok (acted.Idle why))) v B s = refl
same_effect w (acts.HandBack h port) (acts.Acted (Err error)) v B s = refl
same_effect w acts.Grant (acts.Granted (grants.Granted h)) v B s =
    same_changed (first_waiter w.components) w _ (λ c. same_changed (place_numbered (number_of c) w.components) w _ (λ i. refl))
same_effect w acts.Grant (acts.Granted (grants.Idle why)) v B s = refl
same_effect w acts.Preempt (acts.Preempted (losses.Victim h)) v B s =
    same_changed (victim w.components) w _ (λ c. same_changed (place_numbered (number_of c) w.components) w _ (λ i. refl))
same_effect w acts.Preempt (acts.Preempted (losses.Idle why)) v B s = refl
same_effect w (acts.Claim h) (acts.Claimed (Ok (ClaimedWork work))) v B s = same_named h w _ (λ i c. refl)
same_effect w (acts.Claim h) (acts.Claimed (Ok ClaimedBusy)) v B s = refl
same_effect w (acts.Claim h) (acts.Claimed (Ok ClaimedNotRunning)) v B s = refl
same_effect w (acts.Claim h) (acts.Claimed (Ok ClaimedEnded)) v B s = refl
same_effect w (acts.Claim h) (acts.Claimed (Ok (ClaimedHeld port))) v B s = refl
same_effect w (acts.Claim h) (acts.Claimed (Ok (ClaimedNoData port))) v B s = refl
same_effect w (acts.Claim h) (acts.Claimed (Ok (ClaimedNoRoom port))) v B s = refl
same_effect w (acts.Claim h) (acts.Claimed (Ok (ClaimedEvents room need))) v B s = refl
same_effect w (acts.Claim h) (acts.Claimed (Err error)) v B s = refl
same_effect w (acts.FreeHandle h) (acts.Removed result) v B s = absurd B
same_effect w (acts.Finish done) acts.Finished v B s = absurd B
same_effect w (acts.GetHandle name) (acts.Got result) v B s = absurd B
same_effect w (acts.Attach h file) (acts.Plain result) v B s = absurd B
same_effect w _ _ v B s = absurd s

pub streams_stay : (w : World) (a : Act) (r : Reply) (v : World) → Sound w → KeepsStreams a → Meets w a → Step w a r v → v.streams ≡ w.streams
streams_stay w a r v S B M s = elim (effects_close w a r v S M s) [
  | inl e ↦ ap (λ (x : World). x.streams) e.1
  | inr c ↦ times_streams c.steps (effect w a r) v c.by_steps ∙ same_effect w a r v B s
]

-- ---- a work that comes back

-- a stream then is that of another component, or goes on with what its file told when it came
pub record GoesOn (done : WorkDone) (j : ℕ) (s t : Stream) : Type 0 where
  pub known : t.known ≡ s.known
  pub other : j ≢ done.component → t ≡ s

abbrev Gone : World → WorkDone → World → Type 0
Gone w done x = (x.streams ≡ w.streams) ⊎ (x.streams ≡ map (λ s. if is_stream_of done.component s then gone_through done s else s) w.streams)

gone_stepped : (o : Option Stream) (i : ℕ) (c : Component) (done : WorkDone) (w : World) → number_of c ≡ done.component → Gone w done (changed_at o w (λ s. with_landed i c done s w))
gone_stepped None i c done w n = inl refl
gone_stepped (Some s) i c done w n = inr (ap (λ (k : ℕ). map (λ s. if is_stream_of k s then gone_through done s else s) w.streams) n)

gone_by : (announces : Bool) (i : ℕ) (c : Component) (done : WorkDone) (w : World) → number_of c ≡ done.component
    → Gone w done (if announces then with_component i (announced c) w else changed_at (stream_of (number_of c) w) w (λ s. with_landed i c done s w))
gone_by true i c done w n = inl refl
gone_by false i c done w n = gone_stepped (stream_of (number_of c) w) i c done w n

gone_finished : (o : Option Work) (i : ℕ) (c : Component) (done : WorkDone) (w : World) → number_of c ≡ done.component → Gone w done (finished_by i c done o w)
gone_finished None i c done w n = inl refl
gone_finished (Some work) i c done w n = gone_by work.announces i c done w n

gone_back : (w : World) (done : WorkDone) (v : World) → Meets w (acts.Finish done) → Finish w done v → Gone w done v
gone_back w done v M F =
    let x = back_of w done v M F in
    let c = x.1 in
    let e = times_streams (x.4).steps (finished x.0 c done w) v (x.4).by_steps in
    elim (gone_finished c.work x.0 c done w (x.3).number) [ inl same ↦ inl (e ∙ same) | inr went ↦ inr (e ∙ went) ]

pub streams_go : (w : World) (done : WorkDone) (v : World) (j : ℕ) (s : Stream) → Meets w (acts.Finish done) → Finish w done v → stream_of j w ≡ Some s
    → (t : Stream) × (stream_of j v ≡ Some t) × GoesOn done j s t
streams_go w done v j s M F f = elim (gone_back w done v M F) [
  | inl same ↦ (s, ap (find (is_stream_of j)) same ∙ f, record { known = refl; other = λ n. refl })
  | inr went ↦ elim (cases_eq j done.component) [
    | inl is ↦ (
      gone_through done s,
      ap (λ (k : ℕ). stream_of k v) is ∙ stream_gone w v done.component (gone_through done) s (λ z. refl) went (ap (λ (k : ℕ). stream_of k w) (sym is) ∙ f),
      record { known = refl; other = λ n. absurd (n is) },
    )
    | inr n ↦ (s, stream_else w v done.component j (gone_through done) (λ z. refl) went n ∙ f, record { known = refl; other = λ k. refl })
  ]
]
