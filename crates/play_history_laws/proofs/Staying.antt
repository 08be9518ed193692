-- Which parts have failed, and what went through the files, stays over each act but steps; no part fails by a step without a fault, and no
-- fault is told.
use Rattle.std.proofs.Common.{◌≡◌, ◌≤◌, inl, inr, ℕ, zero, suc, Bool, true, false, nat_eq, List, [], ◌∷◌, set, slice_get, arith, Option, Some, None, MatchOption, Result, Ok, Err, refl, sym, ◌∙◌, ap}
use Rattle.omx_types.specs.declared.command.Command.{Command}
use Rattle.omx_types.specs.declared.error.CallError.{CallError}
use Rattle.omx_types.specs.declared.error.CallError.TheVariants.{Omx}
use Rattle.omx_types.specs.declared.error.OmxError.{OmxError}
use Rattle.omx_types.specs.declared.error.OmxError.TheVariants as errors
use Rattle.omx_types.specs.declared.handle.Handle.{Handle}
use Rattle.omx_types.specs.declared.handle.PortId.{PortId}
use Rattle.omx_types.specs.declared.param.Param.{Param}
use Rattle.omx_types.specs.declared.param.ParamKey.{ParamKey}
use Rattle.omx_types.specs.declared.param.Supplier.{Supplier}
use Rattle.il_machine.specs.declared.answer.Acted.{Acted}
use Rattle.il_machine.specs.declared.answer.Why.{Why}
use Rattle.il_machine.specs.declared.header.Spot.{Spot}
use Rattle.il_machine.specs.declared.header.Spot.TheVariants.{TodoBack}
use Rattle.il_machine.specs.declared.port.Link.{Link}
use Rattle.il_machine.specs.declared.port.Port.{Port}
use Rattle.il_machine.specs.declared.port.PortKey.{PortKey}
use Rattle.omx_types.specs.declared.command.Event.TheVariants.{PortSettingsChanged}
use Rattle.omx_types.specs.declared.command.Note.{Note}
use Rattle.omx_types.specs.declared.command.Note.TheVariants as notes
use Rattle.omx_types.specs.declared.fault.PartFault.{PartFault}
use Rattle.il_machine.specs.Acts.{Act, Reply}
use Rattle.il_machine.specs.Acts as acts
use Rattle.il_machine.specs.Finishing.{Finish, announced, announced_at, fault_note, finished, finished_by, notes_after, part_by, stepped_back, with_landed}
use Rattle.il_machine.specs.Notes.{EndNote, TakeFrom, TakeNote, Took, back_in, first_taken, with_client, with_given}
use Rattle.il_machine.specs.Parts.{file_format}
use Rattle.il_machine.specs.Run.{Meets, Step}
use Rattle.il_machine.specs.Stepping.{WorkDone}
use Rattle.machine_laws.proofs.Keys.{there_is}
use Rattle.history_laws.proofs.WorkSteps.{back_of}
use Rattle.il_machine.specs.Answers.{Acts, Answers, Resolving, plain}
use Rattle.il_machine.specs.Claims.{Claim, Claimed, Claims, claim_idle, with_work, work_of}
use Rattle.il_machine.specs.Commands.{RunCommand, SendCommand, run_front, run_idle, send_refusal, sent}
use Rattle.il_machine.specs.Due.{ClosesTo, HappenTimes, Happens}
use Rattle.il_machine.specs.Flow.{HandBack, HandOver, OnPort, Release, Supply, at_link, back_idle, done_note, front_noticed, front_put, front_unmade, handed_back, handed_over, in_port, over_idle, release_idle, returned, supply_idle, with_supplied}
use Rattle.il_machine.specs.Headers.{find_header, seen, unchanged}
use Rattle.il_machine.specs.Look.{look}
use Rattle.il_machine.specs.Parameters.{SetParameter, set_parameter_refusal, unheld_at, with_value}
use Rattle.il_machine.specs.Ports.{is_input_port}
use Rattle.il_machine.specs.Settings.{changed_by, same_format}
use Rattle.il_machine.specs.Tunnels.{BothPorts, DropTunnel, SetupTunnel, agreed_of, both_joined, both_parted, drop_refusal, joined_to, parted, setup_refusal}
use Rattle.il_machine.specs.World.{Component, HeaderRecord, Stream, Work, World, changed_at, noted, number_of, place_of, port_of, stream_of, with_component, with_port}
use Rattle.machine_laws.proofs.Every.{at_set}
use Rattle.machine_laws.proofs.Finding.{either}
use Rattle.history_laws.proofs.Closing.{happening_of}
use Rattle.read_world_laws.specs.Beside.{IsBeside}
use Rattle.read_world_laws.proofs.Calls.{named}
use Rattle.read_world_laws.proofs.Faults.{IsAsWell, done_note_well, faults_append, faults_drop, faults_in, step_faults, well_beside, well_happened, well_noted, well_run, well_sent, well_through}
use Rattle.read_world_laws.proofs.Steps.{each_beside}

abbrev pub KeepsFailed : World → World → Type 0
KeepsFailed w v = (i : ℕ) (d : Component) → slice_get v.components i ≡ Some d → (c : Component) × (slice_get w.components i ≡ Some c) × (d.part.failed ≡ c.part.failed) × (faults_in d.notes ≤ faults_in c.notes)

-- which parts have failed stays, and what went through the files; no fault is told
pub record PartsStay (w v : World) : Type 0 where
  pub streams : v.streams ≡ w.streams
  pub failed : KeepsFailed w v

pub failed_through : (w m v : World) → KeepsFailed w m → KeepsFailed m v → KeepsFailed w v
failed_through w m v A B i d e =
    let b = B i d e in
    let a = A i b.0 b.1 in
    let s = b.3 in
    let t = a.3 in
    (a.0, a.1, b.2 ∙ a.2, omega (arith, s, t))

failed_set : (w v : World) (j : ℕ) (c y : Component) → slice_get w.components j ≡ Some c → v.components ≡ set w.components j y → IsAsWell c y → KeepsFailed w v
failed_set w v j c y e s Y i d g = elim (at_set w.components j i y d (ap (λ (cs : List Component). slice_get cs i) (sym s) ∙ g)) [
  | inl h ↦
      let n = ap (λ (z : Component). faults_in z.notes) h.1 in
      let m = Y.faults in
      (c, ap (slice_get w.components) h.0 ∙ e, ap (λ (z : Component). z.part.failed) h.1 ∙ Y.failed, omega (arith, n, m))
  | inr h ↦ (d, h.1, refl, omega arith)
]

pub stay_same : (w v : World) → v.streams ≡ w.streams → v.components ≡ w.components → PartsStay w v
stay_same w v t s = record { streams = t; failed = λ i d e. (d, ap (λ (cs : List Component). slice_get cs i) (sym s) ∙ e, refl, omega arith) }

stay_through : (w m v : World) → PartsStay w m → PartsStay m v → PartsStay w v
stay_through w m v A B = record { streams = B.streams ∙ A.streams; failed = failed_through w m v A.failed B.failed }

stay_set : (w v : World) (j : ℕ) (c y : Component) → slice_get w.components j ≡ Some c → v.streams ≡ w.streams → v.components ≡ set w.components j y → IsAsWell c y → PartsStay w v
stay_set w v j c y e t s Y = record { streams = t; failed = failed_set w v j c y e s Y }

stays : (w v : World) → v ≡ w → PartsStay w v
stays w v e = stay_same w v (ap (λ (z : World). z.streams) e) (ap (λ (z : World). z.components) e)

-- ---- the close-out

happens_stay : (w v : World) → Happens w v → PartsStay w v
happens_stay w v h =
    let H = well_happened h.place h.component w h.there h.thing in
    stay_set w v h.place h.component H.0 h.there (happening_of w v h).streams (ap (λ (z : World). z.components) h.after ∙ H.1) H.2

times_stay : (n : ℕ) (w v : World) → HappenTimes n w v → PartsStay w v
times_stay zero w v e = stays w v e
times_stay (suc n) w v (mid, before, last) = stay_through w mid v (times_stay n w mid before) (happens_stay mid v last)

pub closes_stay : (w v : World) → ClosesTo w v → PartsStay w v
closes_stay w v C = times_stay C.steps w v C.by_steps

-- ---- the acts

closed_stay : (w u v : World) → PartsStay w u → ClosesTo u v → PartsStay w v
closed_stay w u v K C = stay_through w u v K (closes_stay u v C)

acts_stay : {E : Type 0} (o : Option Why) (result : Result Acted E) (w u v : World) → Acts o result w u v → PartsStay w u → PartsStay w v
acts_stay None result w u v h K = closed_stay w u v K h.1
acts_stay (Some why) result w u v h K = stays w v h.1

answers_stay : {T : Type 0} (o : Option OmxError) (result : Result T OmxError) (w v : World) (A : T → Type 0) → Answers o result w v A → ((y : T) → A y → PartsStay w v) → PartsStay w v
answers_stay (Some error) result w v A h f = stays w v h.1
answers_stay None (Ok y) w v A h f = f y h
answers_stay None (Err y) w v A h f = absurd h

stay_two : (w : World) (i j : ℕ) (c d c2 d2 : Component) → slice_get w.components i ≡ Some c → slice_get w.components j ≡ Some d → IsAsWell c c2 → IsAsWell d d2
    → PartsStay w (with_component j d2 (with_component i c2 w))
stay_two w i j c d c2 d2 e g C D = record { streams = refl; failed = two }
  where
    two : KeepsFailed w (with_component j d2 (with_component i c2 w))
    two k y t = elim (at_set (set w.components i c2) j k d2 y t) [
      | inl z ↦
          let n = ap (λ (q : Component). faults_in q.notes) z.1 in
          let m = D.faults in
          (d, ap (slice_get w.components) z.0 ∙ g, ap (λ (q : Component). q.part.failed) z.1 ∙ D.failed, omega (arith, n, m))
      | inr z ↦ failed_set w (with_component i c2 w) i c c2 e refl C k y z.1
    ]

runs_stay : (w : World) (h : Handle) (result : Result Acted OmxError) (v : World) → RunCommand w h result v → PartsStay w v
runs_stay w h result v s = elim (named plain w h result v (λ i c. Acts (run_idle c c.commands) result w (with_component i (run_front (look w) c.commands c) w) v) s) [
  | inl e ↦ stays w v e.1
  | inr (i, c, e, g, t) ↦ acts_stay (run_idle c c.commands) result w (with_component i (run_front (look w) c.commands c) w) v t (stay_set w (with_component i (run_front (look w) c.commands c) w) i c (run_front (look w) c.commands c) g refl refl (well_run (look w) c.commands c))
]

sends_stay : (w : World) (h : Handle) (command : Command) (result : Result (Unit {0}) OmxError) (v : World) → SendCommand w h command result v → PartsStay w v
sends_stay w h command result v s = elim (named plain w h result v (λ i c. Answers (send_refusal (look w) c command) result w v (λ _. ClosesTo (with_component i (sent command c) w) v)) s) [
  | inl e ↦ stays w v e.1
  | inr (i, c, e, g, t) ↦ answers_stay (send_refusal (look w) c command) result w v (λ _. ClosesTo (with_component i (sent command c) w) v) t (λ y C. closed_stay w (with_component i (sent command c) w) v (stay_set w (with_component i (sent command c) w) i c (sent command c) g refl refl (well_sent command c)) C)
]

at_port_of : {T E : Type 0} (refuse : OmxError → E) (w : World) (result : Result T E) (v : World) (o : Option Port) (Then : Port → Type 0) → MatchOption o ((result ≡ Err (refuse errors.BadPortIndex)) × (v ≡ w)) Then → ((p : Port) → Then p → PartsStay w v) → PartsStay w v
at_port_of refuse w result v None Then h f = stays w v h.1
at_port_of refuse w result v (Some p) Then h f = f p h

on_port_stay : {T E : Type 0} (refuse : OmxError → E) (w : World) (h : Handle) (port : ℕ) (result : Result T E) (v : World) (Then : ℕ → Component → Port → Type 0) → OnPort refuse w h port result v Then
    → ((i : ℕ) (c : Component) (p : Port) → slice_get w.components i ≡ Some c → Then i c p → PartsStay w v) → PartsStay w v
on_port_stay refuse w h port result v Then s f = elim (named refuse w h result v (λ i c. MatchOption (port_of c port) ((result ≡ Err (refuse errors.BadPortIndex)) × (v ≡ w)) (Then i c)) s) [
  | inl e ↦ stays w v e.1
  | inr (i, c, e, g, t) ↦ at_port_of refuse w result v (port_of c port) (Then i c) t (λ p r. f i c p g r)
]

supplies_stay : (w : World) (h : Handle) (port : ℕ) (result : Result Acted CallError) (v : World) → Supply w h port result v → PartsStay w v
supplies_stay w h port result v s = on_port_stay Omx w h port result v (λ i c p. Acts (supply_idle (look w) c p) result w (with_supplied p w) v) s
    (λ i c p g r. acts_stay (supply_idle (look w) c p) result w (with_supplied p w) v r (stay_same w (with_supplied p w) refl refl))

unmade_stay : (ns : List ℕ) (w : World) → PartsStay w (front_unmade ns w)
unmade_stay [] w = stay_same w w refl refl
unmade_stay (n ∷ ns) w = stay_same w (front_unmade (n ∷ ns) w) refl refl

releases_stay : (w : World) (h : Handle) (port : ℕ) (result : Result Acted OmxError) (v : World) → Release w h port result v → PartsStay w v
releases_stay w h port result v s = on_port_stay plain w h port result v (λ i c p. Acts (release_idle (look w) c p) result w (front_unmade (in_port (seen w.headers) p) w) v) s
    (λ i c p g r. acts_stay (release_idle (look w) c p) result w (front_unmade (in_port (seen w.headers) p) w) v r (unmade_stay (in_port (seen w.headers) p) w))

put_stay : (key : PortKey) (spot : Spot) (change : HeaderRecord → HeaderRecord) (ns : List ℕ) (w : World) → PartsStay w (front_put key spot change ns w)
put_stay key spot change [] w = stay_same w w refl refl
put_stay key spot change (n ∷ ns) w = stay_same w (front_put key spot change (n ∷ ns) w) refl refl

linked_stay : (o : Option Link) (ns : List ℕ) (w : World) → PartsStay w (at_link o (λ peer. front_put peer TodoBack unchanged ns) w)
linked_stay None ns w = stay_same w w refl refl
linked_stay (Some link) ns w = put_stay link.peer TodoBack unchanged ns w

overs_stay : (w : World) (h : Handle) (port : ℕ) (result : Result Acted OmxError) (v : World) → HandOver w h port result v → PartsStay w v
overs_stay w h port result v s = on_port_stay plain w h port result v (λ i c p. Acts (over_idle (look w) c p) result w (handed_over p w) v) s
    (λ i c p g r. acts_stay (over_idle (look w) c p) result w (handed_over p w) v r (linked_stay p.state.link ((seen w.headers).done p.key) w))

returned_stay : (supplier : PortKey) (is_input : Bool) (done todo : List ℕ) (w : World) → PartsStay w (returned supplier is_input done todo w)
returned_stay supplier is_input (n ∷ ns) todo w = stay_same w (returned supplier is_input (n ∷ ns) todo w) refl refl
returned_stay supplier is_input [] [] w = stay_same w (returned supplier is_input [] [] w) refl refl
returned_stay supplier is_input [] (n ∷ ns) w = stay_same w (returned supplier is_input [] (n ∷ ns) w) refl refl

noticed_stay : (i : ℕ) (c : Component) (p : Port) (ns : List ℕ) (w : World) → slice_get w.components i ≡ Some c → PartsStay w (front_noticed i c p ns w)
noticed_stay i c p [] w g = stay_same w (front_noticed i c p [] w) refl refl
noticed_stay i c p (n ∷ ns) w g =
    let note : Note = done_note (is_input_port p) n in
    stay_set w (front_noticed i c p (n ∷ ns) w) i c (noted note c) g refl refl (well_noted c note (done_note_well (is_input_port p) n))

back_stay : (i : ℕ) (c : Component) (p : Port) (o : Option Link) (w : World) → slice_get w.components i ≡ Some c → PartsStay w (handed_back i c p o w)
back_stay i c p None w g = noticed_stay i c p ((seen w.headers).todo p.key) w g
back_stay i c p (Some link) w g = returned_stay link.peer (is_input_port p) ((seen w.headers).done p.key) ((seen w.headers).todo p.key) w

backs_stay : (w : World) (h : Handle) (port : ℕ) (result : Result Acted OmxError) (v : World) → HandBack w h port result v → PartsStay w v
backs_stay w h port result v s = on_port_stay plain w h port result v (λ i c p. Acts (back_idle (look w) c p) result w (handed_back i c p p.state.link w) v) s
    (λ i c p g r. acts_stay (back_idle (look w) c p) result w (handed_back i c p p.state.link w) v r (back_stay i c p p.state.link w g))

claimed_stay : (o : Option Claimed) (i : ℕ) (c : Component) (w : World) (result : Result Claimed OmxError) (v : World) → slice_get w.components i ≡ Some c → Claims o i c w result v → PartsStay w v
claimed_stay (Some idle) i c w result v g h = stays w v h.1
claimed_stay None i c w result v g h = closed_stay w (with_work i c (work_of (seen w.headers) c) w) v (stay_set w (with_work i c (work_of (seen w.headers) c) w) i c (record c { work = Some (work_of (seen w.headers) c) }) g refl refl (well_beside c (record c { work = Some (work_of (seen w.headers) c) }) refl refl)) h.1

claims_stay : (w : World) (h : Handle) (result : Result Claimed OmxError) (v : World) → Claim w h result v → PartsStay w v
claims_stay w h result v s = elim (named plain w h result v (λ i c. Claims (claim_idle (look w) c) i c w result v) s) [
  | inl e ↦ stays w v e.1
  | inr (i, c, e, g, t) ↦ claimed_stay (claim_idle (look w) c) i c w result v g t
]

unheld_well : (o : Option Port) (c d : Component) → IsAsWell c d → IsAsWell c (unheld_at o d)
unheld_well None c d W = W
unheld_well (Some p) c d W = record { failed = W.failed; faults = W.faults }

value_well : (key : ParamKey) (value : Param) (c : Component) → IsAsWell c (with_value key value c)
value_well key value c =
    let d : Component = record c { settings = changed_by key.port value c.settings } in
    either (nat_eq key.index 1) (λ t. rw t (unheld_well (port_of c key.port) c d (well_beside c d refl refl))) (λ t. rw t (well_beside c d refl refl))

sets_stay : (w : World) (h : Handle) (key : ParamKey) (value : Param) (result : Result (Unit {0}) OmxError) (v : World) → SetParameter w h key value result v → PartsStay w v
sets_stay w h key value result v s = elim (named plain w h result v (λ i c. Answers (set_parameter_refusal (seen w.headers) c key value) result w v (λ _. ClosesTo (with_component i (with_value key value c) w) v)) s) [
  | inl e ↦ stays w v e.1
  | inr (i, c, e, g, t) ↦ answers_stay (set_parameter_refusal (seen w.headers) c key value) result w v (λ _. ClosesTo (with_component i (with_value key value c) w) v) t (λ y C. closed_stay w (with_component i (with_value key value c) w) v (stay_set w (with_component i (with_value key value c) w) i c (with_value key value c) g refl refl (value_well key value c)) C)
]

both_stay : (w v : World) (o q : Option Port) (A : Port → Port → Type 0) → ((a b : Port) → A a b → PartsStay w v) → BothPorts o q A → PartsStay w v
both_stay w v None q A f h = absurd h
both_stay w v (Some a) None A f h = absurd h
both_stay w v (Some a) (Some b) A f h = f a b h

drops_stay : (w : World) (o n : PortId) (result : Result (Unit {0}) OmxError) (v : World) → DropTunnel w o n result v → PartsStay w v
drops_stay w o n result v s = elim (named plain w o.handle result v (λ i c. Resolving plain w n.handle result v (λ j d. Answers (drop_refusal (seen w.headers) (port_of c o.index) (port_of d n.index)) result w v (λ _. BothPorts (port_of c o.index) (port_of d n.index) (λ a b. ClosesTo (both_parted i c a j d b w) v)))) s) [
  | inl e ↦ stays w v e.1
  | inr (i, c, e, g, t) ↦ elim (named plain w n.handle result v (λ j d. Answers (drop_refusal (seen w.headers) (port_of c o.index) (port_of d n.index)) result w v (λ _. BothPorts (port_of c o.index) (port_of d n.index) (λ a b. ClosesTo (both_parted i c a j d b w) v))) t) [
    | inl e2 ↦ stays w v e2.1
    | inr (j, d, e2, g2, t2) ↦ answers_stay (drop_refusal (seen w.headers) (port_of c o.index) (port_of d n.index)) result w v (λ _. BothPorts (port_of c o.index) (port_of d n.index) (λ a b. ClosesTo (both_parted i c a j d b w) v)) t2
        (λ y B. both_stay w v (port_of c o.index) (port_of d n.index) (λ a b. ClosesTo (both_parted i c a j d b w) v) (λ a b C. closed_stay w (both_parted i c a j d b w) v (stay_two w i j c d (parted a c) (parted b d) g g2 (well_beside c (parted a c) refl refl) (well_beside d (parted b d) refl refl)) C) B)
  ]
]

joins_stay : (w : World) (o n : PortId) (result : Result Supplier OmxError) (v : World) → SetupTunnel w o n result v → PartsStay w v
joins_stay w o n result v s = elim (named plain w o.handle result v (λ i c. Resolving plain w n.handle result v (λ j d. Answers (setup_refusal (seen w.headers) c d (port_of c o.index) (port_of d n.index)) result w v (λ supplier. BothPorts (port_of c o.index) (port_of d n.index) (λ a b. (supplier ≡ agreed_of a b) × ClosesTo (both_joined supplier i c a j d b w) v)))) s) [
  | inl e ↦ stays w v e.1
  | inr (i, c, e, g, t) ↦ elim (named plain w n.handle result v (λ j d. Answers (setup_refusal (seen w.headers) c d (port_of c o.index) (port_of d n.index)) result w v (λ supplier. BothPorts (port_of c o.index) (port_of d n.index) (λ a b. (supplier ≡ agreed_of a b) × ClosesTo (both_joined supplier i c a j d b w) v))) t) [
    | inl e2 ↦ stays w v e2.1
    | inr (j, d, e2, g2, t2) ↦ answers_stay (setup_refusal (seen w.headers) c d (port_of c o.index) (port_of d n.index)) result w v (λ supplier. BothPorts (port_of c o.index) (port_of d n.index) (λ a b. (supplier ≡ agreed_of a b) × ClosesTo (both_joined supplier i c a j d b w) v)) t2
        (λ y B. both_stay w v (port_of c o.index) (port_of d n.index) (λ a b. (y ≡ agreed_of a b) × ClosesTo (both_joined y i c a j d b w) v) (λ a b C. closed_stay w (both_joined y i c a j d b w) v (stay_two w i j c d (joined_to b y a c) (joined_to a y b d) g g2 (well_beside c (joined_to b y a c) refl refl) (well_beside d (joined_to a y b d) refl refl)) C.1) B)
  ]
]

-- ---- a work comes back

announced_well : (o : Option Port) (c d : Component) → IsAsWell c d → IsAsWell c (announced_at o d)
announced_well None c d W = W
announced_well (Some p) c d W =
    let held : Component = with_port p.key.port (record p.state { held = true }) d in
    let note : Note = notes.Told (PortSettingsChanged p.key.port) in
    either (same_format p.setting.definition.format (file_format d.file))
    (λ t. rw t W)
    (λ t. rw t (well_through c d (noted note held) W (well_through d held (noted note held) (well_beside d held refl refl) (well_noted held note refl))))

-- of a step without a fault no fault is told
stepped_well : (c : Component) (s : Stream) (done : WorkDone) → done.fault ≡ None → IsAsWell c (stepped_back c s done)
stepped_well c s done f = record {
  failed = ap (λ (o : Option PartFault). (part_by c s done o).failed) f;
  faults =
      let a = faults_append c.notes (notes_after c s done) in
      let b = step_faults c s done (fault_note done.fault) in
      let n : faults_in (fault_note done.fault) ≡ 0 = ap (λ (o : Option PartFault). faults_in (fault_note o)) f in
      omega (arith, a, b, n);
}

landed_failed : (i : ℕ) (c : Component) (done : WorkDone) (w : World) (o : Option Stream) → slice_get w.components i ≡ Some c → done.fault ≡ None → KeepsFailed w (changed_at o w (λ s. with_landed i c done s w))
landed_failed i c done w None g f = λ k d e. (d, e, refl, omega arith)
landed_failed i c done w (Some s) g f = failed_set w (with_landed i c done s w) i c (stepped_back c s done) g refl (stepped_well c s done f)

finished_failed : (i : ℕ) (c : Component) (done : WorkDone) (o : Option Work) (w : World) → slice_get w.components i ≡ Some c → done.fault ≡ None → KeepsFailed w (finished_by i c done o w)
finished_failed i c done None w g f = λ k d e. (d, e, refl, omega arith)
finished_failed i c done (Some work) w g f = either work.announces
    (λ t. rw t (failed_set w (with_component i (announced c) w) i c (announced c) g refl (announced_well (port_of c 0) c (record c { work = None }) (well_beside c (record c { work = None }) refl refl))))
    (λ t. rw t (landed_failed i c done w (stream_of (number_of c) w) g f))

-- without a fault: no part fails
pub finishes_keep : (w : World) (done : WorkDone) (v : World) → done.fault ≡ None → Meets w (acts.Finish done) → Finish w done v → KeepsFailed w v
finishes_keep w done v f m s =
    let b = back_of w done v m s in
    failed_through w (finished b.0 b.1 done w) v (finished_failed b.0 b.1 done (b.1).work w (b.3).there f) (closes_stay (finished b.0 b.1 done w) v b.4).failed

-- ---- notes

taken_well : (c : Component) → IsAsWell c (first_taken c)
taken_well c = record { failed = refl; faults = faults_drop 1 c.notes }

taken_stay : (w : World) (i : ℕ) (c : Component) (out : Bool) (o : Option Note) (result : Result Took OmxError) (v : World) → slice_get w.components i ≡ Some c → TakeFrom w i c out o result v → PartsStay w v
taken_stay w i c true o result v g h = stays w v h.1
taken_stay w i c false None result v g h = stays w v h.1
taken_stay w i c false (Some (notes.Told event)) result v g h = closed_stay w (with_given i c (notes.Told event) w) v (stay_set w (with_given i c (notes.Told event) w) i c (first_taken c) g refl refl (taken_well c)) h.1
taken_stay w i c false (Some (notes.EmptyDone number)) result v g h =
    let z = there_is (find_header number w.headers) _ h in
    closed_stay w (with_client number (with_given i c (notes.EmptyDone number) w)) v (stay_set w (with_client number (with_given i c (notes.EmptyDone number) w)) i c (first_taken c) g refl refl (taken_well c)) (z.2).1
taken_stay w i c false (Some (notes.FillDone number)) result v g h =
    let z = there_is (find_header number w.headers) _ h in
    closed_stay w (with_client number (with_given i c (notes.FillDone number) w)) v (stay_set w (with_client number (with_given i c (notes.FillDone number) w)) i c (first_taken c) g refl refl (taken_well c)) (z.2).1

pub takes_stay : (w : World) (h : Handle) (result : Result Took OmxError) (v : World) → TakeNote w h result v → PartsStay w v
takes_stay w h result v s = elim (named plain w h result v (λ i c. TakeFrom w i c c.client_out (slice_get c.notes 0) result v) s) [
  | inl e ↦ stays w v e.1
  | inr (i, c, e, g, t) ↦ taken_stay w i c c.client_out (slice_get c.notes 0) result v g t
]

pub ends_stay : (w : World) (h : Handle) (v : World) → EndNote w h v → PartsStay w v
ends_stay w h v s =
    let i = there_is (place_of h w.components) _ s in
    let c = there_is (slice_get w.components i.0) (λ c. ClosesTo (with_component i.0 (back_in c) w) v) i.2 in
    closed_stay w (with_component i.0 (back_in c.0) w) v (stay_set w (with_component i.0 (back_in c.0) w) i.0 c.0 (back_in c.0) c.1 refl refl (well_beside c.0 (back_in c.0) refl refl)) c.2

-- ---- all

pub beside_stay : (w : World) (a : Act) (r : Reply) (v : World) → IsBeside a → Step w a r v → PartsStay w v
beside_stay w a r v B s = each_beside w v (λ a r. PartsStay w v) (record {
  runs = λ h result t. runs_stay w h result v t;
  sends = λ h command result o t. sends_stay w h command result v t;
  supplies = λ h port result t. supplies_stay w h port result v t;
  releases = λ h port result t. releases_stay w h port result v t;
  overs = λ h port result t. overs_stay w h port result v t;
  backs = λ h port result t. backs_stay w h port result v t;
  claims = λ h result t. claims_stay w h result v t;
  sets = λ h key value result t. sets_stay w h key value result v t;
  drops = λ o n result t. drops_stay w o n result v t;
  joins = λ o n result t. joins_stay w o n result v t;
}) a r B s
