-- Each step of a closed world leaves a closed one.
use Rattle.std.proofs.Common.{◌≡◌, ℕ, Bool, true, false, List, [], ◌∷◌, slice_get, Option, Some, None, Result, Ok, Err, MatchOption, refl, sym, subst}
use Rattle.std.specs.Prelude.{length}
use Rattle.omx_types.specs.declared.handle.Handle.{Handle}
use Rattle.omx_types.specs.declared.command.Note.{Note}
use Rattle.omx_types.specs.declared.command.Note.TheVariants.{Told, EmptyDone, FillDone}
use Rattle.omx_types.specs.declared.error.OmxError.{OmxError}
use Rattle.omx_types.specs.declared.error.OmxError.TheVariants as errors
use Rattle.omx_types.specs.declared.error.CallError.{CallError}
use Rattle.omx_types.specs.declared.error.CallError.TheVariants.{Omx}
use Rattle.il_machine.specs.declared.answer.Acted.{Acted}
use Rattle.il_machine.specs.declared.answer.Granted.{Granted}
use Rattle.il_machine.specs.declared.answer.Preempted.{Preempted}
use Rattle.il_machine.specs.declared.answer.Why.{Why}
use Rattle.il_machine.specs.declared.port.Port.{Port}
use Rattle.il_machine.specs.World.{Component, World, no_world, place_of, place_numbered, port_of, with_component}
use Rattle.il_machine.specs.Headers.{find_header}
use Rattle.il_machine.specs.Look.{look}
use Rattle.il_machine.specs.Kinds.{kind_of}
use Rattle.il_machine.specs.Due.{ClosesTo, IsClosed}
use Rattle.il_machine.specs.Answers.{plain, Resolving, Answers, AnswersAs, AnswersOrMemory, Acts, Looks}
use Rattle.il_machine.specs.Components.{get_handle_refusal, free_refusal, with_new_component, state_answer, view_answer, progress_answer}
use Rattle.il_machine.specs.Parameters.{set_parameter_refusal, set_config_refusal, parameter_answer}
use Rattle.il_machine.specs.Tunnels.{setup_refusal, drop_refusal}
use Rattle.il_machine.specs.Commands.{send_refusal, run_idle, run_front}
use Rattle.il_machine.specs.Buffers.{allocate_refusal, use_refusal, free_buffer_refusal, empty_refusal, fill_refusal}
use Rattle.il_machine.specs.Notes.{TakeFrom, Took}
use Rattle.il_machine.specs.Flow.{OnPort, supply_idle, release_idle, over_idle, back_idle, with_supplied, front_unmade, in_port, handed_over, handed_back}
use Rattle.il_machine.specs.Headers.{seen}
use Rattle.il_machine.specs.Units.{first_waiter, victim, grant_idle, preempt_idle, Grants, Preempts}
use Rattle.il_machine.specs.Files.{attach_refusal}
use Rattle.il_machine.specs.Claims.{Claimed, Claims, claim_idle}
use Rattle.il_machine.specs.Finishing.{finished}
use Rattle.il_machine.specs.Acts.{Act, Reply}
use Rattle.il_machine.specs.Acts as acts
use Rattle.il_machine.specs.Run.{Step, Run}
use Rattle.machine_laws.proofs.Keys.{there_is}

-- ---- the forms of an answer

stays : (w v : World) → v ≡ w → IsClosed w → IsClosed v
stays w v e C = subst IsClosed (sym e) C

module _ {T E : Type 0} (refuse : OmxError → E) (w v : World) (h : Handle) (result : Result T E) (C : IsClosed w) where
  at_place : (o : Option ℕ) (Refused : Type 0) (Then : ℕ → Component → Type 0) → MatchOption o (Refused × (v ≡ w)) (λ i. MatchOption (slice_get w.components i) ⊥ (λ c. Then i c))
      → ((i : ℕ) (c : Component) → Then i c → IsClosed v) → IsClosed v
  at_place None Refused Then a k = stays w v a.1 C
  at_place (Some i) Refused Then a k = let c = there_is (slice_get w.components i) (λ c. Then i c) a in k i c.0 c.2

  resolving : (Then : ℕ → Component → Type 0) → Resolving refuse w h result v Then → ((i : ℕ) (c : Component) → Then i c → IsClosed v) → IsClosed v
  resolving Then a k = at_place (place_of h w.components) (result ≡ Err (refuse errors.InvalidComponent)) Then a k

  at_the_port : (o : Option Port) (Refused : Type 0) (Then : Port → Type 0) → MatchOption o (Refused × (v ≡ w)) Then → ((p : Port) → Then p → IsClosed v) → IsClosed v
  at_the_port None Refused Then a k = stays w v a.1 C
  at_the_port (Some p) Refused Then a k = k p a

  on_port : (port : ℕ) (Then : ℕ → Component → Port → Type 0) → OnPort refuse w h port result v Then → ((i : ℕ) (c : Component) (p : Port) → Then i c p → IsClosed v) → IsClosed v
  on_port port Then a k = resolving (λ i c. MatchOption (port_of c port) ((result ≡ Err (refuse errors.BadPortIndex)) × (v ≡ w)) (λ p. Then i c p)) a
      (λ i c b. at_the_port (port_of c port) (result ≡ Err (refuse errors.BadPortIndex)) (λ p. Then i c p) b (λ p x. k i c p x))

answers_as : {T E : Type 0} (refuse : OmxError → E) (o : Option OmxError) (result : Result T E) (w v : World) (Accepted : T → Type 0) → AnswersAs refuse o result w v Accepted → IsClosed w → ((x : T) → Accepted x → IsClosed v) → IsClosed v
answers_as refuse (Some error) result w v Accepted a C k = stays w v a.1 C
answers_as refuse None (Ok x) w v Accepted a C k = k x a
answers_as refuse None (Err error) w v Accepted a C k = absurd a

answers : {T : Type 0} (o : Option OmxError) (result : Result T OmxError) (w v : World) (Accepted : T → Type 0) → Answers o result w v Accepted → IsClosed w → ((x : T) → Accepted x → IsClosed v) → IsClosed v
answers o result w v Accepted a C k = answers_as plain o result w v Accepted a C k

answers_or_memory : {T : Type 0} (o : Option OmxError) (result : Result T CallError) (w v : World) (Accepted : T → Type 0) → AnswersOrMemory o result w v Accepted → IsClosed w → ((x : T) → Accepted x → IsClosed v) → IsClosed v
answers_or_memory (Some error) result w v Accepted a C k = stays w v a.1 C
answers_or_memory None (Ok x) w v Accepted a C k = k x a
answers_or_memory None (Err error) w v Accepted a C k = stays w v a.1 C

acts_close : {E : Type 0} (o : Option Why) (result : Result Acted E) (w after v : World) → Acts o result w after v → IsClosed w → IsClosed v
acts_close (Some reason) result w after v a C = stays w v a.1 C
acts_close None result w after v a C = (a.1).closed

looks : {T : Type 0} (answer result : Result T OmxError) (w v : World) → Looks answer result w v → IsClosed w → IsClosed v
looks (Ok x) result w v a C = (a.1).closed
looks (Err error) result w v a C = stays w v a.1 C

-- ---- grant and preempt

grants_close : (w v : World) (idle : Option Why) (waiter : Option Component) (answer : Granted) → Grants idle waiter w answer v → IsClosed w → IsClosed v
grants_close w v (Some reason) waiter answer G C = stays w v G.1 C
grants_close w v None None answer G C = absurd G
grants_close w v None (Some c) answer G C = (G.1).closed

preempts_close : (w v : World) (idle : Option Why) (weak : Option Component) (answer : Preempted) → Preempts idle weak w answer v → IsClosed w → IsClosed v
preempts_close w v (Some reason) weak answer G C = stays w v G.1 C
preempts_close w v None None answer G C = absurd G
preempts_close w v None (Some c) answer G C = (G.1).closed

-- ---- claim

claims_close : (w v : World) (i : ℕ) (c : Component) (idle : Option Claimed) (result : Result Claimed OmxError) → Claims idle i c w result v → IsClosed w → IsClosed v
claims_close w v i c (Some idle) result a C = stays w v a.1 C
claims_close w v i c None result a C = (a.1).closed

-- ---- take_note

take_from : (w v : World) (i : ℕ) (c : Component) (busy : Bool) (oldest : Option Note) (result : Result Took OmxError) → TakeFrom w i c busy oldest result v → IsClosed w → IsClosed v
take_from w v i c true oldest result a C = stays w v a.1 C
take_from w v i c false None result a C = stays w v a.1 C
take_from w v i c false (Some (Told event)) result a C = (a.1).closed
take_from w v i c false (Some (EmptyDone n)) result a C = let r = there_is (find_header n w.headers) _ a in ((r.2).1).closed
take_from w v i c false (Some (FillDone n)) result a C = let r = there_is (find_header n w.headers) _ a in ((r.2).1).closed

-- ---- all

pub step_closed : (w : World) (a : Act) (r : Reply) (v : World) → IsClosed w → Step w a r v → IsClosed v
step_closed w (acts.GetHandle name) (acts.Got result) v C s = answers_or_memory (get_handle_refusal (look w) name) result w v _ s C (λ h x.
    let k = there_is (kind_of name) (λ kind. ClosesTo (with_new_component h kind w) v) x.2 in (k.2).closed)
step_closed w (acts.FreeHandle h) (acts.Removed result) v C s = resolving plain w v h result C _ s (λ i c a.
    answers (free_refusal (look w).headers c) result w v _ a C (λ x b. (b.1).closed))
step_closed w (acts.Attach h file) (acts.Plain result) v C s = resolving plain w v h result C _ s (λ i c a.
    answers (attach_refusal c file) result w v _ a C (λ x b. b.closed))
step_closed w (acts.GetState h) (acts.Stated result) v C s = looks (state_answer h (look w)) result w v s C
step_closed w (acts.PortView h port) (acts.Viewed result) v C s = looks (view_answer h port (look w)) result w v s C
step_closed w (acts.Progress h) (acts.Progressed result) v C s = looks (progress_answer h w) result w v s C
step_closed w (acts.GetParameter h key) (acts.Parameter result) v C s = looks (parameter_answer h key false (look w)) result w v s C
step_closed w (acts.GetConfig h key) (acts.Parameter result) v C s = looks (parameter_answer h key true (look w)) result w v s C
step_closed w (acts.SetParameter h key value) (acts.Plain result) v C s = resolving plain w v h result C _ s (λ i c a.
    answers (set_parameter_refusal (look w).headers c key value) result w v _ a C (λ x b. b.closed))
step_closed w (acts.SetConfig h key value) (acts.Plain result) v C s = resolving plain w v h result C _ s (λ i c a.
    answers (set_config_refusal c key value) result w v _ a C (λ x b. b.closed))
step_closed w (acts.SetupTunnel output input) (acts.Joined result) v C s = resolving plain w v output.handle result C _ s (λ i c a. resolving plain w v input.handle result C _ a (λ j d b.
    answers (setup_refusal (look w).headers c d (port_of c output.index) (port_of d input.index)) result w v _ b C (λ x y.
    let p = there_is (port_of c output.index) _ y in
    let q = there_is (port_of d input.index) _ p.2 in
    ((q.2).1).closed)))
step_closed w (acts.DropTunnel output input) (acts.Plain result) v C s = resolving plain w v output.handle result C _ s (λ i c a. resolving plain w v input.handle result C _ a (λ j d b.
    answers (drop_refusal (look w).headers (port_of c output.index) (port_of d input.index)) result w v _ b C (λ x y.
    let p = there_is (port_of c output.index) _ y in
    let q = there_is (port_of d input.index) _ p.2 in
    (q.2).closed)))
step_closed w (acts.SendCommand h command) (acts.Plain result) v C s = resolving plain w v h result C _ s (λ i c a.
    answers (send_refusal (look w) c command) result w v _ a C (λ x b. b.closed))
step_closed w (acts.RunCommand h) (acts.Acted result) v C s = resolving plain w v h result C _ s (λ i c a.
    acts_close (run_idle c c.commands) result w (with_component i (run_front (look w) c.commands c) w) v a C)
step_closed w (acts.AllocateBuffer h port) (acts.Allocated result) v C s = resolving Omx w v h result C _ s (λ i c a.
    answers_as Omx (allocate_refusal (look w) c (port_of c port)) result w v _ a C (λ x b. let p = there_is (port_of c port) _ b in ((p.2).1).closed))
step_closed w (acts.UseBuffer h port bytes) (acts.Used result) v C s = resolving plain w v h result C _ s (λ i c a.
    answers (use_refusal (look w) c (port_of c port) (length bytes)) result w v _ a C (λ x b. let p = there_is (port_of c port) _ b in ((p.2).1).closed))
step_closed w (acts.FreeBuffer h port header) (acts.Freed result) v C s = resolving plain w v h result C _ s (λ i c a.
    let t = there_is ((look w).headers.header header) _ a in
    answers (free_buffer_refusal c (port_of c port) t.0) result w v _ t.2 C (λ x b. let p = there_is (port_of c port) _ b in ((p.2).1).closed))
step_closed w (acts.EmptyThisBuffer h port header) (acts.Plain result) v C s = resolving plain w v h result C _ s (λ i c a.
    let t = there_is ((look w).headers.header header.number) _ a in
    answers (empty_refusal c (port_of c port) t.0 header.content) result w v _ t.2 C (λ x b. let p = there_is (port_of c port) _ b in (p.2).closed))
step_closed w (acts.FillThisBuffer h port header) (acts.Plain result) v C s = resolving plain w v h result C _ s (λ i c a.
    let t = there_is ((look w).headers.header header.number) _ a in
    answers (fill_refusal c (port_of c port) t.0) result w v _ t.2 C (λ x b. let p = there_is (port_of c port) _ b in (p.2).closed))
step_closed w (acts.TakeNote h) (acts.Took result) v C s = resolving plain w v h result C _ s (λ i c a. take_from w v i c c.client_out (slice_get c.notes 0) result a C)
step_closed w (acts.EndNote h progress) acts.Ended v C s =
    let i = there_is (place_of h w.components) _ s in
    let c = there_is (slice_get w.components i.0) _ i.2 in
    (c.2).closed
step_closed w (acts.Supply h port) (acts.Supplied result) v C s = on_port Omx w v h result C port _ s (λ i c p a. acts_close (supply_idle (look w) c p) result w (with_supplied p w) v a C)
step_closed w (acts.Release h port) (acts.Acted result) v C s = on_port plain w v h result C port _ s (λ i c p a.
    acts_close (release_idle (look w) c p) result w (front_unmade (in_port (seen w.headers) p) w) v a C)
step_closed w (acts.HandOver h port) (acts.Acted result) v C s = on_port plain w v h result C port _ s (λ i c p a. acts_close (over_idle (look w) c p) result w (handed_over p w) v a C)
step_closed w (acts.HandBack h port) (acts.Acted result) v C s = on_port plain w v h result C port _ s (λ i c p a.
    acts_close (back_idle (look w) c p) result w (handed_back i c p p.state.link w) v a C)
step_closed w acts.Grant (acts.Granted answer) v C s = grants_close w v (grant_idle (look w)) (first_waiter w.components) answer s C
step_closed w acts.Preempt (acts.Preempted answer) v C s = preempts_close w v (preempt_idle (look w)) (victim w.components) answer s C
step_closed w (acts.Claim h) (acts.Claimed result) v C s = resolving plain w v h result C _ s (λ i c a. claims_close w v i c (claim_idle (look w) c) result a C)
step_closed w (acts.Finish done) acts.Finished v C s =
    let i = there_is (place_numbered done.component w.components) _ s in
    let c = there_is (slice_get w.components i.0) (λ c. ClosesTo (finished i.0 c done w) v) i.2 in
    (c.2).closed
step_closed w _ _ v C s = absurd s

closed_from : (w v : World) (xs : List (Act × Reply)) → IsClosed w → Run w xs v → IsClosed v
closed_from w v [] C e = stays w v e C
closed_from w v (x ∷ xs) C (mid, M, s, more) = closed_from mid v xs (step_closed w x.0 x.1 mid C s) more

pub runs_closed : (key units : ℕ) (xs : List (Act × Reply)) (v : World) → Run (no_world key units) xs v → IsClosed v
runs_closed key units xs v h = closed_from (no_world key units) v xs refl h
