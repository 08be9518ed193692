-- The acts that make and free components, and those by which client objects go out and in.
use Rattle.std.proofs.Common.{◌≡◌, inl, inr, ℕ, ◌<◌, ◌∙◌, sym, ap, subst, refl, true, false, nat_eq, eq-eqb, ne_eqb, Option, Some, None, IfSome, IfOk, OnOk, OnErr, Result, Ok, Err, List, arith}
use Rattle.std.specs.Prelude.{option_and_then}
use Rattle.omx_types.specs.declared.handle.Handle.{Handle}
use Rattle.omx_types.specs.declared.error.OmxError.{OmxError}
use Rattle.omx_types.specs.declared.command.Note.{Note}
use Rattle.omx_types.specs.declared.command.Note.TheVariants as notes
use Rattle.omx_types.specs.declared.command.Event.TheVariants as events
use Rattle.omx_types.specs.declared.command.Completion.TheVariants as completions
use Rattle.omx_types.specs.declared.error.CallError.{CallError}
use Rattle.il_machine.specs.declared.answer.Progress.{Progress as Reached}
use Rattle.il_machine.specs.World.{World, same_handle}
use Rattle.il_machine.specs.Look.{look}
use Rattle.il_machine.specs.Answers.{component_named, AnswersOrMemory}
use Rattle.il_machine.specs.Components.{GetHandle, get_handle_refusal, progress_of, noted_by}
use Rattle.il_machine.specs.Whole.{Stands, Always, Steps}
use Rattle.il_machine.specs.Sound.{Sound}
use Rattle.il_machine.specs.Acts as acts
use Rattle.il_machine.specs.Notes.{TookNote}
use Rattle.il_machine.specs.Run.{Step, Meets}
use Rattle.note_queues.specs.declared.taken.Taken.{Taken}
use Rattle.note_queues.specs.declared.taken.Taken.TheVariants.{Told, EmptyDone, FillDone}
use Rattle.note_queues.specs.declared.taken.Took.{Took}
use Rattle.note_queues.specs.declared.taken.Took.TheVariants as tooks
use Rattle.note_queues.specs.Queues.{note_of, taken_of}
use Rattle.history_laws.specs.Given.{LeavesNotes, note_for}
use Rattle.history_laws.specs.Given as given
use Rattle.history_laws.proofs.GivenNotes.{progress_told}
use Rattle.graph_core.specs.Entries.{look_of, client_named, client_of}
use Rattle.il_graph.specs.Shown.{Shown, SoundWhole, kept}
use Rattle.graph_core.specs.Clients.{KeepsClients, KeepsAllClients, TakesClient, IsOut, WasTold, AreTold, IsPortDone}
use Rattle.il_graph.specs.HandedIn.{StayHandedIn, IsNoteHandedOut, IsTookHandedOut}
use Rattle.il_graph.specs.declared.freed.Freed.{Freed}
use Rattle.il_graph.specs.Stood.{plainly, with_record, tookly, IsTookDone}
use Rattle.machine_laws.proofs.Finding.{either}
use Rattle.machine_laws.proofs.Keys.{there_is, is_there}
use Rattle.graph_acts.specs.Holding.{header_in, took_header, took_client, IsGone}
use Rattle.graph_acts.specs.Moving.{MovesHeaders, MovesClients}
use Rattle.history_laws.proofs.Naming.{handle_is, handle_itself, named_below, named_one}
use Rattle.graph_acts.proofs.Worlds.{out_there}
use Rattle.graph_acts.proofs.Acts.{headers_stay, clients_stay}
use Rattle.graph_acts.proofs.HeaderActs.{same_headers, headers_given}

got_handle : (r : Option OmxError) (h : Handle) (w v : World) (P : Handle → Type 0) → AnswersOrMemory r (Ok h) w v P → P h
got_handle None h w v P a = a
got_handle (Some e) h w v P a = absurd cc

same_note : (t : Taken) → given.note_of (taken_of t) ≡ note_of t
same_note (Told event) = refl
same_note (EmptyDone header) = refl
same_note (FillDone header) = refl

-- of ports each event tells the end of a disable or an enable, if it tells a progress anything of them
noted_done : (note : Note) (p : Reached) → IsPortDone p.port → IsPortDone (noted_by note p).port
noted_done (notes.Told (events.CmdComplete (completions.State state))) p d = d
noted_done (notes.Told (events.CmdComplete (completions.Flush port))) p d = d
noted_done (notes.Told (events.CmdComplete (completions.Disable port))) p d = tt
noted_done (notes.Told (events.CmdComplete (completions.Enable port))) p d = tt
noted_done (notes.Told (events.CmdComplete (completions.Mark port))) p d = d
noted_done (notes.Told (events.Error error)) p d = d
noted_done (notes.Told (events.Mark value)) p d = d
noted_done (notes.Told (events.PortSettingsChanged port)) p d = d
noted_done (notes.Told (events.BufferFlag port flags)) p d = d
noted_done (notes.Told events.ResourcesAcquired) p d = d
noted_done (notes.EmptyDone number) p d = d
noted_done (notes.FillDone number) p d = d

module _ {C : Type 0} where
  client_is : (o : Option (Option C)) (c : C) → option_and_then (λ (client : Option C). client) o ≡ Some c → o ≡ Some (Some c)
  client_is None c e = absurd cc
  client_is (Some None) c e = absurd cc
  client_is (Some (Some d)) c e = ap (λ z. Some z) e

module _ {S K C : Type 0} where
  not_gone : (g : Shown S K C) (h : Handle) (c : C) → client_of h g.core ≡ Some c → IsGone g h → ⊥
  not_gone g h c e gone = let x : Some (Some c) ≡ Some None = sym (client_is (client_named h g.core) c e) ∙ gone in let y : Some c ≡ None = cc in absurd cc

  at_handle : (g : Shown S K C) (k h : Handle) → same_handle k h ≡ true → IsGone g k → IsGone g h
  at_handle g k h t gone = subst (IsGone g) (handle_is k h t) gone

  same_clients : (old new : Shown S K C) → new ≡ old → MovesClients None None old new
  same_clients old new e = clients_stay old new (λ k. ap (λ (g : Shown S K C). client_named k g.core) e)

  -- ---- get_handle

  -- the handle that is given named no component
  fresh_handle : (progress : C → Reached) (old new : Shown S K C) (name : List ℕ) (h : Handle) → SoundWhole (kept progress old) → ((k : Handle) → IsGone old k → IsOut k (look_of old.core))
      → Steps (kept progress old) (kept progress new) (λ w v. GetHandle w name (Ok h) v) → IsGone old h → ⊥
  fresh_handle progress old new name h W O S gone =
      let s = S W.world W.stands in
      let g = got_handle (get_handle_refusal (look W.world) name) h W.world s.0 _ s.2 in
      let c = out_there h (look W.world) (subst (IsOut h) (sym W.stands.looks) (O h gone)) in
      let b : h.generation < W.world.numbered = named_below W.world h c.0 W.sound c.1 in
      omega (arith, g.0, b)

  pub got_step : (progress : C → Reached) (old new : Shown S K C) (name same : List ℕ) (r : Result Handle CallError) → name ≡ same
      → Steps (kept progress old) (kept progress new) (λ w v. GetHandle w name r v) → Steps (kept progress old) (kept progress new) (λ w v. GetHandle w same r v)
  got_step progress old new name same r e S w s = let x = S w s in (x.0, x.1, subst (λ n. GetHandle w n r x.0) e x.2)

  pub got_fresh : (progress : C → Reached) (old new : Shown S K C) (name : List ℕ) (result : Result Handle (CallError × C)) → SoundWhole (kept progress old) → ((k : Handle) → IsGone old k → IsOut k (look_of old.core))
      → Steps (kept progress old) (kept progress new) (λ w v. GetHandle w name (plainly result) v) → IfOk result (λ h. IsGone old h → ⊥)
  got_fresh progress old new name (Ok h) W O S = fresh_handle progress old new name h W O S
  got_fresh progress old new name (Err x) W O S = tt

  pub got_clients : {E : Type 0} (result : Result Handle E) (client : C) (old new : Shown S K C) → IfOk result (λ h. IsGone old h → ⊥) → IfOk result (λ h. client_of h new.core ≡ Some client)
      → IfOk result (λ h. KeepsClients h old.core new.core) → OnErr result (KeepsAllClients old.core new.core) → MovesClients None None old new
  got_clients (Ok h) client old new fresh is K e = record {
    stay = λ x o out. (either (same_handle x.handle h) (λ t. absurd (fresh (at_handle old x.handle h t out.0))) (λ f. K x.handle f ∙ out.0), out.1);
    back = λ k gone. either (same_handle k h) (λ t. absurd (not_gone new h client is (at_handle new k h t gone))) (λ f. inl (sym (K k f) ∙ gone, tt));
    given = tt;
  }
  got_clients (Err x) client old new fresh is K e = clients_stay old new e

  -- ---- free_handle

  pub freed_clients : {E : Type 0} (h : Handle) (result : Result (Freed S K C) E) (old new : Shown S K C) → IfOk result (λ freed. client_of h old.core ≡ Some freed.client) → OnOk result (client_named h new.core ≡ None)
      → KeepsClients h old.core new.core → OnErr result (new ≡ old) → MovesClients None None old new
  freed_clients h (Ok freed) old new is none K e = record {
    stay = λ x o out. (either (same_handle x.handle h) (λ t. absurd (not_gone old h freed.client is (at_handle old x.handle h t out.0))) (λ f. K x.handle f ∙ out.0), out.1);
    back = λ k gone. either (same_handle k h) (λ t. let x : None ≡ Some None = sym none ∙ at_handle new k h t gone in absurd cc) (λ f. inl (sym (K k f) ∙ gone, tt));
    given = tt;
  }
  freed_clients h (Err x) old new is none K e = same_clients old new e

  -- a component whose client object is in, and one whose is out, have different numbers
  numbers_apart : (progress : C → Reached) (g : Shown S K C) (w : World) (h k : Handle) (client : C) → Stands (kept progress g) w → Sound w → AreTold progress g.core w → ((j : Handle) → IsGone g j → IsOut j (look_of g.core))
      → client_of h g.core ≡ Some client → IsGone g k → nat_eq h.generation k.generation ≡ false
  numbers_apart progress g w h k client S D T O is gone =
      let c = there_is (component_named h w.components) _ (T h client is) in
      let d = out_there k (look w) (subst (IsOut k) (sym S.looks) (O k gone)) in
      ne_eqb h.generation k.generation (λ e. let one : h ≡ k = named_one w h k c.0 d.0 D c.1 d.1 e in not_gone g h client is (subst (IsGone g) (sym one) gone))

  pub freed_leaves : (progress : C → Reached) (h : Handle) (result : Result (Freed S K C) OmxError) (g : Shown S K C) (k : Handle) (w : World) → Stands (kept progress g) w → Sound w → AreTold progress g.core w
      → ((j : Handle) → IsGone g j → IsOut j (look_of g.core)) → IfOk result (λ freed. client_of h g.core ≡ Some freed.client) → IsGone g k → LeavesNotes k.generation (acts.FreeHandle h) (acts.Removed (with_record result))
  freed_leaves progress h (Ok freed) g k w S D T O is gone = (refl, numbers_apart progress g w h k freed.client S D T O is gone)
  freed_leaves progress h (Err e) g k w S D T O is gone = (refl, refl)

  -- ---- take_note

  note_headers : (t : Taken) (old new : Shown S K C) → StayHandedIn (look_of old.core) (look_of new.core) → IsNoteHandedOut (look_of old.core) (look_of new.core) t → MovesHeaders None (header_in t) old new
  note_headers (Told event) old new S H = headers_stay old new (record { stay = S; come = H })
  note_headers (EmptyDone header) old new S H = headers_given {E = OmxError} (Ok header) old new S H tt
  note_headers (FillDone header) old new S H = headers_given {E = OmxError} (Ok header) old new S H tt

  pub took_headers : {E : Type 0} (result : Result (Took C) E) (old new : Shown S K C) → StayHandedIn (look_of old.core) (look_of new.core)
      → IfOk result (λ took. IsTookHandedOut (look_of old.core) (look_of new.core) took) → OnErr result (new ≡ old) → MovesHeaders None (took_header result) old new
  took_headers (Ok (tooks.Call call)) old new S H e = note_headers call.taken old new S H
  took_headers (Ok tooks.None) old new S H e = headers_stay old new (record { stay = S; come = H })
  took_headers (Ok tooks.Busy) old new S H e = headers_stay old new (record { stay = S; come = H })
  took_headers (Err x) old new S H e = same_headers old new e

  pub all_clients : (h : Handle) (old new : Shown S K C) → KeepsClients h old.core new.core → client_named h new.core ≡ client_named h old.core → KeepsAllClients old.core new.core
  all_clients h old new K e k = either (same_handle k h) (λ t. subst (λ j. client_named j new.core ≡ client_named j old.core) (sym (handle_is k h t)) e) (λ f. K k f)

  pub took_clients : {E : Type 0} (progress : C → Reached) (h : Handle) (result : Result (Took C) E) (old new : Shown S K C) → IfOk result (λ took. TakesClient h old.core took new.core) → IfOk result (λ took. IsTookDone progress took) → KeepsClients h old.core new.core
      → OnErr result (new ≡ old) → MovesClients None (took_client progress h result) old new
  took_clients progress h (Ok (tooks.Call call)) old new T D K e = record {
    stay = λ x o out. (either (same_handle x.handle h) (λ t. subst (IsGone new) (sym (handle_is x.handle h t)) T.1) (λ f. K x.handle f ∙ out.0), out.1);
    back = λ k gone. either (same_handle k h) (λ t. inr (sym (handle_is k h t))) (λ f. inl (sym (K k f) ∙ gone, tt));
    given = record { now = (T.1, noted_done (note_of call.taken) (progress call.client) D); other = λ y out is. not_gone old h call.client T.0 (subst (IsGone old) is out.0) };
  }
  took_clients progress h (Ok tooks.None) old new T D K e = clients_stay old new (all_clients h old new K T.1)
  took_clients progress h (Ok tooks.Busy) old new T D K e = clients_stay old new (all_clients h old new K (T.1 ∙ sym T.0))
  took_clients progress h (Err x) old new T D K e = same_clients old new e

  pub took_leaves : (progress : C → Reached) (h : Handle) (result : Result (Took C) OmxError) (g new : Shown S K C) (k : Handle) (w : World) → Stands (kept progress g) w → Sound w → AreTold progress g.core w
      → ((j : Handle) → IsGone g j → IsOut j (look_of g.core)) → IfOk result (λ took. TakesClient h g.core took new.core) → IsGone g k → LeavesNotes k.generation (acts.TakeNote h) (acts.Took (tookly result))
  took_leaves progress h (Ok (tooks.Call call)) g new k w S D T O is gone = (rw (numbers_apart progress g w h k call.client S D T O is.0 gone) refl, refl)
  took_leaves progress h (Ok tooks.None) g new k w S D T O is gone = (refl, refl)
  took_leaves progress h (Ok tooks.Busy) g new k w S D T O is gone = (refl, refl)
  took_leaves progress h (Err e) g new k w S D T O is gone = (refl, refl)

  pub took_told : (progress : C → Reached) (h : Handle) (result : Result (Took C) OmxError) (old new : Shown S K C) → Always (kept progress old) Sound → Always (kept progress old) (AreTold progress old.core)
      → ((j : Handle) → IsGone new j → IsOut j (look_of new.core)) → IfOk result (λ took. TakesClient h old.core took new.core)
      → IfSome (took_client progress h result) (λ x. (w v : World) → Stands (kept progress old) w → Stands (kept progress new) v → Meets w (acts.TakeNote h) → Step w (acts.TakeNote h) (acts.Took (tookly result)) v → WasTold x.handle x.progress v)
  took_told progress h (Ok (tooks.Call call)) old new D T N is = λ w v S V m s.
      let c = there_is (component_named h w.components) _ (T w S h call.client is.0) in
      let d = out_there h (look v) (subst (IsOut h) (sym V.looks) (N h is.1)) in
      let t = taken_of call.taken in
      let note : note_for h.generation (acts.TakeNote h) (acts.Took (Ok (TookNote t))) ≡ Some (given.note_of t) = rw (eq-eqb h.generation h.generation refl) refl in
      let p : progress_of d.0 v ≡ noted_by (given.note_of t) (progress_of c.0 w) = progress_told w (acts.TakeNote h) (acts.Took (Ok (TookNote t))) v h (given.note_of t) c.0 d.0 (D w S) m s note c.1 d.1 in
      is_there (component_named h v.components) _ d.0 d.1 (ap (noted_by (note_of call.taken)) c.2 ∙ (ap (λ n. noted_by n (progress_of c.0 w)) (sym (same_note call.taken)) ∙ sym p))
  took_told progress h (Ok tooks.None) old new D T N is = tt
  took_told progress h (Ok tooks.Busy) old new D T N is = tt
  took_told progress h (Err e) old new D T N is = tt

  -- ---- end_note

  pub ended_clients : (h : Handle) (client : C) (old new : Shown S K C) → client_of h new.core ≡ Some client → KeepsClients h old.core new.core → MovesClients (Some h) None old new
  ended_clients h client old new is K = record {
    stay = λ x o out. (either (same_handle x.handle h) (λ t. absurd (o (handle_is x.handle h t))) (λ f. K x.handle f ∙ out.0), out.1);
    back = λ k gone. either (same_handle k h) (λ t. absurd (not_gone new h client is (at_handle new k h t gone)))
        (λ f. inl (sym (K k f) ∙ gone, λ e. let t : same_handle k h ≡ true = subst (λ j. same_handle j h ≡ true) (sym e) (handle_itself h) in let x : true ≡ false = sym t ∙ f in absurd cc));
    given = tt;
  }
