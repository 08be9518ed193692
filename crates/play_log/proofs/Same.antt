-- A log's lines name one list of entries.
use Rattle.std.proofs.Common.{◌≡◌, ◌≢◌, ℕ, Bool, true, false, List, [], ◌∷◌, Option, Some, None, Ok, Err, MatchOption, All, find, refl, sym, ap, ◌∙◌, subst}
use Rattle.std.specs.Prelude.{MatchBool, map}
use Rattle.std.proofs.lemmas.List.Elements.{All-head, All-tail}
use Rattle.omx_types.specs.declared.command.Command.TheVariants.{StateSet, Flush, PortDisable, PortEnable, MarkBuffer}
use Rattle.omx_types.specs.declared.error.CallError.TheVariants.{OutOfMemory}
use Rattle.omx_types.specs.declared.handle.Handle.{Handle}
use Rattle.omx_types.specs.declared.param.Param.TheVariants as params
use Rattle.part_api.specs.Terms.{Terms}
use Rattle.part_forms.specs.Kinds.{is_input, is_source}
use Rattle.il_machine.specs.declared.answer.Progress.{Progress}
use Rattle.il_machine.specs.World.{Component, Stream, Work, World, component_numbered, is_stream_of, stream_of}
use Rattle.il_machine.specs.Answers.{component_named}
use Rattle.il_machine.specs.Claims.{CarriedHeader, carried, terms_in}
use Rattle.il_machine.specs.Components.{progress_of}
use Rattle.il_machine.specs.Stepping.{IsDoneBy, IsDoneOf, IsStep, IsStepBy, IsTold, IsWholeStep, WorkDone, incoming, inputs_ended, is_over, step_frames, stepped}
use Rattle.il_machine.specs.Acts.{Act, Reply}
use Rattle.il_machine.specs.Acts as acts
use Rattle.il_machine.specs.Run.{Meets, Step}
use Rattle.il_machine.specs.Sound.{Sound}
use Rattle.machine_laws.proofs.Finding.{either}
use Rattle.machine_laws.proofs.Steps.{sound_step}
use Rattle.history_laws.specs.Determined.{AreAlike, Equal, FirstWants, SecondWants, GotBoth, WantsMemory}
use Rattle.history_laws.proofs.DeterminedLaw.{steps_alike}
use Rattle.act_text.specs.declared.act.TextAct.{TextAct}
use Rattle.act_text.specs.declared.act.TextAct.TheVariants as lines
use Rattle.act_text.specs.declared.reply.TextReply.{TextReply}
use Rattle.script_lang.specs.declared.play_line.PartLine.{PartLine}
use Rattle.play_forms.specs.Parts.{kind_of}
use Rattle.play_log.specs.Entries.{Entry}
use Rattle.play_log.specs.Lines.{LogLine}
use Rattle.play_log.specs.Naming.{AreTelling, IsTelling, IsUnbroken, NameAll}
use Rattle.play_log.specs.Saying.{Of, SaysAct, SaysReply, key, port_at}
use Rattle.play_log.specs.Scenes.{Scene, HaveOwnNames}
use Rattle.play_log.proofs.Players.{act_alike, some_same}
use Rattle.play_log.proofs.Telling.{BringsNone, tells_on}

-- ---- a work that comes back from a step without a fault

find_all : (P : Stream → Type 0) (test : Stream → Bool) (xs : List Stream) (x : Stream) → All P xs → find test xs ≡ Some x → P x
find_all P test [] x A e = absurd cc
find_all P test (y ∷ ys) x A e = either (test y)
    (λ t. let s : Some y ≡ Some x = rw t at e in subst P (some_same y x s) (All-head P y ys A))
    (λ f. let s : find test ys ≡ Some x = rw f at e in find_all P test ys x (All-tail P y ys A) s)

piece_same : (reads : Bool) (known : Option (List ℕ)) (place count : ℕ) (p q : List ℕ) → known ≢ None
    → MatchBool reads (IsTold known place count p) (p ≡ []) → MatchBool reads (IsTold known place count q) (q ≡ []) → p ≡ q
piece_same true None place count p q n a b = absurd (n refl)
piece_same true (Some bytes) place count p q n a b = a.1 ∙ sym b.1
piece_same false known place count p q n a b = a ∙ sym b

module _ (w : World) (T : AreTelling w) (done back : WorkDone) (number : done.component ≡ back.component) (whole : done.fault ≡ None) (other : back.fault ≡ None) where
  whole_same : (t : Terms) (s : Stream) (headers : List CarriedHeader) → IsTelling s → IsWholeStep t s headers done → IsWholeStep t s headers back → done ≡ back
  whole_same t s headers tells x y =
      let frames = step_frames t s headers in
      let over = is_over t s frames (inputs_ended t frames headers) in
      let piece : x.0 ≡ y.0 = piece_same (is_source t.kind) s.known _ _ x.0 y.0 tells x.1 y.1 in
      let frames_are : done.frames ≡ back.frames = x.2 ∙ sym y.2 in
      let fault : done.fault ≡ back.fault = whole ∙ sym other in
      let headers_are : done.headers ≡ back.headers = x.3 ∙ ap (λ (p : List ℕ). map (stepped t frames (incoming t frames headers p) over) headers) piece ∙ sym y.3 in
      let took : done.took ≡ back.took = x.4 ∙ sym y.4 in
      λ i. record { component = number i; frames = frames_are i; fault = fault i; headers = headers_are i; took = took i }

  step_same : (t : Terms) (s : Stream) (headers : List CarriedHeader) → IsTelling s → IsStep t s headers done → IsStep t s headers back → done ≡ back
  step_same t s headers tells x y =
      whole_same t s headers tells (subst (λ f. IsStepBy f t s headers done) whole x) (subst (λ f. IsStepBy f t s headers back) other y)

  stream_same : (t : Terms) (headers : List CarriedHeader) (o : Option Stream) → ((s : Stream) → o ≡ Some s → IsTelling s)
      → MatchOption o ⊥ (λ s. IsStep t s headers done) → MatchOption o ⊥ (λ s. IsStep t s headers back) → done ≡ back
  stream_same t headers None tells x y = absurd x
  stream_same t headers (Some s) tells x y = step_same t s headers (tells s refl) x y

  by_kind : (c : Component) (work : Work) (announces : Bool) → IsDoneBy announces w c work done → IsDoneBy announces w c work back → done ≡ back
  by_kind c work true x y =
      let frames : done.frames ≡ back.frames = x.0 ∙ sym y.0 in
      let fault : done.fault ≡ back.fault = x.1 ∙ sym y.1 in
      let headers : done.headers ≡ back.headers = x.2 ∙ sym y.2 in
      let took : done.took ≡ back.took = x.3 ∙ sym y.3 in
      λ i. record { component = number i; frames = frames i; fault = fault i; headers = headers i; took = took i }
  by_kind c work false x y =
      let t = terms_in c work in
      let headers = carried w.headers work.headers in
      stream_same t headers (stream_of done.component w) (λ s e. find_all IsTelling (is_stream_of done.component) w.streams s T e) x
      (subst (λ (k : ℕ). MatchOption (stream_of k w) ⊥ (λ s. IsStep t s headers back)) (sym number) y)

  by_work : (c : Component) (o : Option Work) → MatchOption o ⊥ (λ work. IsDoneOf w c work done) → MatchOption o ⊥ (λ work. IsDoneOf w c work back) → done ≡ back
  by_work c None x y = absurd x
  by_work c (Some work) x y = by_kind c work work.announces x y

  by_component : (o : Option Component) → MatchOption o ⊥ (λ c. MatchOption c.work ⊥ (λ work. IsDoneOf w c work done))
      → MatchOption o ⊥ (λ c. MatchOption c.work ⊥ (λ work. IsDoneOf w c work back)) → done ≡ back
  by_component None x y = absurd x
  by_component (Some c) x y = by_work c c.work x y

  done_same : Meets w (acts.Finish done) → Meets w (acts.Finish back) → done ≡ back
  done_same x y =
      by_component (component_numbered done.component w) x
      (subst (λ (k : ℕ). MatchOption (component_numbered k w) ⊥ (λ c. MatchOption c.work ⊥ (λ work. IsDoneOf w c work back))) (sym number) y)

-- ---- a client object that goes back

progress_same : (w : World) (one other : Progress) (o : Option Component) → MatchOption o ⊥ (λ c. (c.client_out ≡ true) × (one ≡ progress_of c w))
    → MatchOption o ⊥ (λ c. (c.client_out ≡ true) × (other ≡ progress_of c w)) → one ≡ other
progress_same w one other None x y = absurd x
progress_same w one other (Some c) x y = x.1 ∙ sym y.1

-- ---- acts and replies

act_same : (s : Scene) → HaveOwnNames s.parts → (w : World) → AreTelling w → (t : TextAct) (a b : Act) → SaysAct s t a → SaysAct s t b → Meets w a → Meets w b → IsUnbroken a → IsUnbroken b → a ≡ b
act_same s own w T t a b x y M N F G = act_alike s own t a b x y
    (λ h done back p q e f.
    let one : Meets w (acts.Finish done) = subst (λ z. Meets w z) e M in
    let other : Meets w (acts.Finish back) = subst (λ z. Meets w z) f N in
    let whole : done.fault ≡ None = subst IsUnbroken e F in
    let whole_too : back.fault ≡ None = subst IsUnbroken f G in
    e ∙ ap (λ (d : WorkDone). acts.Finish d) (done_same w T done back (p ∙ sym q) whole whole_too one other) ∙ sym f)
    (λ h one other e f.
    let x = subst (λ z. Meets w z) e M in
    let y = subst (λ z. Meets w z) f N in
    e ∙ ap (λ (p : Progress). acts.EndNote h p) (progress_same w one other (component_named h w.components) x y) ∙ sym f)

got_unsaid : (s : Scene) (said : TextReply) (a : Act) (r : Reply) → WantsMemory r → SaysReply s said a r → ⊥
got_unsaid s said a (acts.Got (Err OutOfMemory)) W x = absurd cc
got_unsaid s said a _ W x = absurd W

handle_unsaid : (s : Scene) (said : TextReply) (a : Act) (r : Reply) (h : Handle) → r ≡ acts.Got (Ok h) → SaysReply s said a r → ⊥
handle_unsaid s said a r h e x = let y : None ≡ Some said = subst (λ z. SaysReply s said a z) e x in absurd cc

alike_same : (s : Scene) (said : TextReply) (a : Act) (w : World) (r : Reply) (u : World) (q : Reply) (v : World) → AreAlike w r u q v → SaysReply s said a r → SaysReply s said a q → (q ≡ r) × (v ≡ u)
alike_same s said a w r u q v (Equal e f) x y = (e, f)
alike_same s said a w r u q v (FirstWants W e) x y = absurd (got_unsaid s said a r W x)
alike_same s said a w r u q v (SecondWants W e) x y = absurd (got_unsaid s said a q W y)
alike_same s said a w r u q v (GotBoth G) x y = absurd (handle_unsaid s said a r G.first G.one x)

-- ---- an act that a line says brings no file and no component

brings : (s : Scene) (name : List ℕ) (a : Act) (f : PartLine → Handle → Act) → ((part : PartLine) (h : Handle) → BringsNone (f part h)) → Of s name (λ part h. a ≡ f part h) → BringsNone a
brings s name a f k x = subst BringsNone (sym x.4) (k x.1 x.2)

brings_two : (s : Scene) (name other : List ℕ) (a : Act) (f : Handle → Handle → Act) → ((h k : Handle) → BringsNone (f h k)) → Of s name (λ part h. Of s other (λ part k. a ≡ f h k)) → BringsNone a
brings_two s name other a f k x = brings s other a (λ part j. f x.2 j) (λ part j. k x.2 j) x.4

pub said_brings : (s : Scene) (t : TextAct) (a : Act) → SaysAct s t a → BringsNone a
said_brings s (lines.Free c) a x = brings s c a (λ part h. acts.FreeHandle h) (λ part h. tt) x
said_brings s (lines.State c) a x = brings s c a (λ part h. acts.GetState h) (λ part h. tt) x
said_brings s (lines.Port p) a x = brings s p.component a (λ part h. acts.PortView h p.index) (λ part h. tt) x
said_brings s (lines.SetPort p format count size) a x = brings s p.component a (λ part h.
    acts.SetParameter h (key 1 p.index) (params.Port (record { input = is_input (kind_of part.form) p.index; format = format; count = count; size = size }))) (λ part h. tt) x
said_brings s (lines.SetSupplier p supplier) a x = brings s p.component a (λ part h. acts.SetParameter h (key 2 p.index) (params.Supplier supplier)) (λ part h. tt) x
said_brings s (lines.SetPriority c n) a x = brings s c a (λ part h. acts.SetParameter h (key 3 0) (params.Priority n)) (λ part h. tt) x
said_brings s (lines.Gain c n) a x = brings s c a (λ part h. acts.SetConfig h (key 4 0) (params.Gain n)) (λ part h. tt) x
said_brings s (lines.Weight p n) a x = brings s p.component a (λ part h. acts.SetConfig h (key 5 p.index) (params.Weight n)) (λ part h. tt) x
said_brings s (lines.Tunnel p q) a x = brings_two s p.component q.component a (λ h k. acts.SetupTunnel (port_at h p.index) (port_at k q.index)) (λ h k. tt) x
said_brings s (lines.DropTunnel p q) a x = brings_two s p.component q.component a (λ h k. acts.DropTunnel (port_at h p.index) (port_at k q.index)) (λ h k. tt) x
said_brings s (lines.SendState c state) a x = brings s c a (λ part h. acts.SendCommand h (StateSet state)) (λ part h. tt) x
said_brings s (lines.SendFlush c ports) a x = brings s c a (λ part h. acts.SendCommand h (Flush ports)) (λ part h. tt) x
said_brings s (lines.SendDisable c ports) a x = brings s c a (λ part h. acts.SendCommand h (PortDisable ports)) (λ part h. tt) x
said_brings s (lines.SendEnable c ports) a x = brings s c a (λ part h. acts.SendCommand h (PortEnable ports)) (λ part h. tt) x
said_brings s (lines.SendMark c port target value) a x = brings_two s c target a (λ h k. acts.SendCommand h (MarkBuffer port k value)) (λ h k. tt) x
said_brings s (lines.Run c) a x = brings s c a (λ part h. acts.RunCommand h) (λ part h. tt) x
said_brings s (lines.Claim c) a x = brings s c a (λ part h. acts.Claim h) (λ part h. tt) x
said_brings s (lines.Finish c) a x = subst BringsNone (sym (x.4).2) tt
said_brings s (lines.Supply p) a x = brings s p.component a (λ part h. acts.Supply h p.index) (λ part h. tt) x
said_brings s (lines.Release p) a x = brings s p.component a (λ part h. acts.Release h p.index) (λ part h. tt) x
said_brings s (lines.Over p) a x = brings s p.component a (λ part h. acts.HandOver h p.index) (λ part h. tt) x
said_brings s (lines.Back p) a x = brings s p.component a (λ part h. acts.HandBack h p.index) (λ part h. tt) x
said_brings s (lines.Take c) a x = brings s c a (λ part h. acts.TakeNote h) (λ part h. tt) x
said_brings s (lines.End c) a x = subst BringsNone (sym (x.4).1) tt
said_brings s lines.Grant a x = subst BringsNone (sym x) tt
said_brings s lines.Preempt a x = subst BringsNone (sym x) tt

-- ---- all lines

pub names_same : (s : Scene) → HaveOwnNames s.parts → (lines : List LogLine) (w : World) (es fs : List Entry) (v u : World) → Sound w → AreTelling w → NameAll s w lines es v → NameAll s w lines fs u → (fs ≡ es) × (u ≡ v)
names_same s own [] w [] [] v u S T N M = (refl, M ∙ sym N)
names_same s own [] w [] (f ∷ fs) v u S T N M = absurd M
names_same s own [] w (e ∷ es) fs v u S T N M = absurd N
names_same s own (line ∷ lines) w [] fs v u S T N M = absurd N
names_same s own (line ∷ lines) w (e ∷ es) [] v u S T N M = absurd M
names_same s own (line ∷ lines) w (e ∷ es) (f ∷ fs) v u S T N M =
    let x = N.0 in
    let y = M.0 in
    let next = (N.1).0 in
    let said = line.said in
    let act : e.act ≡ f.act = act_same s own w T said.act e.act f.act (x.says).act (y.says).act x.meets y.meets x.unbroken y.unbroken in
    let step : Step w e.act f.reply (M.1).0 = subst (λ (a : Act). Step w a f.reply (M.1).0) (sym act) (M.1).1 in
    let reply : SaysReply s said.reply e.act f.reply = subst (λ (a : Act). SaysReply s said.reply a f.reply) (sym act) (y.says).reply in
    let same = alike_same s said.reply e.act w e.reply next f.reply (M.1).0 (steps_alike w e.act e.reply next f.reply (M.1).0 (N.1).1 step) (x.says).reply reply in
    let behind : NameAll s next lines fs u = subst (λ (m : World). NameAll s m lines fs u) same.1 (M.1).2 in
    let tells = tells_on w e.act e.reply next S (said_brings s said.act e.act (x.says).act) T x.meets (N.1).1 in
    let rest = names_same s own lines next es fs v u (sound_step w next e.act e.reply x.meets (N.1).1 S) tells (N.1).2 behind in
    let pass : f.pass ≡ e.pass = sym (y.says).pass ∙ (x.says).pass in
    let back : f.act ≡ e.act = sym act in
    (λ i. record { pass = pass i; act = back i; reply = same.0 i } ∷ rest.0 i, rest.1)
