-- What the lines of a log tell is what the acts that they name told.
use Rattle.std.proofs.Common.{◌≡◌, ℕ, zero, suc, Bool, true, false, nat_eq, if◌then◌else◌, List, [], ◌∷◌, ◌++◌, slice_get, Option, Some, None, Ok, Err, refl, sym, ap, ◌∙◌, subst}
use Rattle.std.specs.Str.{bytes_eq}
use Rattle.omx_types.specs.declared.command.Command.TheVariants.{StateSet, Flush, PortDisable, PortEnable, MarkBuffer}
use Rattle.omx_types.specs.declared.command.Event.{Event}
use Rattle.omx_types.specs.declared.command.Note.{Note}
use Rattle.omx_types.specs.declared.command.Note.TheVariants.{Told}
use Rattle.omx_types.specs.declared.handle.Handle.{Handle}
use Rattle.omx_types.specs.declared.param.Param.TheVariants as params
use Rattle.part_forms.specs.Kinds.{is_input}
use Rattle.il_machine.specs.declared.answer.Progress.{Progress}
use Rattle.il_machine.specs.Acts.{Act, Reply}
use Rattle.il_machine.specs.Acts as acts
use Rattle.il_machine.specs.Components.{moved_by, no_progress, noted_by}
use Rattle.il_machine.specs.Notes.{TakenEmpty, TakenEvent, TakenFilled, TookBusy, TookNone, TookNote}
use Rattle.il_machine.specs.Run.{Step}
use Rattle.il_machine.specs.World.{World}
use Rattle.history_laws.specs.Given.{note_for}
use Rattle.history_laws.specs.GivenIn.{given_in, note_list}
use Rattle.act_text.specs.declared.act.TextAct.{TextAct}
use Rattle.act_text.specs.declared.act.TextAct.TheVariants as lines
use Rattle.act_text.specs.declared.reply.TextReply.{TextReply}
use Rattle.act_text.specs.declared.reply.TextReply.TheVariants as texts
use Rattle.act_text.specs.declared.text.ActText.{ActText}
use Rattle.script_lang.specs.declared.play_line.PartLine.{PartLine}
use Rattle.play_forms.specs.Parts.{kind_of}
use Rattle.play_log.specs.Entries.{Entry, steps_of}
use Rattle.play_log.specs.Lines.{LogLine}
use Rattle.play_log.specs.Naming.{NameAll}
use Rattle.play_log.specs.Saying.{Of, SaysAct, SaysReply, key, port_at}
use Rattle.play_log.specs.Scenes.{HaveOwnNames, Scene}
use Rattle.play_log.proofs.Players.{some_same}
use Rattle.play_world_laws.specs.Telling.{progress_by}
use Rattle.play_result_laws.specs.Asked.{told_by}
use Rattle.play_result_laws.proofs.Claiming.{named_at}
use Rattle.audit_forms.specs.Told.{HaveNumbers, heard_by, heard_line, nothing_told, told_after, told_more}

-- ---- an act that tells nothing

-- whatever it is answered it gives no note for the component
abbrev GivesNone : ℕ → Act → Type 0
GivesNone place a = (r : Reply) → note_for place a r ≡ None

quiet : (place : ℕ) (s : Scene) (name : List ℕ) (a : Act) (f : PartLine → Handle → Act) → ((part : PartLine) (h : Handle) → GivesNone place (f part h)) → Of s name (λ part h. a ≡ f part h) → GivesNone place a
quiet place s name a f none x = subst (GivesNone place) (sym x.4) (none x.1 x.2)

both_quiet : (place : ℕ) (s : Scene) (name other : List ℕ) (a : Act) (f : Handle → Handle → Act) → ((h k : Handle) → GivesNone place (f h k)) → Of s name (λ part h. Of s other (λ part k. a ≡ f h k)) → GivesNone place a
both_quiet place s name other a f none x = quiet place s other a (λ part k. f x.2 k) (λ part k. none x.2 k) x.4

-- all acts but the taking of a note
said_quiet : (place : ℕ) (s : Scene) (t : TextAct) (a : Act) → ((component : List ℕ) → t ≡ lines.Take component → ⊥) → SaysAct s t a → GivesNone place a
said_quiet place s (lines.Free c) a never x = quiet place s c a (λ part h. acts.FreeHandle h) (λ part h r. refl) x
said_quiet place s (lines.State c) a never x = quiet place s c a (λ part h. acts.GetState h) (λ part h r. refl) x
said_quiet place s (lines.Port p) a never x = quiet place s p.component a (λ part h. acts.PortView h p.index) (λ part h r. refl) x
said_quiet place s (lines.SetPort p format count size) a never x = quiet place s p.component a (λ part h. acts.SetParameter h (key 1 p.index) (params.Port (record { input = is_input (kind_of part.form) p.index; format = format; count = count; size = size }))) (λ part h r. refl) x
said_quiet place s (lines.SetSupplier p supplier) a never x = quiet place s p.component a (λ part h. acts.SetParameter h (key 2 p.index) (params.Supplier supplier)) (λ part h r. refl) x
said_quiet place s (lines.SetPriority c n) a never x = quiet place s c a (λ part h. acts.SetParameter h (key 3 0) (params.Priority n)) (λ part h r. refl) x
said_quiet place s (lines.Gain c n) a never x = quiet place s c a (λ part h. acts.SetConfig h (key 4 0) (params.Gain n)) (λ part h r. refl) x
said_quiet place s (lines.Weight p n) a never x = quiet place s p.component a (λ part h. acts.SetConfig h (key 5 p.index) (params.Weight n)) (λ part h r. refl) x
said_quiet place s (lines.SendState c state) a never x = quiet place s c a (λ part h. acts.SendCommand h (StateSet state)) (λ part h r. refl) x
said_quiet place s (lines.SendFlush c ports) a never x = quiet place s c a (λ part h. acts.SendCommand h (Flush ports)) (λ part h r. refl) x
said_quiet place s (lines.SendDisable c ports) a never x = quiet place s c a (λ part h. acts.SendCommand h (PortDisable ports)) (λ part h r. refl) x
said_quiet place s (lines.SendEnable c ports) a never x = quiet place s c a (λ part h. acts.SendCommand h (PortEnable ports)) (λ part h r. refl) x
said_quiet place s (lines.Run c) a never x = quiet place s c a (λ part h. acts.RunCommand h) (λ part h r. refl) x
said_quiet place s (lines.Claim c) a never x = quiet place s c a (λ part h. acts.Claim h) (λ part h r. refl) x
said_quiet place s (lines.Supply p) a never x = quiet place s p.component a (λ part h. acts.Supply h p.index) (λ part h r. refl) x
said_quiet place s (lines.Release p) a never x = quiet place s p.component a (λ part h. acts.Release h p.index) (λ part h r. refl) x
said_quiet place s (lines.Over p) a never x = quiet place s p.component a (λ part h. acts.HandOver h p.index) (λ part h r. refl) x
said_quiet place s (lines.Back p) a never x = quiet place s p.component a (λ part h. acts.HandBack h p.index) (λ part h r. refl) x
said_quiet place s (lines.Tunnel p q) a never x = both_quiet place s p.component q.component a (λ h k. acts.SetupTunnel (port_at h p.index) (port_at k q.index)) (λ h k r. refl) x
said_quiet place s (lines.DropTunnel p q) a never x = both_quiet place s p.component q.component a (λ h k. acts.DropTunnel (port_at h p.index) (port_at k q.index)) (λ h k r. refl) x
said_quiet place s (lines.SendMark c port target value) a never x = both_quiet place s c target a (λ h k. acts.SendCommand h (MarkBuffer port k value)) (λ h k r. refl) x
said_quiet place s (lines.Finish c) a never x = subst (GivesNone place) (sym (x.4).2) (λ r. refl)
said_quiet place s (lines.End c) a never x = subst (GivesNone place) (sym (x.4).1) (λ r. refl)
said_quiet place s (lines.Take c) a never x = absurd (never c refl)
said_quiet place s lines.Grant a never x = subst (GivesNone place) (sym x) (λ r. refl)
said_quiet place s lines.Preempt a never x = subst (GivesNone place) (sym x) (λ r. refl)

-- ---- one line

-- what a note more makes of it
abbrev heard_note : Option Note → Progress → Progress
heard_note note p = progress_by (note_list note) p

module _ (s : Scene) (own : HaveOwnNames s.parts) (numbers : HaveNumbers s) (place : ℕ) (part : PartLine) (there : slice_get s.parts place ≡ Some part) where
  heard_event : (mine : Bool) (event : Event) (p : Progress) → (if mine then moved_by event p else p) ≡ heard_note (if mine then Some (Told event) else None) p
  heard_event true event p = refl
  heard_event false event p = refl

  same_event : (one other : Event) → Some (texts.Event one) ≡ Some (texts.Event other) → one ≡ other
  same_event one other e = cc

  taken_heard : (w v : World) (component : List ℕ) (h : Handle) (said : TextReply) (r : Reply) (p : Progress) → bytes_eq component part.name ≡ nat_eq h.generation place
      → Step w (acts.TakeNote h) r v → SaysReply s said (acts.TakeNote h) r → heard_by part.name (lines.Take component) said p ≡ heard_note (note_for place (acts.TakeNote h) r) p
  taken_heard w v component h said (acts.Took (Ok (TookNote (TakenEvent event)))) p mine step e =
      let is : said ≡ texts.Event event = some_same said (texts.Event event) (sym e) in
      ap (λ (t : TextReply). heard_by part.name (lines.Take component) t p) is
      ∙ ap (λ (b : Bool). if b then moved_by event p else p) mine
      ∙ heard_event (nat_eq h.generation place) event p
  taken_heard w v component h said (acts.Took (Ok (TookNote (TakenEmpty header)))) p mine step e = absurd cc
  taken_heard w v component h said (acts.Took (Ok (TookNote (TakenFilled header)))) p mine step e = absurd cc
  taken_heard w v component h said (acts.Took (Ok TookNone)) p mine step e = absurd cc
  taken_heard w v component h said (acts.Took (Ok TookBusy)) p mine step e = absurd cc
  taken_heard w v component h said (acts.Took (Err error)) p mine step e =
      let is : said ≡ texts.Error error = some_same said (texts.Error error) (sym e) in
      ap (λ (t : TextReply). heard_by part.name (lines.Take component) t p) is
  taken_heard w v component h said _ p mine step e = absurd step

  take_heard : (w v : World) (component : List ℕ) (a : Act) (said : TextReply) (r : Reply) (p : Progress) → SaysAct s (lines.Take component) a → Step w a r v → SaysReply s said a r
      → heard_by part.name (lines.Take component) said p ≡ heard_note (note_for place a r) p
  take_heard w v component a said r p x step reply =
      let is : a ≡ acts.TakeNote x.2 = x.4 in
      taken_heard w v component x.2 said r p (named_at s own numbers place part there component (x.0, x.1, x.2, x.3, tt)) (subst (λ (b : Act). Step w b r v) is step) (subst (λ (b : Act). SaysReply s said b r) is reply)
      ∙ ap (λ (b : Act). heard_note (note_for place b r) p) (sym is)

  other_heard : (t : TextAct) (a : Act) (said : TextReply) (r : Reply) (p : Progress) → ((component : List ℕ) → t ≡ lines.Take component → ⊥) → SaysAct s t a
      → p ≡ heard_note (note_for place a r) p
  other_heard t a said r p never x = ap (λ (o : Option Note). heard_note o p) (sym (said_quiet place s t a never x r))

  line_heard : (w v : World) (t : TextAct) (a : Act) (said : TextReply) (r : Reply) (p : Progress) → SaysAct s t a → Step w a r v → SaysReply s said a r
      → heard_by part.name t said p ≡ heard_note (note_for place a r) p
  line_heard w v (lines.Take component) a said r p x step reply = take_heard w v component a said r p x step reply
  line_heard w v (lines.Free c) a said r progress x step reply = other_heard (lines.Free c) a said r progress (λ component e. cc) x
  line_heard w v (lines.State c) a said r progress x step reply = other_heard (lines.State c) a said r progress (λ component e. cc) x
  line_heard w v (lines.Port p) a said r progress x step reply = other_heard (lines.Port p) a said r progress (λ component e. cc) x
  line_heard w v (lines.SetPort p format count size) a said r progress x step reply = other_heard (lines.SetPort p format count size) a said r progress (λ component e. cc) x
  line_heard w v (lines.SetSupplier p supplier) a said r progress x step reply = other_heard (lines.SetSupplier p supplier) a said r progress (λ component e. cc) x
  line_heard w v (lines.SetPriority c n) a said r progress x step reply = other_heard (lines.SetPriority c n) a said r progress (λ component e. cc) x
  line_heard w v (lines.Gain c n) a said r progress x step reply = other_heard (lines.Gain c n) a said r progress (λ component e. cc) x
  line_heard w v (lines.Weight p n) a said r progress x step reply = other_heard (lines.Weight p n) a said r progress (λ component e. cc) x
  line_heard w v (lines.Tunnel p q) a said r progress x step reply = other_heard (lines.Tunnel p q) a said r progress (λ component e. cc) x
  line_heard w v (lines.DropTunnel p q) a said r progress x step reply = other_heard (lines.DropTunnel p q) a said r progress (λ component e. cc) x
  line_heard w v (lines.SendState c state) a said r progress x step reply = other_heard (lines.SendState c state) a said r progress (λ component e. cc) x
  line_heard w v (lines.SendFlush c ports) a said r progress x step reply = other_heard (lines.SendFlush c ports) a said r progress (λ component e. cc) x
  line_heard w v (lines.SendDisable c ports) a said r progress x step reply = other_heard (lines.SendDisable c ports) a said r progress (λ component e. cc) x
  line_heard w v (lines.SendEnable c ports) a said r progress x step reply = other_heard (lines.SendEnable c ports) a said r progress (λ component e. cc) x
  line_heard w v (lines.SendMark c port target value) a said r progress x step reply = other_heard (lines.SendMark c port target value) a said r progress (λ component e. cc) x
  line_heard w v (lines.Run c) a said r progress x step reply = other_heard (lines.Run c) a said r progress (λ component e. cc) x
  line_heard w v (lines.Claim c) a said r progress x step reply = other_heard (lines.Claim c) a said r progress (λ component e. cc) x
  line_heard w v (lines.Finish c) a said r progress x step reply = other_heard (lines.Finish c) a said r progress (λ component e. cc) x
  line_heard w v (lines.Supply p) a said r progress x step reply = other_heard (lines.Supply p) a said r progress (λ component e. cc) x
  line_heard w v (lines.Release p) a said r progress x step reply = other_heard (lines.Release p) a said r progress (λ component e. cc) x
  line_heard w v (lines.Over p) a said r progress x step reply = other_heard (lines.Over p) a said r progress (λ component e. cc) x
  line_heard w v (lines.Back p) a said r progress x step reply = other_heard (lines.Back p) a said r progress (λ component e. cc) x
  line_heard w v (lines.End c) a said r progress x step reply = other_heard (lines.End c) a said r progress (λ component e. cc) x
  line_heard w v lines.Grant a said r progress x step reply = other_heard lines.Grant a said r progress (λ component e. cc) x
  line_heard w v lines.Preempt a said r progress x step reply = other_heard lines.Preempt a said r progress (λ component e. cc) x

  -- ---- all lines

  more_heard : (parts : List PartLine) (told : List Progress) (said : ActText) (k : ℕ) (q : PartLine) (p : Progress) → slice_get parts k ≡ Some q → slice_get told k ≡ Some p
      → slice_get (told_more said parts told) k ≡ Some (heard_line said q p)
  more_heard [] told said k q p e f = absurd cc
  more_heard (x ∷ parts) [] said k q p e f = absurd cc
  more_heard (x ∷ parts) (y ∷ told) said zero q p e f =
      let part_is : x ≡ q = some_same x q e in
      let told_is : y ≡ p = some_same y p f in
      λ j. Some (heard_line said (part_is j) (told_is j))
  more_heard (x ∷ parts) (y ∷ told) said (suc k) q p e f = more_heard parts told said k q p e f

  progress_more : (notes more : List Note) (p : Progress) → progress_by (notes ++ more) p ≡ progress_by more (progress_by notes p)
  progress_more [] more p = refl
  progress_more (n ∷ notes) more p = progress_more notes more (noted_by n p)

  lines_heard : (rows : List LogLine) (entries : List Entry) (w v : World) (told : List Progress) (p : Progress) → NameAll s w rows entries v → slice_get told place ≡ Some p
      → slice_get (told_after rows s.parts told) place ≡ Some (progress_by (given_in place (steps_of entries)) p)
  lines_heard [] [] w v told p N e = e
  lines_heard [] (entry ∷ entries) w v told p N e = absurd N
  lines_heard (line ∷ rows) [] w v told p N e = absurd N
  lines_heard (line ∷ rows) (entry ∷ entries) w v told p (names, (next, step, more)) e =
      let S = names.says in
      let note = note_for place entry.act entry.reply in
      let one = line_heard w next (line.said).act entry.act (line.said).reply entry.reply p S.act step S.reply in
      let now : slice_get (told_more line.said s.parts told) place ≡ Some (heard_note note p) = more_heard s.parts told line.said place part p there e ∙ ap Some one in
      lines_heard rows entries next v (told_more line.said s.parts told) (heard_note note p) more now
      ∙ ap Some (sym (progress_more (note_list note) (given_in place (steps_of entries)) p))

nothing_at : (parts : List PartLine) (k : ℕ) (part : PartLine) → slice_get parts k ≡ Some part → slice_get (nothing_told parts) k ≡ Some no_progress
nothing_at [] k part e = absurd cc
nothing_at (x ∷ parts) zero part e = refl
nothing_at (x ∷ parts) (suc k) part e = nothing_at parts k part e

pub all_told : (s : Scene) (w v : World) (rows : List LogLine) (entries : List Entry) (place : ℕ) (part : PartLine) → HaveOwnNames s.parts → HaveNumbers s → NameAll s w rows entries v
    → slice_get s.parts place ≡ Some part → slice_get (told_after rows s.parts (nothing_told s.parts)) place ≡ Some (told_by place (steps_of entries))
all_told s w v rows entries place part own numbers N there =
    lines_heard s own numbers place part there rows entries w v (nothing_told s.parts) no_progress N (nothing_at s.parts place part there)
