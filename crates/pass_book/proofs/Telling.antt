-- What a book's line says is what the machine's act and reply are.
use Rattle.std.proofs.Common.{◌≡◌, ◌⊎◌, inl, inr, ℕ, ◌<◌, arith, get_or, [], ◌∷◌, true, false, List, length, slice_get, Option, Some, None, IfSome, Ok, Err, refl, sym, ◌∙◌, ap, subst}
use Rattle.omx_types.specs.declared.command.Command.{Command}
use Rattle.omx_types.specs.declared.command.Command.TheVariants.{StateSet, PortDisable, PortEnable}
use Rattle.omx_types.specs.declared.error.CallError.TheVariants.{Omx, OutOfMemory}
use Rattle.omx_types.specs.declared.handle.Handle.{Handle}
use Rattle.omx_types.specs.declared.param.Param.{Param}
use Rattle.omx_types.specs.declared.param.Param.TheVariants as params
use Rattle.omx_types.specs.declared.param.ParamKey.{ParamKey}
use Rattle.act_text.specs.declared.act.TextAct.{TextAct}
use Rattle.act_text.specs.declared.reply.TextReply.{TextReply}
use Rattle.act_text.specs.declared.text.ActText.{ActText}
use Rattle.il_machine.specs.declared.answer.Acted.TheVariants as acted
use Rattle.il_machine.specs.Acts as acts
use Rattle.il_flow.specs.Works.{seen_done}
use Rattle.part_forms.specs.Kinds.{is_input}
use Rattle.play_forms.specs.Parts.{kind_of}
use Rattle.std.proofs.lemmas.Option.{slice_get-get_or}
use Rattle.note_queues.specs.declared.taken.Taken.{Taken}
use Rattle.note_queues.specs.declared.taken.Taken.TheVariants.{Told, EmptyDone, FillDone}
use Rattle.note_queues.specs.declared.taken.Took.{Took}
use Rattle.note_queues.specs.declared.taken.Took.TheVariants as tooks
use Rattle.note_queues.specs.Queues.{taken_of}
use Rattle.header_core.specs.BufferHeader.{BufferHeader}
use Rattle.script_lang.specs.declared.play_line.PartLine.{PartLine}
use Rattle.turnstile.specs.Entries.{entry}
use Rattle.il_machine.specs.Notes.{TookNote}
use Rattle.graph_acts.specs.declared.act.Act.{Act}
use Rattle.graph_acts.specs.declared.act.Act.TheVariants as asks
use Rattle.graph_acts.specs.declared.act.Reply.{Reply}
use Rattle.graph_acts.specs.declared.act.Reply.TheVariants as replies
use Rattle.graph_acts.specs.declared.claimed.LentClaim.{LentClaim}
use Rattle.graph_acts.specs.declared.claimed.LentClaim.TheVariants as claims
use Rattle.graph_acts.specs.Holding.{header_in}
use Rattle.graph_acts.specs.Plain.{Sight, Unsaid, plain_act, plain_reply}
use Rattle.graph_acts.specs.Replying.{IsReplyTo}
use Rattle.board.specs.Asking.{IsPlain}
use Rattle.play_log.specs.Entries.{is_unprinted}
use Rattle.play_log.specs.Saying.{Of, Says, SaysAct, SaysReply, took}
use Rattle.play_log.specs.Scenes.{IsPlayer, Scene}
use Rattle.work_signs.specs.declared.seat.Seat.{Seat}
use Rattle.pass_book.specs.Saying.{act_said, both_said, claim_said, command_said, event_said, frames_of, line_by, note_said, param_said, port_of, reply_said, said_of}
use Rattle.pass_book.specs.Scenes.{AreSeatsIn, HasNoText}
use Rattle.pass_book.specs.Seats.{IsDefinition, IsOfPlay, IsPlayCommand, IsSeated, name_in, names_of}
use Rattle.pass_book.proofs.Seated.{seated_by}

-- ---- acts

seat_there : (seats : List Seat) (n : ℕ) → n < length seats → (s : Seat) × (slice_get seats n ≡ Some s)
seat_there [] n few = absurd (omega (arith, few))
seat_there (s ∷ seats) n few = (get_or (s ∷ seats) n s, slice_get-get_or (s ∷ seats) n s few)

module _ (scene : Scene) (seats : List Seat) (there : AreSeatsIn scene seats) where
  -- what is said of the component that the handle names
  of_seated : (h : Handle) (Says : PartLine → Handle → Type 0) → IsSeated seats h → ((part : PartLine) → Says part h) → Of scene (names_of seats h.generation) Says
  of_seated h Says (s, at, is) says =
      let i = there h.generation s at in
      let named : s.name ≡ names_of seats h.generation = sym (ap name_in at) in
      (h.generation, i.part, h, subst (λ (n : List ℕ). IsPlayer scene h.generation n i.part h) named (subst (λ (k : Handle). IsPlayer scene h.generation s.name i.part k) is i.player), says i.part)

  of_number : (n : ℕ) (Says : PartLine → Handle → Type 0) → n < length seats → ((part : PartLine) (h : Handle) → h.generation ≡ n → Says part h) → Of scene (names_of seats n) Says
  of_number n Says few says =
      let s = seat_there seats n few in
      let i = there n s.0 s.1 in
      let named : (s.0).name ≡ names_of seats n = sym (ap name_in s.1) in
      (n, i.part, (s.0).handle, subst (λ (m : List ℕ). IsPlayer scene n m i.part (s.0).handle) named i.player, says i.part (s.0).handle i.number)

  command_says : (h : Handle) (command : Command) → IsSeated seats h → IsPlayCommand command
      → IfSome (command_said (names_of seats h.generation) command) (λ text. SaysAct scene text (acts.SendCommand h command))
  command_says h (StateSet state) is c = of_seated h _ is (λ part. refl)
  command_says h (PortDisable ports) is c = of_seated h _ is (λ part. refl)
  command_says h (PortEnable ports) is c = of_seated h _ is (λ part. refl)
  command_says h _ is c = absurd c

  param_says : (h : Handle) (k : ParamKey) (value : Param) → IsDefinition seats h k value
      → IfSome (param_said (port_of (names_of seats) h k.port) value) (λ text. SaysAct scene text (acts.SetParameter h k value))
  param_says h k (params.Port d) (s, at, is, key', input) =
      let i = there h.generation s at in
      let named : s.name ≡ names_of seats h.generation = sym (ap name_in at) in
      let way : d.input ≡ is_input (kind_of (i.part).form) k.port = input ∙ i.inputs k.port in (
        h.generation,
        i.part,
        h,
        subst (λ (n : List ℕ). IsPlayer scene h.generation n i.part h) named (subst (λ (z : Handle). IsPlayer scene h.generation s.name i.part z) is i.player),
        (λ j. acts.SetParameter h (key' j) (params.Port (record { input = way j; format = d.format; count = d.count; size = d.size }))),
      )
  param_says h k _ is = absurd is

  module _ {S K C : Type 0} (see : Sight S K C) (u : Unsaid) where
    pub act_says : (act : Act S K C) → IsOfPlay seats act → IfSome (act_said (names_of seats) act) (λ text. SaysAct scene text (plain_act see u act))
    act_says (asks.SetParameter h k value) is = param_says h k value is
    act_says (asks.SetupTunnel output input) is = of_seated output.handle _ is.0 (λ part. of_seated input.handle _ is.1 (λ other. refl))
    act_says (asks.DropTunnel output input) is = of_seated output.handle _ is.0 (λ part. of_seated input.handle _ is.1 (λ other. refl))
    act_says (asks.SendCommand h command) is = command_says h command is.0 is.1
    act_says (asks.RunCommand h) is = of_seated h _ is (λ part. refl)
    act_says (asks.TakeNote h) is = of_seated h _ is (λ part. refl)
    act_says (asks.EndNote h client) is = of_seated h _ is (λ part. (see.progress client, refl))
    act_says (asks.Supply h port) is = of_seated h _ (seated_by seats h port is) (λ part. refl)
    act_says (asks.Release h port) is = of_seated h _ (seated_by seats h port is) (λ part. refl)
    act_says (asks.HandOver h port) is = of_seated h _ (seated_by seats h port is) (λ part. refl)
    act_says (asks.HandBack h port) is = of_seated h _ (seated_by seats h port is) (λ part. refl)
    act_says (asks.Claim h) is = of_seated h _ is (λ part. refl)
    act_says (asks.Finish done) is = of_number done.component.generation _ is (λ part h e. (seen_done u.took done, sym e, refl))
    act_says _ is = tt

-- ---- replies

event_says : (t : Taken) → IfSome (event_said t) (λ text. (took (TookNote (taken_of t)) ≡ Some text) × (false ≡ false))
event_says (Told event) = (refl, refl)
event_says (EmptyDone header) = tt
event_says (FillDone header) = tt

event_unsaid : (t : Taken) → event_said t ≡ None → (header : BufferHeader) × (header_in t ≡ Some header)
event_unsaid (Told event) e = absurd cc
event_unsaid (EmptyDone header) e = (header, refl)
event_unsaid (FillDone header) e = (header, refl)

module _ {S K C : Type 0} (scene : Scene) (see : Sight S K C) (u : Unsaid) where
  -- the text is that of the reply, which is printed
  abbrev pub SaysSo : Act S K C → Reply S K C → TextReply → Type 0
  SaysSo act reply text = SaysReply scene text (plain_act see u act) (plain_reply u reply) × (is_unprinted (plain_reply u reply) ≡ false)

  taken_says : (act : Act S K C) (t : Took C) → IfSome (note_said t) (λ text. SaysSo act (replies.TakeNote (Ok t)) text)
  taken_says act (tooks.Call call) = event_says call.taken
  taken_says act tooks.None = tt
  taken_says act tooks.Busy = tt

  claim_says : (act : Act S K C) (c : LentClaim S K) → IfSome (claim_said c) (λ text. SaysSo act (replies.Claim (Ok c)) text)
  claim_says act (claims.Work work) = (refl, refl)
  claim_says act _ = tt

  -- by the act's own kind
  pub reply_says : (act : Act S K C) (reply : Reply S K C) → IsReplyTo act reply → IfSome (reply_said (frames_of act) reply) (λ text. SaysSo act reply text)
  reply_says (asks.Finish done) replies.Finish is = (refl, refl)
  reply_says (asks.SetParameter h k value) (replies.SetParameter (Ok x)) is = (refl, refl)
  reply_says (asks.SetParameter h k value) (replies.SetParameter (Err e)) is = (refl, refl)
  reply_says (asks.SetupTunnel output input) (replies.SetupTunnel (Ok x)) is = (refl, refl)
  reply_says (asks.SetupTunnel output input) (replies.SetupTunnel (Err e)) is = (refl, refl)
  reply_says (asks.DropTunnel output input) (replies.DropTunnel (Ok x)) is = (refl, refl)
  reply_says (asks.DropTunnel output input) (replies.DropTunnel (Err e)) is = (refl, refl)
  reply_says (asks.SendCommand h command) (replies.SendCommand (Ok x)) is = (refl, refl)
  reply_says (asks.SendCommand h command) (replies.SendCommand (Err e)) is = (refl, refl)
  reply_says (asks.RunCommand h) (replies.RunCommand (Ok acted.Did)) is = (refl, refl)
  reply_says (asks.RunCommand h) (replies.RunCommand (Ok (acted.Idle why))) is = tt
  reply_says (asks.RunCommand h) (replies.RunCommand (Err e)) is = (refl, refl)
  reply_says (asks.TakeNote h) (replies.TakeNote (Ok t)) is = taken_says (asks.TakeNote h) t
  reply_says (asks.TakeNote h) (replies.TakeNote (Err e)) is = (refl, refl)
  reply_says (asks.EndNote h client) replies.EndNote is = (refl, refl)
  reply_says (asks.Supply h port) (replies.Supply (Ok acted.Did)) is = (refl, refl)
  reply_says (asks.Supply h port) (replies.Supply (Ok (acted.Idle why))) is = tt
  reply_says (asks.Supply h port) (replies.Supply (Err (Omx e))) is = (refl, refl)
  reply_says (asks.Supply h port) (replies.Supply (Err OutOfMemory)) is = tt
  reply_says (asks.Release h port) (replies.Release (Ok acted.Did)) is = (refl, refl)
  reply_says (asks.Release h port) (replies.Release (Ok (acted.Idle why))) is = tt
  reply_says (asks.Release h port) (replies.Release (Err e)) is = (refl, refl)
  reply_says (asks.HandOver h port) (replies.HandOver (Ok acted.Did)) is = (refl, refl)
  reply_says (asks.HandOver h port) (replies.HandOver (Ok (acted.Idle why))) is = tt
  reply_says (asks.HandOver h port) (replies.HandOver (Err e)) is = (refl, refl)
  reply_says (asks.HandBack h port) (replies.HandBack (Ok acted.Did)) is = (refl, refl)
  reply_says (asks.HandBack h port) (replies.HandBack (Ok (acted.Idle why))) is = tt
  reply_says (asks.HandBack h port) (replies.HandBack (Err e)) is = (refl, refl)
  reply_says (asks.Claim h) (replies.Claim (Ok c)) is = claim_says (asks.Claim h) c
  reply_says (asks.Claim h) (replies.Claim (Err e)) is = (refl, refl)
  reply_says _ (replies.SetParameter result) is = absurd is
  reply_says _ (replies.SetupTunnel result) is = absurd is
  reply_says _ (replies.DropTunnel result) is = absurd is
  reply_says _ (replies.SendCommand result) is = absurd is
  reply_says _ (replies.RunCommand result) is = absurd is
  reply_says _ (replies.TakeNote result) is = absurd is
  reply_says _ replies.EndNote is = absurd is
  reply_says _ (replies.Supply result) is = absurd is
  reply_says _ (replies.Release result) is = absurd is
  reply_says _ (replies.HandOver result) is = absurd is
  reply_says _ (replies.HandBack result) is = absurd is
  reply_says _ (replies.Claim result) is = absurd is
  reply_says _ replies.Finish is = absurd is
  reply_says _ _ is = tt

-- ---- both

said_both : (a : Option TextAct) (r : Option TextReply) (said : ActText) → both_said a r ≡ Some said → (a ≡ Some said.act) × (r ≡ Some said.reply)
said_both (Some act) (Some reply) said e = let p : record { act = act; reply = reply } ≡ said = cc in (ap (λ (t : ActText). Some t.act) p, ap (λ (t : ActText). Some t.reply) p)
said_both (Some act) None said e = absurd cc
said_both None r said e = absurd cc

of_some : {T : Type 0} (P : T → Type 0) (o : Option T) (x : T) → o ≡ Some x → IfSome o P → P x
of_some P o x e h = subst (λ p. IfSome p P) e h

pub line_says : {S K C : Type 0} (see : Sight S K C) (scene : Scene) (seats : List Seat) (p : ℕ) (act : Act S K C) (reply : Reply S K C) (x : acts.Act × acts.Reply) (said : ActText)
    → AreSeatsIn scene seats → IsOfPlay seats act → IsReplyTo act reply → said_of (names_of seats) act reply ≡ Some said → IsPlain see (entry p act reply) x
    → Says scene (line_by p said) (record { pass = p; act = x.0; reply = x.1 }) × (is_unprinted x.1 ≡ false)
line_says see scene seats p act reply x said there of is e (u, plain') =
    let b = said_both (act_said (names_of seats) act) (reply_said (frames_of act) reply) said e in
    let a = of_some (λ text. SaysAct scene text (plain_act see u act)) (act_said (names_of seats) act) said.act b.0 (act_says scene seats there see u act of) in
    let r = of_some (SaysSo scene see u act reply) (reply_said (frames_of act) reply) said.reply b.1 (reply_says scene see u act reply is) in
    subst (λ (y : acts.Act × acts.Reply). Says scene (line_by p said) (record { pass = p; act = y.0; reply = y.1 }) × (is_unprinted y.1 ≡ false)) (sym plain') (
      record { pass = refl; act = a; reply = r.0 },
      r.1,
    )

-- ---- an act without a line

module _ {S K C : Type 0} (see : Sight S K C) (u : Unsaid) where
  command_said_some : (name : List ℕ) (command : Command) → IsPlayCommand command → command_said name command ≡ None → ⊥
  command_said_some name (StateSet state) c e = absurd cc
  command_said_some name (PortDisable ports) c e = absurd cc
  command_said_some name (PortEnable ports) c e = absurd cc
  command_said_some name _ c e = absurd c

  param_said_some : (seats : List Seat) (h : Handle) (k : ParamKey) (value : Param) → IsDefinition seats h k value → param_said (port_of (names_of seats) h k.port) value ≡ None → ⊥
  param_said_some seats h k (params.Port d) is e = absurd cc
  param_said_some seats h k _ is e = absurd is

  -- an act of a play is said, but a look at the progress
  act_unsaid : (seats : List Seat) (act : Act S K C) → IsOfPlay seats act → act_said (names_of seats) act ≡ None → (h : Handle) × (act ≡ asks.Progress h)
  act_unsaid seats (asks.Progress h) is e = (h, refl)
  act_unsaid seats (asks.SetParameter h k value) is e = absurd (param_said_some seats h k value is e)
  act_unsaid seats (asks.SetupTunnel output input) is e = absurd cc
  act_unsaid seats (asks.DropTunnel output input) is e = absurd cc
  act_unsaid seats (asks.SendCommand h command) is e = absurd (command_said_some (names_of seats h.generation) command is.1 e)
  act_unsaid seats (asks.RunCommand h) is e = absurd cc
  act_unsaid seats (asks.TakeNote h) is e = absurd cc
  act_unsaid seats (asks.EndNote h client) is e = absurd cc
  act_unsaid seats (asks.Supply h port) is e = absurd cc
  act_unsaid seats (asks.Release h port) is e = absurd cc
  act_unsaid seats (asks.HandOver h port) is e = absurd cc
  act_unsaid seats (asks.HandBack h port) is e = absurd cc
  act_unsaid seats (asks.Claim h) is e = absurd cc
  act_unsaid seats (asks.Finish done) is e = absurd cc
  act_unsaid seats _ is e = absurd is

  abbrev pub LeftOut : Reply S K C → Type 0
  LeftOut reply = (is_unprinted (plain_reply u reply) ≡ true) ⊎ HasNoText reply

  look_out : (h : Handle) (reply : Reply S K C) → IsReplyTo (asks.Progress h) reply → LeftOut reply
  look_out h (replies.Progress result) is = inl refl
  look_out h _ is = absurd is

  note_out : (t : Took C) → note_said t ≡ None → LeftOut (replies.TakeNote (Ok t))
  note_out (tooks.Call call) e = inr (event_unsaid call.taken e)
  note_out tooks.None e = inl refl
  note_out tooks.Busy e = inl refl

  claim_out : (c : LentClaim S K) → claim_said c ≡ None → LeftOut (replies.Claim (Ok c))
  claim_out (claims.Work work) e = absurd cc
  claim_out claims.Busy e = inl refl
  claim_out claims.NotRunning e = inl refl
  claim_out claims.Ended e = inl refl
  claim_out (claims.Held port) e = inl refl
  claim_out (claims.NoData port) e = inl refl
  claim_out (claims.NoRoom port) e = inl refl
  claim_out (claims.Events room need) e = inl refl

  -- replies of the kinds that a play's acts have
  abbrev IsOfKind : Reply S K C → Type 0
  IsOfKind (replies.SetParameter result) = Unit {0}
  IsOfKind (replies.SetupTunnel result) = Unit {0}
  IsOfKind (replies.DropTunnel result) = Unit {0}
  IsOfKind (replies.SendCommand result) = Unit {0}
  IsOfKind (replies.RunCommand result) = Unit {0}
  IsOfKind (replies.TakeNote result) = Unit {0}
  IsOfKind replies.EndNote = Unit {0}
  IsOfKind (replies.Supply result) = Unit {0}
  IsOfKind (replies.Release result) = Unit {0}
  IsOfKind (replies.HandOver result) = Unit {0}
  IsOfKind (replies.HandBack result) = Unit {0}
  IsOfKind (replies.Claim result) = Unit {0}
  IsOfKind replies.Finish = Unit {0}
  IsOfKind (replies.Progress result) = Unit {0}
  IsOfKind _ = ⊥

  of_kind : (seats : List Seat) (act : Act S K C) (reply : Reply S K C) → IsOfPlay seats act → IsReplyTo act reply → IsOfKind reply
  of_kind seats (asks.Progress h) (replies.Progress result) of is = tt
  of_kind seats (asks.SetParameter h k value) (replies.SetParameter result) of is = tt
  of_kind seats (asks.SetupTunnel output input) (replies.SetupTunnel result) of is = tt
  of_kind seats (asks.DropTunnel output input) (replies.DropTunnel result) of is = tt
  of_kind seats (asks.SendCommand h command) (replies.SendCommand result) of is = tt
  of_kind seats (asks.RunCommand h) (replies.RunCommand result) of is = tt
  of_kind seats (asks.TakeNote h) (replies.TakeNote result) of is = tt
  of_kind seats (asks.EndNote h client) replies.EndNote of is = tt
  of_kind seats (asks.Supply h port) (replies.Supply result) of is = tt
  of_kind seats (asks.Release h port) (replies.Release result) of is = tt
  of_kind seats (asks.HandOver h port) (replies.HandOver result) of is = tt
  of_kind seats (asks.HandBack h port) (replies.HandBack result) of is = tt
  of_kind seats (asks.Claim h) (replies.Claim result) of is = tt
  of_kind seats (asks.Finish done) replies.Finish of is = tt
  of_kind seats (asks.Progress h) _ of is = absurd is
  of_kind seats (asks.SetParameter h k value) _ of is = absurd is
  of_kind seats (asks.SetupTunnel output input) _ of is = absurd is
  of_kind seats (asks.DropTunnel output input) _ of is = absurd is
  of_kind seats (asks.SendCommand h command) _ of is = absurd is
  of_kind seats (asks.RunCommand h) _ of is = absurd is
  of_kind seats (asks.TakeNote h) _ of is = absurd is
  of_kind seats (asks.EndNote h client) _ of is = absurd is
  of_kind seats (asks.Supply h port) _ of is = absurd is
  of_kind seats (asks.Release h port) _ of is = absurd is
  of_kind seats (asks.HandOver h port) _ of is = absurd is
  of_kind seats (asks.HandBack h port) _ of is = absurd is
  of_kind seats (asks.Claim h) _ of is = absurd is
  of_kind seats (asks.Finish done) _ of is = absurd is
  of_kind seats _ _ of is = absurd of

  reply_out : (frames : ℕ) (reply : Reply S K C) → IsOfKind reply → reply_said frames reply ≡ None → LeftOut reply
  reply_out frames (replies.Progress result) k e = inl refl
  reply_out frames (replies.SetParameter (Ok x)) k e = absurd cc
  reply_out frames (replies.SetParameter (Err x)) k e = absurd cc
  reply_out frames (replies.SetupTunnel (Ok x)) k e = absurd cc
  reply_out frames (replies.SetupTunnel (Err x)) k e = absurd cc
  reply_out frames (replies.DropTunnel (Ok x)) k e = absurd cc
  reply_out frames (replies.DropTunnel (Err x)) k e = absurd cc
  reply_out frames (replies.SendCommand (Ok x)) k e = absurd cc
  reply_out frames (replies.SendCommand (Err x)) k e = absurd cc
  reply_out frames (replies.RunCommand (Ok acted.Did)) k e = absurd cc
  reply_out frames (replies.RunCommand (Ok (acted.Idle why))) k e = inl refl
  reply_out frames (replies.RunCommand (Err x)) k e = absurd cc
  reply_out frames (replies.TakeNote (Ok t)) k e = note_out t e
  reply_out frames (replies.TakeNote (Err x)) k e = absurd cc
  reply_out frames replies.EndNote k e = absurd cc
  reply_out frames (replies.Supply (Ok acted.Did)) k e = absurd cc
  reply_out frames (replies.Supply (Ok (acted.Idle why))) k e = inl refl
  reply_out frames (replies.Supply (Err (Omx x))) k e = absurd cc
  reply_out frames (replies.Supply (Err OutOfMemory)) k e = inr refl
  reply_out frames (replies.Release (Ok acted.Did)) k e = absurd cc
  reply_out frames (replies.Release (Ok (acted.Idle why))) k e = inl refl
  reply_out frames (replies.Release (Err x)) k e = absurd cc
  reply_out frames (replies.HandOver (Ok acted.Did)) k e = absurd cc
  reply_out frames (replies.HandOver (Ok (acted.Idle why))) k e = inl refl
  reply_out frames (replies.HandOver (Err x)) k e = absurd cc
  reply_out frames (replies.HandBack (Ok acted.Did)) k e = absurd cc
  reply_out frames (replies.HandBack (Ok (acted.Idle why))) k e = inl refl
  reply_out frames (replies.HandBack (Err x)) k e = absurd cc
  reply_out frames (replies.Claim (Ok c)) k e = claim_out c e
  reply_out frames (replies.Claim (Err x)) k e = absurd cc
  reply_out frames replies.Finish k e = absurd cc
  reply_out frames _ k e = absurd k

  none_said : (a : Option TextAct) (r : Option TextReply) → both_said a r ≡ None → (a ≡ None) ⊎ (r ≡ None)
  none_said (Some act) (Some reply) e = absurd cc
  none_said (Some act) None e = inr refl
  none_said None r e = inl refl

  pub is_left_out : (seats : List Seat) (act : Act S K C) (reply : Reply S K C) → IsOfPlay seats act → IsReplyTo act reply → said_of (names_of seats) act reply ≡ None → LeftOut reply
  is_left_out seats act reply of is e = elim (none_said (act_said (names_of seats) act) (reply_said (frames_of act) reply) e) [
    | inl a ↦ let h = act_unsaid seats act of a in look_out h.0 reply (subst (λ (b : Act S K C). IsReplyTo b reply) h.1 is)
    | inr r ↦ reply_out (frames_of act) reply (of_kind seats act reply of is) r
  ]

pub none_unsaid : {S K C : Type 0} (see : Sight S K C) (seats : List Seat) (p : ℕ) (act : Act S K C) (reply : Reply S K C) (x : acts.Act × acts.Reply)
    → IsOfPlay seats act → IsReplyTo act reply → said_of (names_of seats) act reply ≡ None → IsPlain see (entry p act reply) x → (is_unprinted x.1 ≡ true) ⊎ HasNoText reply
none_unsaid see seats p act reply x of is e (u, plain') = subst (λ (y : acts.Act × acts.Reply). (is_unprinted y.1 ≡ true) ⊎ HasNoText reply) (sym plain') (is_left_out see u seats act reply of is e)
