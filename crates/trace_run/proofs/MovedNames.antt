-- What names stand for where handles have other slots, what a line then asks, and what is printed of its answer.
use Rattle.std.proofs.Common.{◌≡◌, ℕ, Bool, List, [], ◌∷◌, cond, find, Option, Some, None, option_map, option_and_then, unwrap_or, refl, sym, ◌∙◌, ap}
use Rattle.std.specs.Prelude.{map, Result, Ok, Err}
use Rattle.omx_types.specs.declared.handle.Handle.{Handle}
use Rattle.omx_types.specs.declared.handle.PortId.{PortId}
use Rattle.omx_types.specs.declared.command.Command.TheVariants.{StateSet, Flush, PortDisable, PortEnable, MarkBuffer}
use Rattle.omx_types.specs.declared.error.CallError.TheVariants as calls
use Rattle.omx_types.specs.declared.param.Param.TheVariants as params
use Rattle.il_machine.specs.declared.answer.Acted.{Acted}
use Rattle.il_machine.specs.declared.answer.Acted.TheVariants as acted
use Rattle.il_machine.specs.declared.answer.Granted.TheVariants as grants
use Rattle.il_machine.specs.declared.answer.Preempted.TheVariants as losses
use Rattle.il_machine.specs.declared.answer.Why.{Why}
use Rattle.il_machine.specs.declared.answer.Why.TheVariants as machine
use Rattle.il_machine.specs.Acts.{Act, Reply}
use Rattle.il_machine.specs.Acts as acts
use Rattle.il_machine.specs.Buffers.{Held}
use Rattle.il_machine.specs.Claims.{Claimed, ClaimedBusy, ClaimedEnded, ClaimedEvents, ClaimedHeld, ClaimedNoData, ClaimedNoRoom, ClaimedNotRunning, ClaimedWork}
use Rattle.il_machine.specs.Components.{view_answer}
use Rattle.il_machine.specs.Look.{look}
use Rattle.il_machine.specs.Notes.{TakenEmpty, TakenEvent, TakenFilled, Took, TookBusy, TookNone, TookNote}
use Rattle.act_text.specs.declared.act.TextAct.{TextAct}
use Rattle.act_text.specs.declared.act.TextAct.TheVariants as lines
use Rattle.act_text.specs.declared.name.PortName.{PortName}
use Rattle.act_text.specs.declared.reply.TextWhy.TheVariants as whys
use Rattle.machine_laws.proofs.Finding.{either}
use Rattle.slot_laws.specs.Seating.{Seating, mapped, moved, moved_act, moved_acted, moved_claimed, moved_handle, moved_held, moved_id, moved_reply, moved_took, moved_why}
use Rattle.slot_laws.proofs.Calling.{view_moved}
use Rattle.slot_laws.proofs.Lists.{find_moved, map_append}
use Rattle.trace_run.specs.declared.names.NamedComponent.{NamedComponent}
use Rattle.trace_run.specs.Asking.{asked, input_side, is_input, key}
use Rattle.trace_run.specs.Naming.{Moment, NamedHeader, Names, after_handing, after_taking, component_name, hand_of, handle_of, has_name, has_number, header_name, in_hand, is_named, is_numbered, name_of, no_handle, now_held, port_id, port_name, port_with, with_component, with_hand, with_header}
use Rattle.trace_run.specs.Replying.{Emptied, Plain, acted_reply, claimed_reply, filled_reply, granted_to, idle_reply, named_why, printed, taken_from}

abbrev pub moved_entry : Seating → NamedComponent → NamedComponent
moved_entry f entry = record entry { handle = moved_handle f entry.handle }

abbrev pub moved_slot : Seating → NamedHeader → NamedHeader
moved_slot f entry = record entry { hand = option_map (moved_held f) entry.hand }

abbrev pub moved_names : Seating → Names → Names
moved_names f names = record { components = map (moved_entry f) names.components; headers = map (moved_slot f) names.headers }

abbrev pub moved_moment : Seating → Moment → Moment
moved_moment f at = record { world = moved f at.world; names = moved_names f at.names }

module _ (f : Seating) where
  -- ---- names

  component_moved : (cs : List NamedComponent) (number : ℕ) → component_name (map (moved_entry f) cs) number ≡ component_name cs number
  component_moved cs number = ap (λ (o : Option NamedComponent). option_map (λ entry. entry.name) o) (find_moved (moved_entry f) (has_number number) (has_number number) cs (λ e. refl)) ∙ go (find (has_number number) cs)
    where
      go : (o : Option NamedComponent) → option_map (λ (entry : NamedComponent). entry.name) (option_map (moved_entry f) o) ≡ option_map (λ (entry : NamedComponent). entry.name) o
      go None = refl
      go (Some e) = refl

  port_name_moved : (cs : List NamedComponent) (port : PortId) → port_name (map (moved_entry f) cs) (moved_id f port) ≡ port_name cs port
  port_name_moved cs port = ap (option_map (port_with port.index)) (component_moved cs port.handle.generation)

  header_moved : (names : Names) (number : ℕ) → header_name (moved_names f names) number ≡ header_name names number
  header_moved names number = ap (option_map name_of) (find_moved (moved_slot f) (is_numbered number) (is_numbered number) names.headers (λ e. refl)) ∙ go (find (is_numbered number) names.headers)
    where
      go : (o : Option NamedHeader) → option_map name_of (option_map (moved_slot f) o) ≡ option_map name_of o
      go None = refl
      go (Some e) = refl

  pub in_hand_moved : (names : Names) (name : List ℕ) → in_hand (moved_names f names) name ≡ option_map (moved_held f) (in_hand names name)
  in_hand_moved names name = ap (option_and_then hand_of) (find_moved (moved_slot f) (is_named name) (is_named name) names.headers (λ e. refl)) ∙ go (find (is_named name) names.headers)
    where
      go : (o : Option NamedHeader) → option_and_then hand_of (option_map (moved_slot f) o) ≡ option_map (moved_held f) (option_and_then hand_of o)
      go None = refl
      go (Some e) = refl

  -- ---- what names become

  pub with_component_moved : {E : Type 0} (name : List ℕ) (r : Result Handle E) (names : Names) → with_component name (mapped (moved_handle f) r) (moved_names f names) ≡ moved_names f (with_component name r names)
  with_component_moved name (Ok h) names = let a = map_append (moved_entry f) names.components (record { name = name; handle = h } ∷ []) in λ j. record (moved_names f names) { components = a j }
  with_component_moved name (Err error) names = refl

  pub with_header_moved : {E : Type 0} (name : List ℕ) (r : Result Held E) (names : Names) → with_header name (mapped (moved_held f) r) (moved_names f names) ≡ moved_names f (with_header name r names)
  with_header_moved name (Ok header) names =
      let a = map_append (moved_slot f) names.headers (record { name = name; number = header.number; hand = Some header } ∷ []) in λ j. record (moved_names f names) { headers = a j }
  with_header_moved name (Err error) names = refl

  held_moved : (test : NamedHeader → Bool) (hand : Option Held) (entries : List NamedHeader) → ((e : NamedHeader) → test (moved_slot f e) ≡ test e)
      → now_held test (option_map (moved_held f) hand) (map (moved_slot f) entries) ≡ map (moved_slot f) (now_held test hand entries)
  held_moved test hand [] same = refl
  held_moved test hand (e ∷ entries) same =
      let a = same e in
      let b = held_moved test hand entries same in
      (λ j. cond (a j) (record (moved_slot f e) { hand = option_map (moved_held f) hand } ∷ map (moved_slot f) entries) (moved_slot f e ∷ b j))
      ∙ either (test e) (λ t. rw t refl) (λ n. rw n refl)

  hand_moved : (test : NamedHeader → Bool) (hand : Option Held) (names : Names) → ((e : NamedHeader) → test (moved_slot f e) ≡ test e)
      → with_hand test (option_map (moved_held f) hand) (moved_names f names) ≡ moved_names f (with_hand test hand names)
  hand_moved test hand names same = let a = held_moved test hand names.headers same in λ j. record (moved_names f names) { headers = a j }

  pub handing_moved : {T E : Type 0} (name : List ℕ) (header : Held) (r : Result T E) (names : Names)
      → after_handing name (moved_held f header) r (moved_names f names) ≡ moved_names f (after_handing name header r names)
  handing_moved name header (Ok x) names = hand_moved (is_named name) None names (λ e. refl)
  handing_moved name header (Err error) names = hand_moved (is_named name) (Some header) names (λ e. refl)

  pub taking_moved : {E : Type 0} (r : Result Took E) (names : Names) → after_taking (mapped (moved_took f) r) (moved_names f names) ≡ moved_names f (after_taking r names)
  taking_moved (Ok (TookNote (TakenEvent event))) names = refl
  taking_moved (Ok (TookNote (TakenEmpty header))) names = hand_moved (is_numbered header.number) (Some header) names (λ e. refl)
  taking_moved (Ok (TookNote (TakenFilled header))) names = hand_moved (is_numbered header.number) (Some header) names (λ e. refl)
  taking_moved (Ok TookNone) names = refl
  taking_moved (Ok TookBusy) names = refl
  taking_moved (Err error) names = refl

  -- ---- what is printed

  why_moved : (cs : List NamedComponent) (why : Why) → named_why (map (moved_entry f) cs) (moved_why f why) ≡ named_why cs why
  why_moved cs (machine.NotAccepting port) = ap (option_map whys.NotAccepting) (port_name_moved cs port)
  why_moved cs (machine.NotRunning port) = ap (option_map whys.NotRunning) (port_name_moved cs port)
  why_moved cs _ = refl

  acted_moved : (cs : List NamedComponent) (answer : Acted) → acted_reply (map (moved_entry f) cs) (moved_acted f answer) ≡ acted_reply cs answer
  acted_moved cs acted.Did = refl
  acted_moved cs (acted.Idle why) = ap (option_map idle_reply) (why_moved cs why)

  claimed_moved : (answer : Claimed) → claimed_reply (moved_claimed f answer) ≡ claimed_reply answer
  claimed_moved (ClaimedWork work) = refl
  claimed_moved ClaimedBusy = refl
  claimed_moved ClaimedNotRunning = refl
  claimed_moved ClaimedEnded = refl
  claimed_moved (ClaimedHeld port) = refl
  claimed_moved (ClaimedNoData port) = refl
  claimed_moved (ClaimedNoRoom port) = refl
  claimed_moved (ClaimedEvents room need) = refl

  pub printed_moved : (names : Names) (r : Reply) → printed (moved_names f names) (moved_reply f r) ≡ printed names r
  printed_moved names (acts.Got (Ok h)) = refl
  printed_moved names (acts.Got (Err (calls.Omx error))) = refl
  printed_moved names (acts.Got (Err calls.OutOfMemory)) = refl
  printed_moved names (acts.Removed result) = refl
  printed_moved names (acts.Plain result) = refl
  printed_moved names (acts.Stated result) = refl
  printed_moved names (acts.Viewed result) = refl
  printed_moved names (acts.Joined result) = refl
  printed_moved names (acts.Acted (Ok answer)) = acted_moved names.components answer
  printed_moved names (acts.Acted (Err error)) = refl
  printed_moved names (acts.Supplied (Ok answer)) = acted_moved names.components answer
  printed_moved names (acts.Supplied (Err (calls.Omx error))) = refl
  printed_moved names (acts.Supplied (Err calls.OutOfMemory)) = refl
  printed_moved names (acts.Allocated (Ok header)) = refl
  printed_moved names (acts.Allocated (Err (calls.Omx error))) = refl
  printed_moved names (acts.Allocated (Err calls.OutOfMemory)) = refl
  printed_moved names (acts.Used (Ok header)) = refl
  printed_moved names (acts.Used (Err error)) = refl
  printed_moved names (acts.Freed result) = refl
  printed_moved names (acts.Took (Ok TookNone)) = refl
  printed_moved names (acts.Took (Ok TookBusy)) = refl
  printed_moved names (acts.Took (Ok (TookNote (TakenEvent event)))) = refl
  printed_moved names (acts.Took (Ok (TookNote (TakenEmpty header)))) = ap (option_map Emptied) (header_moved names header.number)
  printed_moved names (acts.Took (Ok (TookNote (TakenFilled header)))) = ap (option_map (filled_reply header.content header.flags)) (header_moved names header.number)
  printed_moved names (acts.Took (Err error)) = refl
  printed_moved names (acts.Granted (grants.Granted h)) = ap (option_map granted_to) (component_moved names.components h.generation)
  printed_moved names (acts.Granted (grants.Idle why)) = ap (option_map idle_reply) (why_moved names.components why)
  printed_moved names (acts.Preempted (losses.Victim h)) = ap (option_map taken_from) (component_moved names.components h.generation)
  printed_moved names (acts.Preempted (losses.Idle why)) = ap (option_map idle_reply) (why_moved names.components why)
  printed_moved names (acts.Claimed (Ok answer)) = ap (λ x. Some (Plain x)) (claimed_moved answer)
  printed_moved names (acts.Claimed (Err error)) = refl
  printed_moved names acts.Finished = refl
  printed_moved names (acts.Progressed result) = refl
  printed_moved names (acts.Parameter result) = refl
  printed_moved names acts.Ended = refl

  -- ---- what a line asks; no slot stands for that of no handle

  module _ (nowhere : moved_handle f no_handle ≡ no_handle) where
    pub handle_moved : (names : Names) (name : List ℕ) → handle_of (moved_names f names) name ≡ moved_handle f (handle_of names name)
    handle_moved names name =
        ap (λ (o : Option NamedComponent). unwrap_or (option_map (λ entry. entry.handle) o) no_handle) (find_moved (moved_entry f) (has_name name) (has_name name) names.components (λ e. refl))
        ∙ go (find (has_name name) names.components)
      where
        go : (o : Option NamedComponent) → unwrap_or (option_map (λ (entry : NamedComponent). entry.handle) (option_map (moved_entry f) o)) no_handle ≡ moved_handle f (unwrap_or (option_map (λ (entry : NamedComponent). entry.handle) o) no_handle)
        go None = sym nowhere
        go (Some e) = refl

    port_moved : (names : Names) (port : PortName) → port_id (moved_names f names) port ≡ moved_id f (port_id names port)
    port_moved names port = let a = handle_moved names port.component in λ j. record { handle = a j; index = port.index }

    input_moved : (at : Moment) (port : PortName) → is_input (moved_moment f at) port ≡ is_input at port
    input_moved at port = ap input_side
        (ap (λ (h : Handle). view_answer h port.index (look (moved f at.world))) (handle_moved at.names port.component) ∙ view_moved f at.world (handle_of at.names port.component) port.index)

    pub asked_moved : (at : Moment) (act : TextAct) → asked (moved_moment f at) act ≡ moved_act f (asked at act)
    asked_moved at (lines.Free component) = ap acts.FreeHandle (handle_moved at.names component)
    asked_moved at (lines.State component) = ap acts.GetState (handle_moved at.names component)
    asked_moved at (lines.Port port) = ap (λ (h : Handle). acts.PortView h port.index) (handle_moved at.names port.component)
    asked_moved at (lines.SetPort port format count size) =
        let a = handle_moved at.names port.component in
        let b = input_moved at port in
        λ j. acts.SetParameter (a j) (key 1 port.index) (params.Port (record { input = b j; format = format; count = count; size = size }))
    asked_moved at (lines.SetSupplier port supplier) = ap (λ (h : Handle). acts.SetParameter h (key 2 port.index) (params.Supplier supplier)) (handle_moved at.names port.component)
    asked_moved at (lines.SetPriority component priority) = ap (λ (h : Handle). acts.SetParameter h (key 3 0) (params.Priority priority)) (handle_moved at.names component)
    asked_moved at (lines.Gain component gain) = ap (λ (h : Handle). acts.SetConfig h (key 4 0) (params.Gain gain)) (handle_moved at.names component)
    asked_moved at (lines.Weight port weight) = ap (λ (h : Handle). acts.SetConfig h (key 5 port.index) (params.Weight weight)) (handle_moved at.names port.component)
    asked_moved at (lines.Tunnel first second) =
        let a = port_moved at.names first in
        let b = port_moved at.names second in
        λ j. acts.SetupTunnel (a j) (b j)
    asked_moved at (lines.DropTunnel first second) =
        let a = port_moved at.names first in
        let b = port_moved at.names second in
        λ j. acts.DropTunnel (a j) (b j)
    asked_moved at (lines.SendState component state) = ap (λ (h : Handle). acts.SendCommand h (StateSet state)) (handle_moved at.names component)
    asked_moved at (lines.SendFlush component ports) = ap (λ (h : Handle). acts.SendCommand h (Flush ports)) (handle_moved at.names component)
    asked_moved at (lines.SendDisable component ports) = ap (λ (h : Handle). acts.SendCommand h (PortDisable ports)) (handle_moved at.names component)
    asked_moved at (lines.SendEnable component ports) = ap (λ (h : Handle). acts.SendCommand h (PortEnable ports)) (handle_moved at.names component)
    asked_moved at (lines.SendMark component port target value) =
        let a = handle_moved at.names component in
        let b = handle_moved at.names target in
        λ j. acts.SendCommand (a j) (MarkBuffer port (b j) value)
    asked_moved at (lines.Run component) = ap acts.RunCommand (handle_moved at.names component)
    asked_moved at (lines.Claim component) = ap acts.Claim (handle_moved at.names component)
    asked_moved at (lines.Finish component) = ap acts.Progress (handle_moved at.names component)
    asked_moved at (lines.Supply port) = ap (λ (h : Handle). acts.Supply h port.index) (handle_moved at.names port.component)
    asked_moved at (lines.Release port) = ap (λ (h : Handle). acts.Release h port.index) (handle_moved at.names port.component)
    asked_moved at (lines.Over port) = ap (λ (h : Handle). acts.HandOver h port.index) (handle_moved at.names port.component)
    asked_moved at (lines.Back port) = ap (λ (h : Handle). acts.HandBack h port.index) (handle_moved at.names port.component)
    asked_moved at (lines.Take component) = ap acts.TakeNote (handle_moved at.names component)
    asked_moved at (lines.End component) = ap acts.Progress (handle_moved at.names component)
    asked_moved at lines.Grant = refl
    asked_moved at lines.Preempt = refl
