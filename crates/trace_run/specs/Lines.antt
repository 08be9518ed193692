-- What one line of a trace does: the acts that it makes, the reply that is printed, and what names then stand for.
use Rattle.std.specs.Prelude.{◌≡◌, ℕ, Bool, true, false, nat_lt, List, [], ◌∷◌, replicate, length, Option, Some, None, option_and_then, Result, Ok, MatchOption, if◌then◌else◌}
use Rattle.omx_types.specs.declared.handle.Handle.{Handle}
use Rattle.omx_types.specs.declared.error.CallError.{CallError}
use Rattle.omx_types.specs.declared.error.OmxError.{OmxError}
use Rattle.il_machine.specs.declared.answer.Progress.{Progress}
use Rattle.il_machine.specs.World.{Work}
use Rattle.il_machine.specs.Answers.{component_named}
use Rattle.il_machine.specs.Buffers.{Held}
use Rattle.il_machine.specs.Notes.{Took, TookNote}
use Rattle.il_machine.specs.Stepping.{WorkDone}
use Rattle.il_machine.specs.Acts.{Act, Reply}
use Rattle.il_machine.specs.Acts as acts
use Rattle.il_machine.specs.Run.{Run}
use Rattle.act_text.specs.declared.act.TextAct.{TextAct}
use Rattle.act_text.specs.declared.act.TextAct.TheVariants as lines
use Rattle.act_text.specs.declared.name.PortName.{PortName}
use Rattle.act_text.specs.declared.reply.TextReply.TheVariants as texts
use Rattle.header_core.specs.BufferHeader.{with_content}
use Rattle.script_lang.specs.declared.form.TraceForm.{TraceForm}
use Rattle.script_lang.specs.declared.form.TraceForm.TheVariants as forms
use Rattle.trace_run.specs.Naming.{Names, Moment, handle_of, in_hand, with_component, with_header, after_handing, after_taking}
use Rattle.trace_run.specs.Asking.{asked}
use Rattle.trace_run.specs.Replying.{LineReply, Plain, printed}

abbrev pub Entry : Type 0
Entry = Act × Reply

-- the line makes this one act, answered so
pub record IsAct (names : Names) (a : Act) (r : Reply) (entries : List Entry) (reply : LineReply) : Type 0 where
  pub one : entries ≡ (a, r) ∷ []
  pub says : printed names r ≡ Some reply

-- the line makes no act
pub record IsNoAct (names : Names) (said : LineReply) (entries : List Entry) (reply : LineReply) (next : Names) : Type 0 where
  pub none : entries ≡ []
  pub says : reply ≡ said
  pub same : next ≡ names

-- the client object goes back at once where a note came with it
abbrev pub taking : Handle → Result Took OmxError → Progress → List Entry
taking h (Ok (TookNote taken)) progress = (acts.TakeNote h, acts.Took (Ok (TookNote taken))) ∷ (acts.EndNote h progress, acts.Ended) ∷ []
taking h result progress = (acts.TakeNote h, acts.Took result) ∷ []

pub record Takes (names : Names) (h : Handle) (result : Result Took OmxError) (progress : Progress) (entries : List Entry) (reply : LineReply) : Type 0 where
  pub both : entries ≡ taking h result progress
  pub says : printed names (acts.Took result) ≡ Some reply

-- the work of the component of the name, where it is out
abbrev pub work_out : Moment → List ℕ → Option Work
work_out at name = option_and_then (λ c. c.work) (component_named (handle_of at.names name) at.world.components)

-- The work did one step of its part, in which nothing failed, since no part has a file. The line tells the frames of the step.
pub record Finishes (names : Names) (component : List ℕ) (done : WorkDone) (entries : List Entry) (reply : LineReply) : Type 0 where
  pub one : entries ≡ (acts.Finish done, acts.Finished) ∷ []
  pub component_is : done.component ≡ (handle_of names component).generation
  pub whole : done.fault ≡ None
  pub says : reply ≡ Plain (texts.Finished done.frames)

-- Where no work of the component is out no act is made.
abbrev pub FinishLine : Moment → List ℕ → List Entry → LineReply → Names → Type 0
FinishLine at component entries reply next = MatchOption (work_out at component) (IsNoAct at.names (Plain texts.NotOut) entries reply next) (λ work.
    (done : WorkDone) × Finishes at.names component done entries reply × (next ≡ at.names))

-- a line that names no header and no kind
abbrev pub ActLine : Moment → TextAct → List Entry → LineReply → Names → Type 0
ActLine at (lines.Take component) entries reply next =
    (result : Result Took OmxError) × (progress : Progress) × Takes at.names (handle_of at.names component) result progress entries reply
    × (next ≡ after_taking result at.names)
ActLine at (lines.Finish component) entries reply next = FinishLine at component entries reply next
ActLine at (lines.End component) entries reply next = IsNoAct at.names (Plain texts.NotOut) entries reply next
ActLine at act entries reply next = (r : Reply) × IsAct at.names (asked at act) r entries reply × (next ≡ at.names)

-- the flag of a stream's end
abbrev pub line_flags : Bool → ℕ
line_flags eos = if eos then 1 else 0

-- Of a header that isn't with the client no act is made.
abbrev pub InHand : Moment → List ℕ → List Entry → LineReply → Names → (Held → Type 0) → Type 0
InHand at name entries reply next Then = MatchOption (in_hand at.names name) (IsNoAct at.names (Plain texts.NotHeld) entries reply next) Then

-- whether a header's content would be more than its size
abbrev pub is_too_long : Held → Bool
is_too_long header = nat_lt header.size (length header.content)

-- The header with the line's bytes and flag is handed in, unless these are too long.
abbrev pub EtbLine : Bool → Moment → List ℕ → PortName → Held → List Entry → LineReply → Names → Type 0
EtbLine true at name port header entries reply next = IsNoAct at.names (Plain texts.TooLong) entries reply next
EtbLine false at name port header entries reply next =
    (result : Result (Unit {0}) OmxError)
    × IsAct at.names (acts.EmptyThisBuffer (handle_of at.names port.component) port.index header) (acts.Plain result) entries reply
    × (next ≡ after_handing name header result at.names)

abbrev pub Line : Moment → TraceForm → List Entry → LineReply → Names → Type 0
Line at (forms.Act act) entries reply next = ActLine at act entries reply next
Line at (forms.Get component kind) entries reply next =
    (result : Result Handle CallError) × IsAct at.names (acts.GetHandle kind) (acts.Got result) entries reply
    × (next ≡ with_component component result at.names)
Line at (forms.Alloc header port) entries reply next =
    (result : Result Held CallError) × IsAct at.names (acts.AllocateBuffer (handle_of at.names port.component) port.index) (acts.Allocated result) entries reply
    × (next ≡ with_header header result at.names)
Line at (forms.UseBuf header port size) entries reply next =
    (result : Result Held OmxError) × IsAct at.names (acts.UseBuffer (handle_of at.names port.component) port.index (replicate size 0)) (acts.Used result) entries reply
    × (next ≡ with_header header result at.names)
Line at (forms.FreeBuf header port) entries reply next = InHand at header entries reply next (λ h.
    (result : Result Bool OmxError) × IsAct at.names (acts.FreeBuffer (handle_of at.names port.component) port.index h.number) (acts.Freed result) entries reply
    × (next ≡ after_handing header h result at.names))
Line at (forms.Etb header port bytes eos) entries reply next = InHand at header entries reply next (λ h.
    let filled = with_content bytes (line_flags eos) h in
    EtbLine (is_too_long filled) at header port filled entries reply next)
Line at (forms.Ftb header port) entries reply next = InHand at header entries reply next (λ h.
    (result : Result (Unit {0}) OmxError) × IsAct at.names (acts.FillThisBuffer (handle_of at.names port.component) port.index h) (acts.Plain result) entries reply
    × (next ≡ after_handing header h result at.names))

-- The line is answered so: its acts are a run of the machine from the one moment to the next.
pub record Answered (at : Moment) (form : TraceForm) (reply : LineReply) (next : Moment) : Type 0 where
  pub entries : List Entry
  pub says : Line at form entries reply next.names
  pub run : Run at.world entries next.world
