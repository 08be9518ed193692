-- The works that a trace holds: each is out as it was claimed, and no other is out.
use Rattle.std.specs.Prelude.{◌≡◌, ℕ, Bool, All, List, position, remove, slice_get, None, MatchOption, Some, Result}
use Rattle.omx_types.specs.declared.error.OmxError.{OmxError}
use Rattle.omx_types.specs.declared.handle.Handle.{Handle}
use Rattle.il_machine.specs.World.{World, same_handle}
use Rattle.il_machine.specs.Claims.{Claimed}
use Rattle.il_machine.specs.Acts as acts
use Rattle.il_machine.specs.Run.{Step}
use Rattle.il_machine.specs.Whole.{Kept}
use Rattle.act_text.specs.declared.reply.TextReply.{TextReply}
use Rattle.act_text.specs.declared.reply.TextReply.TheVariants as texts
use Rattle.script_lang.specs.declared.form.TraceForm.{TraceForm}
use Rattle.held_work_laws.specs.Claims.{TakesWork}
use Rattle.held_work_laws.specs.Works.{HeldWork, AreHeld as AreOut, IsBroughtBack as IsBackSo}
use Rattle.trace_run.specs.declared.names.NamedComponent.{NamedComponent}
use Rattle.trace_run.specs.declared.reply.LineAnswer.{LineAnswer}
use Rattle.trace_run.specs.declared.slots.Slot.{Slot}
use Rattle.trace_run.specs.Naming.{Moment, Names}
use Rattle.trace_run.specs.Replying.{LineReply, Plain, printed}
use Rattle.trace_run.specs.Lines.{Answered}
use Rattle.trace_run.specs.Standing.{IsNamed, Means, Parts, IsMoment}

-- the works are those that are out, and a line was given the handle of each
pub record AreHeld (components : List NamedComponent) (works : List HeldWork) (w : World) : Type 0 where
  pub out : AreOut works w
  pub named : All (λ x. IsNamed components x.handle) works

-- ---- a moment, with the works that are held in it

pub record OnDesk : Type 0 where
  pub parts : Parts
  pub works : List HeldWork

-- what is kept stands for this moment, and the works are those that are out in it
pub record IsDeskMoment (kept : OnDesk) (at : Moment) : Type 0 where
  pub stood : IsMoment kept.parts at
  pub held : AreHeld (kept.parts).components kept.works at.world

-- there is such a moment
pub record HasDeskMoment (kept : OnDesk) : Type 0 where
  pub at : Moment
  pub stood : IsDeskMoment kept at

-- from each moment that was stood for, the line leads to one that is stood for now
abbrev pub LeadsAll : OnDesk → OnDesk → TraceForm → LineReply → Type 0
LeadsAll old new form reply = (at : Moment) → IsDeskMoment old at → (next : Moment) × IsDeskMoment new next × Answered at form reply next

abbrev pub LeadsAllTo : OnDesk → OnDesk → TraceForm → LineAnswer → Type 0
LeadsAllTo old new form answer = (reply : LineReply) × Means (new.parts).slots answer reply × LeadsAll old new form reply

-- ---- a claim

pub record ClaimedSo (h : Handle) (works news : List HeldWork) (reply : TextReply) (w v : World) : Type 0 where
  pub answer : Result Claimed OmxError
  pub step : Step w (acts.Claim h) (acts.Claimed answer) v
  pub prints : (names : Names) → printed names (acts.Claimed answer) ≡ Some (Plain reply)
  pub works_are : TakesWork h works news answer v

-- ---- a finish

abbrev pub is_held_by : Handle → HeldWork → Bool
is_held_by h x = same_handle x.handle h

-- no step fails where no part has a file
abbrev pub IsBroughtBack : Kept → Kept → HeldWork → ℕ → Type 0
IsBroughtBack old new x frames = IsBackSo old new x frames None

-- the first work of the component of the handle came back; where there is none, nothing changed
abbrev pub FinishedSo : Kept → Kept → Handle → List HeldWork → List HeldWork → TextReply → Type 0
FinishedSo old new h works news reply = MatchOption (position (is_held_by h) works) ((reply ≡ texts.NotOut) × (new ≡ old) × (news ≡ works)) (λ place.
    MatchOption (slice_get works place) ⊥ (λ x. (frames : ℕ) × (reply ≡ texts.Finished frames) × (news ≡ remove works place) × IsBroughtBack old new x frames))

-- ---- the end of a trace

abbrev pub kept_with : Kept → List NamedComponent → List Slot → List HeldWork → OnDesk
kept_with graph components slots works = record { parts = record { graph = graph; components = components; slots = slots }; works = works }

-- with some names and headers there is such a moment
abbrev pub HasDeskFor : Kept → List HeldWork → Type 0
HasDeskFor graph works = (components : List NamedComponent) × (slots : List Slot) × HasDeskMoment (kept_with graph components slots works)

-- whatever names and headers there are, there is such a moment still, with these works in place of those
abbrev pub BringAllBack : Kept → List HeldWork → Kept → List HeldWork → Type 0
BringAllBack old works new news = (components : List NamedComponent) (slots : List Slot) → HasDeskMoment (kept_with old components slots works) → HasDeskMoment (kept_with new components slots news)
