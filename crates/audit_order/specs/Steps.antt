-- Which act a client may ask for next. What was told is by the lines so far.
use Rattle.std.specs.Prelude.{◌≡◌, ◌⊎◌, ℕ, ◌+◌, ◌<◌, ◌≤◌, Bool, true, false, ◌&&◌, ◌||◌, nat_eq, nat_lt, List, length, replicate, slice_get, slice_index_or, slice_set, Option, Some, None}
use Rattle.omx_types.specs.declared.state.State.{State}
use Rattle.omx_types.specs.declared.state.State.TheVariants.{Executing}
use Rattle.part_forms.specs.Kinds.{is_late}
use Rattle.il_machine.specs.Kinds.{is_sink}
use Rattle.il_machine.specs.declared.answer.Progress.{Progress}
use Rattle.act_text.specs.declared.act.TextAct.{TextAct}
use Rattle.act_text.specs.declared.act.TextAct.TheVariants as lines
use Rattle.script_lang.specs.declared.play_line.PartLine.{PartLine}
use Rattle.conductor.specs.Hearing.{tells_disable, tells_enable}
use Rattle.conductor.specs.Phases.{all_told, has_settings}
use Rattle.play_forms.specs.Parts.{passes_at}
use Rattle.play_forms.specs.Plans.{PlanValue}
use Rattle.audit_order.specs.declared.ends.LinkEnds.{LinkEnds}
use Rattle.audit_order.specs.declared.order.Change.{Change}
use Rattle.audit_order.specs.Asked.{change_act, state_sent}
use Rattle.audit_order.specs.Ends.{link_of}

pub record OrderValue : Type 0 where
  -- how many states were begun to be sent, and to how many components the last of them was
  pub sends : ℕ
  pub sent : ℕ
  -- the change that was begun last, unless a state was since, and how many acts of it were made
  pub change : Option Change
  -- of the component at each place whether it is a late source whose change was begun
  pub changed : List Bool

-- nothing was asked
abbrev pub nothing_asked : OrderValue
nothing_asked = record { sends = 0; sent = 0; change = None; changed = replicate 32 false }

-- the change of the late source at the place was begun
abbrev pub is_begun : List Bool → ℕ → Bool
is_begun changed place = slice_index_or changed place false

-- ---- what was told

-- both ends of the link have told their disable, or their enable, last
abbrev pub both_disabled : LinkEnds → List Progress → ℕ → Bool
both_disabled x told source =
    tells_disable (x.output).index (slice_get told source) && tells_disable (x.input).index (slice_get told x.taker)

abbrev pub both_enabled : LinkEnds → List Progress → ℕ → Bool
both_enabled x told source =
    tells_enable (x.output).index (slice_get told source) && tells_enable (x.input).index (slice_get told x.taker)

abbrev pub has_eos : Option Progress → Bool
has_eos None = false
has_eos (Some progress) = progress.eos

-- the component at the place is no sink, or has told the end of its stream
abbrev pub IsOverAt : PlanValue → List Progress → ℕ → Type 0
IsOverAt plan told place = passes_at is_sink (slice_get plan.parts place) ≡ true → has_eos (slice_get told place) ≡ true

abbrev pub AreSinksOver : PlanValue → List Progress → Type 0
AreSinksOver plan told = (place : ℕ) → place < length plan.parts → IsOverAt plan told place

-- the component at the place is no late source, or its change was begun
abbrev pub IsChangedAt : PlanValue → List Bool → ℕ → Type 0
IsChangedAt plan changed place = passes_at is_late (slice_get plan.parts place) ≡ true → is_begun changed place ≡ true

abbrev pub AreLatesChanged : PlanValue → List Bool → Type 0
AreLatesChanged plan changed = (place : ℕ) → place < length plan.parts → IsChangedAt plan changed place

-- ---- where the order stands

-- the last state isn't sent to all
abbrev pub is_sending : ℕ → OrderValue → Bool
is_sending components x = nat_lt 0 x.sends && nat_lt x.sent components

-- the last change isn't made whole
abbrev pub is_changing : Option Change → Bool
is_changing None = false
is_changing (Some change) = nat_lt change.made 8

abbrev pub is_enabled_by : List Progress → ℕ → Option LinkEnds → Bool
is_enabled_by told source None = false
is_enabled_by told source (Some x) = both_enabled x told source

-- both ends of the link that was changed last have told their enable
abbrev pub is_over : PlanValue → List Progress → Option Change → Bool
is_over plan told None = true
is_over plan told (Some change) = is_enabled_by told change.source (link_of plan change.source)

-- each component has told the last state sent, if one was
abbrev pub last_told : ℕ → List Progress → Bool
last_told sends told = nat_eq sends 0 || all_told (state_sent sends) told

-- ---- what may come next

-- the last state is sent to the next component
pub record SendsOn (plan : PlanValue) (old : OrderValue) (act : TextAct) (new : OrderValue) : Type 0 where
  pub sending : is_sending (length plan.parts) old ≡ true
  pub part : PartLine
  pub there : slice_get plan.parts old.sent ≡ Some part
  pub is : act ≡ lines.SendState part.name (state_sent old.sends)
  pub goes_on : new ≡ record old { sent = old.sent + 1 }

-- the next act of the last change is made; the tunnel is dropped once both ends have told their disable
pub record ChangesOn (plan : PlanValue) (told : List Progress) (old : OrderValue) (act : TextAct) (new : OrderValue) : Type 0 where
  pub sent : is_sending (length plan.parts) old ≡ false
  pub change : Change
  pub last : old.change ≡ Some change
  pub changing : is_changing old.change ≡ true
  pub ends : LinkEnds
  pub link : link_of plan change.source ≡ Some ends
  pub disabled : change.made ≡ 2 → both_disabled ends told change.source ≡ true
  pub is : act ≡ change_act ends change.made
  pub goes_on : new ≡ record old { change = Some (record { source = change.source; made = change.made + 1 }) }

-- nothing that was begun goes on
pub record IsRested (plan : PlanValue) (told : List Progress) (old : OrderValue) : Type 0 where
  pub sent : is_sending (length plan.parts) old ≡ false
  pub changed : is_changing old.change ≡ false
  pub over : is_over plan told old.change ≡ true

-- the change of this late source may begin with the act: the source has told that its settings changed
pub record MayChange (plan : PlanValue) (told : List Progress) (changed : List Bool) (source : ℕ) (act : TextAct) : Type 0 where
  pub there : source < length plan.parts
  pub late : passes_at is_late (slice_get plan.parts source) ≡ true
  pub unchanged : is_begun changed source ≡ false
  pub cause : has_settings (slice_get told source) ≡ true
  pub ends : LinkEnds
  pub link : link_of plan source ≡ Some ends
  pub is : act ≡ change_act ends 0

-- so it begins, where every component has told Executing, and the second Idle wasn't sent
pub record BeginsChange (plan : PlanValue) (told : List Progress) (old : OrderValue) (act : TextAct) (new : OrderValue) : Type 0 where
  pub rested : IsRested plan told old
  pub sends : old.sends ≡ 2
  pub told_so : all_told Executing told ≡ true
  pub source : ℕ
  pub may : MayChange plan told old.changed source act
  pub goes_on : new ≡ record old { change = Some (record { source = source; made = 1 }); changed = slice_set old.changed source true }

-- Before the second Idle each late source's link was changed, and each sink has told the end of its stream.
pub record CanGoBack (plan : PlanValue) (told : List Progress) (changed : List Bool) : Type 0 where
  pub lates : AreLatesChanged plan changed
  pub sinks : AreSinksOver plan told

-- the next state is sent to the first component
pub record BeginsSend (plan : PlanValue) (told : List Progress) (old : OrderValue) (act : TextAct) (new : OrderValue) : Type 0 where
  pub rested : IsRested plan told old
  pub few : old.sends < 4
  pub last : last_told old.sends told ≡ true
  pub back : old.sends ≡ 2 → CanGoBack plan told old.changed
  pub part : PartLine
  pub there : slice_get plan.parts 0 ≡ Some part
  pub is : act ≡ lines.SendState part.name (state_sent (old.sends + 1))
  pub goes_on : new ≡ record { sends = old.sends + 1; sent = 1; change = None; changed = old.changed }

-- the act may come next, and the order stands so then
abbrev pub Admits : PlanValue → List Progress → OrderValue → TextAct → OrderValue → Type 0
Admits plan told old act new =
    SendsOn plan old act new ⊎ ChangesOn plan told old act new ⊎ BeginsChange plan told old act new ⊎ BeginsSend plan told old act new

-- all is asked
abbrev pub IsComplete : PlanValue → OrderValue → Type 0
IsComplete plan x = (x.sends ≡ 4 × is_sending (length plan.parts) x ≡ false) ⊎ (length plan.parts ≡ 0)
