-- What the client of a play asks for, as one list: the acts in their order, and what must have been told before each.
use Rattle.std.specs.Prelude.{◌≡◌, ℕ, Bool, true, not, ◌==◌, ◌&&◌, ◌||◌, if◌then◌else◌, List, [], ◌∷◌, ◌++◌, count_by, slice_get, Option, Some, None}
use Rattle.omx_types.specs.declared.state.State.TheVariants.{Idle, Executing}
use Rattle.part_forms.specs.Kinds.{is_late}
use Rattle.il_machine.specs.Kinds.{is_sink}
use Rattle.il_machine.specs.declared.answer.Progress.{Progress}
use Rattle.act_text.specs.declared.act.TextAct.{TextAct}
use Rattle.act_text.specs.declared.act.TextAct.TheVariants as lines
use Rattle.script_lang.specs.declared.play_line.PartLine.{PartLine}
use Rattle.conductor.specs.Phases.{all_told, has_settings}
use Rattle.play_forms.specs.Parts.{kind_of, passes_at}
use Rattle.play_forms.specs.Plans.{PlanValue}
use Rattle.audit_order.specs.declared.ends.LinkEnds.{LinkEnds}
use Rattle.audit_order.specs.Asked.{change_act, state_sent}
use Rattle.audit_order.specs.Ends.{link_of}
use Rattle.audit_order.specs.Steps.{Admits, OrderValue, both_disabled, is_enabled_by}

pub record Wanted : Type 0 where
  pub act : TextAct
  -- whether enough was told for it
  pub may : List Progress → Bool

-- an act that is asked for, and what each component has told before it
pub record Asking : Type 0 where
  pub act : TextAct
  pub told : List Progress

abbrev pub want : (List Progress → Bool) → TextAct → Wanted
want may act = record { act = act; may = may }

abbrev pub always : List Progress → Bool
always told = true

-- ---- the list

abbrev pub send_to : ℕ → PartLine → TextAct
send_to n part = lines.SendState part.name (state_sent n)

-- the state of that number is sent to each component, in the order of the script: to the first one where enough was told
abbrev pub sends_of : ℕ → (List Progress → Bool) → List PartLine → List Wanted
sends_of n may [] = []
sends_of n may (part ∷ parts) = want may (send_to n part) ∷ sends_of n always parts

-- the eight acts of the change of a link; its tunnel is dropped where both ends have told their disable
abbrev pub change_of : (List Progress → Bool) → ℕ → LinkEnds → List Wanted
change_of may source x =
    want may (change_act x 0)
    ∷ want always (change_act x 1)
    ∷ want (λ told. both_disabled x told source) (change_act x 2)
    ∷ want always (change_act x 3)
    ∷ want always (change_act x 4)
    ∷ want always (change_act x 5)
    ∷ want always (change_act x 6)
    ∷ want always (change_act x 7)
    ∷ []

abbrev pub change_by : (List Progress → Bool) → ℕ → Option LinkEnds → List Wanted
change_by may source None = []
change_by may source (Some x) = change_of may source x

-- both ends of the link that was changed before, if one was, have told their enable
abbrev pub is_changed : PlanValue → Option ℕ → List Progress → Bool
is_changed plan None told = true
is_changed plan (Some source) told = is_enabled_by told source (link_of plan source)

-- each sink has told the end of its stream
abbrev pub sinks_over : List PartLine → List Progress → Bool
sinks_over [] told = true
sinks_over (part ∷ parts) [] = not (is_sink (kind_of part.form)) && sinks_over parts []
sinks_over (part ∷ parts) (progress ∷ told) = (not (is_sink (kind_of part.form)) || progress.eos) && sinks_over parts told

-- a change begins where the one before is over, all have told Executing, and its source that its settings changed
abbrev pub may_change : PlanValue → Option ℕ → ℕ → List Progress → Bool
may_change plan before source told = is_changed plan before told && (all_told Executing told && has_settings (slice_get told source))

-- all go back where the last change is over, all have told Executing, and each sink the end of its stream
abbrev pub may_go_back : PlanValue → Option ℕ → List Progress → Bool
may_go_back plan before told = is_changed plan before told && (all_told Executing told && sinks_over plan.parts told)

-- the changes of these late sources' links, one after the other, and then the way back
abbrev pub from_changes : PlanValue → Option ℕ → List ℕ → List Wanted
from_changes plan before [] = sends_of 3 (may_go_back plan before) plan.parts ++ sends_of 4 (all_told Idle) plan.parts
from_changes plan before (source ∷ sources) =
    change_by (may_change plan before source) source (link_of plan source) ++ from_changes plan (Some source) sources

-- Two states, the changes, and two states.
abbrev pub wanted : PlanValue → List ℕ → List Wanted
wanted plan sources = sends_of 1 always plan.parts ++ (sends_of 2 (all_told Idle) plan.parts ++ from_changes plan None sources)

-- each late source once, in any order
abbrev pub AreLateSources : PlanValue → List ℕ → Type 0
AreLateSources plan sources = (place : ℕ) → count_by (λ (k : ℕ). k == place) sources ≡ (if passes_at is_late (slice_get plan.parts place) then 1 else 0)

-- each late source gives into a link
abbrev pub HaveLinks : PlanValue → Type 0
HaveLinks plan = (place : ℕ) → passes_at is_late (slice_get plan.parts place) ≡ true → (ends : LinkEnds) × (link_of plan place ≡ Some ends)

-- ---- acts that are asked for

-- They are the next of the list, each where enough was told, and so much of the list is left.
abbrev pub AreInTime : List Wanted → List Asking → List Wanted → Type 0
AreInTime list [] rest = rest ≡ list
AreInTime [] (asking ∷ askings) rest = ⊥
AreInTime (next ∷ list) (asking ∷ askings) rest = (asking.act ≡ next.act) × (next.may asking.told ≡ true) × AreInTime list askings rest

-- one after the other each may come next, and then the order stands so
abbrev pub AdmitsAll : PlanValue → OrderValue → List Asking → OrderValue → Type 0
AdmitsAll plan x [] y = y ≡ x
AdmitsAll plan x (asking ∷ askings) y = (mid : OrderValue) × Admits plan asking.told x asking.act mid × AdmitsAll plan mid askings y
