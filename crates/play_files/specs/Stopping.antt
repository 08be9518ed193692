-- Where the opening of a planned play's files stopped, with those that are open then.
use Rattle.std.specs.Prelude.{◌≡◌, ◌≢◌, ◌⊎◌, ℕ, ◌+◌, List, ◌++◌, length, take, Option}
use Rattle.omx_types.specs.declared.fault.Fault.{Fault}
use Rattle.omx_types.specs.declared.fault.Fault.TheVariants as Faults
use Rattle.outside_io.specs.Files.{Outside}
use Rattle.wav_form.specs.declared.heads.WavHead.{WavHead}
use Rattle.play_forms.specs.declared.plan_fault.PlanFault.{PlanFault}
use Rattle.play_forms.specs.Plans.{IsFit, IsFitFault, IsFitted, IsValid, PlanValue}
use Rattle.play_files.specs.Asked.{HasAskedFor, read_names, written_names}
use Rattle.play_forms.specs.Faults.{fault_of_plan}
use Rattle.play_files.specs.Opening.{AreOpen, AreRead, IsSinkMet, IsSourceMet, IsStill}
use Rattle.play_files.specs.Seen.{FileSeen}

module _ {F : Type 0} where
  -- before the sinks: the sources are open, and the plan fits their heads
  pub record HasFit (seen : F → FileSeen) (old new : Outside) (planned plan : PlanValue) (heads : List WavHead) (entries : List (Option F)) : Type 0 where
    pub fitted : IsFitted planned heads plan
    pub valid : IsValid plan
    pub fit : IsFit plan
    pub still : IsStill old new
    pub read : AreRead seen old plan.parts (length plan.parts) heads entries
    pub asked : HasAskedFor old new (read_names plan.parts)

  -- at no file: all are open
  pub record HasOpenedAll (seen : F → FileSeen) (old new : Outside) (planned plan : PlanValue) (heads : List WavHead) (entries : List (Option F)) : Type 0 where
    pub fitted : IsFitted planned heads plan
    pub valid : IsValid plan
    pub fit : IsFit plan
    pub still : IsStill old new
    pub opened : AreOpen seen old plan.parts plan.frames (length plan.parts) heads entries
    pub asked : HasAskedFor old new (read_names plan.parts ++ written_names plan.parts)

  -- at the source of the place
  pub record AtSource (seen : F → FileSeen) (old new : Outside) (planned : PlanValue) (heads : List WavHead) (entries : List (Option F)) (fault : Fault) : Type 0 where
    pub place : ℕ
    pub met : IsSourceMet old new planned.parts place fault
    pub read : AreRead seen old planned.parts place heads entries

  -- between sources and sinks: the plan doesn't fit
  pub record AtFit (seen : F → FileSeen) (old new : Outside) (planned plan : PlanValue) (heads : List WavHead) (entries : List (Option F)) (fault : Fault) : Type 0 where
    pub fitted : IsFitted planned heads plan
    pub why : PlanFault
    pub is : IsFitFault plan why
    pub told : fault ≡ fault_of_plan why
    pub still : IsStill old new
    pub read : AreRead seen old planned.parts (length planned.parts) heads entries
    pub asked : HasAskedFor old new (read_names planned.parts)

  -- before the sinks
  abbrev pub HasNotFit : (F → FileSeen) → Outside → Outside → PlanValue → PlanValue → List WavHead → List (Option F) → Fault → Type 0
  HasNotFit seen old new planned plan heads entries fault = AtSource seen old new planned heads entries fault ⊎ AtFit seen old new planned plan heads entries fault

  -- at the sink of the place
  pub record AtSink (seen : F → FileSeen) (old new : Outside) (planned plan : PlanValue) (heads : List WavHead) (entries : List (Option F)) (fault : Fault) : Type 0 where
    pub fitted : IsFitted planned heads plan
    pub fit : IsFit plan
    pub place : ℕ
    pub met : IsSinkMet old new plan.parts place fault
    pub opened : AreOpen seen old plan.parts plan.frames place heads entries
    pub asked : fault ≢ Faults.OutOfMemory → HasAskedFor old new (read_names plan.parts ++ written_names (take (place + 1) plan.parts))

  abbrev pub HasStopped : (F → FileSeen) → Outside → Outside → PlanValue → PlanValue → List WavHead → List (Option F) → Fault → Type 0
  HasStopped seen old new planned plan heads entries fault =
      HasNotFit seen old new planned plan heads entries fault ⊎ AtSink seen old new planned plan heads entries fault
