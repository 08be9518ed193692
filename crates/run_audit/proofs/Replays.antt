-- A log's text is replayed.
use Rattle.std.proofs.Common.{◌≡◌, ◌⊎◌, inl, inr, ℕ, ◌-◌, ◌<◌, Bool, true, false, List, [], length, slice_get, Option, Some, None, IsTrue, refl, sym, ◌∙◌, ap, subst, arith}
use Rattle.std.proofs.lemmas.Option.{slice_get_within}
use Rattle.omx_types.specs.declared.handle.Handle.{Handle}
use Rattle.omx_types.specs.declared.fault.AuditWhy.{AuditWhy}
use Rattle.omx_types.specs.declared.fault.AuditWhy.TheVariants.{NotEnded}
use Rattle.omx_types.specs.declared.fault.PartFault.{PartFault}
use Rattle.outside_io.specs.declared.source.Source.{Ghosts as SourceGhosts}
use Rattle.il_machine.specs.declared.answer.Progress.{Progress}
use Rattle.il_machine.specs.Whole.{Always}
use Rattle.il_machine.specs.World.{Component, component_numbered}
use Rattle.audio_parts.specs.declared.part_file.PartFile.{PartFile}
use Rattle.play_forms.specs.Plans.{PlanValue}
use Rattle.play_plan_laws.specs.Assemblies.{IsReady, PlayFiles}
use Rattle.graph_core.specs.Clients.{IsOut}
use Rattle.il_graph.specs.Shown.{TellWritten, offered}
use Rattle.il_graph.specs.Shown as graphs
use Rattle.play_graph.specs.Ending.{AreFilesOf}
use Rattle.play_graph.specs.Graphs.{kept_of}
use Rattle.play_graph.specs.Making.{AreGone, AreOffered}
use Rattle.compared_files.specs.Comparing.{ComparingValue}
use Rattle.graph_acts.specs.Holding.{IsGone}
use Rattle.graph_acts.specs.Plain.{Sight}
use Rattle.audit_lines.specs.Lines.{pieces_of}
use Rattle.audit_forms.specs.Audited.{AtEnd, Audits, Case, IsEnd, Moment, No, Verdict, Yes}
use Rattle.audit_forms.specs.Whole.{start_at}
use Rattle.run_audit.specs.declared.replay.Replay.{Replay}
use Rattle.run_audit.specs.declared.replaying.Replayed.{Replayed}
use Rattle.run_audit.specs.declared.replaying.Replayed.TheVariants as comes
use Rattle.run_audit.specs.Ending.{AreWhole, HasCome, HasUnlike, IsAtRest}
use Rattle.run_audit.specs.Leading.{IsBroken}
use Rattle.run_audit.specs.Opening.{IsUnused, OpensWith, play_sight}
use Rattle.run_audit.specs.Files.{FileGoesOn, FilesGoOn, ShowsFault, file_at}
use Rattle.run_audit.specs.Leaving.{HasThen}
use Rattle.run_audit.specs.Replayed.{AreGiven, FilesComeBack, IsVerdictBy, OnFailure, OnVerdict, case_from}
use Rattle.run_audit.specs.Replaying.{IsReplay}
use Rattle.run_audit.specs.Seeing.{compared}
use Rattle.run_audit.specs.declared.walking.Walked.{Walked}
use Rattle.run_audit.specs.declared.walking.Walked.TheVariants.{Ended, Failed, Stopped}
use Rattle.run_audit.specs.Walking.{IsLeft, IsWalked, PassAll}
use Rattle.run_audit.proofs.AtRest as resting
use Rattle.run_audit.proofs.Begins.{begins}
use Rattle.run_audit.proofs.Came.{apart_back, comes_back, shows_back, unended, unlike_end, whole_end}

-- a replay that stands at the moment is left there
pub left_here : {S : Type 0} (see : Sight S (ComparingValue S) Progress) (tells : Bool) (r : Replay S Progress) (x : Case) (now : Moment) → IsReplay see tells r x now → IsLeft see tells r x now
left_here see tells r x now I = (now.world, I.standing, inl (refl, I.order))

-- what is known of it as it is made of the plan, with these entries
pub record IsMade {S : Type 0} (reads : SourceGhosts S) (plan : PlanValue) (before : List (Option (PartFile S (ComparingValue S)))) (r : Replay S Progress) : Type 0 where
  pub plan_is : r.plan ≡ plan
  pub unused : IsUnused r
  pub opens : (given : PlayFiles) → IsReady plan given → AreOffered plan given (offered reads.offset reads.size reads.told (compared reads).told) before → OpensWith r given
  pub back : AreFilesOf r.served.graph (length plan.parts) before
  pub out : (h : Handle) → IsGone r.served.graph h → IsOut h (graphs.look_of r.served.graph)

-- there are no entries where it was given them
pub gone_in : {S K : Type 0} (own plan : PlanValue) (entries : List (Option (PartFile S K))) → own ≡ plan → AreGone (length plan.parts) entries → AreGone (length own.parts) entries
gone_in own plan entries e gone = subst (λ (p : PlanValue). AreGone (length p.parts) entries) (sym e) gone

module _ {S : Type 0} (reads : SourceGhosts S) (plan : PlanValue) (before : List (Option (PartFile S (ComparingValue S)))) (r : Replay S Progress) (M : IsMade reads plan before r)
    (tells : Bool) (given : PlayFiles) (sinks : ℕ → Option (List ℕ)) (A : AreGiven tells reads.told (offered reads.offset reads.size reads.told (compared reads).told) plan given sinks before) where
  O : OpensWith r given
  O = M.opens given A.ready A.offered

  abbrev x : Case
  x = case_from r.plan O.opening sinks

  abbrev at : Moment
  at = start_at r.plan O.opening

  B : AreGiven tells reads.told (offered reads.offset reads.size reads.told (compared reads).told) r.plan given sinks before
  B = subst (λ (p : PlanValue). AreGiven tells reads.told (offered reads.offset reads.size reads.told (compared reads).told) p given sinks before) (sym M.plan_is) A

  begun : IsReplay (play_sight reads) tells r x at
  begun = begins (play_sight reads) r M.unused given O O.stands M.out tells sinks (offered reads.offset reads.size reads.told (compared reads).told) before B
      (subst (λ (p : PlanValue). AreFilesOf r.served.graph (length p.parts) before) (sym M.plan_is) M.back)

  came : (now : Moment) (passed : List (List ℕ)) → PassAll x 1 at passed now → HasCome x now
  came now passed p = record { files = given; ready = B.ready; own = B.own; opening = O.opening; opens = O.opens; scene = refl; pieces = passed; passed = p }

  has_verdict : (text : List ℕ) (v : Verdict) → Audits x 1 at (pieces_of text) v → IsVerdictBy plan given sinks text v
  has_verdict text v a = subst (λ (p : PlanValue). IsVerdictBy p given sinks text v) M.plan_is (O.opening, O.opens, a)

  breaks_below : (line : ℕ) (now : Moment) (piece : List ℕ) (component : ℕ) → IsBroken x line now piece component → component < length plan.parts
  breaks_below line now piece component I =
      let y = I.brings in
      let e = ap (λ (p : PlanValue). length p.parts) M.plan_is in
      let b = slice_get_within (r.plan).parts component y.1 (y.4).line in
      omega (arith, b, e)

  -- it stands as it is made
  pub stood : (tells : Bool) × (x : Case) × (at : Moment) × IsReplay (play_sight reads) tells r x at
  stood = (tells, x, at, begun)

  -- its lines led there
  module _ (walked : Replay S Progress) (text : List ℕ) where
    abbrev LedTo : Walked → Type 0
    LedTo result = (tells : Bool) (x : Case) (at : Moment) → IsReplay (play_sight reads) tells r x at → IsWalked (play_sight reads) tells walked x 1 at (pieces_of text) result

    module _ (line : ℕ) (L : LedTo (Ended line)) where
      abbrev W : IsWalked (play_sight reads) tells walked x 1 at (pieces_of text) (Ended line)
      W = L tells x at begun

      abbrev here : HasCome x W.0
      here = came W.0 (W.2).passed (W.2).pass

      pub end_left : (tells : Bool) × (x : Case) × (now : Moment) × HasCome x now × IsLeft (play_sight reads) tells walked x now
      end_left = (tells, x, W.0, here, left_here (play_sight reads) tells walked x W.0 W.3)

      -- where they may end
      module _ (rests : (tells : Bool) (x : Case) (now : Moment) → HasCome x now → IsReplay (play_sight reads) tells walked x now → IsAtRest x now) where
        pub end_rests : (tells : Bool) × (x : Case) × (now : Moment) × HasCome x now × IsReplay (play_sight reads) tells walked x now × IsAtRest x now
        end_rests = (tells, x, W.0, here, W.3, rests tells x W.0 here W.3)

        -- taken apart, each file is at its place
        pub end_apart : (after : List (Option (PartFile S (ComparingValue S)))) → AreFilesOf walked.served.graph (length (walked.plan).parts) after
            → (place : ℕ) → place < length (walked.plan).parts → HasThen (FileGoesOn (play_sight reads) true (file_at (play_sight reads) walked place)) after place
        end_apart after files =
            let many = ((W.3).standing).many_works in
            apart_back (play_sight reads) walked (length (walked.plan).parts) after (λ place b. resting.no_works x W.0 here (play_sight reads) tells walked W.3 (rests tells x W.0 here W.3) place (omega (arith, b, many))) files

    pub stop_left : (line : ℕ) (why : AuditWhy) → LedTo (Stopped line why) → (tells : Bool) × (x : Case) × (now : Moment) × HasCome x now × IsLeft (play_sight reads) tells walked x now
    stop_left line why L = let (now, left, come, stands) = (L tells x at begun).1 in (tells, x, now, came now come.passed come.pass, stands)

    pub stop_verdict : IsTrue tells → (line : ℕ) (why : AuditWhy) → LedTo (Stopped line why) → IsVerdictBy plan given sinks text (No line why)
    stop_verdict T line why L = has_verdict text (No line why) ((L tells x at begun).0 T)

    module _ (line component : ℕ) (fault : PartFault) (L : LedTo (Failed line component fault)) where
      pub break_left : (tells : Bool) × (x : Case) × (now : Moment) × HasCome x now × IsLeft (play_sight reads) tells walked x now
      break_left = let (now, piece, left, come, broken, stands) = L tells x at begun in (tells, x, now, came now come.passed come.pass, stands)

      pub break_below : component < length plan.parts
      break_below = let (now, piece, left, come, broken, stands) = L tells x at begun in breaks_below line now piece component broken

  -- at the end of the lines, where all rests
  module _ (T : IsTrue tells) (walked : Replay S Progress) (text : List ℕ) (line : ℕ) (L : LedTo walked text (Ended line)) (same_plan : walked.plan ≡ r.plan) where
    abbrev now : Moment
    now = (L tells x at begun).0

    abbrev C : HasCome x now
    C = here walked text line L

    Q : walked.plan ≡ plan
    Q = same_plan ∙ M.plan_is

    I : IsReplay (play_sight reads) tells walked x now
    I = (L tells x at begun).3

    verdicts : (v : Verdict) → AtEnd x line now [] v → Audits x 1 at (pieces_of text) v
    verdicts = (L tells x at begun).4

    pub at_rest : (after : List (Option (PartFile S (ComparingValue S)))) → length after ≡ length before → AreFilesOf walked.served.graph (length (walked.plan).parts) after → Always (kept_of walked.served.graph) (TellWritten (compared reads).told walked.served.graph)
        → (result : Replayed) → ((result ≡ comes.Yes (line - 1)) × AreWhole reads.told after) ⊎ ((result ≡ comes.No line NotEnded) × HasUnlike reads.told after)
        → ((tells : Bool) (x : Case) (now : Moment) → HasCome x now → IsReplay (play_sight reads) tells walked x now → IsAtRest x now) → OnVerdict result (IsVerdictBy plan given sinks text)
    at_rest after many files written result ends rests = elim ends [
      | inl y ↦ subst (λ (k : Replayed). OnVerdict k (IsVerdictBy plan given sinks text)) (sym y.0) (has_verdict text (Yes (line - 1)) (verdicts (Yes (line - 1)) (inl (whole y.1, refl))))
      | inr y ↦ subst (λ (k : Replayed). OnVerdict k (IsVerdictBy plan given sinks text)) (sym y.0) (has_verdict text (No line NotEnded) (verdicts (No line NotEnded) (inr (unlike y.1, refl))))
    ]
      where
        R : IsAtRest x now
        R = rests tells x now C I

        J : IsReplay (play_sight reads) true walked x now
        J = subst (λ (t : Bool). IsReplay (play_sight reads) t walked x now) T I

        parts_are : length (walked.plan).parts ≡ length plan.parts
        parts_are = ap (λ (p : PlanValue). length p.parts) Q

        all : length after ≡ length (walked.plan).parts
        all = many ∙ (A.many ∙ sym parts_are)

        below : (place : ℕ) (bytes : List ℕ) → sinks place ≡ Some bytes → place < length (walked.plan).parts
        below place bytes e =
            let W = A.sinks place bytes e in
            let b = slice_get_within plan.parts place (W.1).0 (W.1).1 in
            let m = parts_are in
            omega (arith, b, m)

        none : (place : ℕ) → place < length walked.works.items → slice_get walked.works.items place ≡ Some None
        none = resting.no_works x now C (play_sight reads) tells walked I R

        there : (place : ℕ) → place < length (walked.plan).parts → (c : Component) × (component_numbered place now.world ≡ Some c) × (c.work ≡ None)
        there = resting.there x now C (play_sight reads) tells walked I R

        whole : AreWhole reads.told after → IsEnd x now
        whole = whole_end (play_sight reads) walked x now J R (written now.world ((I.standing).stands)) none there after all files below

        unlike : HasUnlike reads.told after → IsEnd x now → ⊥
        unlike = unlike_end (play_sight reads) walked x now J R (written now.world ((I.standing).stands)) none there after all files below

    pub left_out : ((tells : Bool) (x : Case) (now : Moment) → HasCome x now → IsReplay (play_sight reads) tells walked x now → IsAtRest x now → ⊥) → IsVerdictBy plan given sinks text (No line NotEnded)
    left_out none = has_verdict text (No line NotEnded) (verdicts (No line NotEnded) (unended x line now (none tells x now C I)))

-- ---- its files

module _ {S : Type 0} (reads : SourceGhosts S) (plan : PlanValue) (before : List (Option (PartFile S (ComparingValue S)))) (r : Replay S Progress) (M : IsMade reads plan before r) (walked : Replay S Progress) (same_plan : walked.plan ≡ r.plan)
    (after : List (Option (PartFile S (ComparingValue S)))) (thens : (place : ℕ) → place < length (walked.plan).parts → HasThen (FileGoesOn (play_sight reads) true (file_at (play_sight reads) walked place)) after place) where
  unused_in : (place : ℕ) → place < length plan.parts → slice_get r.works.items place ≡ Some None
  unused_in = subst (λ (p : PlanValue). (place : ℕ) → place < length p.parts → slice_get r.works.items place ≡ Some None) M.plan_is (M.unused).works

  thens_in : (place : ℕ) → place < length plan.parts → HasThen (FileGoesOn (play_sight reads) true (file_at (play_sight reads) walked place)) after place
  thens_in = subst (λ (p : PlanValue). (place : ℕ) → place < length p.parts → HasThen (FileGoesOn (play_sight reads) true (file_at (play_sight reads) walked place)) after place) (same_plan ∙ M.plan_is) thens

  pub back_so : FilesGoOn (play_sight reads) true r walked → FilesComeBack (play_sight reads) plan before after
  back_so = comes_back (play_sight reads) plan r walked before after unused_in M.back thens_in

  pub shown_so : (component : ℕ) (fault : PartFault) → component < length plan.parts → (mid : Replay S Progress) → FilesGoOn (play_sight reads) false r mid → ShowsFault (play_sight reads) fault component mid walked
      → OnFailure (play_sight reads) plan before after (comes.Failed component fault)
  shown_so component fault below mid goes shows = (below, shows_back (play_sight reads) plan r walked before after unused_in M.back thens_in fault component mid below goes shows)
