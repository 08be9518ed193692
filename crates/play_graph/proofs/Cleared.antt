-- The links of a graph are cleared of headers, one after the other, and the graph ends.
use Rattle.std.proofs.Common.{◌≡◌, ℕ, ◌+◌, ◌<◌, true, false, List, length, Option, Result, Ok, Err, sym, ◌∙◌, ap, subst, arith}
use Rattle.omx_types.specs.declared.error.OmxError.{OmxError}
use Rattle.omx_types.specs.declared.handle.Handle.{Handle}
use Rattle.il_machine.specs.declared.answer.Acted.{Acted}
use Rattle.il_machine.specs.declared.answer.Acted.TheVariants as acted
use Rattle.il_machine.specs.declared.answer.Progress.{Progress}
use Rattle.il_machine.specs.declared.port.PortKey.{PortKey}
use Rattle.il_machine.specs.Flow.{HandBack, Release}
use Rattle.il_machine.specs.Look.{Look, look}
use Rattle.il_machine.specs.Whole.{Stands, Steps, StepsWhere}
use Rattle.il_machine.specs.World.{World}
use Rattle.audio_parts.specs.declared.part_file.PartFile.{PartFile}
use Rattle.il_graph.specs.Shown.{Shown, look_of}
use Rattle.play_build_laws.specs.Dismantling.{AreLinks}
use Rattle.play_build_laws.specs.Halting.{AreStoppedTo, IsAnswered, KeepsFiles, headers_at}
use Rattle.play_build_laws.proofs.Bringing.{brings, releases}
use Rattle.play_build_laws.proofs.Clearing.{all_cleared, all_stopped, next_cleared}
use Rattle.play_forms.specs.declared.joint.Joint.{Joint}
use Rattle.play_forms.specs.Plans.{PlanValue}
use Rattle.play_plan_laws.specs.Casting.{joint_of}
use Rattle.play_plan_laws.specs.Endings.{HasEnded, ends_of}
use Rattle.play_graph.specs.Ending.{AreBack, IsBackAt, StandsFor}
use Rattle.play_graph.specs.Graphs.{IsHandleAt, kept_of}
use Rattle.play_graph.specs.Making.{IsMade}
use Rattle.play_graph.proofs.Naming.{named_at}
use Rattle.play_graph.specs.Stops.{HasBrought, HasCleared, HasStopped, IsActed, has_acted}

-- ---- what an act answers

pub is_acted : (key : PortKey) (w v : World) (r : Result Acted OmxError) → IsAnswered key w v r → IsActed r
is_acted key w v (Ok answer) A = tt
is_acted key w v (Err error) A = A

fewer_by : (key : PortKey) (w v : World) (r : Result Acted OmxError) → IsAnswered key w v r → has_acted r ≡ true → headers_at key (look v) < headers_at key (look w)
fewer_by key w v (Ok acted.Did) A t = A
fewer_by key w v (Ok (acted.Idle why)) A t = absurd cc
fewer_by key w v (Err error) A t = absurd cc

none_by : (key : PortKey) (w v : World) (r : Result Acted OmxError) → IsAnswered key w v r → has_acted r ≡ false → headers_at key (look v) ≡ 0
none_by key w v (Ok acted.Did) A f = absurd cc
none_by key w v (Ok (acted.Idle why)) A f = A
none_by key w v (Err error) A f = absurd A

stopped_all : (plan : PlanValue) (w : World) → HasStopped plan (length plan.parts) w → HasCleared plan 0 w
stopped_all plan w A = record { many = A.many; cleared = all_stopped (ends_of plan) (length plan.joints) w A.linked (subst (λ (n : ℕ). AreStoppedTo n w) (sym A.many) A.stopped) }

ended_all : (plan : PlanValue) (w : World) → HasCleared plan (length plan.joints) w → HasEnded plan w
ended_all plan w C = record { many = C.many; joined = all_cleared (ends_of plan) (length plan.joints) w C.cleared }

module _ {S K : Type 0} where
  headers_shown : (key : PortKey) (g : Shown S K Progress) (w : World) → Stands (kept_of g) w → headers_at key (look w) ≡ headers_at key (look_of g)
  headers_shown key g w s = ap (λ (l : Look). headers_at key l) s.looks

  -- one act with the headers of a port, that keeps A
  abbrev pub Tries : (World → Type 0) → PortKey → Shown S K Progress → Shown S K Progress → Result Acted OmxError → Type 0
  Tries A key g m r = StepsWhere (kept_of g) (kept_of m) A (λ w v. A v × KeepsFiles w v × IsAnswered key w v r)

  module _ (A : World → Type 0) (key : PortKey) (g m : Shown S K Progress) (r : Result Acted OmxError) (tries : Tries A key g m r) where
    pub tried_acts : StandsFor A g → IsActed r
    tried_acts (w, s, a) = let v = tries w s a in is_acted key w v.0 r v.2.2

    pub tried_steps : StepsWhere (kept_of g) (kept_of m) A (λ w v. A v × KeepsFiles w v)
    tried_steps = λ w s a. let v = tries w s a in (v.0, v.1, (v.2.0, v.2.1))

    pub tried_fewer : StandsFor A g → has_acted r ≡ true → headers_at key (look_of m) < headers_at key (look_of g)
    tried_fewer (w, s, a) t =
        let v = tries w s a in
        let f = fewer_by key w v.0 r v.2.2 t in
        let x = headers_shown key g w s in
        let y = headers_shown key m v.0 v.1 in
        omega (arith, f, x, y)

    pub tried_none : StandsFor A g → has_acted r ≡ false → headers_at key (look_of m) ≡ 0
    tried_none (w, s, a) f = let v = tries w s a in sym (headers_shown key m v.0 v.1) ∙ none_by key w v.0 r v.2.2 f

  module _ (plan : PlanValue) (l : ℕ) (b : l < length plan.joints) (j : Joint) (J : j ≡ joint_of plan l) where
    pub giver_made : (g : Shown S K Progress) → StandsFor (HasCleared plan l) g → IsMade j.giver g
    giver_made g (w, s, C) = (w, s, subst (λ (z : Joint). z.giver < length w.components) (sym J) (C.cleared.linked.has.inside false l b))

    pub taker_made : (g : Shown S K Progress) → StandsFor (HasBrought plan l) g → IsMade j.taker g
    taker_made g (w, s, B) = (w, s, subst (λ (z : Joint). z.taker < length w.components) (sym J) (B.brought.cleared.linked.has.inside true l b))

    pub back_tries : (g m : Shown S K Progress) (h : Handle) (r : Result Acted OmxError) → AreLinks (ends_of plan) (length plan.joints) → IsHandleAt g j.giver h → Steps (kept_of g) (kept_of m) (λ w v. HandBack w h j.output r v)
        → Tries (HasCleared plan l) (ends_of plan false l) g m r
    back_tries g m h r L H steps = λ w s C.
        let v = steps w s in
        let N = named_at w (joint_of plan l).giver h C.cleared.linked.sound (subst (λ (z : Joint). IsHandleAt g z.giver h) J H w s) in
        let T = subst (λ (z : Joint). HandBack w h z.output r v.0) J v.2 in
        let x = brings (ends_of plan) (length plan.joints) l w L C.cleared b v.0 h r N T in
        (v.0, v.1, (record { many = x.files.many ∙ C.many; cleared = x.cleared_ }, x.files, x.answered))

    pub release_tries : (g m : Shown S K Progress) (h : Handle) (r : Result Acted OmxError) → IsHandleAt g j.taker h → Steps (kept_of g) (kept_of m) (λ w v. Release w h j.input r v)
        → Tries (HasBrought plan l) (ends_of plan true l) g m r
    release_tries g m h r H steps = λ w s B.
        let v = steps w s in
        let N = named_at w (joint_of plan l).taker h B.brought.cleared.linked.sound (subst (λ (z : Joint). IsHandleAt g z.taker h) J H w s) in
        let T = subst (λ (z : Joint). Release w h z.input r v.0) J v.2 in
        let x = releases (ends_of plan) (length plan.joints) l w B.brought b v.0 h r N T in
        (v.0, v.1, (record { many = x.files.many ∙ B.many; brought = x.brought }, x.files, x.answered))

  -- ---- from link to link

  pub all_brought : (plan : PlanValue) (l : ℕ) (g m : Shown S K Progress) → StepsWhere (kept_of g) (kept_of m) (HasCleared plan l) (λ w v. HasCleared plan l v × KeepsFiles w v) → headers_at (ends_of plan false l) (look_of m) ≡ 0
      → StepsWhere (kept_of g) (kept_of m) (HasCleared plan l) (λ w v. HasBrought plan l v × KeepsFiles w v)
  all_brought plan l g m steps none = λ w s C.
      let v = steps w s C in
      (v.0, v.1, (record { many = (v.2.0).many; brought = record { cleared = (v.2.0).cleared; none = headers_shown (ends_of plan false l) m v.0 v.1 ∙ none } }, v.2.1))

  pub all_unmade : (plan : PlanValue) (l : ℕ) (g m : Shown S K Progress) → StepsWhere (kept_of g) (kept_of m) (HasBrought plan l) (λ w v. HasBrought plan l v × KeepsFiles w v) → headers_at (ends_of plan true l) (look_of m) ≡ 0
      → StepsWhere (kept_of g) (kept_of m) (HasBrought plan l) (λ w v. HasCleared plan (l + 1) v × KeepsFiles w v)
  all_unmade plan l g m steps none = λ w s B.
      let v = steps w s B in
      (v.0, v.1, (record { many = (v.2.0).many; cleared = next_cleared (ends_of plan) (length plan.joints) l v.0 (v.2.0).brought (headers_shown (ends_of plan true l) m v.0 v.1 ∙ none) }, v.2.1))

  -- ---- the whole graph

  -- a file that is back at its place was there before
  back_before : (w v : World) → KeepsFiles w v → (place : ℕ) (file : Option (PartFile S K)) → IsBackAt v place file → IsBackAt w place file
  back_before w v K place file B = let a = K.each place B.component B.there in record { component = a.0; there = a.1; its = B.its ∙ a.2 }

  module _ (plan : PlanValue) (g k m : Shown S K Progress) (one : StepsWhere (kept_of g) (kept_of k) (HasStopped plan 0) (λ w v. HasStopped plan (length plan.parts) v × KeepsFiles w v)) where
    pub cleared_stand : StandsFor (HasStopped plan 0) g → StandsFor (HasCleared plan 0) k
    cleared_stand (w, s, A) = let v = one w s A in (v.0, v.1, stopped_all plan v.0 v.2.0)

    module _ (two : StepsWhere (kept_of k) (kept_of m) (HasCleared plan 0) (λ w v. HasCleared plan (length plan.joints) v × KeepsFiles w v)) where
      pub ended_stand : StandsFor (HasStopped plan 0) g → StandsFor (HasEnded plan) m
      ended_stand (w, s, A) =
          let v = one w s A in
          let u = two v.0 v.1 (stopped_all plan v.0 v.2.0) in
          (u.0, u.1, ended_all plan u.0 u.2.0)

      pub files_back : (entries : List (Option (PartFile S K))) → ((w : World) → Stands (kept_of m) w → HasEnded plan w → AreBack w entries) → (w : World) → Stands (kept_of g) w → HasStopped plan 0 w → AreBack w entries
      files_back entries back w s A =
          let v = one w s A in
          let u = two v.0 v.1 (stopped_all plan v.0 v.2.0) in
          let B = back u.0 u.1 (ended_all plan u.0 u.2.0) in
          let first = v.2.1 in
          let second = u.2.1 in
          λ place below.
          let x = B place (subst (λ (n : ℕ). place < n) (sym (second.many ∙ first.many)) below) in
          (x.0, x.1, back_before w v.0 first place x.0 (back_before v.0 u.0 second place x.0 x.2))
